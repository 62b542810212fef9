-- Where the tests stand in the order of their numbers, the first that holds gives the smallest refusal that applies.
-- Assumes nothing.
use Rattle.std.proofs.Common.{◌≡◌, ℕ, ◌≤◌, Bool, true, false, cond, List, [], ◌∷◌, Some, None, Option, sym, refl, ◌∙◌, subst, inl, inr, arith}
use Rattle.std.proofs.lemmas.Bool.{cases_Bool, both_ways}
use Rattle.division.specs.Refusals.{first_due, Stands, SmallestOf}

module _ {R : Type 0} where
  -- a test that holds says that its refusal applies
  abbrev pub Honest : (R → Type 0) → List (Bool × R) → Type 0
  Honest Applies [] = Unit {0}
  Honest Applies (t ∷ ts) = (t.0 ≡ true → Applies t.1) × Honest Applies ts

  -- no refusal of the list has a number below n
  abbrev pub NoneBelow : (R → ℕ) → ℕ → List (Bool × R) → Type 0
  NoneBelow number n [] = Unit {0}
  NoneBelow number n (t ∷ ts) = (n ≤ number t.1) × NoneBelow number n ts

  -- the numbers never fall along the list
  abbrev pub Ascending : (R → ℕ) → List (Bool × R) → Type 0
  Ascending number [] = Unit {0}
  Ascending number (t ∷ ts) = NoneBelow number (number t.1) ts × Ascending number ts

  -- the answer of the first test that holds
  pub first_holds : (b : Bool) (e f : R) (rest : Option R) → b ≡ true → cond b (Some e) rest ≡ Some f → e ≡ f
  first_holds b e f rest holds is = let first = rw holds at is in cc

  -- a test that fails leaves the answer to those after it
  pub first_fails : (b : Bool) (e : R) (rest : Option R) → b ≡ false → cond b (Some e) rest ≡ rest
  first_fails b e rest fails = rw fails refl

  never_none : (b : Bool) (e : R) (rest : Option R) → b ≡ true → cond b (Some e) rest ≡ None → ⊥
  never_none b e rest holds is = let first = rw holds at is in let z : ◌≡◌ {A = ℕ} 0 1 = cc in omega arith

  stands_low : (number : R → ℕ) (n : ℕ) (ts : List (Bool × R)) (other : R) → NoneBelow number n ts → Stands ts other → n ≤ number other
  stands_low number n [] other low s = absurd s
  stands_low number n (t ∷ ts) other low (inl here) = subst (λ r. n ≤ number r) here.1 low.0
  stands_low number n (t ∷ ts) other low (inr later) = stands_low number n ts other low.1 later

  applies : (Applies : R → Type 0) (ts : List (Bool × R)) → Honest Applies ts → (e : R) → first_due ts ≡ Some e → Applies e
  applies Applies [] honest e is = let z : ◌≡◌ {A = ℕ} 0 1 = cc in absurd (omega arith)
  applies Applies (t ∷ ts) honest e is = elim (cases_Bool t.0) [
    | inl holds ↦ subst Applies (first_holds t.0 t.1 e (first_due ts) holds is) (honest.0 holds)
    | inr fails ↦ applies Applies ts honest.1 e (sym (first_fails t.0 t.1 (first_due ts) fails) ∙ is)
  ]

  from_first : (number : R → ℕ) (t : Bool × R) (ts : List (Bool × R)) → Ascending number (t ∷ ts) → (other : R) → Stands (t ∷ ts) other → number t.1 ≤ number other
  from_first number t ts up other (inl here) = subst (λ r. number t.1 ≤ number r) here.1 (omega arith)
  from_first number t ts up other (inr later) = stands_low number (number t.1) ts other up.0 later

  later_stands : (t : Bool × R) (ts : List (Bool × R)) (other : R) → t.0 ≡ false → Stands (t ∷ ts) other → Stands ts other
  later_stands t ts other fails (inl here) = absurd (both_ways t.0 fails here.0)
  later_stands t ts other fails (inr later) = later

  smallest : (number : R → ℕ) (ts : List (Bool × R)) → Ascending number ts → (e other : R) → first_due ts ≡ Some e → Stands ts other → number e ≤ number other
  smallest number [] up e other is s = absurd s
  smallest number (t ∷ ts) up e other is s = elim (cases_Bool t.0) [
    | inl holds ↦ (let same = first_holds t.0 t.1 e (first_due ts) holds is in subst (λ r. number r ≤ number other) same (from_first number t ts up other s))
    | inr fails ↦ smallest number ts up.1 e other (sym (first_fails t.0 t.1 (first_due ts) fails) ∙ is) (later_stands t ts other fails s)
  ]

  none_left : (ts : List (Bool × R)) → first_due ts ≡ None → (other : R) → Stands ts other → ⊥
  none_left [] is other s = s
  none_left (t ∷ ts) is other s = elim (cases_Bool t.0) [
    | inl holds ↦ never_none t.0 t.1 (first_due ts) holds is
    | inr fails ↦ none_left ts (sym (first_fails t.0 t.1 (first_due ts) fails) ∙ is) other (later_stands t ts other fails s)
  ]

  pub smallest_of : (number : R → ℕ) (Applies : R → Type 0) (ts : List (Bool × R)) → Honest Applies ts → ((e : R) → Applies e → Stands ts e) → Ascending number ts → SmallestOf number Applies (first_due ts)
  smallest_of number Applies ts honest complete up = record {
    applies = applies Applies ts honest;
    smallest = λ e other is holds. smallest number ts up e other is (complete other holds);
    none_left = λ is other holds. none_left ts is other (complete other holds);
  }

  honest_later : (Applies More : R → Type 0) → ((e : R) → Applies e → More e) → (ts : List (Bool × R)) → Honest Applies ts → Honest More ts
  honest_later Applies More more [] honest = tt
  honest_later Applies More more (t ∷ ts) honest = ((λ holds. more t.1 (honest.0 holds)), honest_later Applies More more ts honest.1)

  stands_honest : (ts : List (Bool × R)) → Honest (Stands ts) ts
  stands_honest [] = tt
  stands_honest (t ∷ ts) = ((λ holds. inl (holds, refl)), honest_later (Stands ts) (Stands (t ∷ ts)) (λ e. inr) ts (stands_honest ts))

  -- of tests in the order of their numbers, the first that holds has the smallest number among those that hold
  pub smallest_standing : (number : R → ℕ) (ts : List (Bool × R)) → Ascending number ts → SmallestOf number (Stands ts) (first_due ts)
  smallest_standing number ts up = smallest_of number (Stands ts) ts (stands_honest ts) (λ e stands. stands) up
