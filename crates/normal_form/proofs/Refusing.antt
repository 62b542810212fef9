-- The refusal due for a pile is the smallest that applies, and a pile that is not refused has a sound problem and a
-- class list of classes from 1 to 8. Assumes nothing.
use Rattle.std.proofs.Common.{◌≡◌, ℕ, Bool, true, false, cond, not, eqb, ltb, List, [], ◌∷◌, ◌++◌, length, is_some, Some, None, Ok, Option, unwrap_or, sym, refl, ap, ◌∙◌, inl, inr, arith}
use Rattle.std.proofs.lemmas.Bool.{ltb-true, lt-ltb, ne_eqb, eqb-false, not-true, not_from_false, cases_Bool}
use Rattle.std.proofs.lemmas.Bool.Decides.{nat_tests}
use Rattle.division.specs.Amounts.{total}
use Rattle.division.specs.Problem.{most_claims, most_total}
use Rattle.division.specs.Refusals.{Stands, SmallestOf, due, first_due}
use Rattle.division.specs.declared.refusal.RuleRefusal.TheVariants.{TooManyClaims, AwardListLength, TotalAboveLimit, EstateAboveTotal}
use Rattle.division.proofs.Smallest.{Honest, smallest_of}
use Rattle.operators.specs.Operators.{Classed}
use Rattle.operators.specs.Classes.{all_classed}
use Rattle.operators.specs.ClassListLaws.{classed_if_tested, tested_if_classed}
use Rattle.operators.specs.declared.classes.ClassRefusal.TheVariants.{ClassOutsideRange}
use Rattle.normal_form.specs.declared.letter.Operator.{Operator}
use Rattle.normal_form.specs.declared.letter.LetterRefusal.TheVariants.{UnknownLetter}
use Rattle.normal_form.specs.Forms.{Parts, normal_form}
use Rattle.normal_form.specs.FormParts.{known_form}
use Rattle.normal_form.specs.declared.pile.PileRefusal.{PileRefusal}
use Rattle.normal_form.specs.declared.pile.PileRefusal.TheVariants.{Rule, ClassListLength, Class, Letter}
use Rattle.normal_form.specs.Piles.{pile_number, PileApplies, pile_tests, pile_due}

-- the tests of the problem and of the class list, without that of the letters
abbrev problem_tests : List ℕ → List ℕ → ℕ → ℕ → List (Bool × PileRefusal)
problem_tests classes claims estate room =
    (ltb most_claims (length claims), Rule TooManyClaims)
    ∷ (not (eqb room (length claims)), Rule AwardListLength)
    ∷ (not (eqb (length classes) (length claims)), ClassListLength)
    ∷ (ltb most_total (total claims), Rule TotalAboveLimit)
    ∷ (ltb (total claims) estate, Rule EstateAboveTotal)
    ∷ (not (all_classed classes), Class ClassOutsideRange)
    ∷ []

module _ (known : Bool) (classes claims : List ℕ) (estate room : ℕ) where
  not_classed : not (all_classed classes) ≡ true → Classed classes → ⊥
  not_classed tested classed =
      let yes = tested_if_classed classes classed in
      let no = not-true (all_classed classes) tested in
      let z : ◌≡◌ {A = ℕ} 0 1 = cc (sym yes ∙ no) in
      omega arith

  not_tested : (Classed classes → ⊥) → not (all_classed classes) ≡ true
  not_tested refused = elim (cases_Bool (all_classed classes)) [
    | inl tested ↦ absurd (refused (classed_if_tested classes tested))
    | inr failed ↦ not_from_false (all_classed classes) failed
  ]

  honest : Honest (PileApplies known classes claims estate room) (pile_tests known classes claims estate room)
  honest = (
    ltb-true most_claims (length claims),
    (
      (λ e. eqb-false room (length claims) (not-true (eqb room (length claims)) e)),
      (
        (λ e. eqb-false (length classes) (length claims) (not-true (eqb (length classes) (length claims)) e)),
        (
          ltb-true most_total (total claims),
          (
            ltb-true (total claims) estate,
            (
              not_classed,
              (
                (λ e is. let z : ◌≡◌ {A = ℕ} 0 1 = cc (sym is ∙ not-true known e) in omega arith),
                tt,
              ),
            ),
          ),
        ),
      ),
    ),
  )

  complete : (e : PileRefusal) → PileApplies known classes claims estate room e → Stands (pile_tests known classes claims estate room) e
  complete (Rule TooManyClaims) h = inl (lt-ltb most_claims (length claims) h, refl)
  complete (Rule AwardListLength) h = inr (inl (not_from_false _ (ne_eqb room (length claims) h), refl))
  complete ClassListLength h = inr (inr (inl (not_from_false _ (ne_eqb (length classes) (length claims) h), refl)))
  complete (Rule TotalAboveLimit) h = inr (inr (inr (inl (lt-ltb most_total (total claims) h, refl))))
  complete (Rule EstateAboveTotal) h = inr (inr (inr (inr (inl (lt-ltb (total claims) estate h, refl)))))
  complete (Class ClassOutsideRange) h = inr (inr (inr (inr (inr (inl (not_tested h, refl))))))
  complete (Letter UnknownLetter) h = inr (inr (inr (inr (inr (inr (inl (grind arith, refl)))))))

  pub pile_smallest : SmallestOf pile_number (PileApplies known classes claims estate room) (pile_due known classes claims estate room)
  pile_smallest = smallest_of pile_number (PileApplies known classes claims estate room) (pile_tests known classes claims estate room) honest complete (grind arith)

-- the first answer, or the second where there is none
abbrev pub or_else : {R : Type 0} → Option R → Option R → Option R
or_else None other = other
or_else (Some e) other = Some e

or_none : {R : Type 0} (o : Option R) → or_else o None ≡ o
or_none None = refl
or_none (Some e) = refl

-- one test more at the end
first_due_push : {R : Type 0} (ts : List (Bool × R)) (t : Bool × R) → first_due (ts ++ t ∷ []) ≡ or_else (first_due ts) (cond t.0 (Some t.1) None)
first_due_push [] t = refl
first_due_push (u ∷ ts) t = elim (cases_Bool u.0) [
  | inl holds ↦ rw holds refl
  | inr fails ↦ rw fails (first_due_push ts t)
]

module _ (classes claims : List ℕ) (estate room : ℕ) where
  -- the letters are tested last
  pub letters_last : (known : Bool) → pile_due known classes claims estate room ≡ or_else (pile_due true classes claims estate room) (cond known None (Some (Letter UnknownLetter)))
  letters_last true = sym (or_none (pile_due true classes claims estate room))
  letters_last false =
      let front = problem_tests classes claims estate room in
      first_due_push front (true, Letter UnknownLetter)
      ∙ ap (λ o. or_else o (Some (Letter UnknownLetter))) (sym (or_none (first_due front)) ∙ sym (first_due_push front (false, Letter UnknownLetter)))

  pub passes_rule : pile_due true classes claims estate room ≡ None → due claims estate room ≡ None
  passes_rule none = grind (arith, nat_tests)

  pub passes_classed : pile_due true classes claims estate room ≡ None → Classed classes
  passes_classed none = classed_if_tested classes (grind (arith, nat_tests))

  -- what passes with known letters passes
  pub letters_pass : (known : Bool) → known ≡ true → pile_due true classes claims estate room ≡ None → pile_due known classes claims estate room ≡ None
  letters_pass known all none =
      letters_last known ∙ ap (λ o. or_else o (cond known None (Some (Letter UnknownLetter)))) none ∙ ap (λ k. cond k None (Some (Letter UnknownLetter))) all

-- what reading letters as a form says of them
pub known_if_ok : (read : Option (List Operator)) (p : Parts) → Ok p ≡ known_form read → (is_some read ≡ true) × (p ≡ normal_form (unwrap_or read []))
known_if_ok None p is = let z : ◌≡◌ {A = ℕ} 0 1 = cc in absurd (omega arith)
known_if_ok (Some ops) p is = (refl, cc)
