-- What holds of a class list and of what a layer keeps of it. Assumes nothing.
use Rattle.std.specs.Prelude.{◌≡◌, ℕ, zero, suc, ◌-◌, ◌<◌, true, List, [], ◌∷◌, length, take, replicate, None, nat_le, refl}
use Rattle.std.proofs.Common.{sym, ◌∙◌, inl, inr, arith, length-take, length-append, get_or-take}
use Rattle.std.proofs.lemmas.List.{get_or_past, get_or_append_left, get_or-append_right, get_or-replicate, length-replicate}
use Rattle.std.proofs.lemmas.Bool.{and_parts, and_from, leb-true, le-leb, cases_lt, cases_Bool}
use Rattle.division.specs.Problem.{most_claims}
use Rattle.operators.specs.Operators.{last_class, Classed}
use Rattle.operators.specs.Classes.{is_class_number, all_classed, class_due, order_of, kept, ServeAlike}
use Rattle.operators.specs.ClassLaws.{class_at, EachOnce, served_alike, senior_once, junior_once}
use Rattle.operators.specs.declared.classes.ClassOrder.{ClassOrder}
use Rattle.operators.specs.declared.classes.ClassOrder.TheVariants.{SeniorFirst, JuniorFirst}

-- the test of a class list says that each place has a class from 1 to 8
pub classed_if_tested : (classes : List ℕ) → all_classed classes ≡ true → Classed classes
classed_if_tested [] e i = (omega arith, omega arith)
classed_if_tested (k ∷ ks) e zero =
    let both = and_parts (is_class_number k) (all_classed ks) e in
    let ends = and_parts (nat_le 1 k) (nat_le k last_class) both.0 in
    (leb-true 1 k ends.0, leb-true k last_class ends.1)
classed_if_tested (k ∷ ks) e (suc i) = classed_if_tested ks (and_parts (is_class_number k) (all_classed ks) e).1 i

pub tested_if_classed : (classes : List ℕ) → Classed classes → all_classed classes ≡ true
tested_if_classed [] h = refl
tested_if_classed (k ∷ ks) h = and_from _ _ (and_from _ _ (le-leb 1 k (h 0).0) (le-leb k last_class (h 0).1)) (tested_if_classed ks (λ i. h (suc i)))

-- and so no refusal is due exactly where each place has a class from 1 to 8
pub none_due_if_classed : (classes : List ℕ) → Classed classes → class_due classes ≡ None
none_due_if_classed classes h = rw (tested_if_classed classes h)

pub classed_if_none_due : (classes : List ℕ) → class_due classes ≡ None → Classed classes
classed_if_none_due classes none = elim (cases_Bool (all_classed classes)) [
  | inl tested ↦ classed_if_tested classes tested
  | inr failed ↦ (let z : ◌≡◌ {A = ℕ} 0 1 = cc (rw failed at none) in absurd (omega arith))
]

pub length-kept : (classes : List ℕ) → length (kept classes) ≡ most_claims
length-kept classes =
    let padding = replicate (most_claims - length classes) last_class in
    omega (arith, length-append (take most_claims classes) padding, length-take most_claims classes, length-replicate (most_claims - length classes) last_class)

-- each place of the kept list has the class that the given list gives it, as far as a problem reaches
pub kept_at : (classes : List ℕ) (i : ℕ) → i < most_claims → class_at (kept classes) i ≡ class_at classes i
kept_at classes i h =
    let front = take most_claims classes in
    let long = length-take most_claims classes in
    let padding = replicate (most_claims - length classes) last_class in
    elim (cases_lt i (length classes)) [
      | inl within ↦ get_or_append_left front padding last_class i (omega arith) ∙ get_or-take most_claims classes i last_class h
      | inr past ↦ get_or-append_right front padding (length classes) i last_class (omega arith) past ∙ get_or-replicate (most_claims - length classes) (i - length classes) last_class last_class (omega arith) ∙ sym (get_or_past classes i last_class past)
    ]

pub kept_classed : (classes : List ℕ) → Classed classes → Classed (kept classes)
kept_classed classes h i = elim (cases_lt i most_claims) [
  | inl within ↦ (let same = kept_at classes i within in (omega (arith, (h i).0), omega (arith, (h i).1)))
  | inr past ↦ (let same = get_or_past (kept classes) i last_class (omega (arith, length-kept classes)) in (omega arith, omega arith))
]

-- the kept list serves as the given one does
pub kept_serves : (order classes : List ℕ) → ServeAlike order (kept classes) classes
kept_serves order classes f claims estate few = served_alike order (kept classes) classes f claims estate (λ i within. kept_at classes i (omega arith))

-- and so do its first 64 classes
pub front_serves : (order classes : List ℕ) → ServeAlike order (take most_claims classes) classes
front_serves order classes f claims estate few =
    served_alike order (take most_claims classes) classes f claims estate (λ i within. get_or-take most_claims classes i last_class (omega arith))

pub kept_as_front : (order classes : List ℕ) → ServeAlike order (kept classes) (take most_claims classes)
kept_as_front order classes f claims estate few = kept_serves order classes f claims estate few ∙ sym (front_serves order classes f claims estate few)

pub order_once : (o : ClassOrder) → EachOnce (order_of o)
order_once SeniorFirst = senior_once
order_once JuniorFirst = junior_once

pub length-order : (o : ClassOrder) → length (order_of o) ≡ last_class
length-order SeniorFirst = refl
length-order JuniorFirst = refl
