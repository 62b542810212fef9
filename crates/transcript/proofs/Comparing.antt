-- What is told of two strings of letters is what comparing them answers. Assumes nothing.
use Rattle.std.proofs.Common.{◌≡◌, Bool, true, false, List, Some, None, Ok, Option, sym, refl, ap, ◌∙◌}
use Rattle.std.proofs.lemmas.Bool.{cond-true, cond-false, and_from, and_parts}
use Rattle.normal_form.specs.declared.letter.Operator.{Operator}
use Rattle.operators.specs.declared.classes.ClassOrder.{ClassOrder}
use Rattle.operators.specs.declared.classes.ClassOrder.TheVariants.{SeniorFirst, JuniorFirst}
use Rattle.normal_form.specs.declared.form.Place.{Place}
use Rattle.normal_form.specs.declared.form.Place.TheVariants.{Absent, Inner, Outer}
use Rattle.normal_form.specs.declared.compare.Comparison.{Comparison}
use Rattle.normal_form.specs.declared.compare.Comparison.TheVariants.{Same, Differ}
use Rattle.normal_form.specs.Forms.{Parts, normal_form}
use Rattle.normal_form.specs.FormParts.{parts}
use Rattle.normal_form.specs.Comparing.{Compared}
use Rattle.transcript.specs.Outcomes.{compared, same_form, other_forms}
use Rattle.transcript.specs.Turns.{same_bool, same_order, same_place, same_parts, forms_told}

bool_itself : (b : Bool) → same_bool b b ≡ true
bool_itself true = refl
bool_itself false = refl

order_itself : (o : Option ClassOrder) → same_order o o ≡ true
order_itself None = refl
order_itself (Some SeniorFirst) = refl
order_itself (Some JuniorFirst) = refl

place_itself : (p : Place) → same_place p p ≡ true
place_itself Absent = refl
place_itself Inner = refl
place_itself Outer = refl

-- forms are the same part by part exactly if they are equal
pub parts_itself : (p : Parts) → same_parts p p ≡ true
parts_itself p =
    and_from _ _ (bool_itself p.dual) (and_from _ _ (order_itself p.order) (and_from _ _ (place_itself p.truncation) (place_itself p.rights)))

bool_same : (a b : Bool) → same_bool a b ≡ true → a ≡ b
bool_same true b e = sym e
bool_same false true e = cc
bool_same false false e = refl

order_same : (a b : Option ClassOrder) → same_order a b ≡ true → a ≡ b
order_same None None e = refl
order_same None (Some SeniorFirst) e = cc
order_same None (Some JuniorFirst) e = cc
order_same (Some SeniorFirst) None e = cc
order_same (Some SeniorFirst) (Some SeniorFirst) e = refl
order_same (Some SeniorFirst) (Some JuniorFirst) e = cc
order_same (Some JuniorFirst) None e = cc
order_same (Some JuniorFirst) (Some SeniorFirst) e = cc
order_same (Some JuniorFirst) (Some JuniorFirst) e = refl

place_same : (a b : Place) → same_place a b ≡ true → a ≡ b
place_same Absent Absent e = refl
place_same Absent Inner e = cc
place_same Absent Outer e = cc
place_same Inner Absent e = cc
place_same Inner Inner e = refl
place_same Inner Outer e = cc
place_same Outer Absent e = cc
place_same Outer Inner e = cc
place_same Outer Outer e = refl

pub parts_same : (p q : Parts) → same_parts p q ≡ true → p ≡ q
parts_same p q e =
    let a = and_parts (same_bool p.dual q.dual) _ e in
    let b = and_parts (same_order p.order q.order) _ a.1 in
    let c = and_parts (same_place p.truncation q.truncation) _ b.1 in
    let d = bool_same p.dual q.dual a.0 in
    let o = order_same p.order q.order b.0 in
    let t = place_same p.truncation q.truncation c.0 in
    let m = place_same p.rights q.rights c.1 in
    ap (λ x. record { dual = x; order = p.order; truncation = p.truncation; rights = p.rights }) d
    ∙ ap (λ x. record { dual = q.dual; order = x; truncation = p.truncation; rights = p.rights }) o
    ∙ ap (λ x. record { dual = q.dual; order = q.order; truncation = x; rights = p.rights }) t
    ∙ ap (λ x. record { dual = q.dual; order = q.order; truncation = q.truncation; rights = x }) m

not_same : (p q : Parts) → (p ≡ q → ⊥) → same_parts p q ≡ false
not_same p q other = elim (same_parts p q) as (λ b. same_parts p q ≡ b → b ≡ false) [ true ↦ (λ e. absurd (other (parts_same p q e))) | false ↦ (λ e. refl) ] refl

-- what comparing answers is what is told
pub compare_told : (left right : Option (List Operator)) (answer : Comparison) → Compared left right (Ok answer) → compared answer ≡ forms_told left right
compare_told None right answer h = absurd h
compare_told (Some left) None answer h = absurd h
compare_told (Some left) (Some right) (Same form) h =
    let p = normal_form left in
    let q = normal_form right in
    let same : p ≡ q = sym h.left_form ∙ h.right_form in
    ap same_form h.left_form ∙ sym (cond-true (same_parts p q) (same_form p) (other_forms p q) (ap (λ x. same_parts p x) (sym same) ∙ parts_itself p))
compare_told (Some left) (Some right) (Differ first second) h =
    let p = normal_form left in
    let q = normal_form right in
    ap (λ x. other_forms x (parts second)) h.left_form ∙ ap (λ x. other_forms p x) h.right_form ∙ sym (cond-false (same_parts p q) (same_form p) (other_forms p q) (not_same p q h.other_form))
