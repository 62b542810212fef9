-- Any letters keep a rule lawful, and keep rules that agree in agreement; strings joined are one after the other.
-- Assumes nothing.
use Rattle.std.proofs.Common.{◌≡◌, ℕ, List, [], ◌∷◌, ◌++◌, refl, ◌∙◌}
use Rattle.division.specs.Problem.{Meaning, Lawful}
use Rattle.operators.specs.Operators.{Classed, senior_first, junior_first}
use Rattle.operators.specs.DualLawful.{dual_lawful}
use Rattle.operators.specs.TruncationLawful.{truncation_lawful}
use Rattle.operators.specs.RightsLawful.{minimal_rights_lawful}
use Rattle.operators.specs.SeniorityLawful.{seniority_lawful, reverse_seniority_lawful}
use Rattle.normal_form.specs.declared.letter.Operator.{Operator}
use Rattle.normal_form.specs.declared.letter.Operator.TheVariants.{Dual, Truncation, MinimalRights, Seniority, ReverseSeniority}
use Rattle.normal_form.specs.Letters.{operator, applied}
use Rattle.normal_form.specs.Forms.{Parts, where_so, seniority_letter, is_inner, is_outer, letters_of}
use Rattle.normal_form.specs.Alike.{Agree}
use Rattle.normal_form.proofs.Agreement.{under_dual, under_truncation, under_rights}
use Rattle.normal_form.proofs.Seniority.{in_class, under_order}

-- an operator keeps a rule lawful
pub operator_lawful : (o : Operator) (classes : List ℕ) → Classed classes → (f : Meaning) → Lawful f → Lawful (operator o classes f)
operator_lawful Dual classes classed f law = dual_lawful f law
operator_lawful Truncation classes classed f law = truncation_lawful f law
operator_lawful MinimalRights classes classed f law = minimal_rights_lawful f law
operator_lawful Seniority classes classed f law = seniority_lawful classes classed f law
operator_lawful ReverseSeniority classes classed f law = reverse_seniority_lawful classes classed f law

-- and so do any letters
pub applied_lawful : (letters : List Operator) (classes : List ℕ) → Classed classes → (f : Meaning) → Lawful f → Lawful (applied letters classes f)
applied_lawful [] classes classed f law = law
applied_lawful (o ∷ os) classes classed f law = applied_lawful os classes classed (operator o classes f) (operator_lawful o classes classed f law)

-- rules that agree still agree under an operator
pub operator_agree : (o : Operator) (classes : List ℕ) {f g : Meaning} → Agree f g → Agree (operator o classes f) (operator o classes g)
operator_agree Dual classes a = under_dual a
operator_agree Truncation classes a = under_truncation a
operator_agree MinimalRights classes a = under_rights a
operator_agree Seniority classes a = under_order classes senior_first (in_class classes a)
operator_agree ReverseSeniority classes a = under_order classes junior_first (in_class classes a)

-- and under any letters
pub applied_agree : (letters : List Operator) (classes : List ℕ) (f g : Meaning) → Agree f g → Agree (applied letters classes f) (applied letters classes g)
applied_agree [] classes f g a = a
applied_agree (o ∷ os) classes f g a = applied_agree os classes (operator o classes f) (operator o classes g) (operator_agree o classes a)

pub applied_joined : (first later : List Operator) (classes : List ℕ) (f : Meaning) → applied (first ++ later) classes f ≡ applied later classes (applied first classes f)
applied_joined [] later classes f = refl
applied_joined (o ∷ os) later classes f = applied_joined os later classes (operator o classes f)

-- what the letters of a form make of a rule, layer by layer, each layer there or not
pub applied_form : (p : Parts) (classes : List ℕ) (f : Meaning) → applied (letters_of p) classes f
    ≡ applied (where_so (is_outer p.rights) MinimalRights) classes
    (applied (where_so (is_outer p.truncation) Truncation) classes
    (applied (seniority_letter p.order) classes
    (applied (where_so (is_inner p.rights) MinimalRights) classes
    (applied (where_so (is_inner p.truncation) Truncation) classes
    (applied (where_so p.dual Dual) classes f)))))
applied_form p classes f =
    let d = where_so p.dual Dual in
    let it = where_so (is_inner p.truncation) Truncation in
    let im = where_so (is_inner p.rights) MinimalRights in
    let s = seniority_letter p.order in
    let ot = where_so (is_outer p.truncation) Truncation in
    let om = where_so (is_outer p.rights) MinimalRights in
    applied_joined d (it ++ (im ++ (s ++ (ot ++ om)))) classes f
    ∙ applied_joined it (im ++ (s ++ (ot ++ om))) classes (applied d classes f)
    ∙ applied_joined im (s ++ (ot ++ om)) classes (applied it classes (applied d classes f))
    ∙ applied_joined s (ot ++ om) classes (applied im classes (applied it classes (applied d classes f)))
    ∙ applied_joined ot om classes (applied s classes (applied im classes (applied it classes (applied d classes f))))
