-- What a comparison answers follows from the forms of the two strings. Assumes nothing.
use Rattle.std.proofs.Common.{◌≡◌, ℕ, List, Some, None, Ok, Option, sym, ◌∙◌, arith}
use Rattle.normal_form.specs.declared.letter.Operator.{Operator}
use Rattle.normal_form.specs.declared.form.Form.{Form}
use Rattle.normal_form.specs.declared.compare.Comparison.TheVariants.{Same, Differ}
use Rattle.normal_form.specs.Forms.{normal_form}
use Rattle.normal_form.specs.FormParts.{parts, known_form}
use Rattle.normal_form.specs.Comparing.{Compared}
use Rattle.normal_form.proofs.Theorems.{same_form_alike, other_form_told_apart, told_apart_not_alike}

module _ (first second : Form) where
  pub says_same : (left right : Option (List Operator)) → Ok (parts first) ≡ known_form left → Ok (parts second) ≡ known_form right → parts first ≡ parts second → Compared left right (Ok (Same first))
  says_same None right e f same = let z : ◌≡◌ {A = ℕ} 0 1 = cc in absurd (omega arith)
  says_same (Some left) None e f same = let z : ◌≡◌ {A = ℕ} 0 1 = cc in absurd (omega arith)
  says_same (Some left) (Some right) e f same =
      let left_is : parts first ≡ normal_form left = cc in
      let right_is : parts first ≡ normal_form right = cc in
      record { left_form = left_is; right_form = right_is; alike = same_form_alike left right (sym left_is ∙ right_is) }

  pub says_differ : (left right : Option (List Operator)) → Ok (parts first) ≡ known_form left → Ok (parts second) ≡ known_form right → (parts first ≡ parts second → ⊥) → Compared left right (Ok (Differ first second))
  says_differ None right e f differ = let z : ◌≡◌ {A = ℕ} 0 1 = cc in absurd (omega arith)
  says_differ (Some left) None e f differ = let z : ◌≡◌ {A = ℕ} 0 1 = cc in absurd (omega arith)
  says_differ (Some left) (Some right) e f differ =
      let left_is : parts first ≡ normal_form left = cc in
      let right_is : parts second ≡ normal_form right = cc in
      let other : normal_form left ≡ normal_form right → ⊥ = λ h. differ (left_is ∙ h ∙ sym right_is) in
      let told = other_form_told_apart left right other in
      record { left_form = left_is; right_form = right_is; other_form = other; told_apart = told; not_alike = told_apart_not_alike left right told }
