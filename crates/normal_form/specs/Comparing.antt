-- What comparing two strings of letters answers: both normal forms, whether they are the same, and what that means for
-- every lawful rule. Assumes nothing.
use Rattle.std.specs.Prelude.{◌≡◌, List, Some, None, Ok, Err, Option, Result}
use Rattle.normal_form.specs.declared.letter.Operator.{Operator}
use Rattle.normal_form.specs.declared.letter.LetterRefusal.{LetterRefusal}
use Rattle.normal_form.specs.declared.letter.LetterRefusal.TheVariants.{UnknownLetter}
use Rattle.normal_form.specs.declared.form.Form.{Form}
use Rattle.normal_form.specs.declared.compare.Comparison.{Comparison}
use Rattle.normal_form.specs.declared.compare.Comparison.TheVariants.{Same, Differ}
use Rattle.normal_form.specs.Forms.{normal_form}
use Rattle.normal_form.specs.FormParts.{parts}
use Rattle.normal_form.specs.Alike.{Alike, ToldApart}

-- the answer 'same' with a form: it is the normal form of both strings, and they are alike
pub record SaysSame (left right : List Operator) (form : Form) : Type 0 where
  pub left_form : parts form ≡ normal_form left
  pub right_form : parts form ≡ normal_form right
  pub alike : Alike left right

-- the answer 'differ' with two forms: they are the normal forms of the two strings and are not the same, one of the nine
-- problems tells the strings apart, and so they are not alike
pub record SaysDiffer (left right : List Operator) (first second : Form) : Type 0 where
  pub left_form : parts first ≡ normal_form left
  pub right_form : parts second ≡ normal_form right
  pub other_form : normal_form left ≡ normal_form right → ⊥
  pub told_apart : ToldApart left right
  pub not_alike : Alike left right → ⊥

-- what an answer says of two strings of letters
abbrev pub Says : List Operator → List Operator → Comparison → Type 0
Says left right (Same form) = SaysSame left right form
Says left right (Differ first second) = SaysDiffer left right first second

-- the answer for two strings of bytes: refused exactly if a letter of either is not known
abbrev pub Compared : Option (List Operator) → Option (List Operator) → Result Comparison LetterRefusal → Type 0
Compared None right (Ok answer) = ⊥
Compared None right (Err e) = e ≡ UnknownLetter
Compared (Some left) None (Ok answer) = ⊥
Compared (Some left) None (Err e) = e ≡ UnknownLetter
Compared (Some left) (Some right) (Ok answer) = Says left right answer
Compared (Some left) (Some right) (Err e) = ⊥
