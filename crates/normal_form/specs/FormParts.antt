-- The parts of the form that the code holds. Assumes nothing.
use Rattle.std.specs.Prelude.{List, Some, None, Ok, Err, Option, Result}
use Rattle.normal_form.specs.declared.letter.Operator.{Operator}
use Rattle.normal_form.specs.declared.letter.LetterRefusal.{LetterRefusal}
use Rattle.normal_form.specs.declared.letter.LetterRefusal.TheVariants.{UnknownLetter}
use Rattle.normal_form.specs.declared.form.Form.{Form}
use Rattle.normal_form.specs.Forms.{Parts, normal_form}

-- the four parts of a form
abbrev pub parts : Form → Parts
parts form = record { dual = form.dual; order = form.order; truncation = form.truncation; rights = form.rights }

-- the parts of the form in an answer, or the refusal in it
abbrev pub parts_in : Result Form LetterRefusal → Result Parts LetterRefusal
parts_in (Ok form) = Ok (parts form)
parts_in (Err e) = Err e

-- the normal form of letters that are known, and else the refusal
abbrev pub known_form : Option (List Operator) → Result Parts LetterRefusal
known_form None = Err UnknownLetter
known_form (Some letters) = Ok (normal_form letters)
