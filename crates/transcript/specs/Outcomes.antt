-- What comes of a line, with its values, and the number of each refusal. Assumes nothing.
use Rattle.std.specs.Prelude.{ℕ, List}
use Rattle.normal_form.specs.declared.compare.Comparison.{Comparison}
use Rattle.normal_form.specs.declared.compare.Comparison.TheVariants.{Same, Differ}
use Rattle.normal_form.specs.Forms.{Parts}
use Rattle.normal_form.specs.FormParts.{parts}
use Rattle.normal_form.specs.Letters.{letter_number}
use Rattle.cases.specs.declared.row.Row.{Row}
use Rattle.cases.specs.declared.row.Posting.{Posting}
use Rattle.cases.specs.Cases.{case_refusal_number, sheet_refusal_number}
use Rattle.casefile.specs.LineRefusals.{line_number}
use Rattle.transcript.specs.declared.refusal.Refusal.{Refusal}
use Rattle.transcript.specs.declared.refusal.Refusal.TheVariants.{Line, Letter, Case, Sheet}
use Rattle.transcript.specs.declared.refusal.RunRefusal.{RunRefusal}
use Rattle.transcript.specs.declared.refusal.RunRefusal.TheVariants.{BufferTooShort, FileTooLong}
use Rattle.transcript.specs.declared.outcome.Outcome.{Outcome}
use Rattle.transcript.specs.declared.outcome.Outcome.TheVariants.{Remark, Accepted, Divided, Drawn, Signed, Returned, Compared, Refused}

-- the number of each refusal of a line, as it is printed
abbrev pub refusal_number : Refusal → ℕ
refusal_number (Line e) = line_number e
refusal_number (Letter e) = letter_number e
refusal_number (Case e) = case_refusal_number e
refusal_number (Sheet e) = sheet_refusal_number e

-- the number of each refusal that whoever runs a file may meet
abbrev pub run_number : RunRefusal → ℕ
run_number BufferTooShort = 20
run_number FileTooLong = 21

-- what a line comes to: nothing, for a remark; an accepted call that has no more to say; the rows of a division with the
-- estate that was divided; a sheet's rows and total; the postings of a signed sheet; a sheet given back; the form that
-- two strings of letters share, or their two forms; a refusal
pub data Told : Type 0 where
  nothing : Told
  accepted : Told
  awarded : (rows : List Row) (estate : ℕ) → Told
  sheet_drawn : (rows total : ℕ) → Told
  signed_off : (postings : List Posting) → Told
  given_back : Told
  same_form : Parts → Told
  other_forms : Parts → Parts → Told
  refused : Refusal → Told

-- what a comparison comes to
abbrev pub compared : Comparison → Told
compared (Same form) = same_form (parts form)
compared (Differ first second) = other_forms (parts first) (parts second)

-- the outcome of the code, with its values
abbrev pub told : Outcome → Told
told Remark = nothing
told Accepted = accepted
told (Divided division) = awarded division.rows.items division.estate
told (Drawn rows total) = sheet_drawn rows total
told (Signed postings) = signed_off postings.list.items
told Returned = given_back
told (Compared comparison) = compared comparison
told (Refused e) = refused e
