-- Which refusal of a line is answered: the first that applies, in the order of their numbers. A remark is refused only
-- for its length. Assumes nothing.
use Rattle.std.specs.Prelude.{◌≡◌, ℕ, ◌<◌, ◌≤◌, false, List, length, Ok, Err, ◌≢◌}
use Rattle.casefile.specs.declared.refusal.LineRefusal.{LineRefusal}
use Rattle.casefile.specs.declared.refusal.LineRefusal.TheVariants.{TooLong, UnknownForm, BadNumber, UnknownRule}
use Rattle.casefile.specs.Fields.{fields}
use Rattle.casefile.specs.LineKinds.{Kind, most_line, is_remark, kind_by_fields}
use Rattle.casefile.specs.LineRefusals.{line_number}
use Rattle.casefile.specs.Calls.{call_of, reading}

-- a line that has a kind, whose fields are refused so
abbrev pub FieldsRefused : List ℕ → LineRefusal → Type 0
FieldsRefused line e = (k : Kind) × (kind_by_fields (fields line) ≡ Ok k) × (call_of k ≡ Err e)

-- when a refusal applies to a line
abbrev pub Applies : List ℕ → LineRefusal → Type 0
Applies line TooLong = most_line < length line
Applies line UnknownForm = (is_remark line ≡ false) × ((k : Kind) → kind_by_fields (fields line) ≢ Ok k)
Applies line BadNumber = (is_remark line ≡ false) × FieldsRefused line BadNumber
Applies line UnknownRule = (is_remark line ≡ false) × FieldsRefused line UnknownRule

-- the refusal that is answered applies, and none with a smaller number does
pub record RefusalLaws : Type 0 where
  pub applies : (line : List ℕ) (e : LineRefusal) → reading line ≡ Err e → Applies line e
  pub smallest : (line : List ℕ) (e other : LineRefusal) → reading line ≡ Err e → Applies line other → line_number e ≤ line_number other
