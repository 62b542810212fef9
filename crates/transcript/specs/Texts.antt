-- The text of what a line comes to: lines of fields, parted by commas, each ended by a line end. Assumes nothing.
use Rattle.std.specs.Prelude.{◌≡◌, ℕ, suc, ◌<◌, ◌≤◌, List, [], ◌∷◌, ◌++◌, map, length, drop, ℤ, pos, negsuc, Ok, Err, codes, Result}
use Rattle.std.specs.List.{flat_map}
use Rattle.normal_form.specs.Forms.{written}
use Rattle.cases.specs.declared.row.Row.{Row}
use Rattle.cases.specs.declared.row.Posting.{Posting}
use Rattle.casefile.specs.Marks.{joined_by}
use Rattle.casefile.specs.Fields.{comma}
use Rattle.casefile.specs.Lines.{line_end}
use Rattle.casefile.specs.Decimal.{digits}
use Rattle.transcript.specs.declared.refusal.RunRefusal.{RunRefusal}
use Rattle.transcript.specs.declared.refusal.RunRefusal.TheVariants.{BufferTooShort}
use Rattle.transcript.specs.Outcomes.{Told, nothing, accepted, awarded, sheet_drawn, signed_off, given_back, same_form, other_forms, refused, refusal_number}

-- the byte in front of a negative number
abbrev pub minus : ℕ
minus = 45

-- how a number with a sign is written
abbrev pub signed_digits : ℤ → List ℕ
signed_digits (pos n) = digits n
signed_digits (negsuc n) = minus ∷ digits (suc n)

-- the fields of a row's award
abbrev pub award_fields : Row → List (List ℕ)
award_fields row = codes "award" ∷ digits row.number ∷ digits row.award ∷ []

-- the fields of a posting
abbrev pub post_fields : Posting → List (List ℕ)
post_fields p = codes "post" ∷ digits p.number ∷ signed_digits p.amount ∷ []

-- the fields of a refusal: the number of the line, and that of the refusal
abbrev pub refused_fields : ℕ → ℕ → List (List ℕ)
refused_fields line number = codes "refused" ∷ digits line ∷ digits number ∷ []

-- the lines that are printed for what a line comes to, each as its fields; a refusal also names the line's number
abbrev pub printed : ℕ → Told → List (List (List ℕ))
printed line nothing = []
printed line accepted = (codes "ok" ∷ []) ∷ []
printed line (awarded rows estate) = map award_fields rows ++ (codes "total" ∷ digits estate ∷ []) ∷ []
printed line (sheet_drawn rows total) = (codes "sheet" ∷ digits rows ∷ digits total ∷ []) ∷ []
printed line (signed_off postings) = map post_fields postings ++ (codes "signed" ∷ []) ∷ []
printed line given_back = (codes "returned" ∷ []) ∷ []
printed line (same_form form) = (codes "same" ∷ written form ∷ []) ∷ []
printed line (other_forms first second) = (codes "differ" ∷ written first ∷ written second ∷ []) ∷ []
printed line (refused e) = refused_fields line (refusal_number e) ∷ []

-- a line of fields as bytes
abbrev pub as_line : List (List ℕ) → List ℕ
as_line fields = joined_by comma fields ++ line_end ∷ []

-- lines as bytes
abbrev pub as_text : List (List (List ℕ)) → List ℕ
as_text lines = flat_map as_line lines

-- the text of what a line comes to
abbrev pub text_of : ℕ → Told → List ℕ
text_of line t = as_text (printed line t)

-- the least room that a text buffer must have
abbrev pub least_buffer : ℕ
least_buffer = 2048

-- the most bytes that the text of one line may have
abbrev pub most_printed : ℕ
most_printed = 48

-- a buffer that begins with a text of so many bytes, and behind it is as it was at the start
pub record Begins (text : List ℕ) (size : ℕ) (out start : List ℕ) : Type 0 where
  pub long : size ≡ length text
  pub holds : out ≡ text ++ drop size start

-- what writing a text into a buffer answers: how many bytes it has, never more than the least room asked for, and then
-- the front of the buffer is the text and every byte behind is as it was; or a refusal where the buffer has too little
-- room, and then it is as it was
abbrev pub TextAnswered : List ℕ → List ℕ → Result ℕ RunRefusal → List ℕ → Type 0
TextAnswered text buffer (Ok size) after = (least_buffer ≤ length buffer) × (size ≡ length text) × (size ≤ least_buffer) × (after ≡ text ++ drop (length text) buffer)
TextAnswered text buffer (Err e) after = (length buffer < least_buffer) × (e ≡ BufferTooShort) × (after ≡ buffer)
