-- The laws of a transcript: what the text that is printed for a file has to do with the case, the plain ledger and the
-- letters. Assumes nothing.
use Rattle.std.specs.Prelude.{◌≡◌, ℕ, false, cond, List, [], ◌∷◌, ◌++◌, ℤ, pos, neg_ℤ, codes, ◌==◌, ◌≢◌}
use Rattle.std.specs.Str.{bytes_eq}
use Rattle.normal_form.specs.declared.letter.Operator.{Operator}
use Rattle.normal_form.specs.Forms.{normal_form}
use Rattle.normal_form.specs.Alike.{Alike}
use Rattle.normal_form.specs.Laws.{LawfulUnderLetters}
use Rattle.cases.specs.declared.row.Posting.{Posting}
use Rattle.cases.specs.Rows.{estate_number}
use Rattle.cases.specs.Ledger.{Settled, under, ledger}
use Rattle.cases.specs.History.{Past}
use Rattle.casefile.specs.Lines.{lines}
use Rattle.casefile.specs.Fields.{fields}
use Rattle.casefile.specs.Decimal.{value_after}
use Rattle.transcript.specs.Texts.{minus}
use Rattle.transcript.specs.Files.{transcript, calls_of, case_of}

-- the number that a field of a printed line writes, with a hyphen in front if it is negative
abbrev pub amount_in : List ℕ → ℤ
amount_in [] = pos 0
amount_in (b ∷ bs) = cond (b == minus) (neg_ℤ (pos (value_after 0 bs))) (pos (value_after 0 (b ∷ bs)))

-- the posting that a printed line is, if it is one: the word post, a number and an amount
abbrev pub posting_in : List (List ℕ) → List Posting
posting_in [] = []
posting_in (word ∷ []) = []
posting_in (word ∷ number ∷ []) = []
posting_in (word ∷ number ∷ amount ∷ []) =
    cond (bytes_eq word (codes "post")) (record { number = value_after 0 number; amount = amount_in amount } ∷ []) []
posting_in (word ∷ number ∷ amount ∷ more ∷ rest) = []

-- the postings among lines
abbrev pub postings_among : List (List ℕ) → List Posting
postings_among [] = []
postings_among (line ∷ rest) = posting_in (fields line) ++ postings_among rest

-- the postings that a printed text shows
abbrev pub postings_in : List ℕ → List Posting
postings_in text = postings_among (lines text)

-- two strings of letters share a normal form exactly if they are alike
pub record FormsDecide : Type 0 where
  pub alike_if_same : (left right : List Operator) → normal_form left ≡ normal_form right → Alike left right
  pub same_if_alike : (left right : List Operator) → Alike left right → normal_form left ≡ normal_form right

-- what the text that is printed for a file keeps
pub record Transcribed (file text : List ℕ) : Type 0 where
  -- it is the transcript of the file
  pub text_is : text ≡ transcript file
  -- the case was made new, and moved by the calls that the lines make, and by them only
  pub past : Past (calls_of file) (case_of file)
  -- at the end no sheet is out: one that was is returned
  pub closed : (case_of file).out ≡ false
  -- in this past each claimant's sum of postings is his award in the last signed division of the plain ledger
  pub settled : Settled (calls_of file)
  -- and the postings printed under each claimant's number add up to that award, or to zero if none was signed
  pub sums : (n : ℕ) → (n ≢ estate_number) → under n (postings_in text) ≡ pos ((ledger (calls_of file)).signed n)
  -- a lawful rule stays lawful under any letters
  pub lawful : LawfulUnderLetters
  -- and equal forms are exactly the alike ones
  pub forms : FormsDecide
