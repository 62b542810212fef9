-- The kinds of a line, told by its first field and the number of its fields. Assumes nothing.
use Rattle.std.specs.Prelude.{ℕ, Bool, false, cond, List, [], ◌∷◌, length, Ok, Err, codes, Result, ◌==◌, nat_lt}
use Rattle.std.specs.Str.{bytes_eq}
use Rattle.casefile.specs.declared.line.Line.{Line}
use Rattle.casefile.specs.declared.line.Line.TheVariants.{Claim, Amend, Fund, Press, Divide, Draw, Sign, Return, Compare, Remark}
use Rattle.casefile.specs.declared.refusal.LineRefusal.{LineRefusal}
use Rattle.casefile.specs.declared.refusal.LineRefusal.TheVariants.{TooLong, UnknownForm}
use Rattle.casefile.specs.Fields.{fields}

-- the most bytes that a line may have, its line end not counted
abbrev pub most_line : ℕ
most_line = 80

-- a line of a known kind, with its other fields as bytes
pub data Kind : Type 0 where
  claim_line : List ℕ → List ℕ → List ℕ → Kind
  amend_line : List ℕ → List ℕ → Kind
  fund_line : List ℕ → Kind
  press_line : List ℕ → Kind
  divide_line : List ℕ → Kind
  draw_line : Kind
  sign_line : Kind
  return_line : Kind
  compare_line : List ℕ → List ℕ → Kind
  remark_line : Kind

-- the kind that a line of the program stands for
abbrev pub kind : Line → Kind
kind (Claim number amount class) = claim_line number.now amount.now class.now
kind (Amend number amount) = amend_line number.now amount.now
kind (Fund amount) = fund_line amount.now
kind (Press letters) = press_line letters.now
kind (Divide rule) = divide_line rule.now
kind Draw = draw_line
kind Sign = sign_line
kind Return = return_line
kind (Compare left right) = compare_line left.now right.now
kind Remark = remark_line

-- a line that begins with # is a remark
abbrev pub is_remark : List ℕ → Bool
is_remark [] = false
is_remark (b ∷ bs) = b == 35

-- the lines of one field
abbrev pub kind_of_one : List ℕ → Result Kind LineRefusal
kind_of_one word =
    cond (bytes_eq word (codes "draw")) (Ok draw_line)
    (cond (bytes_eq word (codes "sign")) (Ok sign_line)
    (cond (bytes_eq word (codes "return")) (Ok return_line) (Err UnknownForm)))

-- the lines of two fields
abbrev pub kind_of_two : List ℕ → List ℕ → Result Kind LineRefusal
kind_of_two word first =
    cond (bytes_eq word (codes "fund")) (Ok (fund_line first))
    (cond (bytes_eq word (codes "press")) (Ok (press_line first))
    (cond (bytes_eq word (codes "divide")) (Ok (divide_line first)) (Err UnknownForm)))

-- the lines of three fields
abbrev pub kind_of_three : List ℕ → List ℕ → List ℕ → Result Kind LineRefusal
kind_of_three word first second =
    cond (bytes_eq word (codes "amend")) (Ok (amend_line first second))
    (cond (bytes_eq word (codes "compare")) (Ok (compare_line first second)) (Err UnknownForm))

-- the lines of four fields
abbrev pub kind_of_four : List ℕ → List ℕ → List ℕ → List ℕ → Result Kind LineRefusal
kind_of_four word first second third =
    cond (bytes_eq word (codes "claim")) (Ok (claim_line first second third)) (Err UnknownForm)

-- the kind of a line with such fields
abbrev pub kind_by_fields : List (List ℕ) → Result Kind LineRefusal
kind_by_fields [] = Err UnknownForm
kind_by_fields (word ∷ []) = kind_of_one word
kind_by_fields (word ∷ first ∷ []) = kind_of_two word first
kind_by_fields (word ∷ first ∷ second ∷ []) = kind_of_three word first second
kind_by_fields (word ∷ first ∷ second ∷ third ∷ []) = kind_of_four word first second third
kind_by_fields (word ∷ first ∷ second ∷ third ∷ fourth ∷ more) = Err UnknownForm

-- the kind of a line: its length is tested first, then whether it is a remark, then its fields
abbrev pub line_kind : List ℕ → Result Kind LineRefusal
line_kind line =
    cond (nat_lt most_line (length line)) (Err TooLong)
    (cond (is_remark line) (Ok remark_line) (kind_by_fields (fields line)))
