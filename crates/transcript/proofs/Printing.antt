-- The postings that a printed text shows are those that were told. Assumes nothing.
use Rattle.std.proofs.Common.{◌≡◌, ℕ, zero, suc, ◌+◌, ◌-◌, ◌*◌, ◌/◌, ◌%◌, ◌<◌, ◌≤◌, Bool, true, not, ◌&&◌, eqb, ltb, List, [], ◌∷◌, ◌++◌, map, length, ℤ, pos, negsuc, neg_ℤ, codes, sym, refl, ap, ◌∙◌, append_assoc, append-nil, arith}
use Rattle.std.specs.List.{AllByRecursion}
use Rattle.std.proofs.ByRecursion.{All-append, All-weaker}
use Rattle.std.proofs.lemmas.Bool.{cond_both, cond-false, and_parts, not-true, eqb-false, ne_eqb, ltb-true, ltb-false}
use Rattle.normal_form.specs.declared.letter.Operator.{Operator}
use Rattle.normal_form.specs.declared.letter.Operator.TheVariants.{Dual, Truncation, MinimalRights, Seniority, ReverseSeniority}
use Rattle.normal_form.specs.Forms.{Parts, byte_of, letters_of, or_hyphen, written}
use Rattle.cases.specs.declared.row.Row.{Row}
use Rattle.cases.specs.declared.row.Posting.{Posting}
use Rattle.casefile.specs.Marks.{joined_by, in_front, Without}
use Rattle.casefile.specs.Fields.{comma}
use Rattle.casefile.specs.Lines.{line_end, lines}
use Rattle.casefile.specs.Decimal.{digit, last_digits, digits, value_after}
use Rattle.casefile.proofs.Fielding.{fields_joined}
use Rattle.transcript.specs.Outcomes.{Told, nothing, accepted, awarded, sheet_drawn, signed_off, given_back, same_form, other_forms, refused, refusal_number}
use Rattle.transcript.specs.Texts.{minus, signed_digits, award_fields, post_fields, refused_fields, printed, as_line, as_text}
use Rattle.transcript.specs.Files.{texts}
use Rattle.transcript.specs.Transcripts.{amount_in, posting_in, postings_among, postings_in}

-- a byte that parts neither fields nor lines
abbrev Plain : ℕ → Type 0
Plain b = (b ≡ comma → ⊥) × (b ≡ line_end → ⊥)

abbrev pub PlainFields : List (List ℕ) → Type 0
PlainFields fs = AllByRecursion (λ f. AllByRecursion Plain f) fs

-- whether all bytes are such, for words that are written out
abbrev all_plain : List ℕ → Bool
all_plain [] = true
all_plain (b ∷ bs) = not (eqb b comma) && (not (eqb b line_end) && all_plain bs)

word_plain : (bs : List ℕ) → all_plain bs ≡ true → AllByRecursion Plain bs
word_plain [] e = tt
word_plain (b ∷ bs) e =
    let p = and_parts (not (eqb b comma)) _ e in
    let q = and_parts (not (eqb b line_end)) (all_plain bs) p.1 in
    ((eqb-false b comma (not-true (eqb b comma) p.0), eqb-false b line_end (not-true (eqb b line_end) q.0)), word_plain bs q.1)

-- digits: every byte of a number is one, the number that they write is the number, however large it is

abbrev Digit : ℕ → Type 0
Digit b = (48 ≤ b) × (b ≤ 57)

all_digits : (fuel n : ℕ) → AllByRecursion Digit (last_digits fuel n)
all_digits zero n = tt
all_digits (suc fuel) n =
    cond_both (ltb n 10) (digit n ∷ []) (last_digits fuel (n / 10) ++ digit (n % 10) ∷ []) (AllByRecursion Digit)
    (λ t. let small = ltb-true n 10 t in ((omega arith, omega arith), tt))
    (λ _. All-append Digit (last_digits fuel (n / 10)) (digit (n % 10) ∷ []) (all_digits fuel (n / 10)) ((omega arith, omega arith), tt))

digit_plain : (b : ℕ) → Digit b → Plain b
digit_plain b d = ((λ e. omega arith), (λ e. omega arith))

number_plain : (n : ℕ) → AllByRecursion Plain (digits n)
number_plain n = All-weaker Digit Plain digit_plain (digits n) (all_digits (suc n) n)

value_behind : (m : ℕ) (bs : List ℕ) (b : ℕ) → value_after m (bs ++ b ∷ []) ≡ value_after m bs * 10 + (b - 48)
value_behind m [] b = refl
value_behind m (c ∷ bs) b = value_behind (m * 10 + (c - 48)) bs b

value_of : (fuel n : ℕ) → n < fuel → value_after 0 (last_digits fuel n) ≡ n
value_of zero n h = absurd (omega arith)
value_of (suc fuel) n h =
    cond_both (ltb n 10) (digit n ∷ []) (last_digits fuel (n / 10) ++ digit (n % 10) ∷ []) (λ bs. value_after 0 bs ≡ n)
    (λ t. omega arith)
    (λ t. value_behind 0 (last_digits fuel (n / 10)) (digit (n % 10)) ∙ ap (λ k. k * 10 + (digit (n % 10) - 48)) (value_of fuel (n / 10) (omega (arith, ltb-false n 10 t))) ∙ omega arith)

pub number_value : (n : ℕ) → value_after 0 (digits n) ≡ n
number_value n = value_of (suc n) n (omega arith)

signed_plain : (z : ℤ) → AllByRecursion Plain (signed_digits z)
signed_plain (pos n) = number_plain n
signed_plain (negsuc n) = (((λ e. omega arith), (λ e. omega arith)), number_plain (suc n))

-- no digit is a hyphen
unsigned : (bs : List ℕ) → AllByRecursion Digit bs → amount_in bs ≡ pos (value_after 0 bs)
unsigned [] d = refl
unsigned (b ∷ bs) d = cond-false (eqb b minus) _ _ (ne_eqb b minus (λ e. omega (arith, d.0.0)))

amount_again : (z : ℤ) → amount_in (signed_digits z) ≡ z
amount_again (pos n) = unsigned (digits n) (all_digits (suc n) n) ∙ ap pos (number_value n)
amount_again (negsuc n) = ap (λ k. neg_ℤ (pos k)) (number_value (suc n))

-- forms: no letter parts anything

letter_plain : (o : Operator) → Plain (byte_of o)
letter_plain Dual = ((λ e. omega arith), (λ e. omega arith))
letter_plain Truncation = ((λ e. omega arith), (λ e. omega arith))
letter_plain MinimalRights = ((λ e. omega arith), (λ e. omega arith))
letter_plain Seniority = ((λ e. omega arith), (λ e. omega arith))
letter_plain ReverseSeniority = ((λ e. omega arith), (λ e. omega arith))

letters_plain : (os : List Operator) → AllByRecursion Plain (map byte_of os)
letters_plain [] = tt
letters_plain (o ∷ os) = (letter_plain o, letters_plain os)

hyphen_plain : (bs : List ℕ) → AllByRecursion Plain bs → AllByRecursion Plain (or_hyphen bs)
hyphen_plain [] h = (((λ e. omega arith), (λ e. omega arith)), tt)
hyphen_plain (b ∷ bs) h = h

form_plain : (p : Parts) → AllByRecursion Plain (written p)
form_plain p = hyphen_plain (map byte_of (letters_of p)) (letters_plain (letters_of p))

-- a line of plain fields is read again as these fields

without_commas : (fs : List (List ℕ)) → PlainFields fs → Without comma fs
without_commas [] h = tt
without_commas (f ∷ fs) h = (All-weaker Plain (λ b. b ≡ comma → ⊥) (λ b p. p.0) f h.0, without_commas fs h.1)

joined_plain : (fs : List (List ℕ)) → PlainFields fs → AllByRecursion (λ b. b ≡ line_end → ⊥) (joined_by comma fs)
joined_plain [] h = tt
joined_plain (f ∷ []) h = All-weaker Plain (λ b. b ≡ line_end → ⊥) (λ b p. p.1) f h.0
joined_plain (f ∷ g ∷ fs) h =
    All-append (λ b. b ≡ line_end → ⊥) f (comma ∷ joined_by comma (g ∷ fs)) (All-weaker Plain (λ b. b ≡ line_end → ⊥) (λ b p. p.1) f h.0) ((λ e. omega arith), joined_plain (g ∷ fs) h.1)

line_first : (line rest : List ℕ) → AllByRecursion (λ b. b ≡ line_end → ⊥) line → lines (line ++ line_end ∷ rest) ≡ line ∷ lines rest
line_first [] rest h = refl
line_first (b ∷ bs) rest h =
    cond-false (eqb b line_end) ([] ∷ lines (bs ++ line_end ∷ rest)) (in_front b (lines (bs ++ line_end ∷ rest))) (ne_eqb b line_end h.0)
    ∙ ap (in_front b) (line_first bs rest h.1)

line_shows : (fs : List (List ℕ)) (rest : List ℕ) → 0 < length fs → PlainFields fs → postings_in (as_line fs ++ rest) ≡ posting_in fs ++ postings_in rest
line_shows fs rest some plain =
    let line = joined_by comma fs in
    ap postings_in (append_assoc line (line_end ∷ []) rest)
    ∙ ap postings_among (line_first line rest (joined_plain fs plain))
    ∙ ap (λ gs. posting_in gs ++ postings_in rest) (fields_joined fs some (without_commas fs plain))

-- lines that can be read again
abbrev Readable : List (List (List ℕ)) → Type 0
Readable ls = AllByRecursion (λ fs. (0 < length fs) × PlainFields fs) ls

-- the postings among lines of fields
abbrev posts_of : List (List (List ℕ)) → List Posting
posts_of [] = []
posts_of (fs ∷ ls) = posting_in fs ++ posts_of ls

lines_show : (ls : List (List (List ℕ))) (rest : List ℕ) → Readable ls → postings_in (as_text ls ++ rest) ≡ posts_of ls ++ postings_in rest
lines_show [] rest h = refl
lines_show (fs ∷ ls) rest h =
    ap postings_in (append_assoc (as_line fs) (as_text ls) rest)
    ∙ line_shows fs (as_text ls ++ rest) h.0.0 h.0.1
    ∙ ap (λ ps. posting_in fs ++ ps) (lines_show ls rest h.1)
    ∙ sym (append_assoc (posting_in fs) (posts_of ls) (postings_in rest))

-- the postings that are told
abbrev pub told_postings : Told → List Posting
told_postings nothing = []
told_postings accepted = []
told_postings (awarded rows estate) = []
told_postings (sheet_drawn rows total) = []
told_postings (signed_off postings) = postings
told_postings given_back = []
told_postings (same_form form) = []
told_postings (other_forms first second) = []
told_postings (refused e) = []

awards_readable : (rows : List Row) (last : List (List ℕ)) → (0 < length last) × PlainFields last → Readable (map award_fields rows ++ last ∷ [])
awards_readable [] last h = (h, tt)
awards_readable (row ∷ rows) last h =
    ((omega arith, (word_plain (codes "award") refl, (number_plain row.number, (number_plain row.award, tt)))), awards_readable rows last h)

posts_readable : (ps : List Posting) (last : List (List ℕ)) → (0 < length last) × PlainFields last → Readable (map post_fields ps ++ last ∷ [])
posts_readable [] last h = (h, tt)
posts_readable (p ∷ ps) last h =
    ((omega arith, (word_plain (codes "post") refl, (number_plain p.number, (signed_plain p.amount, tt)))), posts_readable ps last h)

pub printed_readable : (n : ℕ) (t : Told) → Readable (printed n t)
printed_readable n nothing = tt
printed_readable n accepted = ((omega arith, (word_plain (codes "ok") refl, tt)), tt)
printed_readable n (awarded rows estate) = awards_readable rows (codes "total" ∷ digits estate ∷ []) (omega arith, (word_plain (codes "total") refl, (number_plain estate, tt)))
printed_readable n (sheet_drawn rows total) = ((omega arith, (word_plain (codes "sheet") refl, (number_plain rows, (number_plain total, tt)))), tt)
printed_readable n (signed_off postings) = posts_readable postings (codes "signed" ∷ []) (omega arith, (word_plain (codes "signed") refl, tt))
printed_readable n given_back = ((omega arith, (word_plain (codes "returned") refl, tt)), tt)
printed_readable n (same_form form) = ((omega arith, (word_plain (codes "same") refl, (form_plain form, tt))), tt)
printed_readable n (other_forms first second) = ((omega arith, (word_plain (codes "differ") refl, (form_plain first, (form_plain second, tt)))), tt)
printed_readable n (refused e) = ((omega arith, (word_plain (codes "refused") refl, (number_plain n, (number_plain (refusal_number e), tt)))), tt)

awards_show : (rows : List Row) (estate : ℕ) → posts_of (map award_fields rows ++ (codes "total" ∷ digits estate ∷ []) ∷ []) ≡ []
awards_show [] estate = refl
awards_show (row ∷ rows) estate = awards_show rows estate

posts_show : (ps : List Posting) → posts_of (map post_fields ps ++ (codes "signed" ∷ []) ∷ []) ≡ ps
posts_show [] = refl
posts_show (p ∷ ps) =
    ap (λ n. record { number = n; amount = amount_in (signed_digits p.amount) } ∷ posts_of (map post_fields ps ++ (codes "signed" ∷ []) ∷ [])) (number_value p.number)
    ∙ ap (λ z. record { number = p.number; amount = z } ∷ posts_of (map post_fields ps ++ (codes "signed" ∷ []) ∷ [])) (amount_again p.amount)
    ∙ ap (λ qs. p ∷ qs) (posts_show ps)

printed_shows : (n : ℕ) (t : Told) → posts_of (printed n t) ≡ told_postings t
printed_shows n nothing = refl
printed_shows n accepted = refl
printed_shows n (awarded rows estate) = awards_show rows estate
printed_shows n (sheet_drawn rows total) = refl
printed_shows n (signed_off postings) = posts_show postings
printed_shows n given_back = refl
printed_shows n (same_form form) = refl
printed_shows n (other_forms first second) = refl
printed_shows n (refused e) = refl

-- the postings of all that is told
abbrev pub all_postings : List Told → List Posting
all_postings [] = []
all_postings (t ∷ ts) = told_postings t ++ all_postings ts

-- the text shows what was told
pub texts_show : (n : ℕ) (ts : List Told) → postings_in (texts n ts) ≡ all_postings ts
texts_show n [] = refl
texts_show n (t ∷ ts) =
    lines_show (printed n t) (texts (n + 1) ts) (printed_readable n t)
    ∙ ap (λ ps. ps ++ postings_in (texts (n + 1) ts)) (printed_shows n t)
    ∙ ap (λ ps. told_postings t ++ ps) (texts_show (n + 1) ts)

-- the one line for a file that is not run shows none
pub refusal_shows : (line number : ℕ) → postings_in (as_text (refused_fields line number ∷ [])) ≡ []
refusal_shows line number =
    ap postings_in (sym (append-nil (as_text (refused_fields line number ∷ []))))
    ∙ lines_show (refused_fields line number ∷ []) [] ((omega arith, (word_plain (codes "refused") refl, (number_plain line, (number_plain number, tt)))), tt)
