-- How the lines of a text are written, and what a buffer begins with. Assumes nothing.
use Rattle.std.proofs.Common.{◌≡◌, ℕ, suc, ◌+◌, ◌^◌, ◌<◌, ◌≤◌, List, [], ◌∷◌, ◌++◌, map, length, take, drop, codes, decimal, ℤ, pos, negsuc, neg_ℤ, ◌≤ℤ◌, w64, SFits, to_z, of_z, sym, refl, ap, ◌∙◌, subst, append_assoc, append-nil, arith, length-append}
use borrow.Rule.Slice.PartMut.{put_mid}
use Rattle.std.specs.List.{flat_map}
use Rattle.std.specs.Borrow.{Bor}
use Rattle.std.specs.Fmt.{signed_decimal}
use Rattle.std.proofs.lemmas.Fmt.{length-decimal-le}
use Rattle.cases.specs.declared.row.Posting.{Posting}
use Rattle.std.proofs.lemmas.List.Concat.{flat_map-cons}
use Rattle.std.proofs.lemmas.List.{take_at, drop_at, drop-drop, flat_map_more}
use Rattle.std.proofs.lemmas.Int.{ints, to_z-of_z}
use Rattle.cases.specs.Rows.{most_posted, Postable}
use Rattle.casefile.specs.Marks.{joined_by}
use Rattle.casefile.specs.Fields.{comma}
use Rattle.casefile.specs.Lines.{line_end}
use Rattle.casefile.specs.Decimal.{digits}
use Rattle.casefile.proofs.Numbering.{digits_decimal_is}
use Rattle.transcript.specs.Texts.{signed_digits, post_fields, as_line, as_text, Begins}

-- what stands behind the word of a line: each field, with a comma in front
abbrev pub behind_word : List (Bor (List ℕ)) → List ℕ
behind_word fields = flat_map (λ f. comma ∷ f.now) fields

joined_is : (word : List ℕ) (fields : List (Bor (List ℕ))) → joined_by comma (word ∷ map (λ f. f.now) fields) ≡ word ++ behind_word fields
joined_is word [] = sym (append-nil word)
joined_is word (field ∷ fields) =
    ap (λ l. word ++ (comma ∷ l)) (joined_is field.now fields) ∙ ap (λ l. word ++ l) (sym (flat_map-cons (λ (f : Bor (List ℕ)). comma ∷ f.now) field fields))

-- a word, what stands behind it and a line end are the line of these fields
pub line_is : (text word : List ℕ) (fields : List (Bor (List ℕ))) → ((text ++ word) ++ behind_word fields) ++ line_end ∷ [] ≡ text ++ as_line (word ∷ map (λ f. f.now) fields)
line_is text word fields = simp (append_assoc, joined_is)

-- what a posting moves has at most twelve digits, and perhaps a hyphen
posted_few : (z : ℤ) → neg_ℤ (pos most_posted) ≤ℤ z → z ≤ℤ pos most_posted → length (signed_decimal z) ≤ 13
posted_few (pos n) least most =
    let few : n ≤ most_posted = omega (arith, ints) in
    omega (arith, length-decimal-le 12 n (omega arith) (omega arith) (omega arith))
posted_few (negsuc n) least most =
    let few : suc n ≤ most_posted = omega (arith, ints) in
    omega (arith, length-decimal-le 12 (suc n) (omega arith) (omega arith) (omega arith))

-- also as it comes back from its 64 bits
pub posting_few : (p : Posting) → Postable p → SFits w64 p.amount → length (signed_decimal (to_z w64 (of_z w64 p.amount))) ≤ 13
posting_few p small fits = rw to_z-of_z (posted_few p.amount small.0 small.1)

-- a first line, and a line behind others
pub first_line : (start after : List ℕ) (fields : List (List ℕ)) → start ≡ [] → after ≡ start ++ as_line fields → after ≡ as_text (fields ∷ [])
first_line start after fields none is = is ∙ ap (λ t. t ++ as_line fields) none ∙ sym (append-nil (as_line fields))

pub last_line : (start before after : List ℕ) (lines : List (List (List ℕ))) (fields : List (List ℕ)) → start ≡ [] → before ≡ start ++ as_text lines → after ≡ before ++ as_line fields → after ≡ as_text (lines ++ fields ∷ [])
last_line start before after lines fields none is more =
    more ∙ ap (λ t. t ++ as_line fields) (is ∙ ap (λ t. t ++ as_text lines) none) ∙ flat_map_more as_line [] lines fields

-- a line alone, and a line behind others
pub line_alone : (fields : List (List ℕ)) → as_line fields ≡ as_text (fields ∷ [])
line_alone fields = sym (append-nil (as_line fields))

pub line_behind : (lines : List (List (List ℕ))) (fields : List (List ℕ)) → as_text lines ++ as_line fields ≡ as_text (lines ++ fields ∷ [])
line_behind lines fields = flat_map_more as_line [] lines fields

-- numbers are printed as they are written
pub numbers_line : (word : List ℕ) (m n : ℕ) → m < 2 ^ 64 → n < 2 ^ 64 → as_line (word ∷ decimal m ∷ decimal n ∷ []) ≡ as_line (word ∷ digits m ∷ digits n ∷ [])
numbers_line word m n first second =
    ap (λ t. as_line (word ∷ t ∷ decimal n ∷ [])) (sym (digits_decimal_is m first)) ∙ ap (λ t. as_line (word ∷ digits m ∷ t ∷ [])) (sym (digits_decimal_is n second))

pub post_line : (p : Posting) → p.number < 2 ^ 64 → SFits w64 p.amount → as_line (codes "post" ∷ decimal p.number ∷ signed_decimal (to_z w64 (of_z w64 p.amount)) ∷ []) ≡ as_line (post_fields p)
post_line p first second =
    rw to_z-of_z (ap (λ t. as_line (codes "post" ∷ t ∷ signed_decimal p.amount ∷ [])) (sym (digits_decimal_is p.number first))) ∙ ap (λ t. as_line (codes "post" ∷ digits p.number ∷ t ∷ [])) (signed_is p.amount second)
  where
    signed_is : (z : ℤ) → SFits w64 z → signed_decimal z ≡ signed_digits z
    signed_is (pos n) fits = sym (digits_decimal_is n (omega (arith, ints)))
    signed_is (negsuc n) fits = ap (λ t. 45 ∷ t) (sym (digits_decimal_is (suc n) (omega (arith, ints))))

-- a piece written behind the text that a buffer begins with
pub begins_more : (text start out piece : List ℕ) (at size : ℕ) → size ≡ length piece → Begins text at out start → Begins (text ++ piece) (at + size) (put_mid at size out piece) start
begins_more text start out piece at size long b =
    let front : take at out ≡ text = ap (take at) b.holds ∙ take_at text (drop at start) at (sym b.long) in
    let behind : drop size (drop at out) ≡ drop (at + size) start =
    ap (λ l. drop size (drop at l)) b.holds ∙ ap (drop size) (drop_at text (drop at start) at (sym b.long)) ∙ drop-drop size at start in
    record {
      long = omega (arith, length-append text piece, b.long);
      holds = ap (λ l. l ++ (piece ++ drop size (drop at out))) front ∙ ap (λ l. text ++ (piece ++ l)) behind ∙ sym (append_assoc text piece (drop (at + size) start));
    }

-- the same text said in another way
pub begins_as : (text other start out : List ℕ) (size : ℕ) → text ≡ other → Begins text size out start → Begins other size out start
begins_as text other start out size same b = subst (λ t. Begins t size out start) same b

-- a buffer begins with nothing
pub begins_none : (out : List ℕ) → Begins [] 0 out out
begins_none out = record { long = refl; holds = refl }

-- two pieces, one behind the other
pub begins_twice : (first second start entry between exit : List ℕ) (at middle end : ℕ) → ((text start : List ℕ) → Begins text at entry start → Begins (text ++ first) middle between start) → ((text start : List ℕ) → Begins text middle between start → Begins (text ++ second) end exit start) → (text : List ℕ) → Begins text at entry start → Begins (text ++ (first ++ second)) end exit start
begins_twice first second start entry between exit at middle end one two text b =
    begins_as ((text ++ first) ++ second) (text ++ (first ++ second)) start exit end (append_assoc text first second) (two (text ++ first) start (one text start b))
