-- A text is read as a number exactly if it is the text of that number. Assumes nothing.
use Rattle.std.proofs.Common.{◌≡◌, ℕ, zero, suc, ◌+◌, ◌-◌, ◌*◌, ◌/◌, ◌%◌, ◌^◌, ◌<◌, ◌≤◌, true, false, cond, not, ◌&&◌, eqb, leb, List, [], ◌∷◌, ◌++◌, length, get_or, drop, Some, None, decimal, Option, sym, refl, ap, ◌∙◌, subst, add-one, arith, rules}
use Rattle.std.proofs.lemmas.Bool.{cond_both, cond-true, cond-false, and_from, and_parts, le-leb, leb-true, eq-eqb, ne_eqb, not-true, both_ways, and_right, lt-leb}
use Rattle.std.proofs.lemmas.List.{at_drop_more, at_drop_all}
use Rattle.std.proofs.lemmas.Str.Parse.{IsNumeralModel, IsDigitsTest, FoldsDigits, numerals_by_fold}
use Rattle.std.proofs.lemmas.Fmt.{AppendsLastDigit, decimal_from_appends, length-decimal-le_succ, decimal-digits_value, digits_value-decimal, digits_decimal, first_decimal, decimal_nonempty, decimal_digit, decimal_step, length-decimal-le}
use Rattle.casefile.specs.Decimal.{digit, last_digits, digits, is_decimal_digit, all_digits, needless_zero, is_number, value_after, number_in, ReadsBack, NumberLaws}

tells_all_digits : IsDigitsTest (λ ds. all_digits ds ≡ true)
tells_all_digits = search rules

folds_value : FoldsDigits value_after
folds_value = search rules

own : IsNumeralModel (λ ds. all_digits ds ≡ true) (value_after 0)
own = numerals_by_fold _ tells_all_digits value_after folds_value

spells : AppendsLastDigit last_digits
spells = search rules

pub digits_decimal_is : (n : ℕ) → n < 2 ^ 64 → digits n ≡ decimal n
digits_decimal_is n small = decimal_from_appends last_digits spells (suc n) n small (rw add-one at (length-decimal-le_succ n small))

-- a number below ten is one digit
pub digits_one : (n : ℕ) → n < 10 → digits n ≡ digit n ∷ []
digits_one n small = digits_decimal_is n (omega arith) ∙ decimal_digit n small

-- any other is the digits of its tenth part, and then its last digit
pub digits_more : (n : ℕ) → 10 ≤ n → n < 2 ^ 64 → digits n ≡ digits (n / 10) ++ digit (n % 10) ∷ []
digits_more n large small =
    digits_decimal_is n small ∙ decimal_step n large small ∙ ap (λ ds. ds ++ digit (n % 10) ∷ []) (sym (digits_decimal_is (n / 10) (omega arith)))

-- a number below a power of ten has at most so many digits
pub digits_few : (k n : ℕ) → 0 < k → n < 10 ^ k → n < 2 ^ 64 → length (digits n) ≤ k
digits_few k n some few small = rw (digits_decimal_is n small) (length-decimal-le k n some few small)

-- the text of a number is digits
pub digits_all : (n : ℕ) → n < 2 ^ 64 → all_digits (digits n) ≡ true
digits_all n small = ap all_digits (digits_decimal_is n small) ∙ digits_decimal own n small

-- a number has a digit, and a zero in front only where it stands alone
alone : (text : List ℕ) → needless_zero text ≡ false → 0 < length text → get_or text 0 0 ≡ 48 → length text ≡ 1
alone [] none some zero_first = absurd (omega arith)
alone (b ∷ []) none some zero_first = refl
alone (b ∷ next ∷ bs) none some zero_first = absurd (both_ways (eqb b 48) none (eq-eqb b 48 zero_first))

not_needless : (text : List ℕ) → (get_or text 0 0 ≡ 48 → length text ≡ 1) → needless_zero text ≡ false
not_needless [] h = refl
not_needless (b ∷ []) h = refl
not_needless (b ∷ next ∷ bs) h = ne_eqb b 48 (λ zero_first. omega (arith, h zero_first))

record Parts (text : List ℕ) : Type 0 where
  some : 0 < length text
  plain : needless_zero text ≡ false
  all : all_digits text ≡ true

parts_of : (text : List ℕ) → is_number text ≡ true → Parts text
parts_of [] e = absurd (both_ways false refl e)
parts_of (b ∷ bs) e =
    let p = and_parts (not (needless_zero (b ∷ bs))) (all_digits (b ∷ bs)) e in
    record { some = omega arith; plain = not-true _ p.0; all = p.1 }

-- where there is a byte and no needless zero, a text is a number if all its bytes are digits
is_number_plain : (text : List ℕ) → 0 < length text → needless_zero text ≡ false → is_number text ≡ all_digits text
is_number_plain [] some plain = absurd (omega arith)
is_number_plain (b ∷ bs) some plain = ap (λ v. not v && all_digits (b ∷ bs)) plain

only_written : (text : List ℕ) (limit : ℕ) → limit < 2 ^ 64 → (n : ℕ) → number_in text limit ≡ Some n → (text ≡ digits n) × (n ≤ limit)
only_written text limit small n =
    let value = value_after 0 text in
    cond_both (is_number text && leb value limit) (Some value) None (λ o. o ≡ Some n → (text ≡ digits n) × (n ≤ limit))
    (λ e read.
    let both = and_parts (is_number text) (leb value limit) e in
    let p = parts_of text both.0 in
    let same : value ≡ n = cc in
    let within : value ≤ limit = leb-true value limit both.1 in
    let written : text ≡ digits value = sym (digits_decimal_is value (omega arith) ∙ decimal-digits_value own text p.all p.some (alone text p.plain p.some) (omega arith)) in
    (written ∙ ap digits same, omega arith))
    (λ e read. cc)

first_alone : (n : ℕ) → n < 2 ^ 64 → get_or (decimal n) 0 0 ≡ 48 → length (decimal n) ≡ 1
first_alone zero small first = ap length (decimal_digit 0 (omega arith))
first_alone (suc n) small first = absurd (omega (arith, first_decimal (suc n) (omega arith) small))

decimal_number : (n : ℕ) → n < 2 ^ 64 → is_number (decimal n) ≡ true
decimal_number n small =
    is_number_plain (decimal n) (decimal_nonempty n small) (not_needless (decimal n) (first_alone n small))
    ∙ digits_decimal own n small

all_written : (text : List ℕ) (limit : ℕ) → limit < 2 ^ 64 → (n : ℕ) → text ≡ digits n → n ≤ limit → number_in text limit ≡ Some n
all_written text limit small n e within =
    let fits : n < 2 ^ 64 = omega arith in
    let as_decimal : text ≡ decimal n = e ∙ digits_decimal_is n fits in
    let number : is_number text ≡ true = ap is_number as_decimal ∙ decimal_number n fits in
    let value : value_after 0 text ≡ n = ap (value_after 0) as_decimal ∙ digits_value-decimal own n fits in
    cond-true (is_number text && leb (value_after 0 text) limit) (Some (value_after 0 text)) None
    (and_from (is_number text) (leb (value_after 0 text) limit) number (le-leb (value_after 0 text) limit (omega arith)))
    ∙ ap Some value

pub number_laws : NumberLaws
number_laws text limit small = record { only_written = only_written text limit small; all_written = all_written text limit small }

-- an answer that is the number in a text reads back
pub reads_back : (text : List ℕ) (limit : ℕ) (read : Option ℕ) → limit < 2 ^ 64 → read ≡ number_in text limit → ReadsBack text limit read
reads_back text limit read small e = subst (ReadsBack text limit) (sym e) (number_laws text limit small)

-- the number that the digits still to come write behind the number already read, if it is at most the limit
abbrev pub read_on : ℕ → ℕ → List ℕ → Option ℕ
read_on limit n rest = cond (all_digits rest && leb (value_after n rest) limit) (Some (value_after n rest)) None

pub read_start : (text : List ℕ) (limit : ℕ) → 0 < length text → needless_zero text ≡ false → read_on limit 0 text ≡ number_in text limit
read_start text limit some plain =
    ap (λ v. cond (v && leb (value_after 0 text) limit) (Some (value_after 0 text)) None) (sym (is_number_plain text some plain))

at_place : (limit n : ℕ) (text : List ℕ) (i : ℕ) → i < length text → read_on limit n (drop i text) ≡ read_on limit n (get_or text i 0 ∷ drop (i + 1) text)
at_place limit n text i within = at_drop_more (read_on limit n) text i 0 within

-- a digit is added to the number
pub read_digit : (limit n : ℕ) (text : List ℕ) (i : ℕ) → i < length text → is_decimal_digit (get_or text i 0) ≡ true → read_on limit n (drop i text) ≡ read_on limit (n * 10 + (get_or text i 0 - 48)) (drop (i + 1) text)
read_digit limit n text i within e =
    let rest = drop (i + 1) text in
    let value = value_after (n * 10 + (get_or text i 0 - 48)) rest in
    at_place limit n text i within
    ∙ ap (λ v. cond ((v && all_digits rest) && leb value limit) (Some value) None) e

-- another byte ends it
pub read_other : (limit n : ℕ) (text : List ℕ) (i : ℕ) → i < length text → is_decimal_digit (get_or text i 0) ≡ false → read_on limit n (drop i text) ≡ None
read_other limit n text i within e =
    let rest = drop (i + 1) text in
    let value = value_after (n * 10 + (get_or text i 0 - 48)) rest in
    at_place limit n text i within
    ∙ ap (λ v. cond ((v && all_digits rest) && leb value limit) (Some value) None) e

value_grows : (n : ℕ) (bs : List ℕ) → n ≤ value_after n bs
value_grows n [] = omega arith
value_grows n (b ∷ bs) = omega (arith, value_grows (n * 10 + (b - 48)) bs)

-- a number above the limit stays above it
pub read_above : (limit n : ℕ) (rest : List ℕ) → limit < n → read_on limit n rest ≡ None
read_above limit n rest above =
    cond-false (all_digits rest && leb (value_after n rest) limit) (Some (value_after n rest)) None
    (and_right (all_digits rest) (leb (value_after n rest) limit) (lt-leb (value_after n rest) limit (omega (arith, value_grows n rest))))

-- with no byte left, the number is read
pub read_end : (limit n : ℕ) (text : List ℕ) (i : ℕ) → length text ≤ i → n ≤ limit → read_on limit n (drop i text) ≡ Some n
read_end limit n text i all within =
    at_drop_all (read_on limit n) text i all
    ∙ cond-true (leb n limit) (Some n) None (le-leb n limit within)
