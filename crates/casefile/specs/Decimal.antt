-- Numbers as they are written: decimal digits, with no needless zero in front. Assumes nothing.
use Rattle.std.specs.Prelude.{◌≡◌, ℕ, zero, suc, ◌+◌, ◌-◌, ◌*◌, ◌/◌, ◌%◌, ◌^◌, ◌<◌, ◌≤◌, Bool, true, false, cond, not, ◌&&◌, List, [], ◌∷◌, ◌++◌, Some, None, Option, ◌==◌, nat_le, nat_lt}

-- the byte of a digit, '0' to '9'
abbrev pub digit : ℕ → ℕ
digit d = 48 + d

-- the digits of a number, at most so many: those of its tenth part, and then its last one
abbrev pub last_digits : ℕ → ℕ → List ℕ
last_digits zero n = []
last_digits (suc most) n = cond (nat_lt n 10) (digit n ∷ []) (last_digits most (n / 10) ++ digit (n % 10) ∷ [])

-- the text of a number, which never has more digits than the number and one
abbrev pub digits : ℕ → List ℕ
digits n = last_digits (suc n) n

-- whether a byte is a digit
abbrev pub is_decimal_digit : ℕ → Bool
is_decimal_digit b = nat_le 48 b && nat_le b 57

-- whether all bytes are digits
abbrev pub all_digits : List ℕ → Bool
all_digits [] = true
all_digits (b ∷ bs) = is_decimal_digit b && all_digits bs

-- whether a zero stands in front of more digits
abbrev pub needless_zero : List ℕ → Bool
needless_zero [] = false
needless_zero (b ∷ []) = false
needless_zero (b ∷ next ∷ bs) = b == 48

-- whether a text is a number: some digits, with no needless zero in front
abbrev pub is_number : List ℕ → Bool
is_number [] = false
is_number (b ∷ bs) = not (needless_zero (b ∷ bs)) && all_digits (b ∷ bs)

-- the number that digits write behind a number already read
abbrev pub value_after : ℕ → List ℕ → ℕ
value_after n [] = n
value_after n (b ∷ bs) = value_after (n * 10 + (b - 48)) bs

-- the number that a text writes, if it is a number and at most the limit
abbrev pub number_in : List ℕ → ℕ → Option ℕ
number_in text limit = cond (is_number text && nat_le (value_after 0 text) limit) (Some (value_after 0 text)) None

-- a text is read as a number exactly if it is the text of that number, and the number is at most the limit
pub record ReadsBack (text : List ℕ) (limit : ℕ) (read : Option ℕ) : Type 0 where
  pub only_written : (n : ℕ) → read ≡ Some n → (text ≡ digits n) × (n ≤ limit)
  pub all_written : (n : ℕ) → text ≡ digits n → n ≤ limit → read ≡ Some n

-- reading gives back what writing gives, and nothing else is read
abbrev pub NumberLaws : Type 0
NumberLaws = (text : List ℕ) (limit : ℕ) → limit < 2 ^ 64 → ReadsBack text limit (number_in text limit)
