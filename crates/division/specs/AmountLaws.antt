-- What holds of lists of amounts: their lengths, what stands at a place, and what they add up to. Assumes nothing.
-- A place past the end of a list counts as 0, so that no law on places needs a bound.
use Rattle.std.specs.Prelude.{◌≡◌, ℕ, zero, suc, ◌+◌, ◌-◌, ◌<◌, ◌≤◌, min, List, [], ◌∷◌, ◌++◌, length, take, slice_index, refl}
use Rattle.std.proofs.Common.{ap, ◌∙◌, append-nil, add-one, arith, ext_get_or}
use Rattle.std.specs.List.{refill}
use Rattle.std.proofs.lemmas.List.{drop_all, take_all}
use Rattle.division.specs.Amounts.{total, less, less_over, cut, plus, nothing}

-- at every place the first list has no more than the second
abbrev pub Within : List ℕ → List ℕ → Type 0
Within xs ys = (i : ℕ) → slice_index xs i ≤ slice_index ys i

pub length-less : (xs ys : List ℕ) → length (less xs ys) ≡ length xs
length-less [] ys = refl
length-less (x ∷ xs) [] = refl
length-less (x ∷ xs) (y ∷ ys) = ap suc (length-less xs ys)

pub slice_index-less : (xs ys : List ℕ) (i : ℕ) → slice_index (less xs ys) i ≡ slice_index xs i - slice_index ys i
slice_index-less [] ys i = omega arith
slice_index-less (x ∷ xs) [] i = omega arith
slice_index-less (x ∷ xs) (y ∷ ys) zero = refl
slice_index-less (x ∷ xs) (y ∷ ys) (suc i) = slice_index-less xs ys i

-- over a list as long, it is the first list less the second
pub less_over_same : (xs ys : List ℕ) → length xs ≡ length ys → less_over xs ys ≡ less xs ys
less_over_same [] [] e = refl
less_over_same [] (y ∷ ys) e = absurd (omega arith)
less_over_same (x ∷ xs) [] e = absurd (omega arith)
less_over_same (x ∷ xs) (y ∷ ys) e = ap (λ zs. (x - y) ∷ zs) (less_over_same xs ys (omega arith))

pub length-less_over : (xs ys : List ℕ) → length (less_over xs ys) ≡ length ys
length-less_over xs [] = refl
length-less_over [] (y ∷ ys) = refl
length-less_over (x ∷ xs) (y ∷ ys) = ap suc (length-less_over xs ys)

pub less_over_inside : (xs ys : List ℕ) (i : ℕ) → i < length xs → i < length ys → slice_index (less_over xs ys) i ≡ slice_index xs i - slice_index ys i
less_over_inside xs [] i h k = absurd (omega arith)
less_over_inside [] (y ∷ ys) i h k = absurd (omega arith)
less_over_inside (x ∷ xs) (y ∷ ys) zero h k = refl
less_over_inside (x ∷ xs) (y ∷ ys) (suc i) h k = less_over_inside xs ys i (omega arith) (omega arith)

pub less_over_behind : (xs ys : List ℕ) (i : ℕ) → length xs ≤ i → slice_index (less_over xs ys) i ≡ slice_index ys i
less_over_behind xs [] i h = refl
less_over_behind [] (y ∷ ys) i h = refl
less_over_behind (x ∷ xs) (y ∷ ys) zero h = absurd (omega arith)
less_over_behind (x ∷ xs) (y ∷ ys) (suc i) h = less_over_behind xs ys i (omega arith)

pub length-cut : (cap : ℕ) (xs : List ℕ) → length (cut cap xs) ≡ length xs
length-cut cap [] = refl
length-cut cap (x ∷ xs) = ap suc (length-cut cap xs)

pub slice_index-cut : (cap : ℕ) (xs : List ℕ) (i : ℕ) → slice_index (cut cap xs) i ≡ min (slice_index xs i) cap
slice_index-cut cap [] i = omega arith
slice_index-cut cap (x ∷ xs) zero = refl
slice_index-cut cap (x ∷ xs) (suc i) = slice_index-cut cap xs i

pub length-plus : (xs ys : List ℕ) → length xs ≡ length ys → length (plus xs ys) ≡ length xs
length-plus [] [] e = refl
length-plus [] (y ∷ ys) e = absurd (omega arith)
length-plus (x ∷ xs) [] e = refl
length-plus (x ∷ xs) (y ∷ ys) e = ap suc (length-plus xs ys (omega arith))

pub slice_index-plus : (xs ys : List ℕ) (i : ℕ) → slice_index (plus xs ys) i ≡ slice_index xs i + slice_index ys i
slice_index-plus [] ys i = omega arith
slice_index-plus (x ∷ xs) [] i = omega arith
slice_index-plus (x ∷ xs) (y ∷ ys) zero = refl
slice_index-plus (x ∷ xs) (y ∷ ys) (suc i) = slice_index-plus xs ys i

pub length-nothing : (xs : List ℕ) → length (nothing xs) ≡ length xs
length-nothing [] = refl
length-nothing (x ∷ xs) = ap suc (length-nothing xs)

pub slice_index-nothing : (xs : List ℕ) (i : ℕ) → slice_index (nothing xs) i ≡ 0
slice_index-nothing [] i = refl
slice_index-nothing (x ∷ xs) zero = refl
slice_index-nothing (x ∷ xs) (suc i) = slice_index-nothing xs i

pub total-nothing : (xs : List ℕ) → total (nothing xs) ≡ 0
total-nothing [] = refl
total-nothing (x ∷ xs) = omega (arith, total-nothing xs)

pub total-plus : (xs ys : List ℕ) → total (plus xs ys) ≡ total xs + total ys
total-plus [] ys = omega arith
total-plus (x ∷ xs) [] = omega arith
total-plus (x ∷ xs) (y ∷ ys) = omega (arith, total-plus xs ys)

pub total-within : (xs ys : List ℕ) → Within xs ys → total xs ≤ total ys
total-within [] ys h = omega arith
total-within (x ∷ xs) [] h =
    let rest : total xs ≤ 0 = total-within xs [] (λ i. h (suc i)) in
    omega (arith, h 0)
total-within (x ∷ xs) (y ∷ ys) h = omega (arith, h 0, total-within xs ys (λ i. h (suc i)))

pub total-less : (xs ys : List ℕ) → Within ys xs → total (less xs ys) + total ys ≡ total xs
total-less [] ys h = omega (arith, total-within ys [] h)
total-less (x ∷ xs) [] h = omega arith
total-less (x ∷ xs) (y ∷ ys) h = omega (arith, h 0, total-less xs ys (λ i. h (suc i)))

-- an amount is no more than what its list adds up to
pub slice_index-total : (xs : List ℕ) (i : ℕ) → slice_index xs i ≤ total xs
slice_index-total [] i = omega arith
slice_index-total (x ∷ xs) zero = omega arith
slice_index-total (x ∷ xs) (suc i) = omega (arith, slice_index-total xs i)

-- lists as long as each other with the same amount at each place are the same
pub same_amounts : (xs ys : List ℕ) → length xs ≡ length ys → ((i : ℕ) → slice_index xs i ≡ slice_index ys i) → xs ≡ ys
same_amounts xs ys e h = ext_get_or 0 xs ys e (λ i _. h i)

total_suc : (xs : List ℕ) (i : ℕ) → i < length xs → total (take (suc i) xs) ≡ total (take i xs) + slice_index xs i
total_suc [] i h = absurd (omega arith)
total_suc (x ∷ xs) zero h = omega arith
total_suc (x ∷ xs) (suc i) h = omega (arith, total_suc xs i (omega arith))

-- one amount more
pub total_more : (xs : List ℕ) (i : ℕ) → i < length xs → total (take (i + 1) xs) ≡ total (take i xs) + slice_index xs i
total_more xs i h = rw (add-one i) (total_suc xs i h)

-- nothing is the same for lists as long as each other
pub nothing_same : (xs ys : List ℕ) → length xs ≡ length ys → nothing xs ≡ nothing ys
nothing_same [] [] e = refl
nothing_same [] (y ∷ ys) e = absurd (omega arith)
nothing_same (x ∷ xs) [] e = absurd (omega arith)
nothing_same (x ∷ xs) (y ∷ ys) e = ap (λ zs. 0 ∷ zs) (nothing_same xs ys (omega arith))

-- amounts that add up to nothing are nothing
pub nothing_left : (xs : List ℕ) → total xs ≡ 0 → xs ≡ nothing xs
nothing_left [] e = refl
nothing_left (x ∷ xs) e =
    let none : x ≡ 0 = omega arith in
    ap (λ z. z ∷ xs) none ∙ ap (λ zs. 0 ∷ zs) (nothing_left xs (omega arith))

-- a buffer written over from end to end holds what was written
pub refilled : (before after : List ℕ) → length after ≡ length before → refill (length before) before after ≡ after
refilled before after e =
    ap (λ l. take (length before) (after ++ l)) (drop_all (length after) before (omega arith))
    ∙ ap (take (length before)) (append-nil after)
    ∙ take_all (length before) after (omega arith)
