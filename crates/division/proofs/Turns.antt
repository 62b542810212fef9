-- What the loops over the claims add up, count and find. Assumes nothing.
use Rattle.std.proofs.Common.{◌≡◌, ℕ, zero, suc, ◌+◌, ◌<◌, max, Bool, true, false, cond, List, [], ◌∷◌, map, fold, count_by, length, get_or, take, refl, add-one, arith}
use Rattle.std.proofs.lemmas.List.Recursion.{is_count_by}
use Rattle.division.specs.Amounts.{total}
use Rattle.division.specs.EqualAwards.{largest}
use Rattle.division.specs.Units.{how_many}

module _ (base : ℕ → ℕ) where
  total_map_suc : (xs : List ℕ) (i : ℕ) → i < length xs → total (map base (take (suc i) xs)) ≡ total (map base (take i xs)) + base (get_or xs i 0)
  total_map_suc [] i h = absurd (omega arith)
  total_map_suc (x ∷ xs) zero h = omega arith
  total_map_suc (x ∷ xs) (suc i) h = omega (arith, total_map_suc xs i (omega arith))

  pub total_map_more : (xs : List ℕ) (i : ℕ) → i < length xs → total (map base (take (i + 1) xs)) ≡ total (map base (take i xs)) + base (get_or xs i 0)
  total_map_more xs i h = rw (add-one i) (total_map_suc xs i h)

one_more : (b : Bool) (n : ℕ) → cond b 1 0 + n ≡ cond b (1 + n) n
one_more true n = refl
one_more false n = omega arith

-- the marked claims are counted one by one
pub how_many_counted : (marked : ℕ → Bool) (xs : List ℕ) → how_many marked xs ≡ count_by marked xs
how_many_counted marked = is_count_by (how_many marked) marked refl (λ x xs. one_more (marked x) (how_many marked xs))

largest_from : (most : ℕ) (xs : List ℕ) → fold max most xs ≡ max most (largest xs)
largest_from most [] = omega arith
largest_from most (x ∷ xs) = omega (arith, largest_from (max most x) xs)

-- the largest claim is found by going through them all
pub largest_folded : (xs : List ℕ) → largest xs ≡ fold max 0 xs
largest_folded xs = omega (arith, largest_from 0 xs)
