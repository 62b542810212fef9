-- Sums of a list's front. Assumes nothing.
use Rattle.std.proofs.Common.{ℕ, zero, suc, ◌≤◌, List, [], ◌∷◌, take, arith}
use Rattle.division.specs.Amounts.{total}

pub total-take : (i : ℕ) (xs : List ℕ) → total (take i xs) ≤ total xs
total-take zero xs = omega arith
total-take (suc i) [] = omega arith
total-take (suc i) (x ∷ xs) = omega (arith, total-take i xs)
