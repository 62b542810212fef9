use Rattle.std.proofs.Common.{◌≡◌, ℕ, map, take}
use Rattle.operators.proofs.amounts.of_each.Given as goal

abbrev pub invariant-loop-place : goal.invariant-loop-place
invariant-loop-place g l =
    (f : ℕ → ℕ) → ((c a : ℕ) → g.F.Fn.post l.amount (c, tt) a → a ≡ f c) → take l.place l.out ≡ map f (take l.place l.problem.claims.now)
