use Rattle.std.proofs.Common.{◌≡◌, take}
use Rattle.division.specs.Amounts.{total}
use Rattle.operators.proofs.amounts.total_of.Given as goal

abbrev pub invariant-loop-place : goal.invariant-loop-place
invariant-loop-place l = l.sum ≡ total (take l._place l.amounts)
