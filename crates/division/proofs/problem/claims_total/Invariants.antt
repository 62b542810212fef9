use Rattle.std.proofs.Common.{◌≡◌, ◌*◌, ◌≤◌, take}
use Rattle.division.specs.Amounts.{total}
use Rattle.division.proofs.problem.claims_total.Given as goal

abbrev pub invariant-loop-place : goal.invariant-loop-place
invariant-loop-place l = (l.sum ≡ total (take l._place l.claims)) × (l.sum ≤ 4294967295 * l._place)
