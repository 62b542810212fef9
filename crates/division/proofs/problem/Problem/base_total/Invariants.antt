use Rattle.std.proofs.Common.{◌≡◌, ◌*◌, ◌≤◌, map, take}
use Rattle.division.specs.Amounts.{total}
use Rattle.division.proofs.problem.Problem.base_total.Given as goal

abbrev pub invariant-loop-place : goal.invariant-loop-place
invariant-loop-place g l = (l.sum ≡ total (map (g.S.Share.base l.share) (take l._place l.self.claims.now))) × (l.sum ≤ 4294967295 * l._place)
