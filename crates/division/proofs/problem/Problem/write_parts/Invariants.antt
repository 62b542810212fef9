use Rattle.std.proofs.Common.{◌≡◌, map, take}
use Rattle.division.proofs.problem.Problem.write_parts.Given as goal

abbrev pub invariant-loop-place : goal.invariant-loop-place
invariant-loop-place g l = take l.place l.out ≡ map (g.S.Share.base l.share) (take l.place l.self.claims.now)
