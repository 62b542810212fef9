use Rattle.std.proofs.Common.{◌≡◌, ◌++◌, take, drop}
use Rattle.division.specs.Units.{topped_up}
use Rattle.division.proofs.share.hand_out.Given as goal

abbrev pub invariant-loop-place : goal.invariant-loop-place
invariant-loop-place g l =
    let base = g.S.Share.base l.share in
    let marked = g.S.Share.marked l.share in
    take l.place l.out ++ topped_up base marked l.left (drop l.place l.problem.claims.now) ≡ topped_up base marked l.units l.problem.claims.now
