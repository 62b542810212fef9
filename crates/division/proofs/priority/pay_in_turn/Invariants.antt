use Rattle.std.proofs.Common.{◌≡◌, ◌++◌, take, drop}
use Rattle.division.specs.Priority.{priority}
use Rattle.division.proofs.priority.pay_in_turn.Given as goal

abbrev pub invariant-loop-i : goal.invariant-loop-i
invariant-loop-i l = take l.i l.out ++ priority (drop l.i l.claims) l.left ≡ priority l.claims l.estate
