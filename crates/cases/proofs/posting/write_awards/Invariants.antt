use Rattle.std.proofs.Common.{◌≡◌, take}
use Rattle.cases.specs.Rows.{with_awards}
use Rattle.cases.proofs.posting.write_awards.Given as goal

abbrev pub invariant-loop-i : goal.invariant-loop-i
invariant-loop-i l = l.rows ≡ with_awards (take l.i l.awards) l.initial.rows
