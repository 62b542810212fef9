use Rattle.division.specs.Amounts.{plus}
use Rattle.operators.proofs.Writes.{Partly}
use Rattle.operators.proofs.amounts.add_to.Given as goal

abbrev pub invariant-loop-place : goal.invariant-loop-place
invariant-loop-place l = Partly (plus l.amounts l.initial.awards) l.initial.awards l.awards l.place
