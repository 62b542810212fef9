use Rattle.operators.specs.Operators.{of_class}
use Rattle.operators.proofs.Writes.{Partly}
use Rattle.operators.proofs.seniority.Seniority.claims_of.Given as goal

abbrev pub invariant-loop-place : goal.invariant-loop-place
invariant-loop-place g l = Partly (of_class l.class l.self.classes l.problem.claims.now) l.initial.out l.out l.place
