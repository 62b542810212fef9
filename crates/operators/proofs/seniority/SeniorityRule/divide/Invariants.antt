use Rattle.operators.specs.Classes.{order_of}
use Rattle.operators.proofs.Turns.{SoFar}
use Rattle.operators.proofs.seniority.SeniorityRule.divide.Given as goal

abbrev pub invariant-loop-class : goal.invariant-loop-class
invariant-loop-class g l = SoFar (order_of l.self.order) l.self.classes (g.R.Rule.awards l.self.rule) l.problem.claims.now l.problem.estate l.class-index l.out l.left
