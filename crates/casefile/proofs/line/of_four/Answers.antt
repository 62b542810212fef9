use Rattle.std.proofs.Common.{codes, arith, rules}
use Rattle.casefile.specs.LineKinds.{kind_of_four}
use Rattle.casefile.proofs.Wording.{looked_up}
use Rattle.casefile.proofs.line.of_four.Goals as goal

pub returns-in-claim : goal.returns-in-claim
returns-in-claim c = record { result = looked_up (λ word. kind_of_four word c.args.first.now c.args.second.now c.args.third.now) c.args.word.now (codes "claim") (omega arith) (search rules) }
