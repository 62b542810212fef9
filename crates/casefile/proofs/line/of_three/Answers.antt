use Rattle.std.proofs.Common.{codes, arith, rules}
use Rattle.casefile.specs.LineKinds.{kind_of_three}
use Rattle.casefile.proofs.Wording.{looked_up}
use Rattle.casefile.proofs.line.of_three.Goals as goal

pub returns-in-amend : goal.returns-in-amend
returns-in-amend c = record { result = looked_up (λ word. kind_of_three word c.args.first.now c.args.second.now) c.args.word.now (codes "amend") (omega arith) (search rules) }

pub returns-in-compare : goal.returns-in-compare
returns-in-compare c = record { result = looked_up (λ word. kind_of_three word c.args.first.now c.args.second.now) c.args.word.now (codes "compare") (omega arith) (search rules) }
