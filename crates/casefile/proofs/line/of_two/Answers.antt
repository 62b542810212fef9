use Rattle.std.proofs.Common.{codes, arith, rules}
use Rattle.casefile.specs.LineKinds.{kind_of_two}
use Rattle.casefile.proofs.Wording.{looked_up}
use Rattle.casefile.proofs.line.of_two.Goals as goal

pub returns-in-press : goal.returns-in-press
returns-in-press c = record { result = looked_up (λ word. kind_of_two word c.args.first.now) c.args.word.now (codes "press") (omega arith) (search rules) }

pub returns-in-divide : goal.returns-in-divide
returns-in-divide c = record { result = looked_up (λ word. kind_of_two word c.args.first.now) c.args.word.now (codes "divide") (omega arith) (search rules) }
