use Rattle.std.proofs.Common.{codes, arith, rules}
use Rattle.casefile.specs.LineKinds.{kind_of_one}
use Rattle.casefile.proofs.Wording.{looked_up}
use Rattle.casefile.proofs.line.of_one.Goals as goal

pub returns-in-return : goal.returns-in-return
returns-in-return c = record { result = looked_up kind_of_one c.args.word.now (codes "return") (omega arith) (search rules) }
