use Rattle.std.proofs.Common.{rules}
use Rattle.cases.proofs.Histories.{no_past}
use Rattle.cases.proofs.case.Case.new.Goals as goal

pub returns-clause-history : goal.returns-clause-history
returns-clause-history c = no_past c.args.number _ (search rules)
