use Rattle.std.proofs.Common.{rules}
use Rattle.cases.proofs.Histories.{continues}
use Rattle.cases.proofs.case.Case.fund.Goals as goal

pub returns-in_err-check_fund-clause-history : goal.returns-in_err-check_fund-clause-history
returns-in_err-check_fund-clause-history c = continues _ _ _ (search rules)

pub returns-clause-history : goal.returns-clause-history
returns-clause-history c = continues _ _ _ (search rules)
