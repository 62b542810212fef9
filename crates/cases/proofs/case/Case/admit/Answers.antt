use Rattle.std.proofs.Common.{rules}
use Rattle.cases.proofs.Dues.{left_if_refused}
use Rattle.cases.proofs.Histories.{continues}
use Rattle.cases.proofs.case.Case.admit.Goals as goal

pub returns-in_err-check_admit-clause-history : goal.returns-in_err-check_admit-clause-history
returns-in_err-check_admit-clause-history c =
    continues _ _ _ (search rules, left_if_refused _ _ _ _ _ c.in_err-check_admit.ensures.result)

pub returns-clause-history : goal.returns-clause-history
returns-clause-history c = continues _ _ _ (search rules)
