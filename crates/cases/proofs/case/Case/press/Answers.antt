use Rattle.std.proofs.Common.{rules}
use Rattle.cases.proofs.Histories.{continues}
use Rattle.cases.proofs.case.Case.press.Goals as goal

pub returns-in_err-press_all-clause-history : goal.returns-in_err-press_all-clause-history
returns-in_err-press_all-clause-history c = continues _ _ _ (search rules)

pub returns-then-is_out-clause-history : goal.returns-then-is_out-clause-history
returns-then-is_out-clause-history c = continues _ _ _ (search rules)

pub returns-clause-history : goal.returns-clause-history
returns-clause-history c = continues _ _ _ (search rules)
