use Rattle.std.proofs.Common.{rules}
use Rattle.division.specs.AmountLaws.{total_more}
use Rattle.division.proofs.problem.claims_total.Goals as goal

pub loop-place-preserved : goal.loop-place-preserved
loop-place-preserved c = search (rules, total_more)
