use Rattle.std.proofs.Common.{◌+◌, arith, rules}
use Rattle.division.specs.AmountLaws.{total_more}
use Rattle.operators.proofs.Sums.{total-take}
use Rattle.operators.proofs.amounts.total_of.Goals as goal

pub overflow_add-sum : goal.overflow_add-sum
overflow_add-sum c =
    let amounts = c.args.amounts.now in
    let place = c.loop-place._place in
    omega (arith, total_more amounts place (omega arith), total-take (place + 1) amounts)

pub loop-place-preserved : goal.loop-place-preserved
loop-place-preserved c = search (rules, total_more)
