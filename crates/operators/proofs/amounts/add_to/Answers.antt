use Rattle.std.proofs.Common.{arith}
use Rattle.division.specs.Amounts.{plus}
use Rattle.division.specs.AmountLaws.{length-plus, slice_index-plus, slice_index-total}
use Rattle.operators.proofs.Writes.{partly_more, partly_all}
use Rattle.operators.proofs.amounts.add_to.Goals as goal

pub overflow_add-awards : goal.overflow_add-awards
overflow_add-awards c =
    let place = c.loop-place.place in
    omega (arith, c.loop-place.invariant.above place (omega arith), slice_index-total c.args.amounts.now place, slice_index-total c.args.awards.now place)

pub loop-place-preserved : goal.loop-place-preserved
loop-place-preserved c =
    let amounts = c.args.amounts.now in
    let awards = c.args.awards.now in
    let place = c.loop-place.place in
    partly_more (plus amounts awards) awards c.loop-place.awards place _ c.loop-place.invariant (omega arith)
    (omega (arith, slice_index-plus amounts awards place, c.loop-place.invariant.above place (omega arith)))

pub returns : goal.returns
returns c =
    let amounts = c.args.amounts.now in
    let awards = c.args.awards.now in
    let long = length-plus amounts awards (omega arith) in
    record { awards = partly_all (plus amounts awards) awards c.loop-place.awards c.loop-place.place c.loop-place.invariant (omega arith) (omega arith) }
