use Rattle.std.proofs.Common.{◌<◌, length, get_or, take, refl, ap, subst, arith, vec_items}
use Rattle.std.specs.Fn.{FnReturnsAt}
use Rattle.std.proofs.lemmas.Fn.{says_at}
use Rattle.std.proofs.lemmas.List.{take_more, take_more_set}
use Rattle.std.proofs.lemmas.Slice.Zip.{all_zipped_more}
use Rattle.cases.specs.Rows.{no_row}
use Rattle.cases.proofs.table.Table.write_column.Goals as goal

pub loop-place-preserved : goal.loop-place-preserved
loop-place-preserved g c =
    let rows = vec_items c.args.self.now.rows in
    let place = c.loop-place.place in
    let same = ap length c.deref-row-items.ensures.value in
    let inside : place < length rows = omega (arith, c.loop-place-test.true) in
    let at : FnReturnsAt g.F.Fn c.args.of (get_or c.deref-row-items.result.now place no_row) c.of.result = says_at g.F.Fn c.of.ensures refl in
    let at-row : FnReturnsAt g.F.Fn c.args.of (get_or rows place no_row) c.of.result = subst (λ items. FnReturnsAt g.F.Fn c.args.of (get_or items place no_row) c.of.result) c.deref-row-items.ensures.value at in
    rw (take_more rows place no_row inside, take_more_set c.loop-place.out place c.of.result (omega arith))
    (all_zipped_more _ (take place rows) (take place c.loop-place.out) _ c.of.result c.loop-place.invariant at-row)
