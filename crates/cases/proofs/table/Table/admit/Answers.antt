use Rattle.std.proofs.Common.{[], ◌∷◌, vec_items, sym, ap, ◌∙◌, subst, arith}
use Rattle.std.proofs.lemmas.List.{map-append}
use Rattle.division.specs.Amounts.{total}
use Rattle.operators.specs.Operators.{Classed}
use Rattle.cases.specs.Rows.{amounts, classes_of}
use Rattle.cases.proofs.Tables.{total_push, classed_push}
use Rattle.cases.proofs.table.Table.admit.Goals as goal

pub invariant_of-self : goal.invariant_of-self
invariant_of-self c =
    let table = c.args.self.now in
    let before = vec_items table.rows in
    let row = c.args.row in
    let after = c.push_reserved.ensures.items in
    let sums = ap (λ rows. total (amounts rows)) after ∙ ap total (map-append (λ r. r.amount) before (row ∷ [])) ∙ total_push (amounts before) row.amount in
    record {
      few = omega (arith, c.push_reserved.ensures.len, c.requires.room);
      room = omega (arith, c.push_reserved.ensures.capacity, table.room);
      small = omega (arith, c.requires.small);
      classed = subst (λ rows. Classed (classes_of rows)) (sym after) (classed_push before row table.classed c.requires.classed);
    }
