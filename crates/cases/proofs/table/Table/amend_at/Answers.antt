use Rattle.std.proofs.Common.{◌≡◌, ◌<◌, ◌≤◌, length, get_or, set, vec_items, sym, ap, ◌∙◌, subst, arith}
use Rattle.std.proofs.lemmas.List.{get_or_read, get_or-map}
use Rattle.division.specs.Amounts.{total}
use Rattle.division.specs.Problem.{most_total}
use Rattle.operators.specs.Operators.{Classed}
use Rattle.cases.specs.Rows.{no_row, amounts, set_amount}
use Rattle.cases.proofs.Tables.{classes_amended}
use Rattle.cases.proofs.table.Table.amend_at.Goals as goal

within : (c : goal.After-self-1) → c.args.place < length (vec_items c.args.self.now.rows)
within c = omega (arith, c.requires.place, c.args.self.now.rows.ok.0)

-- the row that was lent is the one that stood there
lent : (c : goal.After-self-1) → c.index_mut-row.result.now ≡ get_or (vec_items c.args.self.now.rows) c.args.place no_row
lent c = get_or_read (vec_items c.args.self.now.rows) c.args.place c.index_mut-row.result.now (within c) c.index_mut-row.ensures.value no_row

pub invariant_of-self : goal.invariant_of-self
invariant_of-self c =
    let table = c.args.self.now in
    let rows = vec_items table.rows in
    let place = c.args.place in
    let row = c.index_mut-row.result.now in
    let class = ap (λ r. r.class) c.index_mut-row.ensures.value ∙ sym (get_or-map (λ r. r.class) rows place row row.class (within c)) in
    record {
      few = table.few;
      room = table.room;
      small = subst (λ r. total (amounts (set rows place (set_amount c.args.amount r))) ≤ most_total) (sym (lent c)) c.requires.small;
      classed = subst Classed (sym (classes_amended rows place c.args.amount row class)) table.classed;
    }
