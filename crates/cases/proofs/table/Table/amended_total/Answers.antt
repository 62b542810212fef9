use Rattle.std.proofs.Common.{◌≡◌, vec_items, get_or, sym, ap, ◌∙◌, arith}
use Rattle.std.proofs.lemmas.List.{get_or_read}
use Rattle.division.specs.Amounts.{total}
use Rattle.cases.specs.Rows.{no_row, amounts}
use Rattle.cases.proofs.Searches.{amount_at, amount_nowhere, total-amended, amount_within}
use Rattle.cases.proofs.table.Table.amended_total.Goals as goal

-- the amount that is taken off is that of the row found
taken : (c : goal.After-from) → c.from.result ≡ (get_or (vec_items c.args.self.now.rows) c.in-Some.place no_row).amount
taken c =
    let rows = vec_items c.args.self.now.rows in
    c.from.ensures ∙ ap (λ row. row.amount) (get_or_read rows c.in-Some.place c.index.result.now c.in-Some.ensures.result.0 c.index.ensures no_row)

pub overflow_sub-result : goal.overflow_sub-result
overflow_sub-result c = omega (arith, taken c, amount_within (vec_items c.args.self.now.rows) c.in-Some.place)

pub returns-in-Some : goal.returns-in-Some
returns-in-Some c =
    let rows = vec_items c.args.self.now.rows in
    let place = c.in-Some.place in
    let found = c.in-Some.ensures.result in
    record {
      result = omega (arith, taken c.before, total-amended rows place c.args.amount found.0, amount_within rows place)
          ∙ ap (λ l. total (amounts l)) (sym (amount_at rows c.args.number c.args.amount place found));
    }

pub returns-in-None : goal.returns-in-None
returns-in-None c =
    let rows = vec_items c.args.self.now.rows in
    record { result = c.total_amount-sum.ensures.result ∙ ap (λ l. total (amounts l)) (sym (amount_nowhere rows c.args.number c.args.amount c.in-None.ensures.result)) }
