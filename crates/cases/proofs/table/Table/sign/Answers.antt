use Rattle.std.proofs.Common.{◌≡◌, ℕ, ◌≤◌, List, map, length, vec_items, vec_len, sym, ap, ◌∙◌, subst}
use lib.ListN.{length-map}
use Rattle.std.proofs.lemmas.List.{with_items_is}
use Rattle.division.specs.Amounts.{total}
use Rattle.division.specs.Problem.{most_total}
use Rattle.operators.specs.Operators.{Classed}
use Rattle.cases.specs.declared.row.Row.{Row}
use Rattle.cases.specs.Rows.{amounts, classes_of, settled}
use Rattle.cases.proofs.Tables.{amounts_settled, classes_settled}
use Rattle.cases.proofs.table.Table.sign.Goals as goal

-- as many rows as before
long : (rows after : List Row) (len : ℕ) → after ≡ map settled rows → len ≡ length rows → length after ≡ len
long rows after len told is = ap length told ∙ length-map rows settled ∙ sym is

pub invariant_of-self : goal.invariant_of-self
invariant_of-self c =
    let table = c.args.self.now in
    let rows = vec_items table.rows in
    let told = c.write_lines.ensures.rows ∙ ap (map settled) c.as_mut_slice.ensures.value in
    let after = with_items_is table.rows c.write_lines.new.rows (long rows c.write_lines.new.rows (vec_len table.rows) told table.rows.ok.0) ∙ told in
    record {
      few = table.few;
      room = table.room;
      small = subst (λ n. n ≤ most_total) (sym (ap (λ l. total (amounts l)) after ∙ ap total (amounts_settled rows))) table.small;
      classed = subst Classed (sym (ap classes_of after ∙ classes_settled rows)) table.classed;
    }
