use Rattle.std.proofs.Common.{◌≡◌, ℕ, ◌≤◌, List, length, vec_items, vec_len, sym, ap, ◌∙◌, subst}
use Rattle.std.proofs.lemmas.List.{with_items_is}
use Rattle.division.specs.Amounts.{total}
use Rattle.division.specs.Problem.{most_total}
use Rattle.operators.specs.Operators.{Classed}
use Rattle.cases.specs.declared.row.Row.{Row}
use Rattle.cases.specs.Rows.{amounts, classes_of, with_awards}
use Rattle.cases.proofs.Tables.{amounts_awarded, classes_awarded, length-awarded}
use Rattle.cases.proofs.table.Table.award.Goals as goal

-- as many rows as before
long : (awards : List ℕ) (rows after : List Row) (len : ℕ) → after ≡ with_awards awards rows → len ≡ length rows → length after ≡ len
long awards rows after len told is = ap length told ∙ length-awarded awards rows ∙ sym is

pub invariant_of-self : goal.invariant_of-self
invariant_of-self c =
    let table = c.args.self.now in
    let rows = vec_items table.rows in
    let awards = c.args.awards.now in
    let told = c.write_awards.ensures.rows ∙ ap (with_awards awards) c.as_mut_slice.ensures.value in
    let after = with_items_is table.rows c.write_awards.new.rows (long awards rows c.write_awards.new.rows (vec_len table.rows) told table.rows.ok.0) ∙ told in
    record {
      few = table.few;
      room = table.room;
      small = subst (λ n. n ≤ most_total) (sym (ap (λ l. total (amounts l)) after ∙ ap total (amounts_awarded awards rows))) table.small;
      classed = subst Classed (sym (ap classes_of after ∙ classes_awarded awards rows)) table.classed;
    }
