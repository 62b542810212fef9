use Rattle.std.proofs.Common.{◌≤◌, vec_items, sym, ◌∙◌, subst}
use Rattle.division.specs.Amounts.{total}
use Rattle.division.specs.Problem.{most_total}
use Rattle.cases.specs.Rows.{amounts}
use Rattle.cases.proofs.Searches.{amount_at, amount_nowhere}
use Rattle.cases.proofs.table.Table.amend.Goals as goal

pub amend_at-requires-clause-small : goal.amend_at-requires-clause-small
amend_at-requires-clause-small c =
    subst (λ l. total (amounts l) ≤ most_total) (amount_at (vec_items c.args.self.now.rows) c.args.number c.args.amount c.in-Some.place c.in-Some.ensures.result) c.requires.small

pub returns-in-Some : goal.returns-in-Some
returns-in-Some c =
    let rows = vec_items c.args.self.now.rows in
    record { rows = c.amend_at.ensures.rows ∙ sym (amount_at rows c.args.number c.args.amount c.in-Some.place c.in-Some.ensures.result) }

pub returns-in_default : goal.returns-in_default
returns-in_default c = record { rows = sym (amount_nowhere (vec_items c.args.self.now.rows) c.args.number c.args.amount c.in_default.ensures.result) }
