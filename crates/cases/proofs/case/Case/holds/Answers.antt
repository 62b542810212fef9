use Rattle.std.proofs.Common.{vec_items, ◌∙◌}
use Rattle.cases.proofs.Searches.{found_on_table}
use Rattle.cases.proofs.case.Case.holds.Goals as goal

pub returns : goal.returns
returns c = record {
  result = c.is_some.ensures ∙ found_on_table (vec_items c.args.self.now.table.rows) c.args.number c.place_of.result c.place_of.ensures.result;
}
