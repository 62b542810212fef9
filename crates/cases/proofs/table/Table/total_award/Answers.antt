use Rattle.std.proofs.Common.{◌≡◌, sum, vec_items, ◌∙◌, rules, arith, tests}
use Rattle.std.proofs.iter.runs.Made.{chains}
use Rattle.std.proofs.lemmas.Iterator.{YieldsList-from_slice}
use Rattle.std.proofs.lemmas.Iterator.Adapters.{fits_from_length, at_most_from_yields_List}
use Rattle.cases.specs.Rows.{awards_of}
use Rattle.cases.proofs.Tables.{sum_is_total}
use Rattle.cases.proofs.table.Table.total_award.Goals as goal

pub sum-requires-clause-fits : goal.sum-requires-clause-fits
sum-requires-clause-fits c =
    fits_from_length _ _ 64 _ (at_most_from_yields_List {all = vec_items c.args.self.now.rows} (YieldsList-from_slice _ cc) (grind arith)) c.map.ensures.closure (omega arith) (λ x r q k. search (rules, tests))

pub returns : goal.returns
returns c =
    let rows = vec_items c.args.self.now.rows in
    let is : c.sum.result ≡ sum (awards_of rows) = search (rules, chains) in
    record { result = is ∙ sum_is_total (awards_of rows) }
