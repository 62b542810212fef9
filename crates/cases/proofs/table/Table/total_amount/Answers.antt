use Rattle.std.proofs.Common.{◌≡◌, sum, vec_items, ◌∙◌, rules, arith}
use Rattle.std.proofs.iter.runs.Made.{chains}
use Rattle.std.proofs.iter.runs.Sources.{sums}
use Rattle.std.proofs.lemmas.List.Sums.{sum-map}
use Rattle.cases.specs.Rows.{amounts}
use Rattle.cases.proofs.Tables.{sum_is_total}
use Rattle.cases.proofs.table.Table.total_amount.Goals as goal

pub sum-requires-clause-fits : goal.sum-requires-clause-fits
sum-requires-clause-fits c =
    let rows = vec_items c.args.self.now.rows in
    let all = sum_is_total (amounts rows) in
    let by = sum-map (λ row. row.amount) rows in
    search (rules, sums)

pub returns : goal.returns
returns c =
    let rows = vec_items c.args.self.now.rows in
    let is : c.sum.result ≡ sum (amounts rows) = search (rules, chains) in
    let all = sum_is_total (amounts rows) in
    record { result = is ∙ all; bound = omega arith }
