use Rattle.std.proofs.Common.{rules}
use Rattle.cases.proofs.Tables.{made_is_map}
use Rattle.cases.proofs.table.Table.write_claims.Goals as goal

pub returns : goal.returns
returns c = record { claims = made_is_map (λ row. row.amount) _ _ _ c.write_column.ensures.each (λ row value given. search rules) }
