use Rattle.std.proofs.Common.{take}
use Rattle.std.specs.List.{AllZip}
use Rattle.std.specs.Fn.{FnReturnsAt}
use Rattle.cases.proofs.table.Table.write_column.Given as goal

abbrev pub invariant-loop-place : goal.invariant-loop-place
invariant-loop-place g l = AllZip (λ row value. FnReturnsAt g.F.Fn l.of row value) (take l.place l.self.rows.items) (take l.place l.out)
