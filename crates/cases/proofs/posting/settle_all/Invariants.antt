use Rattle.std.proofs.Common.{◌≡◌, ◌*◌, ◌++◌, map, take, drop, pos, neg_ℤ, ◌≤ℤ◌}
use Rattle.std.specs.List.{AllByRecursion}
use Rattle.cases.specs.Rows.{settled, row_posting, balance, Postable}
use Rattle.cases.proofs.posting.settle_all.Given as goal

abbrev pub invariant-loop-i : goal.invariant-loop-i
invariant-loop-i l =
    (l.rows ≡ map settled (take l.i l.initial.rows) ++ drop l.i l.initial.rows)
    × (l.out ≡ map row_posting (take l.i l.initial.rows) ++ drop l.i l.initial.out)
    × (l.sum ≡ balance (map row_posting (take l.i l.initial.rows)))
    × (neg_ℤ (pos (4294967296 * l.i)) ≤ℤ l.sum)
    × (l.sum ≤ℤ pos (4294967296 * l.i))
    × AllByRecursion Postable (map row_posting (take l.i l.initial.rows))
