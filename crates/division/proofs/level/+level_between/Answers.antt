use Rattle.std.proofs.Common.{◌-◌, ◌/◌, arith}
use Rattle.division.proofs.Levels.{holds_lower}
use Rattle.division.proofs.level.+level_between.Goals as goal

pub level_between-requires-else-capped-problem : goal.level_between-requires-else-capped-problem
level_between-requires-else-capped-problem t c =
    let middle = c.args.high - (c.args.high - c.args.low) / 2 in (
      omega arith,
      holds_lower c.args.problem.now.claims.now c.args.problem.now.estate c.args.low c.args.high c.args.taken middle c.base_total-capped.result
          c.requires.holds (omega arith) (omega arith) c.base_total-capped.ensures.result (omega arith),
    )
