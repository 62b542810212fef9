use Rattle.division.proofs.Levels.{holds_all}
use Rattle.division.proofs.level.find_level.Goals as goal

pub level_between-requires : goal.level_between-requires
level_between-requires c = record { holds = rw c.largest_claim.ensures.result (holds_all c.args.problem.now.claims.now c.args.problem.now.estate) }
