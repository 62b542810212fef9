use Rattle.std.proofs.Common.{◌-◌}
use Rattle.division.proofs.level.+level_between.Given as goal

abbrev pub decreases-level_between : goal.decreases-level_between
decreases-level_between l = l.high - l.low
