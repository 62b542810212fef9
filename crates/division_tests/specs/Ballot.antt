-- A rule that depends on what it holds: equal awards once anybody voted for them, and priority until then.
-- Assumes nothing.
use Rattle.std.specs.Prelude.{ℕ, Bool, cond, ◌==◌}
use Rattle.std.proofs.lemmas.Bool.{cond_both}
use Rattle.division.specs.Problem.{Meaning, Lawful}
use Rattle.division.specs.Priority.{priority}
use Rattle.division.specs.PriorityLawful.{priority_lawful}
use Rattle.division.specs.EqualAwards.{equal_awards}
use Rattle.division.specs.EqualAwardsLawful.{equal_awards_lawful}

-- the awards, by how many voted
abbrev pub ballot : ℕ → Meaning
ballot votes = cond (votes == 0) priority equal_awards

pub ballot_lawful : (votes : ℕ) → Lawful (ballot votes)
ballot_lawful votes = cond_both (votes == 0) priority equal_awards Lawful (λ _. priority_lawful) (λ _. equal_awards_lawful)
