use Rattle.cases.proofs.Histories.{steps_from_all}
use Rattle.cases.proofs.laws.steps_from_all.Goals as goal

pub returns : goal.returns
returns c = record { steps = steps_from_all }
