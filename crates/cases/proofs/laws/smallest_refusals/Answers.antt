use Rattle.cases.proofs.Ascents.{smallest_refusals}
use Rattle.cases.proofs.laws.smallest_refusals.Goals as goal

pub returns : goal.returns
returns c = record { smallest = smallest_refusals }
