use Rattle.cases.proofs.Histories.{always_settled, always_balanced}
use Rattle.cases.proofs.laws.settled_history.Goals as goal

pub returns : goal.returns
returns c = record { settled = always_settled; balanced = always_balanced }
