use Rattle.cases.proofs.Applying.{smallest_in_words}
use Rattle.cases.proofs.laws.smallest_in_words.Goals as goal

pub returns : goal.returns
returns c = record { smallest = smallest_in_words }
