use Rattle.casefile.proofs.Rereading.{reading_laws}
use Rattle.casefile.proofs.laws.reading_laws.Goals as goal

pub returns : goal.returns
returns c = record { laws = reading_laws }
