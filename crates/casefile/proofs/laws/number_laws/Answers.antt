use Rattle.casefile.proofs.Numbering.{number_laws}
use Rattle.casefile.proofs.laws.number_laws.Goals as goal

pub returns : goal.returns
returns c = record { laws = number_laws }
