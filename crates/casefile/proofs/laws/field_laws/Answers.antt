use Rattle.casefile.proofs.Fielding.{field_laws}
use Rattle.casefile.proofs.laws.field_laws.Goals as goal

pub returns : goal.returns
returns c = record { laws = field_laws }
