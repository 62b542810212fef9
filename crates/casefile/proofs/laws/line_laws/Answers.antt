use Rattle.casefile.proofs.Walking.{line_laws}
use Rattle.casefile.proofs.laws.line_laws.Goals as goal

pub returns : goal.returns
returns c = record { laws = line_laws }
