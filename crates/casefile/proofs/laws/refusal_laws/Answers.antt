use Rattle.casefile.proofs.Refusing.{refusal_laws}
use Rattle.casefile.proofs.laws.refusal_laws.Goals as goal

pub returns : goal.returns
returns c = record { laws = refusal_laws }
