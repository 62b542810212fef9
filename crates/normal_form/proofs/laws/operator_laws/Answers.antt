use Rattle.normal_form.proofs.Theorems.{operator_laws}
use Rattle.normal_form.proofs.laws.operator_laws.Goals as goal

pub returns : goal.returns
returns c = record { laws = operator_laws }
