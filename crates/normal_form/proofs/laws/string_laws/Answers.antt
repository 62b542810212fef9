use Rattle.normal_form.proofs.Theorems.{string_laws}
use Rattle.normal_form.proofs.laws.string_laws.Goals as goal

pub returns : goal.returns
returns c = record { laws = string_laws }
