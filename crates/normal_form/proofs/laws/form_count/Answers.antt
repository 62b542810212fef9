use Rattle.std.proofs.Common.{rules}
use Rattle.normal_form.proofs.Theorems.{form_laws}
use Rattle.normal_form.proofs.laws.form_count.Goals as goal

pub returns : goal.returns
returns c = record { result = search rules; laws = form_laws }
