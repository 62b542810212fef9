use Rattle.operators.proofs.ClassTests.{kept_made}
use Rattle.operators.proofs.classes.keep.Goals as goal

pub returns : goal.returns
returns c = record { result = kept_made c.args.classes.now _ c.min-count.result c.min-count.ensures c.copy_from_slice.ensures.after }
