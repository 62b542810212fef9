use Rattle.operators.specs.ClassListLaws.{none_due_if_classed}
use Rattle.operators.proofs.classes.check_classes.Goals as goal

pub returns-else-all_classes-clause-refused : goal.returns-else-all_classes-clause-refused
returns-else-all_classes-clause-refused c = none_due_if_classed c.args.classes.now
