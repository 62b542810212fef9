use Rattle.std.proofs.Common.{codes, arith, rules}
use Rattle.casefile.specs.Calls.{rule_named}
use Rattle.casefile.proofs.Wording.{looked_up}
use Rattle.casefile.proofs.call.RuleNameTryFromRefSliceU8.try_from.Goals as goal

pub returns-in-priority : goal.returns-in-priority
returns-in-priority c = looked_up rule_named c.args.name.now (codes "priority") (omega arith) (search rules)

pub returns-in-equal : goal.returns-in-equal
returns-in-equal c = looked_up rule_named c.args.name.now (codes "equal") (omega arith) (search rules)

pub returns-in-proportion : goal.returns-in-proportion
returns-in-proportion c = looked_up rule_named c.args.name.now (codes "proportion") (omega arith) (search rules)

pub returns-in-talmud : goal.returns-in-talmud
returns-in-talmud c = looked_up rule_named c.args.name.now (codes "talmud") (omega arith) (search rules)
