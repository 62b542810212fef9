-- Each of the four rules is lawful. Assumes nothing.
use Rattle.division.specs.Problem.{Lawful}
use Rattle.division.specs.PriorityLawful.{priority_lawful}
use Rattle.division.specs.EqualAwardsLawful.{equal_awards_lawful}
use Rattle.division.specs.ProportionLawful.{proportion_lawful}
use Rattle.division.specs.TalmudLawful.{talmud_lawful}
use Rattle.division.specs.BaseRules.{meaning_of}
use Rattle.division.specs.declared.base_rule.BaseRule.{BaseRule}
use Rattle.division.specs.declared.base_rule.BaseRule.TheVariants.{Priority, Equal, Proportion, Talmud}

pub meaning_lawful : (rule : BaseRule) → Lawful (meaning_of rule)
meaning_lawful Priority = priority_lawful
meaning_lawful Equal = equal_awards_lawful
meaning_lawful Proportion = proportion_lawful
meaning_lawful Talmud = talmud_lawful
