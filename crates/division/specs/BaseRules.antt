-- The four rules: what each means, and what it is called. Assumes nothing.
use Rattle.std.specs.Prelude.{ℕ, List, codes}
use Rattle.division.specs.Problem.{Meaning}
use Rattle.division.specs.Priority.{priority}
use Rattle.division.specs.EqualAwards.{equal_awards}
use Rattle.division.specs.Proportion.{proportion}
use Rattle.division.specs.Talmud.{talmud}
use Rattle.division.specs.declared.base_rule.BaseRule.{BaseRule}
use Rattle.division.specs.declared.base_rule.BaseRule.TheVariants.{Priority, Equal, Proportion, Talmud}

-- what a rule means
abbrev pub meaning_of : BaseRule → Meaning
meaning_of Priority = priority
meaning_of Equal = equal_awards
meaning_of Proportion = proportion
meaning_of Talmud = talmud

-- what a rule is called
abbrev pub name_of : BaseRule → List ℕ
name_of Priority = codes "priority"
name_of Equal = codes "equal"
name_of Proportion = codes "proportion"
name_of Talmud = codes "talmud"
