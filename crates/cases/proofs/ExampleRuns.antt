-- The run with two signings is a past of a case, computed call by call. Assumes nothing.
use Rattle.std.proofs.Common.{refl, arith}
use Rattle.std.proofs.lemmas.Int.{ints}
use Rattle.division.specs.EqualAwardsLawful.{equal_awards_lawful}
use Rattle.division.specs.ProportionLawful.{proportion_lawful}
use Rattle.cases.specs.History.{made, moved}
use Rattle.cases.specs.Example.{ExampleRun}

pub example_run : ExampleRun
example_run = record {
  past =
      moved (moved (moved (moved (moved (moved (moved (moved (moved (moved (moved (moved (moved (made 7)
      (refl, refl))
      (refl, refl))
      (refl, refl))
      (refl, refl))
      (equal_awards_lawful, refl, refl))
      (refl, refl))
      (refl, refl))
      (refl, refl, refl))
      (refl, refl))
      (refl, refl))
      (proportion_lawful, refl, refl))
      (refl, refl))
      (refl, refl, refl);
  signs = refl;
  first_sum = refl;
  second_sum = refl;
  estate_sum = refl;
  first_some = λ e. omega (arith, ints);
  second_some = λ e. omega (arith, ints);
}
