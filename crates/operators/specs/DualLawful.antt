-- The dual of a lawful rule is lawful. Assumes nothing.
use Rattle.std.specs.Prelude.{ℕ, ◌-◌, List}
use Rattle.std.proofs.Common.{arith}
use Rattle.division.specs.Amounts.{total}
use Rattle.division.specs.AmountLaws.{length-less, slice_index-less, total-less}
use Rattle.division.specs.Problem.{Sound, Meaning, Lawful}
use Rattle.operators.specs.Operators.{dual}

-- what the estate leaves unpaid is an estate of the same claims
pub loss_sound : (claims : List ℕ) (estate : ℕ) → Sound claims estate → Sound claims (total claims - estate)
loss_sound claims estate s = record { few = s.few; small = s.small; covered = omega arith }

pub dual_lawful : (f : Meaning) → Lawful f → Lawful (dual f)
dual_lawful f law claims estate s =
    let lost = f claims (total claims - estate) in
    let shared = law claims (total claims - estate) (loss_sound claims estate s) in
    record {
      as_long = length-less claims lost;
      bounded = λ i. omega (arith, slice_index-less claims lost i);
      spent = omega (arith, total-less claims lost shared.bounded, shared.spent, s.covered);
    }
