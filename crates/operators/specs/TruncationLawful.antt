-- Truncation keeps a rule lawful: claims cut to the estate still cover it. Assumes nothing.
use Rattle.std.specs.Prelude.{ℕ, ◌≤◌, min, List, [], ◌∷◌}
use Rattle.std.proofs.Common.{arith}
use Rattle.division.specs.Amounts.{total, cut}
use Rattle.division.specs.AmountLaws.{length-cut, slice_index-cut, total-within}
use Rattle.division.specs.Problem.{Sound, Meaning, Lawful}
use Rattle.operators.specs.Operators.{truncation}

-- cut claims add up to no less than the cap, unless all claims do
pub cut_covers : (cap : ℕ) (xs : List ℕ) → min (total xs) cap ≤ total (cut cap xs)
cut_covers cap [] = omega arith
cut_covers cap (x ∷ xs) = omega (arith, cut_covers cap xs)

-- the problem that truncation hands on
pub cut_sound : (claims : List ℕ) (estate : ℕ) → Sound claims estate → Sound (cut estate claims) estate
cut_sound claims estate s = record {
  few = omega (arith, length-cut estate claims, s.few);
  small = omega (arith, total-within (cut estate claims) claims (λ i. omega (arith, slice_index-cut estate claims i)), s.small);
  covered = omega (arith, cut_covers estate claims, s.covered);
}

pub truncation_lawful : (f : Meaning) → Lawful f → Lawful (truncation f)
truncation_lawful f law claims estate s =
    let shared = law (cut estate claims) estate (cut_sound claims estate s) in
    record {
      as_long = omega (arith, shared.as_long, length-cut estate claims);
      bounded = λ i. omega (arith, shared.bounded i, slice_index-cut estate claims i);
      spent = shared.spent;
    }
