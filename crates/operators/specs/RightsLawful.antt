-- Minimal rights keep a rule lawful: the rights never pass the estate, and what is left of it is covered by what is
-- left of the claims. Assumes nothing.
use Rattle.std.specs.Prelude.{◌≡◌, ℕ, zero, suc, ◌-◌, ◌≤◌, List, [], ◌∷◌, length, slice_index, refl}
use Rattle.std.proofs.Common.{sym, ap, ◌∙◌, arith}
use Rattle.division.specs.Amounts.{total, less, cut}
use Rattle.division.specs.AmountLaws.{Within, length-less, slice_index-less, total-less, length-cut, slice_index-cut, length-plus, slice_index-plus, total-plus, same_amounts}
use Rattle.division.specs.Problem.{Sound, Meaning, Lawful}
use Rattle.operators.specs.Operators.{rights, minimal_rights}

pub length-rights : (loss : ℕ) (xs : List ℕ) → length (rights loss xs) ≡ length xs
length-rights loss [] = refl
length-rights loss (x ∷ xs) = ap suc (length-rights loss xs)

pub slice_index-rights : (loss : ℕ) (xs : List ℕ) (i : ℕ) → slice_index (rights loss xs) i ≡ slice_index xs i - loss
slice_index-rights loss [] i = omega arith
slice_index-rights loss (x ∷ xs) zero = refl
slice_index-rights loss (x ∷ xs) (suc i) = slice_index-rights loss xs i

-- all rights together reach no further than what is not lost
pub total-rights : (loss : ℕ) (xs : List ℕ) → total (rights loss xs) ≤ total xs - loss
total-rights loss [] = omega arith
total-rights loss (x ∷ xs) = omega (arith, total-rights loss xs)

pub rights_within : (loss : ℕ) (xs : List ℕ) → Within (rights loss xs) xs
rights_within loss xs i = omega (arith, slice_index-rights loss xs i)

-- what the estate holds above the rights
pub rights_fit : (claims : List ℕ) (estate : ℕ) → Sound claims estate → total (rights (total claims - estate) claims) ≤ estate
rights_fit claims estate s = omega (arith, total-rights (total claims - estate) claims, s.covered)

-- the problem that minimal rights hand on
pub rest_sound : (claims : List ℕ) (estate : ℕ) → Sound claims estate → Sound (less claims (rights (total claims - estate) claims)) (estate - total (rights (total claims - estate) claims))
rest_sound claims estate s =
    let own = rights (total claims - estate) claims in
    let left = total-less claims own (rights_within (total claims - estate) claims) in
    record {
      few = omega (arith, length-less claims own, s.few);
      small = omega (arith, left, s.small);
      covered = omega (arith, left, s.covered);
    }

pub minimal_rights_lawful : (f : Meaning) → Lawful f → Lawful (minimal_rights f)
minimal_rights_lawful f law claims estate s =
    let own = rights (total claims - estate) claims in
    let rest = less claims own in
    let part = f rest (estate - total own) in
    let shared = law rest (estate - total own) (rest_sound claims estate s) in
    let same : length own ≡ length part = omega (arith, length-rights (total claims - estate) claims, length-less claims own, shared.as_long) in
    record {
      as_long = omega (arith, length-plus own part same, length-rights (total claims - estate) claims);
      bounded = λ i. omega (arith, slice_index-plus own part i, shared.bounded i, slice_index-less claims own i, rights_within (total claims - estate) claims i);
      spent = omega (arith, total-plus own part, shared.spent, rights_fit claims estate s);
    }

-- a claim less its right is what the loss can reach of it
pub rest_cut : (loss : ℕ) (xs : List ℕ) → less xs (rights loss xs) ≡ cut loss xs
rest_cut loss xs =
    same_amounts (less xs (rights loss xs)) (cut loss xs) (length-less xs (rights loss xs) ∙ sym (length-cut loss xs)) (λ i.
    omega (arith, slice_index-less xs (rights loss xs) i, slice_index-rights loss xs i, slice_index-cut loss xs i))
