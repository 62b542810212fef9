-- Proportion is lawful. Assumes nothing.
use Rattle.std.specs.Prelude.{◌≡◌, ℕ, zero, suc, ◌+◌, ◌-◌, ◌*◌, ◌%◌, ◌<◌, ◌≤◌, true, cond, List, [], ◌∷◌, map, ◌==◌, refl}
use Rattle.std.proofs.Common.{ap, ◌∙◌, mul_comm, mul-le-mul_left, le_of_mul-le-mul_right, lt_of_mul-lt-mul_right}
use Rattle.std.proofs.Math.Nat.{add-mul, mod-lt, div-add-mod'}
use native.Mathlib.Omega.{arith}
use Rattle.std.proofs.lemmas.Bool.{cond_both, ltb-true, ltb-false, eqb-true, eqb-false}
use Rattle.division.specs.Amounts.{total, nothing}
use Rattle.division.specs.AmountLaws.{length-nothing, slice_index-nothing, total-nothing}
use Rattle.division.specs.Problem.{Lawful, Divides}
use Rattle.division.specs.Units.{topped_up, how_many, Room}
use Rattle.division.specs.UnitLaws.{length-topped_up, within_topped_up, total-topped_up}
use Rattle.division.specs.Proportion.{part, rounded, proportion}

-- what rounding a claim's part left
left_over : ℕ → ℕ → ℕ → ℕ
left_over estate sum c = c * estate % sum

module _ (estate sum : ℕ) where
  -- the parts and what rounding left make up the whole
  parts_whole : (claims : List ℕ) → total (map (part estate sum) claims) * sum + total (map (left_over estate sum) claims) ≡ total claims * estate
  unfolding left_over
  parts_whole [] = omega arith
  parts_whole (c ∷ cs) =
      omega (arith, parts_whole cs, div-add-mod' (c * estate) sum, add-mul (part estate sum c) (total (map (part estate sum) cs)) sum, add-mul c (total cs) estate)

  one_left : zero < sum → (c : ℕ) → left_over estate sum c ≤ cond (rounded estate sum c) 1 0 * sum
  unfolding left_over
  one_left some c =
      cond_both (rounded estate sum c) 1 0 (λ n. c * estate % sum ≤ n * sum)
      (λ e. omega (arith, mod-lt (c * estate) some)) (λ e. omega (arith, ltb-false 0 (c * estate % sum) e))

  left_few : zero < sum → (claims : List ℕ) → total (map (left_over estate sum) claims) ≤ how_many (rounded estate sum) claims * sum
  left_few some [] = omega arith
  left_few some (c ∷ cs) = omega (arith, one_left some c, left_few some cs, add-mul (cond (rounded estate sum c) 1 0) (how_many (rounded estate sum) cs) sum)

  -- no more than the estate in parts, and a rounded claim for each unit that is missing
  pub parts_within : (claims : List ℕ) → sum ≡ total claims → zero < sum → total (map (part estate sum) claims) ≤ estate
  parts_within claims is some = le_of_mul-le-mul_right (omega (arith, parts_whole claims, ap (λ s. s * estate) is, mul_comm sum estate)) some

  missing_few : (claims : List ℕ) → sum ≡ total claims → zero < sum → estate - total (map (part estate sum) claims) ≤ how_many (rounded estate sum) claims
  missing_few claims is some =
      let t = total (map (part estate sum) claims) in
      let split : t + (estate - t) ≡ estate = omega (arith, parts_within claims is some) in
      le_of_mul-le-mul_right
      (omega (arith, parts_whole claims, left_few some claims, ap (λ s. s * estate) is, mul_comm sum estate, add-mul t (estate - t) sum, ap (λ n. n * sum) split))
      some

  part_within : estate ≤ sum → zero < sum → (c : ℕ) → part estate sum c ≤ c
  part_within covered some c =
      le_of_mul-le-mul_right (omega (arith, div-add-mod' (c * estate) sum, mul-le-mul_left c covered)) some

  rounded_within : estate ≤ sum → (c : ℕ) → rounded estate sum c ≡ true → suc (part estate sum c) ≤ c
  rounded_within covered c e =
      lt_of_mul-lt-mul_right sum (omega (arith, ltb-true 0 (c * estate % sum) e, div-add-mod' (c * estate) sum, mul-le-mul_left c covered))

-- a rounded claim has room for a unit
pub prorated_room : (estate sum : ℕ) → estate ≤ sum → zero < sum → Room (part estate sum) (rounded estate sum)
prorated_room estate sum covered some = record { low = part_within estate sum covered some; high = rounded_within estate sum covered }

pub proportion_lawful : Lawful proportion
proportion_lawful claims estate sound =
    let sum = total claims in
    let missing = estate - total (map (part estate sum) claims) in
    cond_both (sum == 0) (nothing claims) (topped_up (part estate sum) (rounded estate sum) missing claims) (Divides claims estate)
    (λ none. record {
      as_long = length-nothing claims;
      bounded = λ i. omega (arith, slice_index-nothing claims i);
      spent = omega (arith, total-nothing claims, eqb-true sum 0 none, sound.covered);
    })
    (λ positive.
    let some : zero < sum = omega (arith, eqb-false sum 0 positive) in
    record {
      as_long = length-topped_up (part estate sum) (rounded estate sum) missing claims;
      bounded = within_topped_up (part estate sum) (rounded estate sum) missing claims (prorated_room estate sum sound.covered some);
      spent = total-topped_up (part estate sum) (rounded estate sum) missing claims (missing_few estate sum claims refl some) ∙ omega (arith, parts_within estate sum claims refl some);
    })
