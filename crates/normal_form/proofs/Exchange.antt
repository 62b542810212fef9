-- Duality, truncation and minimal rights among themselves, over an unknown lawful rule. Assumes nothing.
use Rattle.std.proofs.Common.{◌≡◌, ℕ, zero, suc, ◌+◌, ◌-◌, ◌≤◌, min, List, [], ◌∷◌, length, get_or, sym, ap, ◌∙◌, inl, inr, arith}
use Rattle.std.proofs.lemmas.Bool.{cases_lt}
use Rattle.division.specs.Amounts.{total, less, cut, plus}
use Rattle.division.specs.AmountLaws.{length-less, slice_index-less, length-cut, slice_index-cut, length-plus, slice_index-plus, total-less, same_amounts}
use Rattle.division.specs.Problem.{Meaning, Sound, Lawful}
use Rattle.operators.specs.Operators.{dual, truncation, rights, minimal_rights}
use Rattle.operators.specs.DualLawful.{loss_sound, dual_lawful}
use Rattle.operators.specs.TruncationLawful.{cut_covers, cut_sound, truncation_lawful}
use Rattle.operators.specs.RightsLawful.{length-rights, slice_index-rights, rights_within, rights_fit, minimal_rights_lawful}
use Rattle.normal_form.specs.Alike.{Agree}
use Rattle.normal_form.proofs.Agreement.{turned, then, under_dual, under_truncation}

-- the dual of the dual is the rule
pub dual_twice : (f : Meaning) → Lawful f → Agree (dual (dual f)) f
dual_twice f law = record {
  same = λ claims estate s.
      let back : total claims - (total claims - estate) ≡ estate = omega (arith, s.covered) in
      let shared = law claims estate s in
      let twice = less claims (less claims (f claims estate)) in
      ap (λ e. less claims (less claims (f claims e))) back
      ∙ same_amounts twice (f claims estate)
      (omega (arith, length-less claims (less claims (f claims estate)), shared.as_long))
      (λ i. omega (arith, slice_index-less claims (less claims (f claims estate)) i, slice_index-less claims (f claims estate) i, shared.bounded i));
}

pub cut_again : (low high : ℕ) → low ≤ high → (xs : List ℕ) → cut low (cut high xs) ≡ cut low xs
cut_again low high h xs =
    same_amounts (cut low (cut high xs)) (cut low xs)
    (omega (arith, length-cut low (cut high xs), length-cut high xs, length-cut low xs))
    (λ i. omega (arith, slice_index-cut low (cut high xs) i, slice_index-cut high xs i, slice_index-cut low xs i))

-- truncation twice is truncation
pub truncation_twice : (f : Meaning) → Agree (truncation (truncation f)) (truncation f)
truncation_twice f = record {
  same = λ claims estate s. ap (λ c. f c estate) (cut_again estate estate (omega arith) claims);
}

-- what a loss can reach of the claims is the claims cut to it
pub reached : (loss : ℕ) (xs : List ℕ) → less xs (rights loss xs) ≡ cut loss xs
reached loss xs =
    same_amounts (less xs (rights loss xs)) (cut loss xs)
    (omega (arith, length-less xs (rights loss xs), length-cut loss xs))
    (λ i. omega (arith, slice_index-less xs (rights loss xs) i, slice_index-rights loss xs i, slice_index-cut loss xs i))

rights_and_reached : (loss : ℕ) (xs : List ℕ) → total (cut loss xs) + total (rights loss xs) ≡ total xs
rights_and_reached loss xs =
    ap (λ ys. total ys + total (rights loss xs)) (sym (reached loss xs)) ∙ total-less xs (rights loss xs) (rights_within loss xs)

-- minimal rights are truncation seen from the losses
pub rights_by_duality : (f : Meaning) → Lawful f → Agree (minimal_rights f) (dual (truncation (dual f)))
rights_by_duality f law = record {
  same = λ claims estate s.
      let loss = total claims - estate in
      let own = rights loss claims in
      let rest = cut loss claims in
      let whole = rights_and_reached loss claims in
      let left : estate - total own ≡ total rest - loss = omega (arith, rights_fit claims estate s, s.covered) in
      let shared = law rest (total rest - loss) (loss_sound rest loss (cut_sound claims loss (loss_sound claims estate s))) in
      let part = f rest (total rest - loss) in
      let long : length own ≡ length part = omega (arith, length-rights loss claims, length-cut loss claims, shared.as_long) in
      ap (λ c. plus own (f c (estate - total own))) (reached loss claims)
      ∙ ap (λ e. plus own (f rest e)) left
      ∙ same_amounts (plus own part) (less claims (less rest part))
      (omega (arith, length-plus own part long, length-rights loss claims, length-less claims (less rest part)))
      (λ i. omega (arith, slice_index-plus own part i, slice_index-rights loss claims i, slice_index-less claims (less rest part) i, slice_index-less rest part i, slice_index-cut loss claims i, shared.bounded i));
}

-- the amounts with nothing at one place
abbrev without : List ℕ → ℕ → List ℕ
without [] i = []
without (x ∷ xs) zero = 0 ∷ xs
without (x ∷ xs) (suc i) = x ∷ without xs i

total-without : (xs : List ℕ) (i : ℕ) → total xs ≡ get_or xs i 0 + total (without xs i)
total-without [] i = omega arith
total-without (x ∷ xs) zero = omega arith
total-without (x ∷ xs) (suc i) = omega (arith, total-without xs i)

total_cut_without : (cap : ℕ) (xs : List ℕ) (i : ℕ) → total (cut cap xs) ≡ min (get_or xs i 0) cap + total (cut cap (without xs i))
total_cut_without cap [] i = omega arith
total_cut_without cap (x ∷ xs) zero = omega arith
total_cut_without cap (x ∷ xs) (suc i) = omega (arith, total_cut_without cap xs i)

pub total-cut : (cap : ℕ) (xs : List ℕ) → total (cut cap xs) ≤ total xs
total-cut cap [] = omega arith
total-cut cap (x ∷ xs) = omega (arith, total-cut cap xs)

-- a claim, what the others add up to, the estate, and what the others add up to when they are cut to the estate
same_right : (c others estate cut_others : ℕ) → estate ≤ c + others → min others estate ≤ cut_others → cut_others ≤ others
    → min c estate - (min c estate + cut_others - estate) ≡ c - (c + others - estate)
same_right c others estate cut_others covered low high =
    elim (cases_lt others estate) [
      | inl small ↦ (let is : cut_others ≡ others = omega arith in omega arith)
      | inr large ↦ (let is : estate ≤ cut_others = omega arith in omega arith)
    ]

same_reach : (c others estate cut_others reached_others : ℕ) → estate ≤ c + others
    → min others estate ≤ cut_others → cut_others ≤ others
    → min others (c + others - estate) ≤ reached_others → reached_others ≤ others
    → min (min c estate) (min c estate + cut_others - estate)
    ≡ min (min c (c + others - estate)) (min c (c + others - estate) + reached_others - (c + others - estate))
same_reach c others estate cut_others reached_others covered low high low' high' =
    elim (cases_lt others estate) [
      | inl small ↦ (let is : cut_others ≡ others = omega arith in
          elim (cases_lt estate c) [
            | inl above ↦ (let reach : reached_others ≡ others = omega arith in omega arith)
            | inr below ↦ (let reach : c + others - estate ≤ reached_others = omega arith in omega arith)
          ])
      | inr large ↦ (let is : estate ≤ cut_others = omega arith in
          elim (cases_lt estate c) [
            | inl above ↦ (let reach : reached_others ≡ others = omega arith in omega arith)
            | inr below ↦ (let reach : c + others - estate ≤ reached_others = omega arith in omega arith)
          ])
    ]

module _ (claims : List ℕ) (estate : ℕ) (s : Sound claims estate) where
  -- cutting the claims to the estate leaves their minimal rights as they are
  rights_of_cut : rights (total (cut estate claims) - estate) (cut estate claims) ≡ rights (total claims - estate) claims
  rights_of_cut =
      let capped = cut estate claims in
      same_amounts (rights (total capped - estate) capped) (rights (total claims - estate) claims)
      (omega (arith, length-rights (total capped - estate) capped, length-rights (total claims - estate) claims, length-cut estate claims))
      (λ i.
      let others = without claims i in
      let c = get_or claims i 0 in
      let whole = total-without claims i in
      let part = total_cut_without estate claims i in
      slice_index-rights (total capped - estate) capped i
      ∙ ap (λ x. x - (total capped - estate)) (slice_index-cut estate claims i)
      ∙ ap (λ x. min c estate - (x - estate)) part
      ∙ same_right c (total others) estate (total (cut estate others)) (omega (arith, s.covered)) (cut_covers estate others) (total-cut estate others)
      ∙ ap (λ x. c - (x - estate)) (sym whole)
      ∙ sym (slice_index-rights (total claims - estate) claims i))

  -- what is left of the claims after cut and rights, in either order
  cut_of_rest : cut (total (cut estate claims) - estate) (cut estate claims)
      ≡ cut (total (cut (total claims - estate) claims) - (total claims - estate)) (cut (total claims - estate) claims)
  cut_of_rest =
      let capped = cut estate claims in
      let loss = total claims - estate in
      let rest = cut loss claims in
      same_amounts (cut (total capped - estate) capped) (cut (total rest - loss) rest)
      (omega (arith, length-cut (total capped - estate) capped, length-cut estate claims, length-cut (total rest - loss) rest, length-cut loss claims))
      (λ i.
      let others = without claims i in
      let c = get_or claims i 0 in
      let loss_is : c + total others - estate ≡ loss = omega (arith, total-without claims i) in
      slice_index-cut (total capped - estate) capped i
      ∙ ap (λ x. min x (total capped - estate)) (slice_index-cut estate claims i)
      ∙ ap (λ x. min (min c estate) (x - estate)) (total_cut_without estate claims i)
      ∙ same_reach c (total others) estate (total (cut estate others)) (total (cut (c + total others - estate) others))
      (omega (arith, s.covered, total-without claims i)) (cut_covers estate others) (total-cut estate others)
      (cut_covers (c + total others - estate) others) (total-cut (c + total others - estate) others)
      ∙ ap (λ l. min (min c l) (min c l + total (cut l others) - l)) loss_is
      ∙ ap (λ x. min (min c loss) (x - loss)) (sym (total_cut_without loss claims i))
      ∙ ap (λ x. min x (total rest - loss)) (sym (slice_index-cut loss claims i))
      ∙ sym (slice_index-cut (total rest - loss) rest i))

-- truncation and minimal rights in either order
pub rights_truncation : (f : Meaning) → Agree (truncation (minimal_rights f)) (minimal_rights (truncation f))
rights_truncation f = record {
  same = λ claims estate s.
      let capped = cut estate claims in
      let loss = total claims - estate in
      let own = rights loss claims in
      let rest = cut loss claims in
      let left : estate - total own ≡ total rest - loss = omega (arith, rights_and_reached loss claims, rights_fit claims estate s, s.covered) in
      ap (λ c. plus (rights (total capped - estate) capped) (f c (estate - total (rights (total capped - estate) capped)))) (reached (total capped - estate) capped)
      ∙ ap (λ r. plus r (f (cut (total capped - estate) capped) (estate - total r))) (rights_of_cut claims estate s)
      ∙ ap (λ c. plus own (f c (estate - total own))) (cut_of_rest claims estate s)
      ∙ ap (λ e. plus own (f (cut e rest) (estate - total own))) (sym left)
      ∙ ap (λ c. plus own (f (cut (estate - total own) c) (estate - total own))) (sym (reached loss claims));
}

-- truncation under a dual is minimal rights over it
pub dual_of_truncation : (f : Meaning) → Lawful f → Agree (dual (truncation f)) (minimal_rights (dual f))
dual_of_truncation f law =
    turned (then (rights_by_duality (dual f) (dual_lawful f law)) (under_dual (under_truncation (dual_twice f law))))

-- minimal rights under a dual are truncation over it
pub dual_of_rights : (f : Meaning) → Lawful f → Agree (dual (minimal_rights f)) (truncation (dual f))
dual_of_rights f law =
    then (under_dual (rights_by_duality f law)) (dual_twice (truncation (dual f)) (truncation_lawful (dual f) (dual_lawful f law)))

-- minimal rights twice are minimal rights
pub rights_twice : (f : Meaning) → Lawful f → Agree (minimal_rights (minimal_rights f)) (minimal_rights f)
rights_twice f law =
    then (rights_by_duality (minimal_rights f) (minimal_rights_lawful f law))
    (then (under_dual (under_truncation (dual_of_rights f law)))
    (then (under_dual (truncation_twice (dual f)))
    (turned (rights_by_duality f law))))
