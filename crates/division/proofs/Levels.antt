-- The range that holds the level, and its halves. Assumes nothing.
use Rattle.std.proofs.Common.{◌≡◌, ℕ, ◌-◌, ◌<◌, ◌≤◌, min, List, map, ◌∙◌, ⊎_elim, arith}
use Rattle.std.proofs.lemmas.Bool.{cases_lt}
use Rattle.division.specs.Amounts.{total}
use Rattle.division.specs.EqualAwards.{largest, Level, Holds}
use Rattle.division.specs.EqualAwardsLawful.{total_cut_none, total_cut_mono, total_map_min}

-- before the first turn the range is every number up to the largest claim
pub holds_all : (claims : List ℕ) (estate : ℕ) → Holds claims estate 0 (largest claims) 0
holds_all claims estate = record {
  order = omega arith;
  within = omega arith;
  taken_is = omega (arith, total_cut_none claims);
  fits = omega arith;
  none_above = λ k h _. h;
}

-- where the claims capped at the middle fit, the upper half holds the level
pub holds_upper : (claims : List ℕ) (estate low high taken middle capped : ℕ) → Holds claims estate low high taken → middle ≤ high → capped ≡ total (map (λ c. min c middle) claims) → capped ≤ estate → Holds claims estate middle high capped
holds_upper claims estate low high taken middle capped h upto is fit = record {
  order = upto;
  within = h.within;
  taken_is = is ∙ total_map_min middle claims;
  fits = fit;
  none_above = h.none_above;
}

-- where the claims capped at the middle do not fit, the lower half holds the level
pub holds_lower : (claims : List ℕ) (estate low high taken middle capped : ℕ) → Holds claims estate low high taken → low < middle → middle ≤ high → capped ≡ total (map (λ c. min c middle) claims) → estate < capped → Holds claims estate low (middle - 1) taken
holds_lower claims estate low high taken middle capped h above upto is over = record {
  order = omega arith;
  within = omega (arith, h.within);
  taken_is = h.taken_is;
  fits = h.fits;
  none_above = λ k inside fit.
      ⊎_elim
      (λ under. omega arith)
      (λ from. absurd (omega (arith, total_cut_mono middle k claims from, total_map_min middle claims)))
      (cases_lt k middle);
}

-- a range of one number is the level
pub holds_one : (claims : List ℕ) (estate low high taken : ℕ) → Holds claims estate low high taken → high ≤ low → Level claims estate low
holds_one claims estate low high taken h one = record {
  within = omega (arith, h.order, h.within);
  fits = omega (arith, h.taken_is, h.fits);
  highest = λ k inside fit. omega (arith, h.none_above k inside fit);
}
