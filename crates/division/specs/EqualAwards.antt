-- Constrained equal awards: the same for all, but no more than the claim. Assumes nothing.
use Rattle.std.specs.Prelude.{◌≡◌, ℕ, zero, suc, ◌-◌, ◌≤◌, min, max, cond, List, [], ◌∷◌, nat_le, nat_lt}
use Rattle.division.specs.Amounts.{total, cut}
use Rattle.division.specs.Units.{topped_up}

-- the largest claim, 0 where there is none
abbrev pub largest : List ℕ → ℕ
largest [] = 0
largest (c ∷ cs) = max c (largest cs)

-- the level: the largest whole number, at most the largest claim, for which the claims capped there fit the estate
pub record Level (claims : List ℕ) (estate l : ℕ) : Type 0 where
  pub within : l ≤ largest claims
  pub fits : total (cut l claims) ≤ estate
  pub highest : (k : ℕ) → k ≤ largest claims → total (cut k claims) ≤ estate → k ≤ l

-- a range of numbers that holds the level, and what the claims capped at its low end take
pub record Holds (claims : List ℕ) (estate low high taken : ℕ) : Type 0 where
  pub order : low ≤ high
  pub within : high ≤ largest claims
  pub taken_is : taken ≡ total (cut low claims)
  pub fits : taken ≤ estate
  pub none_above : (k : ℕ) → k ≤ largest claims → total (cut k claims) ≤ estate → k ≤ high

-- the first number, from the top down, for which the capped claims fit
abbrev pub level_from : ℕ → List ℕ → ℕ → ℕ
level_from zero claims estate = 0
level_from (suc top) claims estate = cond (nat_le (total (cut (suc top) claims)) estate) (suc top) (level_from top claims estate)

-- the one number that is the level
abbrev pub level : List ℕ → ℕ → ℕ
level claims estate = level_from (largest claims) claims estate

-- what the capped claims leave of the estate
abbrev pub rest : List ℕ → ℕ → ℕ
rest claims estate = estate - total (cut (level claims estate) claims)

-- each claim up to the level, and one unit of the rest for each of the first claims above it
abbrev pub equal_awards : List ℕ → ℕ → List ℕ
equal_awards claims estate =
    topped_up (λ c. min c (level claims estate)) (λ c. nat_lt (level claims estate) c) (rest claims estate) claims
