-- Shares in whole units: each claim gets a base share, and single units that are left go to the first claims that are
-- marked for one. Assumes nothing.
use Rattle.std.specs.Prelude.{◌≡◌, ℕ, suc, ◌+◌, ◌-◌, ◌≤◌, min, Bool, true, cond, List, [], ◌∷◌}

-- the unit that a claim gets of those left: one if it is marked and any is left
abbrev pub one_unit : Bool → ℕ → ℕ
one_unit marked left = cond marked (min left 1) 0

-- each claim's base share, and one unit more for each of the first so many claims that are marked
abbrev pub topped_up : (ℕ → ℕ) → (ℕ → Bool) → ℕ → List ℕ → List ℕ
topped_up base marked left [] = []
topped_up base marked left (c ∷ cs) =
    (base c + one_unit (marked c) left) ∷ topped_up base marked (left - one_unit (marked c) left) cs

-- how many claims are marked
abbrev pub how_many : (ℕ → Bool) → List ℕ → ℕ
how_many marked [] = 0
how_many marked (c ∷ cs) = cond (marked c) 1 0 + how_many marked cs

-- no base share is above its claim, and the base share of a marked claim leaves room for a unit
pub record Room (base : ℕ → ℕ) (marked : ℕ → Bool) : Type 0 where
  pub low : (c : ℕ) → base c ≤ c
  pub high : (c : ℕ) → marked c ≡ true → suc (base c) ≤ c
