-- A problem: a list of claims and an estate to share among them. Assumes nothing.
use Rattle.std.specs.Prelude.{◌≡◌, ℕ, ◌≤◌, List, length, slice_index}
use Rattle.division.specs.Amounts.{total}

-- the most claims that a problem may have
abbrev pub most_claims : ℕ
most_claims = 64

-- the most that the claims of a problem may add up to
abbrev pub most_total : ℕ
most_total = 2000000000

-- a problem that a rule has to answer
pub record Sound (claims : List ℕ) (estate : ℕ) : Type 0 where
  pub few : length claims ≤ most_claims
  pub small : total claims ≤ most_total
  pub covered : estate ≤ total claims

-- the awards share the estate: one for each claim, none above its claim, and together the whole estate
pub record Divides (claims : List ℕ) (estate : ℕ) (awards : List ℕ) : Type 0 where
  pub as_long : length awards ≡ length claims
  pub bounded : (i : ℕ) → slice_index awards i ≤ slice_index claims i
  pub spent : total awards ≡ estate

-- what a rule means: its awards, from the claims and the estate
abbrev pub Meaning : Type 0
Meaning = List ℕ → ℕ → List ℕ

-- a meaning that shares every sound problem's estate
abbrev pub Lawful : Meaning → Type 0
Lawful f = (claims : List ℕ) (estate : ℕ) → Sound claims estate → Divides claims estate (f claims estate)
