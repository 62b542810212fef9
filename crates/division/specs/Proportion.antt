-- Proportion: the same part of each claim, rounded down, and the missing units to the first claims that were rounded.
-- Assumes nothing.
use Rattle.std.specs.Prelude.{ℕ, ◌-◌, ◌*◌, ◌/◌, ◌%◌, Bool, cond, List, map, ◌==◌, nat_lt}
use Rattle.division.specs.Amounts.{total, nothing}
use Rattle.division.specs.Units.{topped_up}

-- a claim's part of the estate, rounded down
abbrev pub part : ℕ → ℕ → ℕ → ℕ
part estate sum c = c * estate / sum

-- whether rounding a claim's part left a remainder
abbrev pub rounded : ℕ → ℕ → ℕ → Bool
rounded estate sum c = nat_lt 0 (c * estate % sum)

-- nothing where the claims add up to nothing, and else the parts, with the missing units one each to the first claims
-- that were rounded
abbrev pub proportion : List ℕ → ℕ → List ℕ
proportion claims estate =
    cond (total claims == 0) (nothing claims)
    (topped_up (part estate (total claims)) (rounded estate (total claims)) (estate - total (map (part estate (total claims)) claims)) claims)
