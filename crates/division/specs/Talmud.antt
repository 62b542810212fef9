-- The Talmud rule, after Aumann and Maschler (1985), in whole units. Assumes nothing.
use Rattle.std.specs.Prelude.{ℕ, ◌+◌, ◌-◌, ◌/◌, ◌%◌, Bool, cond, List, map, ◌==◌, nat_le}
use Rattle.division.specs.Amounts.{total, less}
use Rattle.division.specs.Units.{topped_up, how_many}
use Rattle.division.specs.EqualAwards.{equal_awards}

-- half of a claim, rounded down
abbrev pub half : ℕ → ℕ
half c = c / 2

-- whether a claim is odd
abbrev pub odd : ℕ → Bool
odd c = c % 2 == 1

abbrev pub halves : List ℕ → List ℕ
halves claims = map half claims

-- up to the sum of the halves, equal awards on the halves; from that sum and the number of odd claims on, each claim
-- less equal awards of the loss on the halves; between, the halves, and one unit more for each of the first odd claims
abbrev pub talmud : List ℕ → ℕ → List ℕ
talmud claims estate =
    cond (nat_le estate (total (halves claims))) (equal_awards (halves claims) estate)
    (cond (nat_le (total (halves claims) + how_many odd claims) estate)
    (less claims (equal_awards (halves claims) (total claims - estate)))
    (topped_up half odd (estate - total (halves claims)) claims))
