-- What handing out single units gives: lengths, bounds and what the shares add up to. Assumes nothing.
use Rattle.std.specs.Prelude.{◌≡◌, ℕ, zero, suc, ◌+◌, ◌-◌, ◌≤◌, Bool, true, false, cond, List, [], ◌∷◌, map, length, refl}
use Rattle.std.proofs.Common.{ap, arith}
use Rattle.division.specs.Amounts.{total}
use Rattle.division.specs.AmountLaws.{Within}
use Rattle.division.specs.Units.{one_unit, topped_up, how_many, Room}

pub length-topped_up : (base : ℕ → ℕ) (marked : ℕ → Bool) (left : ℕ) (claims : List ℕ) → length (topped_up base marked left claims) ≡ length claims
length-topped_up base marked left [] = refl
length-topped_up base marked left (c ∷ cs) = ap suc (length-topped_up base marked (left - one_unit (marked c) left) cs)

-- a unit more is no more than the claim where a marked claim is above its base share
pub one_bounded : (m : Bool) (base c left : ℕ) → base ≤ c → (m ≡ true → suc base ≤ c) → base + one_unit m left ≤ c
one_bounded true base c left h k = omega (arith, k refl)
one_bounded false base c left h k = omega arith

pub within_topped_up : (base : ℕ → ℕ) (marked : ℕ → Bool) (left : ℕ) (claims : List ℕ) → Room base marked → Within (topped_up base marked left claims) claims
within_topped_up base marked left [] room i = omega arith
within_topped_up base marked left (c ∷ cs) room zero = one_bounded (marked c) (base c) c left (room.low c) (room.high c)
within_topped_up base marked left (c ∷ cs) room (suc i) = within_topped_up base marked (left - one_unit (marked c) left) cs room i

one_taken : (m : Bool) (left more : ℕ) → left ≤ cond m 1 0 + more → left - one_unit m left ≤ more
one_taken true left more h = omega arith
one_taken false left more h = omega arith

pub one_small : (m : Bool) (left : ℕ) → one_unit m left ≤ left
one_small true left = omega arith
one_small false left = omega arith

-- where there are marked claims for all units, all are handed out
pub total-topped_up : (base : ℕ → ℕ) (marked : ℕ → Bool) (left : ℕ) (claims : List ℕ) → left ≤ how_many marked claims → total (topped_up base marked left claims) ≡ total (map base claims) + left
total-topped_up base marked left [] h = omega arith
total-topped_up base marked left (c ∷ cs) h =
    omega (arith, one_small (marked c) left, total-topped_up base marked (left - one_unit (marked c) left) cs (one_taken (marked c) left (how_many marked cs) h))

-- base shares add up to no more than the claims
pub total_base : (base : ℕ → ℕ) → ((c : ℕ) → base c ≤ c) → (claims : List ℕ) → total (map base claims) ≤ total claims
total_base base low [] = omega arith
total_base base low (c ∷ cs) = omega (arith, low c, total_base base low cs)

pub how_many_few : (marked : ℕ → Bool) (claims : List ℕ) → how_many marked claims ≤ length claims
how_many_few marked [] = omega arith
how_many_few marked (c ∷ cs) = omega (arith, one_small (marked c) 1, how_many_few marked cs)
