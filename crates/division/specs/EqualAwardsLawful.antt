-- The level is what its definition says, there is only one, and equal awards are lawful. Assumes nothing.
use Rattle.std.specs.Prelude.{◌≡◌, ℕ, zero, suc, ◌+◌, ◌-◌, ◌≤◌, min, cond, ltb, List, [], ◌∷◌, map, nat_le, nat_lt, refl}
use Rattle.std.proofs.Common.{ap, subst, ◌∙◌, ⊎_elim, arith}
use Rattle.std.proofs.lemmas.Bool.{cond_both, leb-true, leb-false, ltb-true, ltb-false, cases_lt}
use Rattle.division.specs.Amounts.{total, cut}
use Rattle.division.specs.Problem.{Lawful}
use Rattle.division.specs.Units.{how_many, Room}
use Rattle.division.specs.UnitLaws.{length-topped_up, within_topped_up, total-topped_up}
use Rattle.division.specs.EqualAwards.{largest, Level, level_from, level, rest, equal_awards}

pub total_cut_none : (claims : List ℕ) → total (cut 0 claims) ≡ 0
total_cut_none [] = refl
total_cut_none (c ∷ cs) = omega (arith, total_cut_none cs)

-- claims capped at the largest of them, or above, are the claims
pub total_cut_largest : (l : ℕ) (claims : List ℕ) → largest claims ≤ l → total (cut l claims) ≡ total claims
total_cut_largest l [] h = refl
total_cut_largest l (c ∷ cs) h = omega (arith, total_cut_largest l cs (omega arith))

-- one unit more for each claim above the level is the next level
above : (l c : ℕ) → min c (suc l) ≡ min c l + cond (nat_lt l c) 1 0
above l c = cond_both (nat_lt l c) 1 0 (λ n. min c (suc l) ≡ min c l + n) (λ e. omega (arith, ltb-true l c e)) (λ e. omega (arith, ltb-false l c e))

total_cut_next : (l : ℕ) (claims : List ℕ) → total (cut (suc l) claims) ≡ total (cut l claims) + how_many (λ c. ltb l c) claims
total_cut_next l [] = refl
total_cut_next l (c ∷ cs) = omega (arith, above l c, total_cut_next l cs)

-- capping is a base share
pub total_map_min : (l : ℕ) (claims : List ℕ) → total (map (λ c. min c l) claims) ≡ total (cut l claims)
total_map_min l [] = refl
total_map_min l (c ∷ cs) = ap (λ n. min c l + n) (total_map_min l cs)

-- a higher level takes no less
pub total_cut_mono : (k l : ℕ) (claims : List ℕ) → k ≤ l → total (cut k claims) ≤ total (cut l claims)
total_cut_mono k l [] h = omega arith
total_cut_mono k l (c ∷ cs) h = omega (arith, total_cut_mono k l cs h)

-- what holds of the first number from the top down that fits
record Found (top : ℕ) (claims : List ℕ) (estate l : ℕ) : Type 0 where
  within : l ≤ top
  fits : total (cut l claims) ≤ estate
  highest : (k : ℕ) → k ≤ top → total (cut k claims) ≤ estate → k ≤ l

found : (top : ℕ) (claims : List ℕ) (estate : ℕ) → Found top claims estate (level_from top claims estate)
found zero claims estate = record { within = omega arith; fits = omega (arith, total_cut_none claims); highest = λ k h _. h }
found (suc top) claims estate =
    let below = found top claims estate in
    cond_both (nat_le (total (cut (suc top) claims)) estate) (suc top) (level_from top claims estate) (Found (suc top) claims estate)
    (λ e. record { within = omega arith; fits = leb-true _ _ e; highest = λ k h _. h })
    (λ e. record {
      within = omega (arith, below.within);
      fits = below.fits;
      highest = λ k h fit. ⊎_elim
          (λ under. below.highest k (omega arith) fit)
          (λ over. absurd (omega (arith, leb-false _ _ e, subst (λ n. total (cut n claims) ≤ estate) (let same : k ≡ suc top = omega arith in same) fit)))
          (cases_lt k (suc top));
    })

-- the level as defined is the level
pub level_is : (claims : List ℕ) (estate : ℕ) → Level claims estate (level claims estate)
level_is claims estate =
    let f = found (largest claims) claims estate in
    record { within = f.within; fits = f.fits; highest = f.highest }

-- and nothing else is
pub level_unique : (claims : List ℕ) (estate l : ℕ) → Level claims estate l → l ≡ level claims estate
level_unique claims estate l h =
    let v = level_is claims estate in
    omega (arith, h.highest (level claims estate) v.within v.fits, v.highest l h.within h.fits)

-- there is a claim above the level for each unit of the rest
pub rest_few : (claims : List ℕ) (estate l : ℕ) → estate ≤ total claims → Level claims estate l → estate - total (cut l claims) ≤ how_many (λ c. ltb l c) claims
rest_few claims estate l covered h =
    ⊎_elim
    (λ under. ⊎_elim
    (λ over. omega (arith, total_cut_next l claims))
    (λ fit. absurd (omega (arith, h.highest (suc l) (omega arith) fit)))
    (cases_lt estate (total (cut (suc l) claims))))
    (λ top. omega (arith, total_cut_largest l claims top))
    (cases_lt l (largest claims))

-- a claim above the level has room for a unit
pub capped_room : (l : ℕ) → Room (λ c. min c l) (λ c. ltb l c)
capped_room l = record { low = λ c. omega arith; high = λ c e. omega (arith, ltb-true l c e) }

pub equal_awards_lawful : Lawful equal_awards
equal_awards_lawful claims estate sound =
    let l = level claims estate in
    let h = level_is claims estate in
    let base = λ (c : ℕ). min c l in
    let marked = λ (c : ℕ). ltb l c in
    record {
      as_long = length-topped_up base marked (rest claims estate) claims;
      bounded = within_topped_up base marked (rest claims estate) claims (capped_room l);
      spent = total-topped_up base marked (rest claims estate) claims (rest_few claims estate l sound.covered h)
          ∙ omega (arith, total_map_min l claims, h.fits);
    }
