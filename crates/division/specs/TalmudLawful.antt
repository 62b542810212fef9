-- The Talmud rule is lawful. Assumes nothing.
use Rattle.std.specs.Prelude.{◌≡◌, ℕ, zero, suc, ◌+◌, ◌-◌, ◌*◌, ◌%◌, ◌≤◌, cond, List, [], ◌∷◌, nat_le, refl}
use Rattle.std.proofs.Common.{◌∙◌, arith}
use Rattle.std.proofs.lemmas.List.{length-map}
use Rattle.std.proofs.lemmas.Bool.{cond_both, leb-true, leb-false, eqb-true, eqb-false}
use Rattle.division.specs.Amounts.{total, less}
use Rattle.division.specs.AmountLaws.{Within, length-less, slice_index-less, total-less}
use Rattle.division.specs.Problem.{Lawful, Divides, Sound}
use Rattle.division.specs.Units.{topped_up, how_many, Room}
use Rattle.division.specs.UnitLaws.{length-topped_up, within_topped_up, total-topped_up}
use Rattle.division.specs.EqualAwards.{equal_awards}
use Rattle.division.specs.EqualAwardsLawful.{equal_awards_lawful}
use Rattle.division.specs.Talmud.{half, odd, halves, talmud}

-- a claim is twice its half, and one more if it is odd
two_halves : (c : ℕ) → c ≡ 2 * half c + cond (odd c) 1 0
two_halves c =
    cond_both (odd c) 1 0 (λ n. c ≡ 2 * half c + n) (λ e. omega (arith, eqb-true (c % 2) 1 e)) (λ e. omega (arith, eqb-false (c % 2) 1 e))

pub total-halves : (claims : List ℕ) → total claims ≡ 2 * total (halves claims) + how_many odd claims
total-halves [] = refl
total-halves (c ∷ cs) = omega (arith, two_halves c, total-halves cs)

pub within_halves : (claims : List ℕ) → Within (halves claims) claims
within_halves [] i = omega arith
within_halves (c ∷ cs) zero = omega arith
within_halves (c ∷ cs) (suc i) = within_halves cs i

-- an estate that the halves cover is a sound problem over the halves
pub halves_sound : (claims : List ℕ) (estate shared : ℕ) → Sound claims estate → shared ≤ total (halves claims) → Sound (halves claims) shared
halves_sound claims estate shared sound h = record {
  few = omega (arith, length-map claims half, sound.few);
  small = omega (arith, total-halves claims, sound.small);
  covered = h;
}

-- awards within the halves, as awards on the claims
low_range : (claims : List ℕ) (estate : ℕ) → Sound claims estate → estate ≤ total (halves claims) → Divides claims estate (equal_awards (halves claims) estate)
low_range claims estate sound h =
    let d = equal_awards_lawful (halves claims) estate (halves_sound claims estate estate sound h) in
    record {
      as_long = d.as_long ∙ length-map claims half;
      bounded = λ i. omega (arith, d.bounded i, within_halves claims i);
      spent = d.spent;
    }

high_range : (claims : List ℕ) (estate : ℕ) → Sound claims estate → total (halves claims) + how_many odd claims ≤ estate → Divides claims estate (less claims (equal_awards (halves claims) (total claims - estate)))
high_range claims estate sound h =
    let loss = total claims - estate in
    let share = equal_awards (halves claims) loss in
    let d = equal_awards_lawful (halves claims) loss (halves_sound claims estate loss sound (omega (arith, total-halves claims))) in
    let inside : Within share claims = λ i. omega (arith, d.bounded i, within_halves claims i) in
    record {
      as_long = length-less claims share;
      bounded = λ i. omega (arith, slice_index-less claims share i);
      spent = omega (arith, total-less claims share inside, d.spent, sound.covered);
    }

-- an odd claim has room for a unit beside its half
pub halved_room : Room half odd
halved_room = record { low = λ c. omega arith; high = λ c e. omega (arith, eqb-true (c % 2) 1 e) }

mid_range : (claims : List ℕ) (estate : ℕ) → total (halves claims) ≤ estate → estate ≤ total (halves claims) + how_many odd claims → Divides claims estate (topped_up half odd (estate - total (halves claims)) claims)
mid_range claims estate low high =
    let units = estate - total (halves claims) in
    record {
      as_long = length-topped_up half odd units claims;
      bounded = within_topped_up half odd units claims halved_room;
      spent = total-topped_up half odd units claims (omega arith) ∙ omega arith;
    }

pub talmud_lawful : Lawful talmud
talmud_lawful claims estate sound =
    let middle = total (halves claims) in
    cond_both (nat_le estate middle) (equal_awards (halves claims) estate) _ (Divides claims estate)
    (λ low. low_range claims estate sound (leb-true estate middle low))
    (λ above. cond_both (nat_le (middle + how_many odd claims) estate) _ _ (Divides claims estate)
    (λ high. high_range claims estate sound (leb-true _ _ high))
    (λ below. mid_range claims estate (omega (arith, leb-false estate middle above)) (omega (arith, leb-false (middle + how_many odd claims) estate below))))
