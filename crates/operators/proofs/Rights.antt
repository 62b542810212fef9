-- What the layer of minimal rights hands to the rule below it, and what it makes of the answer. Assumes nothing.
use Rattle.std.proofs.Common.{◌≡◌, ℕ, ◌+◌, ◌-◌, ◌≤◌, List, length, sym, ap, ◌∙◌, subst, arith}
use Rattle.division.specs.Amounts.{total, less, cut, plus}
use Rattle.division.specs.AmountLaws.{length-less}
use Rattle.division.specs.Problem.{Sound, Meaning, Lawful, most_total}
use Rattle.operators.specs.Operators.{rights, minimal_rights}
use Rattle.operators.specs.RightsLawful.{length-rights, rights_fit, rest_sound, rest_cut}

-- the rights, what they add up to, and what is left of the claims; the rest is a sound problem
pub record Parted (claims : List ℕ) (estate room : ℕ) (own : List ℕ) (own_total : ℕ) (rest : List ℕ) : Type 0 where
  pub own_is : own ≡ rights (total claims - estate) claims
  pub total_is : own_total ≡ total (rights (total claims - estate) claims)
  pub rest_is : rest ≡ less claims (rights (total claims - estate) claims)
  pub sound : Sound claims estate
  pub rest_sound : Sound rest (estate - own_total)
  pub room_is : room ≡ length rest

pub parted : (claims : List ℕ) (estate room loss : ℕ) (own : List ℕ) (own_total : ℕ) (rest : List ℕ) → Sound claims estate → room ≡ length claims → loss ≡ total claims - estate → own ≡ rights loss claims → own_total ≡ total own → rest ≡ cut loss claims → Parted claims estate room own own_total rest
parted claims estate room loss own own_total rest s room_is loss_is own_made added rest_made =
    let own_rights = rights (total claims - estate) claims in
    let own_is : own ≡ own_rights = own_made ∙ ap (λ n. rights n claims) loss_is in
    let total_is : own_total ≡ total own_rights = added ∙ ap total own_is in
    let rest_is : rest ≡ less claims own_rights = rest_made ∙ ap (λ n. cut n claims) loss_is ∙ sym (rest_cut (total claims - estate) claims) in
    record {
      own_is = own_is;
      total_is = total_is;
      rest_is = rest_is;
      sound = s;
      rest_sound = subst (λ n. Sound rest (estate - n)) (sym total_is) (subst (λ xs. Sound xs (estate - total own_rights)) (sym rest_is) (rest_sound claims estate s));
      room_is = omega (arith, ap length rest_is, length-less claims own_rights, room_is);
    }

module _ {claims : List ℕ} {estate room : ℕ} {own : List ℕ} {own_total : ℕ} {rest : List ℕ} (h : Parted claims estate room own own_total rest) where
  pub rights_first : (f : Meaning) (held after : List ℕ) → held ≡ f rest (estate - own_total) → after ≡ plus own held → after ≡ minimal_rights f claims estate
  rights_first f held after e added =
      let own_is = h.own_is in
      let total_is = h.total_is in
      let rest_is = h.rest_is in
      cc

  -- rights and awards together are the estate
  pub rights_and_awards : (f : Meaning) → Lawful f → (held : List ℕ) → held ≡ f rest (estate - own_total) → (length held ≡ length own) × (total own + total held ≤ most_total)
  rights_and_awards f law held e =
      let loss = total claims - estate in
      let shared = law rest (estate - own_total) h.rest_sound in
      let s = h.sound in (
        omega (arith, ap length e, shared.as_long, ap length h.rest_is, length-less claims (rights loss claims), ap length h.own_is, length-rights loss claims),
        omega (arith, ap total e, shared.spent, ap total h.own_is, h.total_is, rights_fit claims estate s, s.covered, s.small),
      )
