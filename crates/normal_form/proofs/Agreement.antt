-- Agreement of meanings on sound problems, and the operators that keep it. Assumes nothing.
use Rattle.std.proofs.Common.{◌-◌, sym, refl, ap, ◌∙◌}
use Rattle.division.specs.Amounts.{total, less, cut, plus}
use Rattle.division.specs.Problem.{Meaning}
use Rattle.operators.specs.Operators.{dual, truncation, rights, minimal_rights}
use Rattle.operators.specs.DualLawful.{loss_sound}
use Rattle.operators.specs.TruncationLawful.{cut_sound}
use Rattle.operators.specs.RightsLawful.{rest_sound}
use Rattle.normal_form.specs.Alike.{Agree}

pub agree : {f : Meaning} → Agree f f
agree = record { same = λ claims estate s. refl }

pub turned : {f g : Meaning} → Agree f g → Agree g f
turned a = record { same = λ claims estate s. sym (a.same claims estate s) }

pub then : {f g h : Meaning} → Agree f g → Agree g h → Agree f h
then a b = record { same = λ claims estate s. a.same claims estate s ∙ b.same claims estate s }

pub under_dual : {f g : Meaning} → Agree f g → Agree (dual f) (dual g)
under_dual a = record {
  same = λ claims estate s. ap (less claims) (a.same claims (total claims - estate) (loss_sound claims estate s));
}

pub under_truncation : {f g : Meaning} → Agree f g → Agree (truncation f) (truncation g)
under_truncation a = record {
  same = λ claims estate s. a.same (cut estate claims) estate (cut_sound claims estate s);
}

pub under_rights : {f g : Meaning} → Agree f g → Agree (minimal_rights f) (minimal_rights g)
under_rights a = record {
  same = λ claims estate s.
      let own = rights (total claims - estate) claims in
      ap (plus own) (a.same (less claims own) (estate - total own) (rest_sound claims estate s));
}
