-- The laws of the letters, proved. Assumes nothing.
use Rattle.std.proofs.Common.{◌≡◌, ℕ, List, [], ◌∷◌, ◌++◌, sym, refl, ap, ◌∙◌}
use Rattle.operators.specs.Operators.{Classed}
use Rattle.normal_form.specs.declared.letter.Operator.{Operator}
use Rattle.normal_form.specs.declared.letter.Operator.TheVariants.{Dual, Truncation, MinimalRights, Seniority, ReverseSeniority}
use Rattle.normal_form.specs.Letters.{applied}
use Rattle.normal_form.specs.Forms.{normal_form, letters_of}
use Rattle.normal_form.specs.Alike.{Alike, telling, told}
use Rattle.normal_form.specs.Laws as law
use Rattle.normal_form.proofs.Piles.{applied_lawful, applied_agree, applied_joined}
use Rattle.normal_form.proofs.Pressing as press
use Rattle.normal_form.proofs.Pressing.{LawfulRule}
use Rattle.normal_form.proofs.Apart as apart

-- strings that make the same of every lawful rule over every class list are alike
alike_by : (left right : List Operator) → ((classes : List ℕ) (classed : Classed classes) (x : LawfulRule) → press.Same classes classed (press.lay_all classes classed left x) (press.lay_all classes classed right x)) → Alike left right
alike_by left right same f lawful classes classed claims estate sound =
    let x : LawfulRule = record { meaning = f; lawful = lawful } in
    (press.strings_agree classes classed left right x (same classes classed x)).same claims estate sound

pub dual_twice : law.DualTwice
dual_twice = alike_by (Dual ∷ Dual ∷ []) [] (λ classes classed x. press.dual_dual classes classed x)

pub dual_carries_truncation : law.DualCarriesTruncation
dual_carries_truncation = alike_by (Truncation ∷ Dual ∷ []) (Dual ∷ MinimalRights ∷ []) (λ classes classed x. press.dual_truncation classes classed x)

pub dual_carries_rights : law.DualCarriesRights
dual_carries_rights = alike_by (MinimalRights ∷ Dual ∷ []) (Dual ∷ Truncation ∷ []) (λ classes classed x. press.dual_rights classes classed x)

pub dual_carries_seniority : law.DualCarriesSeniority
dual_carries_seniority = alike_by (Seniority ∷ Dual ∷ []) (Dual ∷ ReverseSeniority ∷ []) (λ classes classed x. press.dual_seniority classes classed x)

pub dual_carries_reverse : law.DualCarriesReverse
dual_carries_reverse = alike_by (ReverseSeniority ∷ Dual ∷ []) (Dual ∷ Seniority ∷ []) (λ classes classed x. press.dual_reverse classes classed x)

pub truncation_twice : law.TruncationTwice
truncation_twice = alike_by (Truncation ∷ Truncation ∷ []) (Truncation ∷ []) (λ classes classed x. press.truncation_truncation classes classed x)

pub rights_twice : law.RightsTwice
rights_twice = alike_by (MinimalRights ∷ MinimalRights ∷ []) (MinimalRights ∷ []) (λ classes classed x. press.rights_rights classes classed x)

pub truncation_and_rights : law.TruncationAndRights
truncation_and_rights = alike_by (Truncation ∷ MinimalRights ∷ []) (MinimalRights ∷ Truncation ∷ []) (λ classes classed x. press.back classes classed (press.truncation_rights classes classed x))

pub later_seniority_counts : law.LaterSeniorityCounts
later_seniority_counts earlier later e e' =
    alike_by (earlier ∷ later ∷ []) (later ∷ []) (λ classes classed x. press.under_seniority classes classed later e' (press.class_order classes classed earlier e x))

pub outer_truncation_idle : law.OuterTruncationIdle
outer_truncation_idle o e = alike_by (Truncation ∷ o ∷ Truncation ∷ []) (Truncation ∷ o ∷ []) (λ classes classed x. press.outer_truncation classes classed o e x)

pub outer_rights_idle : law.OuterRightsIdle
outer_rights_idle o e = alike_by (MinimalRights ∷ o ∷ MinimalRights ∷ []) (MinimalRights ∷ o ∷ []) (λ classes classed x. press.outer_rights classes classed o e x)

pub outer_truncation_enclosed : law.OuterTruncationEnclosed
outer_truncation_enclosed earlier later e e' =
    alike_by (earlier ∷ Truncation ∷ later ∷ []) (Truncation ∷ later ∷ [])
    (λ classes classed x. press.under_seniority classes classed later e' (press.class_truncation classes classed (press.class_order classes classed earlier e x)))

pub outer_rights_enclosed : law.OuterRightsEnclosed
outer_rights_enclosed earlier later e e' =
    alike_by (earlier ∷ MinimalRights ∷ later ∷ []) (MinimalRights ∷ later ∷ [])
    (λ classes classed x. press.under_seniority classes classed later e' (press.class_rights classes classed (press.class_order classes classed earlier e x)))

pub operator_laws : law.OperatorLaws
operator_laws = record {
  dual_twice = dual_twice;
  dual_carries_truncation = dual_carries_truncation;
  dual_carries_rights = dual_carries_rights;
  dual_carries_seniority = dual_carries_seniority;
  dual_carries_reverse = dual_carries_reverse;
  truncation_twice = truncation_twice;
  rights_twice = rights_twice;
  truncation_and_rights = truncation_and_rights;
  later_seniority_counts = later_seniority_counts;
  outer_truncation_idle = outer_truncation_idle;
  outer_rights_idle = outer_rights_idle;
  outer_truncation_enclosed = outer_truncation_enclosed;
  outer_rights_enclosed = outer_rights_enclosed;
}

-- alike strings after the same letters
alike_after : (first left right : List Operator) → Alike left right → Alike (first ++ left) (first ++ right)
alike_after first left right alike f lawful classes classed claims estate sound =
    ap (λ g. g claims estate) (applied_joined first left classes f)
    ∙ alike (applied first classes f) (applied_lawful first classes classed f lawful) classes classed claims estate sound
    ∙ ap (λ g. g claims estate) (sym (applied_joined first right classes f))

-- alike strings before the same letters
alike_before : (left right later : List Operator) → Alike left right → Alike (left ++ later) (right ++ later)
alike_before left right later alike f lawful classes classed claims estate sound =
    ap (λ g. g claims estate) (applied_joined left later classes f)
    ∙ (applied_agree later classes (applied left classes f) (applied right classes f) (record { same = alike f lawful classes classed })).same claims estate sound
    ∙ ap (λ g. g claims estate) (sym (applied_joined right later classes f))

pub string_laws : law.StringLaws
string_laws = record {
  joined_in_turn = applied_joined;
  agree_under_letters = applied_agree;
  alike_among_letters = λ first left right later alike. alike_after first (left ++ later) (right ++ later) (alike_before left right later alike);
  lawful_under_letters = applied_lawful;
}

pub form_says_all : law.FormSaysAll
form_says_all letters f lawful classes classed claims estate sound = (press.form_agrees classes classed letters f lawful).same claims estate sound

pub same_form_alike : law.SameFormAlike
same_form_alike left right e f lawful classes classed claims estate sound =
    form_says_all left f lawful classes classed claims estate sound
    ∙ ap (λ p. applied (letters_of p) classes f claims estate) e
    ∙ sym (form_says_all right f lawful classes classed claims estate sound)

-- a string's awards on one of the nine problems are those of its normal form
told_by_form : (letters : List Operator) (n : ℕ) → apart.Answerable (telling n) → told letters (telling n) ≡ told (letters_of (normal_form letters)) (telling n)
told_by_form letters n a =
    let t = telling n in
    form_says_all letters t.rule a.lawful t.classes a.classed t.claims t.estate a.sound

pub other_form_told_apart : law.OtherFormToldApart
other_form_told_apart left right differ =
    let forms = apart.forms_told_apart (normal_form left) (normal_form right) (apart.normal_fits left) (apart.normal_fits right) differ in
    let a = apart.answerable forms.number forms.from_one forms.to_nine in
    record {
      number = forms.number;
      from_one = forms.from_one;
      to_nine = forms.to_nine;
      differ = λ e. forms.differ (sym (told_by_form left forms.number a) ∙ e ∙ told_by_form right forms.number a);
    }

pub told_apart_not_alike : law.ToldApartNotAlike
told_apart_not_alike left right told_so alike =
    let t = telling told_so.number in
    let a = apart.answerable told_so.number told_so.from_one told_so.to_nine in
    told_so.differ (alike t.rule a.lawful t.classes a.classed t.claims t.estate a.sound)

pub just_44 : law.Just44
just_44 = record { number = refl; forms = apart.form_at; once = apart.forms_once; every = apart.form_listed }

pub form_laws : law.FormLaws
form_laws = record {
  form_says_all = form_says_all;
  same_form_alike = same_form_alike;
  other_form_told_apart = other_form_told_apart;
  told_apart_not_alike = told_apart_not_alike;
  forms_reached = (apart.normal_fits, apart.form_reached);
  just_44 = just_44;
}
