-- Letters laid on a lawful rule: each law of the letters as agreement of rules, and that pressing a letter on a form
-- does to the rule under it what the letter does. Assumes nothing.
use Rattle.std.proofs.Common.{◌≡◌, ℕ, Bool, true, false, not, List, [], ◌∷◌, ◌++◌, sym, refl, ap, ◌∙◌, subst, Some, None, Option}
use mathlib.Core.Bool.{false≢true}
use Rattle.division.specs.Problem.{Meaning, Lawful}
use Rattle.operators.specs.Operators.{Classed, senior_first, junior_first}
use Rattle.operators.specs.ClassLaws.{senior_once, junior_once}
use Rattle.normal_form.specs.declared.letter.Operator.{Operator}
use Rattle.normal_form.specs.declared.letter.Operator.TheVariants.{Dual, Truncation, MinimalRights, Seniority, ReverseSeniority}
use Rattle.operators.specs.declared.classes.ClassOrder.{ClassOrder}
use Rattle.operators.specs.declared.classes.ClassOrder.TheVariants.{SeniorFirst, JuniorFirst}
use Rattle.normal_form.specs.declared.form.Place.{Place}
use Rattle.normal_form.specs.declared.form.Place.TheVariants.{Absent, Inner, Outer}
use Rattle.normal_form.specs.Letters.{operator, applied}
use Rattle.normal_form.specs.Forms.{Parts, where_so, seniority_letter, is_inner, is_outer, reversed, laid, enclosed, pressed, pressed_in_turn, no_letters, normal_form, letters_of}
use Rattle.normal_form.specs.Alike.{Agree}
use Rattle.normal_form.specs.Laws.{is_seniority}
use Rattle.normal_form.proofs.Agreement.{agree, turned, then}
use Rattle.normal_form.proofs.Exchange as ex
use Rattle.normal_form.proofs.Seniority as sen
use Rattle.normal_form.proofs.Seniority.{AgreeInClass}
use Rattle.normal_form.proofs.Piles.{operator_lawful, operator_agree}

-- a meaning that is lawful
pub record LawfulRule : Type 0 where
  pub meaning : Meaning
  pub lawful : Lawful meaning

module _ (classes : List ℕ) (classed : Classed classes) where
  -- a letter laid on a rule
  abbrev pub lay : Operator → LawfulRule → LawfulRule
  lay o x = record { meaning = operator o classes x.meaning; lawful = operator_lawful o classes classed x.meaning x.lawful }

  -- letters laid on a rule in turn
  abbrev pub lay_all : List Operator → LawfulRule → LawfulRule
  lay_all [] x = x
  lay_all (o ∷ os) x = lay_all os (lay o x)

  pub lay_all_joined : (first later : List Operator) (x : LawfulRule) → lay_all (first ++ later) x ≡ lay_all later (lay_all first x)
  lay_all_joined [] later x = refl
  lay_all_joined (o ∷ os) later x = lay_all_joined os later (lay o x)

  pub laid_meaning : (letters : List Operator) (x : LawfulRule) → (lay_all letters x).meaning ≡ applied letters classes x.meaning
  laid_meaning [] x = refl
  laid_meaning (o ∷ os) x = laid_meaning os (lay o x)

  -- rules that agree
  pub record Same (x y : LawfulRule) : Type 0 where
    pub agrees : Agree x.meaning y.meaning

  pub same : {x : LawfulRule} → Same x x
  same = record { agrees = agree }

  pub back : {x y : LawfulRule} → Same x y → Same y x
  back a = record { agrees = turned a.agrees }

  pub follow : {x y z : LawfulRule} → Same x y → Same y z → Same x z
  follow a b = record { agrees = then a.agrees b.agrees }

  pub under : (o : Operator) {x y : LawfulRule} → Same x y → Same (lay o x) (lay o y)
  under o a = record { agrees = operator_agree o classes a.agrees }

  pub under_all : (letters : List Operator) {x y : LawfulRule} → Same x y → Same (lay_all letters x) (lay_all letters y)
  under_all [] a = a
  under_all (o ∷ os) a = under_all os (under o a)

  -- the laws of the letters, one by one
  pub dual_dual : (x : LawfulRule) → Same (lay Dual (lay Dual x)) x
  dual_dual x = record { agrees = ex.dual_twice x.meaning x.lawful }

  pub dual_truncation : (x : LawfulRule) → Same (lay Dual (lay Truncation x)) (lay MinimalRights (lay Dual x))
  dual_truncation x = record { agrees = ex.dual_of_truncation x.meaning x.lawful }

  pub dual_rights : (x : LawfulRule) → Same (lay Dual (lay MinimalRights x)) (lay Truncation (lay Dual x))
  dual_rights x = record { agrees = ex.dual_of_rights x.meaning x.lawful }

  pub dual_seniority : (x : LawfulRule) → Same (lay Dual (lay Seniority x)) (lay ReverseSeniority (lay Dual x))
  dual_seniority x = record { agrees = sen.dual_of_served senior_first junior_first sen.senior_mirrored classes classed x.meaning x.lawful }

  pub dual_reverse : (x : LawfulRule) → Same (lay Dual (lay ReverseSeniority x)) (lay Seniority (lay Dual x))
  dual_reverse x = record { agrees = sen.dual_of_served junior_first senior_first sen.junior_mirrored classes classed x.meaning x.lawful }

  pub truncation_truncation : (x : LawfulRule) → Same (lay Truncation (lay Truncation x)) (lay Truncation x)
  truncation_truncation x = record { agrees = ex.truncation_twice x.meaning }

  pub rights_rights : (x : LawfulRule) → Same (lay MinimalRights (lay MinimalRights x)) (lay MinimalRights x)
  rights_rights x = record { agrees = ex.rights_twice x.meaning x.lawful }

  pub truncation_rights : (x : LawfulRule) → Same (lay Truncation (lay MinimalRights x)) (lay MinimalRights (lay Truncation x))
  truncation_rights x = record { agrees = ex.rights_truncation x.meaning }

  pub rights_is : (x : LawfulRule) → Same (lay MinimalRights x) (lay Dual (lay Truncation (lay Dual x)))
  rights_is x = record { agrees = ex.rights_by_duality x.meaning x.lawful }

  pub outer_truncation : (o : Operator) → is_seniority o ≡ true → (x : LawfulRule) → Same (lay Truncation (lay o (lay Truncation x))) (lay o (lay Truncation x))
  outer_truncation Dual e x = absurd (false≢true e)
  outer_truncation Truncation e x = absurd (false≢true e)
  outer_truncation MinimalRights e x = absurd (false≢true e)
  outer_truncation Seniority e x = record { agrees = sen.truncation_of_served senior_first classes senior_once classed x.meaning }
  outer_truncation ReverseSeniority e x = record { agrees = sen.truncation_of_served junior_first classes junior_once classed x.meaning }

  -- s for r and r for s
  abbrev mirror : Operator → Operator
  mirror Dual = Dual
  mirror Truncation = Truncation
  mirror MinimalRights = MinimalRights
  mirror Seniority = ReverseSeniority
  mirror ReverseSeniority = Seniority

  mirror_is : (o : Operator) → is_seniority o ≡ true → is_seniority (mirror o) ≡ true
  mirror_is Dual e = e
  mirror_is Truncation e = e
  mirror_is MinimalRights e = e
  mirror_is Seniority e = refl
  mirror_is ReverseSeniority e = refl

  pub dual_order : (o : Operator) → is_seniority o ≡ true → (x : LawfulRule) → Same (lay Dual (lay o x)) (lay (mirror o) (lay Dual x))
  dual_order Dual e x = absurd (false≢true e)
  dual_order Truncation e x = absurd (false≢true e)
  dual_order MinimalRights e x = absurd (false≢true e)
  dual_order Seniority e x = dual_seniority x
  dual_order ReverseSeniority e x = dual_reverse x

  dual_mirror : (o : Operator) → is_seniority o ≡ true → (x : LawfulRule) → Same (lay Dual (lay (mirror o) x)) (lay o (lay Dual x))
  dual_mirror Dual e x = absurd (false≢true e)
  dual_mirror Truncation e x = absurd (false≢true e)
  dual_mirror MinimalRights e x = absurd (false≢true e)
  dual_mirror Seniority e x = dual_reverse x
  dual_mirror ReverseSeniority e x = dual_seniority x

  pub outer_rights : (o : Operator) → is_seniority o ≡ true → (x : LawfulRule) → Same (lay MinimalRights (lay o (lay MinimalRights x))) (lay o (lay MinimalRights x))
  outer_rights o e x =
      follow (rights_is (lay o (lay MinimalRights x)))
      (follow (under Dual (under Truncation (dual_order o e (lay MinimalRights x))))
      (follow (under Dual (under Truncation (under (mirror o) (dual_rights x))))
      (follow (under Dual (outer_truncation (mirror o) (mirror_is o e) (lay Dual x)))
      (follow (dual_mirror o e (lay Truncation (lay Dual x)))
      (under o (back (rights_is x)))))))

  -- rules that agree within each class
  pub record SameInClass (x y : LawfulRule) : Type 0 where
    pub agrees : AgreeInClass classes x.meaning y.meaning

  pub class_same : {x : LawfulRule} → SameInClass x x
  class_same = record { agrees = sen.in_class classes agree }

  pub class_truncation : {x y : LawfulRule} → SameInClass x y → SameInClass (lay Truncation x) (lay Truncation y)
  class_truncation a = record { agrees = sen.in_class_truncation classes a.agrees }

  pub class_rights : {x y : LawfulRule} → SameInClass x y → SameInClass (lay MinimalRights x) (lay MinimalRights y)
  class_rights a = record { agrees = sen.in_class_rights classes a.agrees }

  -- within each class a seniority letter does nothing
  pub class_order : (o : Operator) → is_seniority o ≡ true → (x : LawfulRule) → SameInClass (lay o x) x
  class_order Dual e x = absurd (false≢true e)
  class_order Truncation e x = absurd (false≢true e)
  class_order MinimalRights e x = absurd (false≢true e)
  class_order Seniority e x = record { agrees = sen.within_one_class senior_first classes senior_once classed x.meaning x.lawful }
  class_order ReverseSeniority e x = record { agrees = sen.within_one_class junior_first classes junior_once classed x.meaning x.lawful }

  -- a seniority letter uses of a rule only what it does within each class
  pub under_seniority : (o : Operator) → is_seniority o ≡ true → {x y : LawfulRule} → SameInClass x y → Same (lay o x) (lay o y)
  under_seniority Dual e a = absurd (false≢true e)
  under_seniority Truncation e a = absurd (false≢true e)
  under_seniority MinimalRights e a = absurd (false≢true e)
  under_seniority Seniority e a = record { agrees = sen.under_order classes senior_first a.agrees }
  under_seniority ReverseSeniority e a = record { agrees = sen.under_order classes junior_first a.agrees }

  -- a letter where a flag is set, and the laws of such letters
  abbrev pub lay_so : Bool → Operator → LawfulRule → LawfulRule
  lay_so b o x = lay_all (where_so b o) x

  abbrev pub lay_order : Option ClassOrder → LawfulRule → LawfulRule
  lay_order order x = lay_all (seniority_letter order) x

  pub under_so : (b : Bool) (o : Operator) {x y : LawfulRule} → Same x y → Same (lay_so b o x) (lay_so b o y)
  under_so b o a = under_all (where_so b o) a

  pub under_place : (order : Option ClassOrder) {x y : LawfulRule} → Same x y → Same (lay_order order x) (lay_order order y)
  under_place order a = under_all (seniority_letter order) a

  pub dual_so_rights : (b : Bool) (x : LawfulRule) → Same (lay Dual (lay_so b MinimalRights x)) (lay_so b Truncation (lay Dual x))
  dual_so_rights true x = dual_rights x
  dual_so_rights false x = same

  pub dual_so_truncation : (b : Bool) (x : LawfulRule) → Same (lay Dual (lay_so b Truncation x)) (lay_so b MinimalRights (lay Dual x))
  dual_so_truncation true x = dual_truncation x
  dual_so_truncation false x = same

  pub dual_so_order : (order : Option ClassOrder) (x : LawfulRule) → Same (lay Dual (lay_order order x)) (lay_order (reversed order) (lay Dual x))
  dual_so_order None x = same
  dual_so_order (Some SeniorFirst) x = dual_seniority x
  dual_so_order (Some JuniorFirst) x = dual_reverse x

  pub dual_so_dual : (b : Bool) (x : LawfulRule) → Same (lay Dual (lay_so b Dual x)) (lay_so (not b) Dual x)
  dual_so_dual true x = dual_dual x
  dual_so_dual false x = same

  pub truncation_so_rights : (b : Bool) (x : LawfulRule) → Same (lay Truncation (lay_so b MinimalRights x)) (lay_so b MinimalRights (lay Truncation x))
  truncation_so_rights true x = truncation_rights x
  truncation_so_rights false x = same

  pub rights_so_truncation : (b : Bool) (x : LawfulRule) → Same (lay MinimalRights (lay_so b Truncation x)) (lay_so b Truncation (lay MinimalRights x))
  rights_so_truncation true x = back (truncation_rights x)
  rights_so_truncation false x = same

  pub so_truncation_rights : (a b : Bool) (x : LawfulRule) → Same (lay_so a Truncation (lay_so b MinimalRights x)) (lay_so b MinimalRights (lay_so a Truncation x))
  so_truncation_rights true b x = truncation_so_rights b x
  so_truncation_rights false b x = same

  pub class_so_truncation : (b : Bool) {x y : LawfulRule} → SameInClass x y → SameInClass (lay_so b Truncation x) (lay_so b Truncation y)
  class_so_truncation true a = class_truncation a
  class_so_truncation false a = a

  pub class_so_rights : (b : Bool) {x y : LawfulRule} → SameInClass x y → SameInClass (lay_so b MinimalRights x) (lay_so b MinimalRights y)
  class_so_rights true a = class_rights a
  class_so_rights false a = a

  pub class_so_order : (order : Option ClassOrder) (x : LawfulRule) → SameInClass (lay_order order x) x
  class_so_order None x = class_same
  class_so_order (Some SeniorFirst) x = class_order Seniority refl x
  class_so_order (Some JuniorFirst) x = class_order ReverseSeniority refl x

  -- the inner letters of a form laid on a rule
  abbrev inner : Bool → Place → Place → LawfulRule → LawfulRule
  inner d t m x = lay_so (is_inner m) MinimalRights (lay_so (is_inner t) Truncation (lay_so d Dual x))

  -- a form laid on a rule, layer by layer
  abbrev pub layered : Bool → Option ClassOrder → Place → Place → LawfulRule → LawfulRule
  layered d order t m x = lay_so (is_outer m) MinimalRights (lay_so (is_outer t) Truncation (lay_order order (inner d t m x)))

  press_dual : (d : Bool) (order : Option ClassOrder) (t m : Place) (x : LawfulRule) → Same (lay Dual (layered d order t m x)) (layered (not d) (reversed order) m t x)
  press_dual d order t m x =
      follow (dual_so_rights (is_outer m) (lay_so (is_outer t) Truncation (lay_order order (inner d t m x))))
      (follow (under_so (is_outer m) Truncation (dual_so_truncation (is_outer t) (lay_order order (inner d t m x))))
      (follow (so_truncation_rights (is_outer m) (is_outer t) (lay Dual (lay_order order (inner d t m x))))
      (under_so (is_outer t) MinimalRights (under_so (is_outer m) Truncation
      (follow (dual_so_order order (inner d t m x))
      (under_place (reversed order)
      (follow (dual_so_rights (is_inner m) (lay_so (is_inner t) Truncation (lay_so d Dual x)))
      (follow (under_so (is_inner m) Truncation (dual_so_truncation (is_inner t) (lay_so d Dual x)))
      (follow (so_truncation_rights (is_inner m) (is_inner t) (lay Dual (lay_so d Dual x)))
      (under_so (is_inner t) MinimalRights (under_so (is_inner m) Truncation (dual_so_dual d x))))))))))))

  -- where a t lies inside a seniority letter, beside an m or not, one outside does nothing
  truncation_idle : (o : Operator) → is_seniority o ≡ true → (m : Bool) (z : LawfulRule) → Same (lay Truncation (lay o (lay_so m MinimalRights (lay Truncation z)))) (lay o (lay_so m MinimalRights (lay Truncation z)))
  truncation_idle o e m z =
      follow (under Truncation (under o (back (truncation_so_rights m z))))
      (follow (outer_truncation o e (lay_so m MinimalRights z)) (under o (truncation_so_rights m z)))

  press_truncation : (d : Bool) (order : Option ClassOrder) (t m : Place) (x : LawfulRule) → Same (lay Truncation (layered d order t m x)) (layered d order (laid order t) m x)
  press_truncation d None Absent m x =
      follow (truncation_so_rights (is_outer m) (lay_so (is_inner m) MinimalRights (lay_so d Dual x)))
      (under_so (is_outer m) MinimalRights (truncation_so_rights (is_inner m) (lay_so d Dual x)))
  press_truncation d None Inner m x =
      follow (truncation_so_rights (is_outer m) (lay_so (is_inner m) MinimalRights (lay Truncation (lay_so d Dual x))))
      (under_so (is_outer m) MinimalRights
      (follow (truncation_so_rights (is_inner m) (lay Truncation (lay_so d Dual x)))
      (under_so (is_inner m) MinimalRights (truncation_truncation (lay_so d Dual x)))))
  press_truncation d None Outer m x =
      let below = lay_so (is_inner m) MinimalRights (lay_so d Dual x) in
      follow (truncation_so_rights (is_outer m) (lay Truncation below)) (under_so (is_outer m) MinimalRights (truncation_truncation below))
  press_truncation d (Some SeniorFirst) Absent m x = truncation_so_rights (is_outer m) (lay Seniority (lay_so (is_inner m) MinimalRights (lay_so d Dual x)))
  press_truncation d (Some SeniorFirst) Inner m x =
      follow (truncation_so_rights (is_outer m) (lay Seniority (lay_so (is_inner m) MinimalRights (lay Truncation (lay_so d Dual x)))))
      (under_so (is_outer m) MinimalRights (truncation_idle Seniority refl (is_inner m) (lay_so d Dual x)))
  press_truncation d (Some SeniorFirst) Outer m x =
      let below = lay Seniority (lay_so (is_inner m) MinimalRights (lay_so d Dual x)) in
      follow (truncation_so_rights (is_outer m) (lay Truncation below)) (under_so (is_outer m) MinimalRights (truncation_truncation below))
  press_truncation d (Some JuniorFirst) Absent m x = truncation_so_rights (is_outer m) (lay ReverseSeniority (lay_so (is_inner m) MinimalRights (lay_so d Dual x)))
  press_truncation d (Some JuniorFirst) Inner m x =
      follow (truncation_so_rights (is_outer m) (lay ReverseSeniority (lay_so (is_inner m) MinimalRights (lay Truncation (lay_so d Dual x)))))
      (under_so (is_outer m) MinimalRights (truncation_idle ReverseSeniority refl (is_inner m) (lay_so d Dual x)))
  press_truncation d (Some JuniorFirst) Outer m x =
      let below = lay ReverseSeniority (lay_so (is_inner m) MinimalRights (lay_so d Dual x)) in
      follow (truncation_so_rights (is_outer m) (lay Truncation below)) (under_so (is_outer m) MinimalRights (truncation_truncation below))

  press_rights : (d : Bool) (order : Option ClassOrder) (t m : Place) (x : LawfulRule) → Same (lay MinimalRights (layered d order t m x)) (layered d order t (laid order m) x)
  press_rights d None t Absent x = rights_so_truncation (is_outer t) (lay_so (is_inner t) Truncation (lay_so d Dual x))
  press_rights d None t Inner x =
      let below = lay_so (is_inner t) Truncation (lay_so d Dual x) in
      follow (rights_so_truncation (is_outer t) (lay MinimalRights below)) (under_so (is_outer t) Truncation (rights_rights below))
  press_rights d None t Outer x = rights_rights (lay_so (is_outer t) Truncation (lay_so (is_inner t) Truncation (lay_so d Dual x)))
  press_rights d (Some SeniorFirst) t Absent x = same
  press_rights d (Some SeniorFirst) t Inner x =
      let below = lay_so (is_inner t) Truncation (lay_so d Dual x) in
      follow (rights_so_truncation (is_outer t) (lay Seniority (lay MinimalRights below))) (under_so (is_outer t) Truncation (outer_rights Seniority refl below))
  press_rights d (Some SeniorFirst) t Outer x = rights_rights (lay_so (is_outer t) Truncation (lay Seniority (lay_so (is_inner t) Truncation (lay_so d Dual x))))
  press_rights d (Some JuniorFirst) t Absent x = same
  press_rights d (Some JuniorFirst) t Inner x =
      let below = lay_so (is_inner t) Truncation (lay_so d Dual x) in
      follow (rights_so_truncation (is_outer t) (lay ReverseSeniority (lay MinimalRights below))) (under_so (is_outer t) Truncation (outer_rights ReverseSeniority refl below))
  press_rights d (Some JuniorFirst) t Outer x = rights_rights (lay_so (is_outer t) Truncation (lay ReverseSeniority (lay_so (is_inner t) Truncation (lay_so d Dual x))))

  -- outer letters and inner ones side by side
  gathered : (t m : Place) (z : LawfulRule) → Same (lay_so (is_outer m) MinimalRights (lay_so (is_outer t) Truncation (lay_so (is_inner m) MinimalRights (lay_so (is_inner t) Truncation z)))) (lay_so (is_inner (enclosed m)) MinimalRights (lay_so (is_inner (enclosed t)) Truncation z))
  gathered Absent Absent z = same
  gathered Inner Absent z = same
  gathered Outer Absent z = same
  gathered Absent Inner z = same
  gathered Inner Inner z = same
  gathered Outer Inner z = truncation_rights z
  gathered Absent Outer z = same
  gathered Inner Outer z = same
  gathered Outer Outer z = same

  -- a place that a seniority letter encloses is not outside it
  none_outside : (p : Place) (o : Operator) (x : LawfulRule) → Same x (lay_so (is_outer (enclosed p)) o x)
  none_outside Absent o x = same
  none_outside Inner o x = same
  none_outside Outer o x = same

  press_order : (o : Operator) → is_seniority o ≡ true → (d : Bool) (order : Option ClassOrder) (t m : Place) (x : LawfulRule) → Same (lay o (layered d order t m x)) (lay_so (is_outer (enclosed m)) MinimalRights (lay_so (is_outer (enclosed t)) Truncation (lay o (inner d (enclosed t) (enclosed m) x))))
  press_order o e d order t m x =
      follow (under_seniority o e (class_so_rights (is_outer m) (class_so_truncation (is_outer t) (class_so_order order (inner d t m x)))))
      (follow (under o (gathered t m (lay_so d Dual x)))
      (follow (none_outside t Truncation (lay o (inner d (enclosed t) (enclosed m) x)))
      (none_outside m MinimalRights (lay_so (is_outer (enclosed t)) Truncation (lay o (inner d (enclosed t) (enclosed m) x))))))

  -- a form laid on a rule
  abbrev layers : Parts → LawfulRule → LawfulRule
  layers p x = layered p.dual p.order p.truncation p.rights x

  -- a letter laid on a form is that letter pressed on it
  press : (p : Parts) (o : Operator) (x : LawfulRule) → Same (lay o (layers p x)) (layers (pressed p o) x)
  press p Dual x = press_dual p.dual p.order p.truncation p.rights x
  press p Truncation x = press_truncation p.dual p.order p.truncation p.rights x
  press p MinimalRights x = press_rights p.dual p.order p.truncation p.rights x
  press p Seniority x = press_order Seniority refl p.dual p.order p.truncation p.rights x
  press p ReverseSeniority x = press_order ReverseSeniority refl p.dual p.order p.truncation p.rights x

  press_in_turn : (letters : List Operator) (p : Parts) (x : LawfulRule) → Same (lay_all letters (layers p x)) (layers (pressed_in_turn p letters) x)
  press_in_turn [] p x = same
  press_in_turn (o ∷ os) p x = follow (under_all os (press p o x)) (press_in_turn os (pressed p o) x)

  -- a form laid on a rule is its letters laid on it in turn
  laid_letters : (p : Parts) (x : LawfulRule) → lay_all (letters_of p) x ≡ layers p x
  laid_letters p x =
      let d = where_so p.dual Dual in
      let it = where_so (is_inner p.truncation) Truncation in
      let im = where_so (is_inner p.rights) MinimalRights in
      let s = seniority_letter p.order in
      let ot = where_so (is_outer p.truncation) Truncation in
      let om = where_so (is_outer p.rights) MinimalRights in
      lay_all_joined d (it ++ (im ++ (s ++ (ot ++ om)))) x
      ∙ lay_all_joined it (im ++ (s ++ (ot ++ om))) (lay_all d x)
      ∙ lay_all_joined im (s ++ (ot ++ om)) (lay_all it (lay_all d x))
      ∙ lay_all_joined s (ot ++ om) (lay_all im (lay_all it (lay_all d x)))
      ∙ lay_all_joined ot om (lay_all s (lay_all im (lay_all it (lay_all d x))))

  -- a string and the letters of its normal form, laid on a rule
  form_same : (letters : List Operator) (x : LawfulRule) → Same (lay_all letters x) (lay_all (letters_of (normal_form letters)) x)
  form_same letters x = subst (λ y. Same (lay_all letters x) y) (sym (laid_letters (normal_form letters) x)) (press_in_turn letters no_letters x)

  -- agreement of strings laid on a rule, as agreement of what they make of its meaning
  pub strings_agree : (left right : List Operator) (x : LawfulRule) → Same (lay_all left x) (lay_all right x) → Agree (applied left classes x.meaning) (applied right classes x.meaning)
  strings_agree left right x a = record {
    same = λ claims estate s.
        ap (λ g. g claims estate) (sym (laid_meaning left x)) ∙ a.agrees.same claims estate s ∙ ap (λ g. g claims estate) (laid_meaning right x);
  }

  -- a string makes the same of a lawful rule as the letters of its normal form
  pub form_agrees : (letters : List Operator) (f : Meaning) → Lawful f → Agree (applied letters classes f) (applied (letters_of (normal_form letters)) classes f)
  form_agrees letters f law = strings_agree letters (letters_of (normal_form letters)) (record { meaning = f; lawful = law }) (form_same letters (record { meaning = f; lawful = law }))
