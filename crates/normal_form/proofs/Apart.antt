-- The 44 forms and the nine problems: one computed test shows that no two forms give the same awards on all nine.
-- Assumes nothing.
use Rattle.std.proofs.Common.{◌≡◌, ℕ, zero, suc, ◌-◌, ◌<◌, ◌≤◌, Bool, true, false, cond, not, ◌&&◌, ◌||◌, T, eqb, leb, List, [], ◌∷◌, ◌++◌, map, length, get_or, sym, refl, ap, ◌∙◌, subst, inl, inr, arith, lit≤, Some, None, Option}
use mathlib.Core.Bool.{beq, false≢true}
use Rattle.std.specs.List.{flat_map, ContainsAt as Has, AllByRecursion}
use Rattle.std.proofs.lemmas.List.{get_or-map}
use Rattle.std.proofs.ByRecursion.{All-get_or}
use Rattle.std.proofs.lemmas.Bool.{cases_Bool, eqb-true, eq-eqb, and_parts, or_cases, cond-true, both_ways}
use Rattle.division.specs.Problem.{Sound, Lawful}
use Rattle.division.specs.PriorityLawful.{priority_lawful}
use Rattle.division.specs.ProportionLawful.{proportion_lawful}
use Rattle.operators.specs.Operators.{Classed, last_class}
use Rattle.normal_form.specs.declared.letter.Operator.{Operator}
use Rattle.normal_form.specs.declared.letter.Operator.TheVariants.{Dual, Truncation, MinimalRights, Seniority, ReverseSeniority}
use Rattle.operators.specs.declared.classes.ClassOrder.{ClassOrder}
use Rattle.operators.specs.declared.classes.ClassOrder.TheVariants.{SeniorFirst, JuniorFirst}
use Rattle.normal_form.specs.declared.form.Place.{Place}
use Rattle.normal_form.specs.declared.form.Place.TheVariants.{Absent, Inner, Outer}
use Rattle.normal_form.specs.Forms.{Parts, WellPlaced, well_placed, no_letters, pressed, pressed_in_turn, normal_form, letters_of, all_forms}
use Rattle.normal_form.specs.Alike.{Telling, tellings, first_telling, telling, told, ToldApart}

-- whether two lists of numbers are the same
abbrev alike_lists : List ℕ → List ℕ → Bool
alike_lists [] [] = true
alike_lists [] (y ∷ ys) = false
alike_lists (x ∷ xs) [] = false
alike_lists (x ∷ xs) (y ∷ ys) = eqb x y && alike_lists xs ys

alike_same : (xs : List ℕ) → alike_lists xs xs ≡ true
alike_same [] = refl
alike_same (x ∷ xs) = ap (λ b. b && alike_lists xs xs) (eq-eqb x x refl) ∙ alike_same xs

-- the awards of a form on all nine problems, one after the other
abbrev awards_of : Parts → List ℕ
awards_of p = flat_map (told (letters_of p)) tellings

-- whether a list stands nowhere in a list of lists
abbrev nowhere : List ℕ → List (List ℕ) → Bool
nowhere xs [] = true
nowhere xs (ys ∷ yss) = not (alike_lists xs ys) && nowhere xs yss

-- whether no two lists of a list of lists are the same
abbrev all_apart : List (List ℕ) → Bool
all_apart [] = true
all_apart (xs ∷ xss) = nowhere xs xss && all_apart xss

forms_apart : all_apart (map awards_of all_forms) ≡ true
forms_apart = refl

not_true : (b : Bool) → not b ≡ true → b ≡ true → ⊥
not_true true e f = false≢true e
not_true false e f = false≢true f

nowhere_at : (xs : List ℕ) (yss : List (List ℕ)) → nowhere xs yss ≡ true → (j : ℕ) → j < length yss → xs ≡ get_or yss j [] → ⊥
nowhere_at xs [] h j within e = absurd (omega arith)
nowhere_at xs (ys ∷ yss) h zero within e =
    not_true (alike_lists xs ys) (and_parts (not (alike_lists xs ys)) (nowhere xs yss) h).0 (ap (alike_lists xs) (sym e) ∙ alike_same xs)
nowhere_at xs (ys ∷ yss) h (suc j) within e =
    nowhere_at xs yss (and_parts (not (alike_lists xs ys)) (nowhere xs yss) h).1 j (omega arith) e

-- lists that are all apart stand at one place each
apart_places : (xss : List (List ℕ)) → all_apart xss ≡ true → (i j : ℕ) → i < length xss → j < length xss → get_or xss i [] ≡ get_or xss j [] → i ≡ j
apart_places [] h i j within within' e = absurd (omega arith)
apart_places (xs ∷ xss) h zero zero within within' e = refl
apart_places (xs ∷ xss) h zero (suc j) within within' e =
    absurd (nowhere_at xs xss (and_parts (nowhere xs xss) (all_apart xss) h).0 j (omega arith) e)
apart_places (xs ∷ xss) h (suc i) zero within within' e =
    absurd (nowhere_at xs xss (and_parts (nowhere xs xss) (all_apart xss) h).0 i (omega arith) (sym e))
apart_places (xs ∷ xss) h (suc i) (suc j) within within' e =
    ap suc (apart_places xss (and_parts (nowhere xs xss) (all_apart xss) h).1 i j (omega arith) (omega arith) e)

-- two places of the list of all forms with the same awards are one place
same_place : (i j : ℕ) → i < 44 → j < 44 → awards_of (get_or all_forms i no_letters) ≡ awards_of (get_or all_forms j no_letters) → i ≡ j
same_place i j within within' e =
    apart_places (map awards_of all_forms) forms_apart i j within within'
    (get_or-map awards_of all_forms i no_letters [] within ∙ e ∙ sym (get_or-map awards_of all_forms j no_letters [] within'))

pub forms_once : (i j : ℕ) → i < 44 → j < 44 → get_or all_forms i no_letters ≡ get_or all_forms j no_letters → i ≡ j
forms_once i j within within' e = same_place i j within within' (ap awards_of e)

abbrev same_order : Option ClassOrder → Option ClassOrder → Bool
same_order None None = true
same_order None (Some SeniorFirst) = false
same_order None (Some JuniorFirst) = false
same_order (Some SeniorFirst) None = false
same_order (Some SeniorFirst) (Some SeniorFirst) = true
same_order (Some SeniorFirst) (Some JuniorFirst) = false
same_order (Some JuniorFirst) None = false
same_order (Some JuniorFirst) (Some SeniorFirst) = false
same_order (Some JuniorFirst) (Some JuniorFirst) = true

same_order_is : (x y : Option ClassOrder) → same_order x y ≡ true → x ≡ y
same_order_is None None e = refl
same_order_is None (Some SeniorFirst) e = absurd (false≢true e)
same_order_is None (Some JuniorFirst) e = absurd (false≢true e)
same_order_is (Some SeniorFirst) None e = absurd (false≢true e)
same_order_is (Some SeniorFirst) (Some SeniorFirst) e = refl
same_order_is (Some SeniorFirst) (Some JuniorFirst) e = absurd (false≢true e)
same_order_is (Some JuniorFirst) None e = absurd (false≢true e)
same_order_is (Some JuniorFirst) (Some SeniorFirst) e = absurd (false≢true e)
same_order_is (Some JuniorFirst) (Some JuniorFirst) e = refl

abbrev same_spot : Place → Place → Bool
same_spot Absent Absent = true
same_spot Absent Inner = false
same_spot Absent Outer = false
same_spot Inner Absent = false
same_spot Inner Inner = true
same_spot Inner Outer = false
same_spot Outer Absent = false
same_spot Outer Inner = false
same_spot Outer Outer = true

same_spot_is : (x y : Place) → same_spot x y ≡ true → x ≡ y
same_spot_is Absent Absent e = refl
same_spot_is Absent Inner e = absurd (false≢true e)
same_spot_is Absent Outer e = absurd (false≢true e)
same_spot_is Inner Absent e = absurd (false≢true e)
same_spot_is Inner Inner e = refl
same_spot_is Inner Outer e = absurd (false≢true e)
same_spot_is Outer Absent e = absurd (false≢true e)
same_spot_is Outer Inner e = absurd (false≢true e)
same_spot_is Outer Outer e = refl

same_flag_is : (x y : Bool) → beq x y ≡ true → x ≡ y
same_flag_is true true e = refl
same_flag_is true false e = absurd (false≢true e)
same_flag_is false true e = absurd (false≢true e)
same_flag_is false false e = refl

-- forms whose parts are the same are the same
pub same_parts : (p q : Parts) → p.dual ≡ q.dual → p.order ≡ q.order → p.truncation ≡ q.truncation → p.rights ≡ q.rights → p ≡ q
same_parts p q e f g h = λ i. record { dual = e i; order = f i; truncation = g i; rights = h i }

abbrev same_form : Parts → Parts → Bool
same_form p q =
    beq p.dual q.dual && (same_order p.order q.order && (same_spot p.truncation q.truncation && same_spot p.rights q.rights))

same_form_is : (p q : Parts) → same_form p q ≡ true → p ≡ q
same_form_is p q e =
    let a = beq p.dual q.dual in
    let b = same_order p.order q.order in
    let c = same_spot p.truncation q.truncation in
    let d = same_spot p.rights q.rights in
    let one = and_parts a (b && (c && d)) e in
    let two = and_parts b (c && d) one.1 in
    let three = and_parts c d two.1 in
    same_parts p q (same_flag_is p.dual q.dual one.0) (same_order_is p.order q.order two.0)
    (same_spot_is p.truncation q.truncation three.0) (same_spot_is p.rights q.rights three.1)

-- a test at both flags, at the three seniority letters, at the three places
abbrev every_flag : (Bool → Bool) → Bool
every_flag f = f true && f false

every_flag_at : (f : Bool → Bool) → every_flag f ≡ true → (b : Bool) → f b ≡ true
every_flag_at f e true = (and_parts (f true) (f false) e).0
every_flag_at f e false = (and_parts (f true) (f false) e).1

abbrev every_order : (Option ClassOrder → Bool) → Bool
every_order f = f None && (f (Some SeniorFirst) && f (Some JuniorFirst))

every_order_at : (f : Option ClassOrder → Bool) → every_order f ≡ true → (o : Option ClassOrder) → f o ≡ true
every_order_at f e None = (and_parts (f None) (f (Some SeniorFirst) && f (Some JuniorFirst)) e).0
every_order_at f e (Some SeniorFirst) = (and_parts (f (Some SeniorFirst)) (f (Some JuniorFirst)) (and_parts (f None) (f (Some SeniorFirst) && f (Some JuniorFirst)) e).1).0
every_order_at f e (Some JuniorFirst) = (and_parts (f (Some SeniorFirst)) (f (Some JuniorFirst)) (and_parts (f None) (f (Some SeniorFirst) && f (Some JuniorFirst)) e).1).1

abbrev every_place : (Place → Bool) → Bool
every_place f = f Absent && (f Inner && f Outer)

every_place_at : (f : Place → Bool) → every_place f ≡ true → (p : Place) → f p ≡ true
every_place_at f e Absent = (and_parts (f Absent) (f Inner && f Outer) e).0
every_place_at f e Inner = (and_parts (f Inner) (f Outer) (and_parts (f Absent) (f Inner && f Outer) e).1).0
every_place_at f e Outer = (and_parts (f Inner) (f Outer) (and_parts (f Absent) (f Inner && f Outer) e).1).1

-- a test at all parts that there are
abbrev every_parts : (Parts → Bool) → Bool
every_parts f = every_flag (λ d. every_order (λ o. every_place (λ t. every_place (λ m. f (record { dual = d; order = o; truncation = t; rights = m })))))

every_parts_at : (f : Parts → Bool) → every_parts f ≡ true → (p : Parts) → f p ≡ true
every_parts_at f e p =
    every_place_at (λ m. f (record { dual = p.dual; order = p.order; truncation = p.truncation; rights = m }))
    (every_place_at (λ t. every_place (λ m. f (record { dual = p.dual; order = p.order; truncation = t; rights = m })))
    (every_order_at (λ o. every_place (λ t. every_place (λ m. f (record { dual = p.dual; order = o; truncation = t; rights = m }))))
    (every_flag_at (λ d. every_order (λ o. every_place (λ t. every_place (λ m. f (record { dual = d; order = o; truncation = t; rights = m }))))) e p.dual)
    p.order) p.truncation) p.rights

-- whether a form stands in a list of forms
abbrev found : Parts → List Parts → Bool
found p [] = false
found p (q ∷ qs) = same_form q p || found p qs

found_has : (p : Parts) (xs : List Parts) → found p xs ≡ true → Has xs p
found_has p [] e = absurd (false≢true e)
found_has p (x ∷ xs) e =
    elim (or_cases (same_form x p) (found p xs) e) [
      | inl here ↦ (0, omega arith, λ d. same_form_is x p here)
      | inr later ↦ (let rest = found_has p xs later in (suc rest.0, omega (arith, rest.1), rest.2))
    ]

-- of all parts that there are, those that a form may have stand in the list of all forms, and each of these is the normal
-- form of its letters
abbrev listed : Parts → Bool
listed p = cond (well_placed p.order p.truncation p.rights) (found p all_forms) true

abbrev reached : Parts → Bool
reached p = cond (well_placed p.order p.truncation p.rights) (same_form (normal_form (letters_of p)) p) true

all_listed : every_parts listed ≡ true
all_listed = refl

all_reached : every_parts reached ≡ true
all_reached = refl

pub form_listed : (p : Parts) → WellPlaced p → Has all_forms p
form_listed p fits = found_has p all_forms (sym (cond-true (well_placed p.order p.truncation p.rights) (found p all_forms) true fits) ∙ every_parts_at listed all_listed p)

pub form_reached : (p : Parts) → WellPlaced p → normal_form (letters_of p) ≡ p
form_reached p fits =
    same_form_is (normal_form (letters_of p)) p
    (sym (cond-true (well_placed p.order p.truncation p.rights) (same_form (normal_form (letters_of p)) p) true fits) ∙ every_parts_at reached all_reached p)

-- a form stands at each place of a list of forms, and past its end
abbrev all_fit : List Parts → Bool
all_fit [] = true
all_fit (p ∷ ps) = well_placed p.order p.truncation p.rights && all_fit ps

all_fit_at : (ps : List Parts) → all_fit ps ≡ true → (i : ℕ) → WellPlaced (get_or ps i no_letters)
all_fit_at [] e i = refl
all_fit_at (p ∷ ps) e zero = (and_parts (well_placed p.order p.truncation p.rights) (all_fit ps) e).0
all_fit_at (p ∷ ps) e (suc i) = all_fit_at ps (and_parts (well_placed p.order p.truncation p.rights) (all_fit ps) e).1 i

pub form_at : (i : ℕ) → WellPlaced (get_or all_forms i no_letters)
form_at i = all_fit_at all_forms refl i

-- pressing a letter on a form leaves a form
abbrev pressed_fits : Operator → Parts → Bool
pressed_fits o p =
    let q = pressed p o in
    cond (well_placed p.order p.truncation p.rights) (well_placed q.order q.truncation q.rights) true

every_letter : (o : Operator) → every_parts (pressed_fits o) ≡ true
every_letter Dual = refl
every_letter Truncation = refl
every_letter MinimalRights = refl
every_letter Seniority = refl
every_letter ReverseSeniority = refl

pub press_fits : (p : Parts) (o : Operator) → WellPlaced p → WellPlaced (pressed p o)
press_fits p o fits =
    let q = pressed p o in
    sym (cond-true (well_placed p.order p.truncation p.rights) (well_placed q.order q.truncation q.rights) true fits) ∙ every_parts_at (pressed_fits o) (every_letter o) p

turns_fit : (letters : List Operator) (p : Parts) → WellPlaced p → WellPlaced (pressed_in_turn p letters)
turns_fit [] p fits = fits
turns_fit (o ∷ os) p fits = turns_fit os (pressed p o) (press_fits p o fits)

pub normal_fits : (letters : List Operator) → WellPlaced (normal_form letters)
normal_fits letters = turns_fit letters no_letters refl

alike_is : (xs ys : List ℕ) → alike_lists xs ys ≡ true → xs ≡ ys
alike_is [] [] e = refl
alike_is [] (y ∷ ys) e = absurd (false≢true e)
alike_is (x ∷ xs) [] e = absurd (false≢true e)
alike_is (x ∷ xs) (y ∷ ys) e =
    let both = and_parts (eqb x y) (alike_lists xs ys) e in
    ap (λ z. z ∷ xs) (eqb-true x y both.0) ∙ ap (λ zs. y ∷ zs) (alike_is xs ys both.1)

-- where all awards together differ, those of one problem do
first_difference : (a b : Telling → List ℕ) (ts : List Telling) → (flat_map a ts ≡ flat_map b ts → ⊥) → (n : ℕ) × (n < length ts) × (a (get_or ts n first_telling) ≡ b (get_or ts n first_telling) → ⊥)
first_difference a b [] differ = absurd (differ refl)
first_difference a b (t ∷ ts) differ =
    elim (cases_Bool (alike_lists (a t) (b t))) [
      | inl alike ↦
          (let same = alike_is (a t) (b t) alike in
          let rest = first_difference a b ts (λ e. differ (ap (λ xs. xs ++ flat_map a ts) same ∙ ap (λ ys. b t ++ ys) e)) in
          (suc rest.0, omega (arith, rest.1), rest.2))
      | inr unlike ↦ (0, omega arith, λ e. both_ways (alike_lists (a t) (b t)) unlike (ap (λ xs. alike_lists xs (b t)) e ∙ alike_same (b t)))
    ]

-- different forms give different awards on one of the nine problems
pub forms_told_apart : (p q : Parts) → WellPlaced p → WellPlaced q → (p ≡ q → ⊥) → ToldApart (letters_of p) (letters_of q)
forms_told_apart p q fits fits' differ =
    let here = form_listed p fits in
    let there = form_listed q fits' in
    let apart : awards_of p ≡ awards_of q → ⊥ = λ e.
    let one : here.0 ≡ there.0 = same_place here.0 there.0 here.1 there.1 (ap awards_of (here.2 no_letters) ∙ e ∙ sym (ap awards_of (there.2 no_letters))) in
    differ (sym (here.2 no_letters) ∙ ap (λ k. get_or all_forms k no_letters) one ∙ there.2 no_letters) in
    let found_at = first_difference (told (letters_of p)) (told (letters_of q)) tellings apart in
    let back : found_at.0 ≡ suc found_at.0 - 1 = omega arith in
    record {
      number = suc found_at.0;
      from_one = omega arith;
      to_nine = omega (arith, found_at.1);
      differ = subst (λ n. told (letters_of p) (get_or tellings n first_telling) ≡ told (letters_of q) (get_or tellings n first_telling) → ⊥) back found_at.2;
    }

-- a class list whose classes all lie between 1 and 8
classed_all : (classes : List ℕ) → AllByRecursion (λ k. (1 ≤ k) × (k ≤ last_class)) classes → Classed classes
classed_all [] h i = (omega arith, omega arith)
classed_all (k ∷ ks) h zero = h.0
classed_all (k ∷ ks) h (suc i) = classed_all ks h.1 i

-- a problem that a lawful rule has to answer, with a class list
pub record Answerable (t : Telling) : Type 0 where
  pub lawful : Lawful t.rule
  pub classed : Classed t.classes
  pub sound : Sound t.claims t.estate

class_ok : (k : ℕ) → T (leb 1 k) → T (leb k last_class) → (1 ≤ k) × (k ≤ last_class)
class_ok k low high = (lit≤ low, lit≤ high)

nine_answerable : AllByRecursion Answerable tellings
nine_answerable = (
  record { lawful = priority_lawful; classed = classed_all (1 ∷ 1 ∷ []) (class_ok 1 tt tt, (class_ok 1 tt tt, tt)); sound = record { few = lit≤ tt; small = lit≤ tt; covered = lit≤ tt } },
  (
    record { lawful = priority_lawful; classed = classed_all (2 ∷ 1 ∷ []) (class_ok 2 tt tt, (class_ok 1 tt tt, tt)); sound = record { few = lit≤ tt; small = lit≤ tt; covered = lit≤ tt } },
    (
      record { lawful = priority_lawful; classed = classed_all (1 ∷ 2 ∷ []) (class_ok 1 tt tt, (class_ok 2 tt tt, tt)); sound = record { few = lit≤ tt; small = lit≤ tt; covered = lit≤ tt } },
      (
        record { lawful = proportion_lawful; classed = classed_all (1 ∷ 1 ∷ 1 ∷ []) (class_ok 1 tt tt, (class_ok 1 tt tt, (class_ok 1 tt tt, tt))); sound = record { few = lit≤ tt; small = lit≤ tt; covered = lit≤ tt } },
        (
          record { lawful = proportion_lawful; classed = classed_all (1 ∷ 1 ∷ 1 ∷ []) (class_ok 1 tt tt, (class_ok 1 tt tt, (class_ok 1 tt tt, tt))); sound = record { few = lit≤ tt; small = lit≤ tt; covered = lit≤ tt } },
          (
            record { lawful = proportion_lawful; classed = classed_all (1 ∷ 2 ∷ 2 ∷ 2 ∷ []) (class_ok 1 tt tt, (class_ok 2 tt tt, (class_ok 2 tt tt, (class_ok 2 tt tt, tt)))); sound = record { few = lit≤ tt; small = lit≤ tt; covered = lit≤ tt } },
            (
              record { lawful = proportion_lawful; classed = classed_all (2 ∷ 1 ∷ 1 ∷ 1 ∷ []) (class_ok 2 tt tt, (class_ok 1 tt tt, (class_ok 1 tt tt, (class_ok 1 tt tt, tt)))); sound = record { few = lit≤ tt; small = lit≤ tt; covered = lit≤ tt } },
              (
                record { lawful = proportion_lawful; classed = classed_all (2 ∷ 1 ∷ 1 ∷ 1 ∷ []) (class_ok 2 tt tt, (class_ok 1 tt tt, (class_ok 1 tt tt, (class_ok 1 tt tt, tt)))); sound = record { few = lit≤ tt; small = lit≤ tt; covered = lit≤ tt } },
                (
                  record { lawful = proportion_lawful; classed = classed_all (1 ∷ 2 ∷ 2 ∷ 2 ∷ []) (class_ok 1 tt tt, (class_ok 2 tt tt, (class_ok 2 tt tt, (class_ok 2 tt tt, tt)))); sound = record { few = lit≤ tt; small = lit≤ tt; covered = lit≤ tt } },
                  tt,
                ),
              ),
            ),
          ),
        ),
      ),
    ),
  ),
)

-- each of the nine problems is one that its rule has to answer
pub answerable : (n : ℕ) → 1 ≤ n → n ≤ 9 → Answerable (telling n)
answerable n low high = All-get_or Answerable tellings (n - 1) first_telling (omega arith) nine_answerable
