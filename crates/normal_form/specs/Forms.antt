-- The normal form of a string of letters: four parts, what each letter does to them, and how they are written.
-- Assumes nothing.
use Rattle.std.specs.Prelude.{◌≡◌, ℕ, Bool, true, false, cond, not, ◌&&◌, List, [], ◌∷◌, ◌++◌, map, Some, None, Option}
use Rattle.std.specs.List.{flat_map}
use Rattle.normal_form.specs.declared.letter.Operator.{Operator}
use Rattle.normal_form.specs.declared.letter.Operator.TheVariants.{Dual, Truncation, MinimalRights, Seniority, ReverseSeniority}
use Rattle.operators.specs.declared.classes.ClassOrder.{ClassOrder}
use Rattle.operators.specs.declared.classes.ClassOrder.TheVariants.{SeniorFirst, JuniorFirst}
use Rattle.normal_form.specs.declared.form.Place.{Place}
use Rattle.normal_form.specs.declared.form.Place.TheVariants.{Absent, Inner, Outer}

-- the parts of a form: whether d is in it, its seniority letter, and the places of t and m, inside the seniority letter
-- or outside it
pub record Parts : Type 0 where
  pub dual : Bool
  pub order : Option ClassOrder
  pub truncation : Place
  pub rights : Place

-- a place that may stand beside a seniority letter, or beside none: without one, nothing lies outside
abbrev pub fits_beside : Option ClassOrder → Place → Bool
fits_beside None Absent = true
fits_beside None Inner = true
fits_beside None Outer = false
fits_beside (Some SeniorFirst) place = true
fits_beside (Some JuniorFirst) place = true

-- both places may stand beside the seniority letter
abbrev pub well_placed : Option ClassOrder → Place → Place → Bool
well_placed order truncation rights = fits_beside order truncation && fits_beside order rights

-- parts that a form may have
abbrev pub WellPlaced : Parts → Type 0
WellPlaced p = well_placed p.order p.truncation p.rights ≡ true

-- the form of no letters
abbrev pub no_letters : Parts
no_letters = record { dual = false; order = None; truncation = Absent; rights = Absent }

-- where a new t or m lies: inside if there is no seniority letter, outside if there is one
abbrev pub newcomer : Option ClassOrder → Place
newcomer None = Inner
newcomer (Some SeniorFirst) = Outer
newcomer (Some JuniorFirst) = Outer

-- where t or m lies after it is pressed: where it was, or as a newcomer
abbrev pub laid : Option ClassOrder → Place → Place
laid order Absent = newcomer order
laid order Inner = Inner
laid order Outer = Outer

-- where t or m lies after a seniority letter is pressed: inside, if anywhere
abbrev pub enclosed : Place → Place
enclosed Absent = Absent
enclosed Inner = Inner
enclosed Outer = Inner

-- s for r and r for s
abbrev pub reversed : Option ClassOrder → Option ClassOrder
reversed None = None
reversed (Some SeniorFirst) = Some JuniorFirst
reversed (Some JuniorFirst) = Some SeniorFirst

-- pressing a letter on a form: what the letter does to it
abbrev pub pressed : Parts → Operator → Parts
pressed p Dual = record { dual = not p.dual; order = reversed p.order; truncation = p.rights; rights = p.truncation }
pressed p Truncation = record { dual = p.dual; order = p.order; truncation = laid p.order p.truncation; rights = p.rights }
pressed p MinimalRights = record { dual = p.dual; order = p.order; truncation = p.truncation; rights = laid p.order p.rights }
pressed p Seniority = record { dual = p.dual; order = Some SeniorFirst; truncation = enclosed p.truncation; rights = enclosed p.rights }
pressed p ReverseSeniority = record { dual = p.dual; order = Some JuniorFirst; truncation = enclosed p.truncation; rights = enclosed p.rights }

-- what letters pressed in turn do to a form
abbrev pub pressed_in_turn : Parts → List Operator → Parts
pressed_in_turn p [] = p
pressed_in_turn p (o ∷ os) = pressed_in_turn (pressed p o) os

-- the normal form of a string of letters
abbrev pub normal_form : List Operator → Parts
normal_form letters = pressed_in_turn no_letters letters

-- a form after letters were pressed: all of them in turn, or none where one is not known
abbrev pub pressed_if_known : Option (List Operator) → Parts → Parts
pressed_if_known None p = p
pressed_if_known (Some letters) p = pressed_in_turn p letters

-- a letter, or none
abbrev pub where_so : Bool → Operator → List Operator
where_so holds o = cond holds (o ∷ []) []

-- whether a place lies inside the seniority letter
abbrev pub is_inner : Place → Bool
is_inner Absent = false
is_inner Inner = true
is_inner Outer = false

-- whether a place lies outside the seniority letter
abbrev pub is_outer : Place → Bool
is_outer Absent = false
is_outer Inner = false
is_outer Outer = true

-- the seniority letter
abbrev pub seniority_letter : Option ClassOrder → List Operator
seniority_letter None = []
seniority_letter (Some SeniorFirst) = Seniority ∷ []
seniority_letter (Some JuniorFirst) = ReverseSeniority ∷ []

-- the letters of a form: d, inner t, inner m, the seniority letter, outer t, outer m, without what is absent
abbrev pub letters_of : Parts → List Operator
letters_of p =
    where_so p.dual Dual
    ++ (where_so (is_inner p.truncation) Truncation
    ++ (where_so (is_inner p.rights) MinimalRights
    ++ (seniority_letter p.order
    ++ (where_so (is_outer p.truncation) Truncation
    ++ where_so (is_outer p.rights) MinimalRights))))

-- the byte of a letter
abbrev pub byte_of : Operator → ℕ
byte_of Dual = 100
byte_of Truncation = 116
byte_of MinimalRights = 109
byte_of Seniority = 115
byte_of ReverseSeniority = 114

-- bytes, or a hyphen where there are none
abbrev pub or_hyphen : List ℕ → List ℕ
or_hyphen [] = 45 ∷ []
or_hyphen (b ∷ bs) = b ∷ bs

-- how a form is written: its letters, or a hyphen if it has none
abbrev pub written : Parts → List ℕ
written p = or_hyphen (map byte_of (letters_of p))

-- the forms with one answer for d, one seniority letter and some places to choose from
abbrev pub forms_beside : Bool → Option ClassOrder → List Place → List Parts
forms_beside dual order places =
    flat_map (λ truncation. map (λ rights. record { dual = dual; order = order; truncation = truncation; rights = rights }) places) places

-- the forms with one answer for d
abbrev pub forms_with : Bool → List Parts
forms_with dual =
    forms_beside dual None (Absent ∷ Inner ∷ [])
    ++ (forms_beside dual (Some SeniorFirst) (Absent ∷ Inner ∷ Outer ∷ [])
    ++ forms_beside dual (Some JuniorFirst) (Absent ∷ Inner ∷ Outer ∷ []))

-- all forms
abbrev pub all_forms : List Parts
all_forms = forms_with false ++ forms_with true
