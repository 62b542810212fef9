-- The laws of the letters: what may be exchanged, what may be left out, and that the normal form of a string says all
-- that the string does. Each law holds over every lawful rule. Assumes nothing.
use Rattle.std.specs.Prelude.{◌≡◌, ℕ, ◌<◌, Bool, true, false, List, [], ◌∷◌, ◌++◌, length, ◌≢◌, slice_index_or}
use Rattle.std.specs.List.{ContainsAt as Has}
use Rattle.division.specs.Problem.{Meaning, Lawful}
use Rattle.operators.specs.Operators.{Classed}
use Rattle.normal_form.specs.declared.letter.Operator.{Operator}
use Rattle.normal_form.specs.declared.letter.Operator.TheVariants.{Dual, Truncation, MinimalRights, Seniority, ReverseSeniority}
use Rattle.normal_form.specs.Letters.{applied}
use Rattle.normal_form.specs.Forms.{Parts, WellPlaced, normal_form, letters_of, no_letters, all_forms}
use Rattle.normal_form.specs.Alike.{Agree, Alike, ToldApart}

-- whether a letter is a seniority letter
abbrev pub is_seniority : Operator → Bool
is_seniority Dual = false
is_seniority Truncation = false
is_seniority MinimalRights = false
is_seniority Seniority = true
is_seniority ReverseSeniority = true

-- dd is nothing
abbrev pub DualTwice : Type 0
DualTwice = Alike (Dual ∷ Dual ∷ []) []

-- d carries t to m: td is dm
abbrev pub DualCarriesTruncation : Type 0
DualCarriesTruncation = Alike (Truncation ∷ Dual ∷ []) (Dual ∷ MinimalRights ∷ [])

-- d carries m to t: md is dt
abbrev pub DualCarriesRights : Type 0
DualCarriesRights = Alike (MinimalRights ∷ Dual ∷ []) (Dual ∷ Truncation ∷ [])

-- d carries s to r: sd is dr
abbrev pub DualCarriesSeniority : Type 0
DualCarriesSeniority = Alike (Seniority ∷ Dual ∷ []) (Dual ∷ ReverseSeniority ∷ [])

-- d carries r to s: rd is ds
abbrev pub DualCarriesReverse : Type 0
DualCarriesReverse = Alike (ReverseSeniority ∷ Dual ∷ []) (Dual ∷ Seniority ∷ [])

-- tt is t
abbrev pub TruncationTwice : Type 0
TruncationTwice = Alike (Truncation ∷ Truncation ∷ []) (Truncation ∷ [])

-- mm is m
abbrev pub RightsTwice : Type 0
RightsTwice = Alike (MinimalRights ∷ MinimalRights ∷ []) (MinimalRights ∷ [])

-- tm is mt
abbrev pub TruncationAndRights : Type 0
TruncationAndRights = Alike (Truncation ∷ MinimalRights ∷ []) (MinimalRights ∷ Truncation ∷ [])

-- of two seniority letters the later counts
abbrev pub LaterSeniorityCounts : Type 0
LaterSeniorityCounts = (earlier later : Operator) → is_seniority earlier ≡ true → is_seniority later ≡ true → Alike (earlier ∷ later ∷ []) (later ∷ [])

-- a t outside a seniority letter does nothing where one lies inside: tst is ts, and trt is tr
abbrev pub OuterTruncationIdle : Type 0
OuterTruncationIdle = (o : Operator) → is_seniority o ≡ true → Alike (Truncation ∷ o ∷ Truncation ∷ []) (Truncation ∷ o ∷ [])

-- an m outside a seniority letter does nothing where one lies inside: msm is ms, and mrm is mr
abbrev pub OuterRightsIdle : Type 0
OuterRightsIdle = (o : Operator) → is_seniority o ≡ true → Alike (MinimalRights ∷ o ∷ MinimalRights ∷ []) (MinimalRights ∷ o ∷ [])

-- an outer t becomes inner under a later seniority letter, as sts is ts
abbrev pub OuterTruncationEnclosed : Type 0
OuterTruncationEnclosed = (earlier later : Operator) → is_seniority earlier ≡ true → is_seniority later ≡ true → Alike (earlier ∷ Truncation ∷ later ∷ []) (Truncation ∷ later ∷ [])

-- an outer m becomes inner under a later seniority letter, as sms is ms
abbrev pub OuterRightsEnclosed : Type 0
OuterRightsEnclosed = (earlier later : Operator) → is_seniority earlier ≡ true → is_seniority later ≡ true → Alike (earlier ∷ MinimalRights ∷ later ∷ []) (MinimalRights ∷ later ∷ [])

-- all laws of exchange together
pub record OperatorLaws : Type 0 where
  pub dual_twice : DualTwice
  pub dual_carries_truncation : DualCarriesTruncation
  pub dual_carries_rights : DualCarriesRights
  pub dual_carries_seniority : DualCarriesSeniority
  pub dual_carries_reverse : DualCarriesReverse
  pub truncation_twice : TruncationTwice
  pub rights_twice : RightsTwice
  pub truncation_and_rights : TruncationAndRights
  pub later_seniority_counts : LaterSeniorityCounts
  pub outer_truncation_idle : OuterTruncationIdle
  pub outer_rights_idle : OuterRightsIdle
  pub outer_truncation_enclosed : OuterTruncationEnclosed
  pub outer_rights_enclosed : OuterRightsEnclosed

-- two strings joined are one after the other
abbrev pub JoinedInTurn : Type 0
JoinedInTurn = (first later : List Operator) (classes : List ℕ) (f : Meaning) → applied (first ++ later) classes f ≡ applied later classes (applied first classes f)

-- rules that agree on sound problems still agree under any letters
abbrev pub AgreeUnderLetters : Type 0
AgreeUnderLetters = (letters : List Operator) (classes : List ℕ) (f g : Meaning) → Agree f g → Agree (applied letters classes f) (applied letters classes g)

-- alike strings stay alike with the same letters before them and behind them
abbrev pub AlikeAmongLetters : Type 0
AlikeAmongLetters = (first left right later : List Operator) → Alike left right → Alike (first ++ (left ++ later)) (first ++ (right ++ later))

-- under any letters and any class list a lawful rule stays lawful
abbrev pub LawfulUnderLetters : Type 0
LawfulUnderLetters = (letters : List Operator) (classes : List ℕ) → Classed classes → (f : Meaning) → Lawful f → Lawful (applied letters classes f)

-- all laws of strings together
pub record StringLaws : Type 0 where
  pub joined_in_turn : JoinedInTurn
  pub agree_under_letters : AgreeUnderLetters
  pub alike_among_letters : AlikeAmongLetters
  pub lawful_under_letters : LawfulUnderLetters

-- a string is alike to the letters of its normal form
abbrev pub FormSaysAll : Type 0
FormSaysAll = (letters : List Operator) → Alike letters (letters_of (normal_form letters))

-- strings with the same normal form are alike
abbrev pub SameFormAlike : Type 0
SameFormAlike = (left right : List Operator) → normal_form left ≡ normal_form right → Alike left right

-- strings with different normal forms are told apart by one of the nine problems
abbrev pub OtherFormToldApart : Type 0
OtherFormToldApart = (left right : List Operator) → (normal_form left ≢ normal_form right) → ToldApart left right

-- strings that are told apart are not alike
abbrev pub ToldApartNotAlike : Type 0
ToldApartNotAlike = (left right : List Operator) → ToldApart left right → Alike left right → ⊥

-- the normal form of a string is a form, and each form is the normal form of its own letters
abbrev pub FormsReached : Type 0
FormsReached = ((letters : List Operator) → WellPlaced (normal_form letters)) × ((p : Parts) → WellPlaced p → normal_form (letters_of p) ≡ p)

-- there are just 44 forms: the list of all forms has 44 places, a form stands at each, no form stands at two of them,
-- and every form stands at one
pub record Just44 : Type 0 where
  pub number : length all_forms ≡ 44
  pub forms : (i : ℕ) → WellPlaced (slice_index_or all_forms i no_letters)
  pub once : (i j : ℕ) → i < 44 → j < 44 → slice_index_or all_forms i no_letters ≡ slice_index_or all_forms j no_letters → i ≡ j
  pub every : (p : Parts) → WellPlaced p → Has all_forms p

-- all laws of the normal form together: equal forms exactly for alike strings
pub record FormLaws : Type 0 where
  pub form_says_all : FormSaysAll
  pub same_form_alike : SameFormAlike
  pub other_form_told_apart : OtherFormToldApart
  pub told_apart_not_alike : ToldApartNotAlike
  pub forms_reached : FormsReached
  pub just_44 : Just44
