-- What the code's case in hand holds, and what a call on it promises. Assumes nothing.
use Rattle.std.specs.Prelude.{◌≡◌, ◌≤◌, List, [], ◌∷◌, Some, None, Ok, Err, Option, Result}
use Rattle.cases.specs.CaseViews.{view}
use Rattle.casefile.specs.Calls.{Asked, asks_claim, asks_amend, asks_fund, asks_press, asks_divide, asks_draw, asks_sign, asks_return, asks_compare, asks_nothing, most_claimant}
use Rattle.transcript.specs.declared.in_hand.CaseInHand.{CaseInHand}
use Rattle.transcript.specs.declared.outcome.Outcome.{Outcome}
use Rattle.transcript.specs.declared.refusal.Refusal.{Refusal}
use Rattle.transcript.specs.Outcomes.{Told, refused, told}
use Rattle.transcript.specs.Turns.{InHand, Turn}

abbrev pub in_hand : CaseInHand → InHand
in_hand c = record { case = view c.case; sheet = c.sheet }

-- a claimant number that a line asks for has 16 bits
abbrev pub ClaimantFits : Asked → Type 0
ClaimantFits (asks_claim number amount class) = number ≤ most_claimant
ClaimantFits (asks_amend number amount) = number ≤ most_claimant
ClaimantFits (asks_fund amount) = Unit {0}
ClaimantFits (asks_press letters) = Unit {0}
ClaimantFits (asks_divide rule) = Unit {0}
ClaimantFits asks_draw = Unit {0}
ClaimantFits asks_sign = Unit {0}
ClaimantFits asks_return = Unit {0}
ClaimantFits (asks_compare left right) = Unit {0}
ClaimantFits asks_nothing = Unit {0}

-- an outcome, and a case in hand afterwards, that are those of a turn
pub record Comes (t : Turn) (outcome : Outcome) (after : InHand) : Type 0 where
  pub tells : told outcome ≡ t.told
  pub holds : after ≡ t.hand

-- what is told of an answer: what its value says, or the refusal
abbrev pub told_of : {T : Type 0} → (T → Told) → Result T Refusal → Told
told_of say (Ok value) = say value
told_of say (Err e) = refused e

-- what is told, and a case in hand afterwards, that are those of a turn
pub record Answers (t : Turn) (tells_of : Told) (after : InHand) : Type 0 where
  pub tells : tells_of ≡ t.told
  pub holds : after ≡ t.hand

-- what is told of an outcome, if there is one
abbrev pub all_told : Option Outcome → List Told
all_told None = []
all_told (Some outcome) = told outcome ∷ []
