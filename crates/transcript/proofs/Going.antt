-- Every past of a case goes on with the calls that lines make. Assumes nothing.
use Rattle.std.proofs.Common.{ℕ, List, ◌++◌, Some, None, Ok, Err, Option, Result, refl}
use Rattle.division.specs.Problem.{Lawful}
use Rattle.division.specs.PriorityLawful.{priority_lawful}
use Rattle.division.specs.EqualAwardsLawful.{equal_awards_lawful}
use Rattle.division.specs.ProportionLawful.{proportion_lawful}
use Rattle.division.specs.TalmudLawful.{talmud_lawful}
use Rattle.cases.specs.declared.sheet.Sheet.{Sheet}
use Rattle.cases.specs.Ledger.{Event, Settled}
use Rattle.cases.specs.History.{Past, moved}
use Rattle.cases.proofs.Histories.{always_settled}
use Rattle.casefile.specs.declared.call.RuleName.{RuleName}
use Rattle.casefile.specs.declared.call.RuleName.TheVariants.{Priority, Equal, Proportion, Talmud}
use Rattle.casefile.specs.declared.refusal.LineRefusal.{LineRefusal}
use Rattle.casefile.specs.Calls.{Asked, asks_claim, asks_amend, asks_fund, asks_press, asks_divide, asks_draw, asks_sign, asks_return, asks_compare, asks_nothing, field_letters, reading}
use Rattle.transcript.specs.Turns.{InHand, meaning_of, on_letters, on_sign, on_return, asked_turn, read_turn, turn}

-- the rule of every name is lawful
rule_lawful : (rule : RuleName) → Lawful (meaning_of rule)
rule_lawful Priority = priority_lawful
rule_lawful Equal = equal_awards_lawful
rule_lawful Proportion = proportion_lawful
rule_lawful Talmud = talmud_lawful

press_goes_on : (o : Option (List ℕ)) (h : InHand) (past : List Event) → Past past h.case → Past ((on_letters o h).calls ++ past) (on_letters o h).hand.case
press_goes_on None h past p = p
press_goes_on (Some letters) h past p = moved p (refl, refl)

sign_goes_on : (o : Option Sheet) (h : InHand) (past : List Event) → Past past h.case → Past ((on_sign o h).calls ++ past) (on_sign o h).hand.case
sign_goes_on None h past p = p
sign_goes_on (Some sheet) h past p = moved p (refl, refl, refl)

pub return_goes_on : (o : Option Sheet) (h : InHand) (past : List Event) → Past past h.case → Past ((on_return o h).calls ++ past) (on_return o h).hand.case
return_goes_on None h past p = p
return_goes_on (Some sheet) h past p = moved p (refl, refl)

asked_goes_on : (asks : Asked) (h : InHand) (past : List Event) → Past past h.case → Past ((asked_turn asks h).calls ++ past) (asked_turn asks h).hand.case
asked_goes_on (asks_claim number amount class) h past p = moved p (refl, refl)
asked_goes_on (asks_amend number amount) h past p = moved p (refl, refl)
asked_goes_on (asks_fund amount) h past p = moved p (refl, refl)
asked_goes_on (asks_press field) h past p = press_goes_on (field_letters field) h past p
asked_goes_on (asks_divide rule) h past p = moved p (rule_lawful rule, refl, refl)
asked_goes_on asks_draw h past p = moved p (refl, refl)
asked_goes_on asks_sign h past p = sign_goes_on h.sheet h past p
asked_goes_on asks_return h past p = return_goes_on h.sheet h past p
asked_goes_on (asks_compare left right) h past p = p
asked_goes_on asks_nothing h past p = p

read_goes_on : (r : Result Asked LineRefusal) (h : InHand) (past : List Event) → Past past h.case → Past ((read_turn r h).calls ++ past) (read_turn r h).hand.case
read_goes_on (Ok asks) h past p = asked_goes_on asks h past p
read_goes_on (Err e) h past p = p

-- a past goes on with the calls of a line
pub line_goes_on : (line : List ℕ) (h : InHand) (past : List Event) → Past past h.case → Past ((turn line h).calls ++ past) (turn line h).hand.case
line_goes_on line h past p = read_goes_on (reading line) h past p

-- and is settled
pub line_settles : (line : List ℕ) (h : InHand) (past : List Event) → Past past h.case → Past ((turn line h).calls ++ past) (turn line h).hand.case × Settled ((turn line h).calls ++ past)
line_settles line h past p =
    let longer = line_goes_on line h past p in
    (longer, always_settled ((turn line h).calls ++ past) (turn line h).hand.case longer)
