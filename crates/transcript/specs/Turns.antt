-- What comes of one line: what is told, what is then in hand, and the calls of the case that the line made. Assumes
-- nothing.
use Rattle.std.specs.Prelude.{◌≡◌, ℕ, Bool, true, false, cond, ◌&&◌, List, [], ◌∷◌, length, is_some, Some, None, Ok, Err, Option, Result}
use Rattle.division.specs.Problem.{Meaning}
use Rattle.division.specs.Refusals.{answer, unless_due}
use Rattle.division.specs.Priority.{priority}
use Rattle.division.specs.EqualAwards.{equal_awards}
use Rattle.division.specs.Proportion.{proportion}
use Rattle.division.specs.Talmud.{talmud}
use Rattle.normal_form.specs.declared.letter.Operator.{Operator}
use Rattle.normal_form.specs.declared.letter.LetterRefusal.TheVariants.{UnknownLetter}
use Rattle.operators.specs.declared.classes.ClassOrder.{ClassOrder}
use Rattle.operators.specs.declared.classes.ClassOrder.TheVariants.{SeniorFirst, JuniorFirst}
use Rattle.normal_form.specs.declared.form.Place.{Place}
use Rattle.normal_form.specs.declared.form.Place.TheVariants.{Absent, Inner, Outer}
use Rattle.normal_form.specs.Letters.{letters_in}
use Rattle.normal_form.specs.Forms.{Parts, normal_form}
use Rattle.cases.specs.declared.sheet.Sheet.{Sheet}
use Rattle.cases.specs.declared.refusal.CaseRefusal.{CaseRefusal}
use Rattle.cases.specs.declared.refusal.SheetRefusal.{SheetRefusal}
use Rattle.cases.specs.declared.refusal.SheetRefusal.TheVariants.{OtherCase}
use Rattle.cases.specs.Rows.{lines}
use Rattle.cases.specs.Cases.{View, new_case, estate_of, admit_due, admitted, amend_due, amended, fund_due, funded, press_due, letters_pressed, divide_due, divided, draw_due, sheet_of, drawn, sheet_due, sign_due, answer_with, signed, returned}
use Rattle.cases.specs.Ledger.{Event, Admit, Amend, Fund, Press, Divide, Draw, Sign, Return}
use Rattle.casefile.specs.declared.call.RuleName.{RuleName}
use Rattle.casefile.specs.declared.call.RuleName.TheVariants.{Priority, Equal, Proportion, Talmud}
use Rattle.casefile.specs.declared.refusal.LineRefusal.{LineRefusal}
use Rattle.casefile.specs.Calls.{Asked, asks_claim, asks_amend, asks_fund, asks_press, asks_divide, asks_draw, asks_sign, asks_return, asks_compare, asks_nothing, field_letters, reading}
use Rattle.transcript.specs.declared.refusal.Refusal.TheVariants.{Line, Letter, Case, Sheet as OfSheet}
use Rattle.transcript.specs.Outcomes.{Told, nothing, accepted, awarded, sheet_drawn, signed_off, given_back, same_form, other_forms, refused}

-- a case in hand, with its sheet while it is out
pub record InHand : Type 0 where
  pub case : View
  pub sheet : Option Sheet

-- a new case in hand
abbrev pub new_in_hand : ℕ → InHand
new_in_hand number = record { case = new_case number; sheet = None }

-- what comes of a line
pub record Turn : Type 0 where
  pub told : Told
  pub hand : InHand
  pub calls : List Event

-- a line that makes no call and changes nothing
abbrev pub only_told : Told → InHand → Turn
only_told t h = record { told = t; hand = h; calls = [] }

-- what is told of a case's answer: the refusal, or else what the call has to tell
abbrev pub answered : {X : Type 0} → Result X CaseRefusal → Told → Told
answered (Ok done) t = t
answered (Err e) t = refused (Case e)

-- a call that changes the case and not the sheet
abbrev pub kept_sheet : InHand → View → InHand
kept_sheet h v = record { case = v; sheet = h.sheet }

-- claim, amend and fund ------------------------------------------------------------------------------------------------

abbrev pub on_claim : ℕ → ℕ → ℕ → InHand → Turn
on_claim number amount class h =
    let due = admit_due h.case number amount class in
    record {
      told = answered (answer due (tt {0})) accepted;
      hand = kept_sheet h (unless_due due (admitted h.case number amount class) h.case);
      calls = Admit number amount class (answer due (tt {0})) ∷ [];
    }

abbrev pub on_amend : ℕ → ℕ → InHand → Turn
on_amend number amount h =
    let due = amend_due h.case number amount in
    record {
      told = answered (answer due (tt {0})) accepted;
      hand = kept_sheet h (unless_due due (amended h.case number amount) h.case);
      calls = Amend number amount (answer due (tt {0})) ∷ [];
    }

abbrev pub on_fund : ℕ → InHand → Turn
on_fund amount h =
    let due = fund_due h.case amount in
    record {
      told = answered (answer due (tt {0})) accepted;
      hand = kept_sheet h (unless_due due (funded h.case amount) h.case);
      calls = Fund amount (answer due (tt {0})) ∷ [];
    }

-- press ----------------------------------------------------------------------------------------------------------------

-- a field that stands for no string of letters is refused as a letter that is none, and nobody is called
abbrev pub on_letters : Option (List ℕ) → InHand → Turn
on_letters None h = only_told (refused (Letter UnknownLetter)) h
on_letters (Some letters) h =
    let due = press_due h.case letters in
    record {
      told = answered (answer due (tt {0})) accepted;
      hand = kept_sheet h (unless_due due (letters_pressed h.case letters) h.case);
      calls = Press letters (answer due (tt {0})) ∷ [];
    }

-- divide ---------------------------------------------------------------------------------------------------------------

-- what the rule of a name means
abbrev pub meaning_of : RuleName → Meaning
meaning_of Priority = priority
meaning_of Equal = equal_awards
meaning_of Proportion = proportion
meaning_of Talmud = talmud

abbrev pub on_divide : RuleName → InHand → Turn
on_divide rule h =
    let due = divide_due h.case in
    let after = unless_due due (divided h.case (meaning_of rule)) h.case in
    record {
      told = answered (answer due (tt {0})) (awarded after.rows (estate_of after));
      hand = kept_sheet h after;
      calls = Divide (meaning_of rule) (answer due (tt {0})) ∷ [];
    }

-- draw, sign and return ------------------------------------------------------------------------------------------------

-- what is told of a drawn sheet
abbrev pub drawn_told : Result Sheet CaseRefusal → Told
drawn_told (Ok sheet) = sheet_drawn sheet.rows sheet.total
drawn_told (Err e) = refused (Case e)

-- the sheet in hand after a draw
abbrev pub drawn_sheet : Result Sheet CaseRefusal → Option Sheet → Option Sheet
drawn_sheet (Ok sheet) old = Some sheet
drawn_sheet (Err e) old = old

abbrev pub on_draw : InHand → Turn
on_draw h =
    let due = draw_due h.case in
    let answer_is = answer due (sheet_of h.case) in
    record {
      told = drawn_told answer_is;
      hand = record { case = unless_due due (drawn h.case) h.case; sheet = drawn_sheet answer_is h.sheet };
      calls = Draw answer_is ∷ [];
    }

-- what is told of the answer to whoever holds a sheet
abbrev pub sheet_told : {X : Type 0} → Result X (Sheet × SheetRefusal) → Told → Told
sheet_told (Ok done) t = t
sheet_told (Err back) t = refused (OfSheet back.1)

-- the sheet in hand afterwards: spent, or handed back with the refusal
abbrev pub sheet_left : {X : Type 0} → Result X (Sheet × SheetRefusal) → Option Sheet
sheet_left (Ok done) = None
sheet_left (Err back) = Some back.0

-- the room that a signing has: the estate's posting, and one for each of at most 64 rows
abbrev pub posting_room : ℕ
posting_room = 65

-- with no sheet in hand nobody is called
abbrev pub on_sign : Option Sheet → InHand → Turn
on_sign None h = only_told (refused (OfSheet OtherCase)) h
on_sign (Some sheet) h =
    let due = sign_due h.case sheet posting_room in
    let answer_is = answer_with due (length (lines h.case.rows)) sheet in
    record {
      told = sheet_told answer_is (signed_off (lines h.case.rows));
      hand = record { case = unless_due due (signed h.case) h.case; sheet = sheet_left answer_is };
      calls = Sign sheet posting_room answer_is (unless_due due (lines h.case.rows) []) ∷ [];
    }

abbrev pub on_return : Option Sheet → InHand → Turn
on_return None h = only_told (refused (OfSheet OtherCase)) h
on_return (Some sheet) h =
    let due = sheet_due h.case sheet in
    let answer_is = answer_with due (tt {0}) sheet in
    record {
      told = sheet_told answer_is given_back;
      hand = record { case = unless_due due (returned h.case) h.case; sheet = sheet_left answer_is };
      calls = Return sheet answer_is ∷ [];
    }

-- compare --------------------------------------------------------------------------------------------------------------

abbrev pub same_bool : Bool → Bool → Bool
same_bool true b = b
same_bool false true = false
same_bool false false = true

abbrev pub same_order : Option ClassOrder → Option ClassOrder → Bool
same_order None None = true
same_order None (Some SeniorFirst) = false
same_order None (Some JuniorFirst) = false
same_order (Some SeniorFirst) None = false
same_order (Some SeniorFirst) (Some SeniorFirst) = true
same_order (Some SeniorFirst) (Some JuniorFirst) = false
same_order (Some JuniorFirst) None = false
same_order (Some JuniorFirst) (Some SeniorFirst) = false
same_order (Some JuniorFirst) (Some JuniorFirst) = true

abbrev pub same_place : Place → Place → Bool
same_place Absent Absent = true
same_place Absent Inner = false
same_place Absent Outer = false
same_place Inner Absent = false
same_place Inner Inner = true
same_place Inner Outer = false
same_place Outer Absent = false
same_place Outer Inner = false
same_place Outer Outer = true

-- whether two forms are the same, part by part
abbrev pub same_parts : Parts → Parts → Bool
same_parts p q =
    same_bool p.dual q.dual && (same_order p.order q.order && (same_place p.truncation q.truncation && same_place p.rights q.rights))

-- the operators that a letters field names, if it stands for a string of letters
abbrev pub operators_of : Option (List ℕ) → Option (List Operator)
operators_of None = None
operators_of (Some letters) = letters_in letters

-- what is told of two strings of letters: their form if they share it, else both; a string that is none is refused
abbrev pub forms_told : Option (List Operator) → Option (List Operator) → Told
forms_told None right = refused (Letter UnknownLetter)
forms_told (Some left) None = refused (Letter UnknownLetter)
forms_told (Some left) (Some right) =
    cond (same_parts (normal_form left) (normal_form right)) (same_form (normal_form left)) (other_forms (normal_form left) (normal_form right))

-- any line -------------------------------------------------------------------------------------------------------------

-- what comes of what a line asks for
abbrev pub asked_turn : Asked → InHand → Turn
asked_turn (asks_claim number amount class) h = on_claim number amount class h
asked_turn (asks_amend number amount) h = on_amend number amount h
asked_turn (asks_fund amount) h = on_fund amount h
asked_turn (asks_press field) h = on_letters (field_letters field) h
asked_turn (asks_divide rule) h = on_divide rule h
asked_turn asks_draw h = on_draw h
asked_turn asks_sign h = on_sign h.sheet h
asked_turn asks_return h = on_return h.sheet h
asked_turn (asks_compare left right) h = only_told (forms_told (operators_of (field_letters left)) (operators_of (field_letters right))) h
asked_turn asks_nothing h = only_told nothing h

-- what comes of a line that was read, or refused where it was read
abbrev pub read_turn : Result Asked LineRefusal → InHand → Turn
read_turn (Ok asks) h = asked_turn asks h
read_turn (Err e) h = only_told (refused (Line e)) h

-- what comes of a line
abbrev pub turn : List ℕ → InHand → Turn
turn line h = read_turn (reading line) h

-- when a line is accepted ------------------------------------------------------------------------------------------------

-- when the case, and the sheet in hand, allow what a line asks for
abbrev pub Allowed : Asked → InHand → Type 0
Allowed (asks_claim number amount class) h = admit_due h.case number amount class ≡ None
Allowed (asks_amend number amount) h = amend_due h.case number amount ≡ None
Allowed (asks_fund amount) h = fund_due h.case amount ≡ None
Allowed (asks_press field) h = (letters : List ℕ) × (field_letters field ≡ Some letters) × (press_due h.case letters ≡ None)
Allowed (asks_divide rule) h = divide_due h.case ≡ None
Allowed asks_draw h = draw_due h.case ≡ None
Allowed asks_sign h = (sheet : Sheet) × (h.sheet ≡ Some sheet) × (sign_due h.case sheet posting_room ≡ None)
Allowed asks_return h = (sheet : Sheet) × (h.sheet ≡ Some sheet) × (sheet_due h.case sheet ≡ None)
Allowed (asks_compare left right) h = (is_some (operators_of (field_letters left)) ≡ true) × (is_some (operators_of (field_letters right)) ≡ true)
Allowed asks_nothing h = Unit {0}

-- when a line is allowed: its form gives what it asks for, and the case allows that
abbrev pub LineAllowed : List ℕ → InHand → Type 0
LineAllowed line h = (asks : Asked) × (reading line ≡ Ok asks) × Allowed asks h

abbrev pub is_refused : Told → Bool
is_refused nothing = false
is_refused accepted = false
is_refused (awarded rows estate) = false
is_refused (sheet_drawn rows total) = false
is_refused (signed_off postings) = false
is_refused given_back = false
is_refused (same_form form) = false
is_refused (other_forms first second) = false
is_refused (refused e) = true

-- what is told of a line, and what is in hand afterwards: the line is accepted exactly if it is allowed, and a refused
-- line leaves in hand what was
pub record Decided (line : List ℕ) (h : InHand) (t : Told) (after : InHand) : Type 0 where
  pub if_allowed : LineAllowed line h → is_refused t ≡ false
  pub only_allowed : is_refused t ≡ false → LineAllowed line h
  pub kept : is_refused t ≡ true → after ≡ h

-- the end of the file ----------------------------------------------------------------------------------------------------

-- what is told at the end: a sheet that is still out is given back
abbrev pub ending : Option Sheet → List Told
ending None = []
ending (Some sheet) = given_back ∷ []

-- the call that this makes
abbrev pub ending_calls : InHand → List Event
ending_calls h = (on_return h.sheet h).calls

-- the case afterwards
abbrev pub ending_case : InHand → View
ending_case h = (on_return h.sheet h).hand.case
