-- A case and its nine calls: which refusal is due for each, what it answers, and the case afterwards. Assumes nothing.
use Rattle.std.specs.Prelude.{ℕ, ◌+◌, Bool, true, false, not, ◌&&◌, List, [], ◌∷◌, ◌++◌, map, length, Some, None, Ok, Err, Option, Result, ◌==◌, nat_le, nat_lt}
use Rattle.division.specs.Amounts.{total}
use Rattle.division.specs.Problem.{Meaning, most_claims, most_total}
use Rattle.division.specs.Refusals.{first_due, Stands, SmallestOf}
use Rattle.operators.specs.Classes.{is_class_number}
use Rattle.normal_form.specs.Letters.{applied, letter_number}
use Rattle.normal_form.specs.declared.letter.LetterRefusal.TheVariants.{UnknownLetter}
use Rattle.normal_form.specs.Forms.{Parts, no_letters, pressed_in_turn, letters_of}
use Rattle.normal_form.specs.Piles.{all_letters, operators_in}
use Rattle.cases.specs.declared.row.Row.{Row}
use Rattle.cases.specs.declared.sheet.Sheet.{Sheet}
use Rattle.cases.specs.declared.refusal.CaseRefusal.{CaseRefusal}
use Rattle.cases.specs.declared.refusal.CaseRefusal.TheVariants.{TotalAboveLimit, EstateAboveTotal, ClassOutsideRange, Letter, SheetOut, ReservedNumber, NumberTaken, NumberNotOnTable, TableFull, NotWorked}
use Rattle.cases.specs.declared.refusal.SheetRefusal.{SheetRefusal}
use Rattle.cases.specs.declared.refusal.SheetRefusal.TheVariants.{OtherCase, ListTooShort}
use Rattle.cases.specs.Rows.{is_reserved_number, amounts, classes_of, awards_of, on_table, new_row, with_amount, with_awards, settled, lines}

-- the number of each refusal of a case, as it is printed
abbrev pub case_refusal_number : CaseRefusal → ℕ
case_refusal_number TotalAboveLimit = 3
case_refusal_number EstateAboveTotal = 4
case_refusal_number ClassOutsideRange = 5
case_refusal_number (Letter e) = letter_number e
case_refusal_number SheetOut = 8
case_refusal_number ReservedNumber = 9
case_refusal_number NumberTaken = 10
case_refusal_number NumberNotOnTable = 11
case_refusal_number TableFull = 12
case_refusal_number NotWorked = 13

-- the number of each refusal of a sheet's holder, as it is printed
abbrev pub sheet_refusal_number : SheetRefusal → ℕ
sheet_refusal_number OtherCase = 14
sheet_refusal_number ListTooShort = 15

-- what a case holds: its number, the fund, the form of the letters pressed, the rows in order of admission, the mark that
-- the awards are worked, and whether a sheet is out
pub record View : Type 0 where
  pub number : ℕ
  pub fund : ℕ
  pub form : Parts
  pub rows : List Row
  pub marked : Bool
  pub out : Bool

-- a case as it is made
abbrev pub new_case : ℕ → View
new_case number = record { number = number; fund = 0; form = no_letters; rows = []; marked = false; out = false }

-- admit ---------------------------------------------------------------------------------------------------------------

abbrev pub admit_tests : View → ℕ → ℕ → ℕ → List (Bool × CaseRefusal)
admit_tests v number amount class =
    (nat_lt most_total (total (amounts v.rows) + amount), TotalAboveLimit)
    ∷ (not (is_class_number class), ClassOutsideRange)
    ∷ (v.out, SheetOut)
    ∷ (is_reserved_number number, ReservedNumber)
    ∷ (on_table number v.rows, NumberTaken)
    ∷ (nat_le most_claims (length v.rows), TableFull)
    ∷ []

abbrev pub admit_due : View → ℕ → ℕ → ℕ → Option CaseRefusal
admit_due v number amount class = first_due (admit_tests v number amount class)

-- one row more, at the end
abbrev pub admitted : View → ℕ → ℕ → ℕ → View
admitted v number amount class = record { number = v.number; fund = v.fund; form = v.form; rows = v.rows ++ new_row number amount class ∷ []; marked = false; out = v.out }

-- amend ---------------------------------------------------------------------------------------------------------------

abbrev pub amend_tests : View → ℕ → ℕ → List (Bool × CaseRefusal)
amend_tests v number amount =
    (on_table number v.rows && nat_lt most_total (total (amounts (with_amount number amount v.rows))), TotalAboveLimit)
    ∷ (v.out, SheetOut)
    ∷ (is_reserved_number number, ReservedNumber)
    ∷ (not (on_table number v.rows), NumberNotOnTable)
    ∷ []

abbrev pub amend_due : View → ℕ → ℕ → Option CaseRefusal
amend_due v number amount = first_due (amend_tests v number amount)

-- the amount of one row, and no other
abbrev pub amended : View → ℕ → ℕ → View
amended v number amount = record { number = v.number; fund = v.fund; form = v.form; rows = with_amount number amount v.rows; marked = false; out = v.out }

-- fund ----------------------------------------------------------------------------------------------------------------

abbrev pub fund_tests : View → ℕ → List (Bool × CaseRefusal)
fund_tests v amount =
    (nat_lt most_total amount, TotalAboveLimit) ∷ (v.out, SheetOut) ∷ []

abbrev pub fund_due : View → ℕ → Option CaseRefusal
fund_due v amount = first_due (fund_tests v amount)

abbrev pub funded : View → ℕ → View
funded v amount = record { number = v.number; fund = amount; form = v.form; rows = v.rows; marked = false; out = v.out }

-- press ---------------------------------------------------------------------------------------------------------------

abbrev pub press_tests : View → List ℕ → List (Bool × CaseRefusal)
press_tests v letters =
    (not (all_letters letters), Letter UnknownLetter) ∷ (v.out, SheetOut) ∷ []

abbrev pub press_due : View → List ℕ → Option CaseRefusal
press_due v letters = first_due (press_tests v letters)

-- the form after all letters, and nothing else of them
abbrev pub letters_pressed : View → List ℕ → View
letters_pressed v letters = record { number = v.number; fund = v.fund; form = pressed_in_turn v.form (operators_in letters); rows = v.rows; marked = false; out = v.out }

-- divide --------------------------------------------------------------------------------------------------------------

-- the estate that is divided
abbrev pub estate_of : View → ℕ
estate_of v = v.fund

abbrev pub divide_tests : View → List (Bool × CaseRefusal)
divide_tests v =
    (nat_lt (total (amounts v.rows)) (estate_of v), EstateAboveTotal) ∷ (v.out, SheetOut) ∷ []

abbrev pub divide_due : View → Option CaseRefusal
divide_due v = first_due (divide_tests v)

-- the awards of the case's form, over the amounts and classes of the rows
abbrev pub awards_by : View → Meaning → List ℕ
awards_by v f = applied (letters_of v.form) (classes_of v.rows) f (amounts v.rows) (estate_of v)

abbrev pub divided : View → Meaning → View
divided v f = record { number = v.number; fund = v.fund; form = v.form; rows = with_awards (awards_by v f) v.rows; marked = true; out = v.out }

-- draw ----------------------------------------------------------------------------------------------------------------

abbrev pub draw_tests : View → List (Bool × CaseRefusal)
draw_tests v =
    (v.out, SheetOut) ∷ (not v.marked, NotWorked) ∷ []

abbrev pub draw_due : View → Option CaseRefusal
draw_due v = first_due (draw_tests v)

-- the sheet of a case: its number, how many rows it has, and what the awards add up to
abbrev pub sheet_of : View → Sheet
sheet_of v = record { number = v.number; rows = length v.rows; total = total (awards_of v.rows) }

abbrev pub drawn : View → View
drawn v = record { number = v.number; fund = v.fund; form = v.form; rows = v.rows; marked = v.marked; out = true }

-- tally, sign and return ----------------------------------------------------------------------------------------------

-- whether a sheet is out and bears the case's number
abbrev pub is_its_sheet : View → Sheet → Bool
is_its_sheet v sheet = v.out && sheet.number == v.number

abbrev pub sheet_tests : View → Sheet → List (Bool × SheetRefusal)
sheet_tests v sheet =
    (not (is_its_sheet v sheet), OtherCase) ∷ []

abbrev pub sheet_due : View → Sheet → Option SheetRefusal
sheet_due v sheet = first_due (sheet_tests v sheet)

abbrev pub sign_tests : View → Sheet → ℕ → List (Bool × SheetRefusal)
sign_tests v sheet room =
    (not (is_its_sheet v sheet), OtherCase) ∷ (nat_lt room (length (lines v.rows)), ListTooShort) ∷ []

abbrev pub sign_due : View → Sheet → ℕ → Option SheetRefusal
sign_due v sheet room = first_due (sign_tests v sheet room)

-- the value where no refusal is due, and else the sheet handed back with the refusal
abbrev pub answer_with : {X : Type 0} → Option SheetRefusal → X → Sheet → Result X (Sheet × SheetRefusal)
answer_with None value sheet = Ok value
answer_with (Some e) value sheet = Err (sheet, e)

-- every row settled, the mark taken away and the sheet spent
abbrev pub signed : View → View
signed v = record { number = v.number; fund = v.fund; form = v.form; rows = map settled v.rows; marked = false; out = false }

-- the sheet spent, and nothing else
abbrev pub returned : View → View
returned v = record { number = v.number; fund = v.fund; form = v.form; rows = v.rows; marked = v.marked; out = false }

-- Each call answers the smallest refusal that applies ------------------------------------------------------------------

pub record SmallestRefusals : Type 0 where
  pub admit : (v : View) (number amount class : ℕ) → SmallestOf case_refusal_number (Stands (admit_tests v number amount class)) (admit_due v number amount class)
  pub amend : (v : View) (number amount : ℕ) → SmallestOf case_refusal_number (Stands (amend_tests v number amount)) (amend_due v number amount)
  pub fund : (v : View) (amount : ℕ) → SmallestOf case_refusal_number (Stands (fund_tests v amount)) (fund_due v amount)
  pub press : (v : View) (letters : List ℕ) → SmallestOf case_refusal_number (Stands (press_tests v letters)) (press_due v letters)
  pub divide : (v : View) → SmallestOf case_refusal_number (Stands (divide_tests v)) (divide_due v)
  pub draw : (v : View) → SmallestOf case_refusal_number (Stands (draw_tests v)) (draw_due v)
  pub tally_and_return : (v : View) (sheet : Sheet) → SmallestOf sheet_refusal_number (Stands (sheet_tests v sheet)) (sheet_due v sheet)
  pub sign : (v : View) (sheet : Sheet) (room : ℕ) → SmallestOf sheet_refusal_number (Stands (sign_tests v sheet room)) (sign_due v sheet room)
