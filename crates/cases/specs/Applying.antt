-- When each refusal of a call applies, in words, and that each call answers the smallest that does. Assumes nothing.
use Rattle.std.specs.Prelude.{◌≡◌, ℕ, ◌+◌, ◌<◌, ◌≤◌, true, false, ◌⊎◌, List, length, None}
use Rattle.std.specs.List.{ContainsAt as Has}
use Rattle.division.specs.Amounts.{total}
use Rattle.division.specs.Problem.{most_claims, most_total}
use Rattle.division.specs.Refusals.{SmallestOf}
use Rattle.operators.specs.Operators.{last_class}
use Rattle.normal_form.specs.Letters.{letter_of}
use Rattle.cases.specs.declared.row.Row.{Row}
use Rattle.cases.specs.declared.sheet.Sheet.{Sheet}
use Rattle.cases.specs.declared.refusal.CaseRefusal.{CaseRefusal}
use Rattle.cases.specs.declared.refusal.CaseRefusal.TheVariants.{TotalAboveLimit, EstateAboveTotal, ClassOutsideRange, Letter, SheetOut, ReservedNumber, NumberTaken, NumberNotOnTable, TableFull, NotWorked}
use Rattle.cases.specs.declared.refusal.SheetRefusal.{SheetRefusal}
use Rattle.cases.specs.declared.refusal.SheetRefusal.TheVariants.{OtherCase, ListTooShort}
use Rattle.cases.specs.Rows.{estate_number, owner_number, amounts, with_amount, lines}
use Rattle.cases.specs.Cases.{View, estate_of, case_refusal_number, sheet_refusal_number, admit_due, amend_due, fund_due, press_due, divide_due, draw_due, sheet_due, sign_due}

-- some row bears the number
abbrev pub OnTable : ℕ → List Row → Type 0
OnTable number rows = (row : Row) × Has rows row × (row.number ≡ number)

-- the number is the estate's or the owner's
abbrev pub Reserved : ℕ → Type 0
Reserved number = (number ≡ estate_number) ⊎ (number ≡ owner_number)

abbrev pub AdmitApplies : View → ℕ → ℕ → ℕ → CaseRefusal → Type 0
AdmitApplies v number amount class TotalAboveLimit = most_total < total (amounts v.rows) + amount
AdmitApplies v number amount class EstateAboveTotal = ⊥
AdmitApplies v number amount class ClassOutsideRange = (1 ≤ class) × (class ≤ last_class) → ⊥
AdmitApplies v number amount class (Letter e) = ⊥
AdmitApplies v number amount class SheetOut = v.out ≡ true
AdmitApplies v number amount class ReservedNumber = Reserved number
AdmitApplies v number amount class NumberTaken = OnTable number v.rows
AdmitApplies v number amount class NumberNotOnTable = ⊥
AdmitApplies v number amount class TableFull = most_claims ≤ length v.rows
AdmitApplies v number amount class NotWorked = ⊥

-- the total matters only for a number on the table
abbrev pub AmendApplies : View → ℕ → ℕ → CaseRefusal → Type 0
AmendApplies v number amount TotalAboveLimit = OnTable number v.rows × (most_total < total (amounts (with_amount number amount v.rows)))
AmendApplies v number amount EstateAboveTotal = ⊥
AmendApplies v number amount ClassOutsideRange = ⊥
AmendApplies v number amount (Letter e) = ⊥
AmendApplies v number amount SheetOut = v.out ≡ true
AmendApplies v number amount ReservedNumber = Reserved number
AmendApplies v number amount NumberTaken = ⊥
AmendApplies v number amount NumberNotOnTable = OnTable number v.rows → ⊥
AmendApplies v number amount TableFull = ⊥
AmendApplies v number amount NotWorked = ⊥

abbrev pub FundApplies : View → ℕ → CaseRefusal → Type 0
FundApplies v amount TotalAboveLimit = most_total < amount
FundApplies v amount EstateAboveTotal = ⊥
FundApplies v amount ClassOutsideRange = ⊥
FundApplies v amount (Letter e) = ⊥
FundApplies v amount SheetOut = v.out ≡ true
FundApplies v amount ReservedNumber = ⊥
FundApplies v amount NumberTaken = ⊥
FundApplies v amount NumberNotOnTable = ⊥
FundApplies v amount TableFull = ⊥
FundApplies v amount NotWorked = ⊥

-- some byte of the string names no operator
abbrev pub PressApplies : View → List ℕ → CaseRefusal → Type 0
PressApplies v letters TotalAboveLimit = ⊥
PressApplies v letters EstateAboveTotal = ⊥
PressApplies v letters ClassOutsideRange = ⊥
PressApplies v letters (Letter e) = (b : ℕ) × Has letters b × (letter_of b ≡ None)
PressApplies v letters SheetOut = v.out ≡ true
PressApplies v letters ReservedNumber = ⊥
PressApplies v letters NumberTaken = ⊥
PressApplies v letters NumberNotOnTable = ⊥
PressApplies v letters TableFull = ⊥
PressApplies v letters NotWorked = ⊥

abbrev pub DivideApplies : View → CaseRefusal → Type 0
DivideApplies v TotalAboveLimit = ⊥
DivideApplies v EstateAboveTotal = total (amounts v.rows) < estate_of v
DivideApplies v ClassOutsideRange = ⊥
DivideApplies v (Letter e) = ⊥
DivideApplies v SheetOut = v.out ≡ true
DivideApplies v ReservedNumber = ⊥
DivideApplies v NumberTaken = ⊥
DivideApplies v NumberNotOnTable = ⊥
DivideApplies v TableFull = ⊥
DivideApplies v NotWorked = ⊥

abbrev pub DrawApplies : View → CaseRefusal → Type 0
DrawApplies v TotalAboveLimit = ⊥
DrawApplies v EstateAboveTotal = ⊥
DrawApplies v ClassOutsideRange = ⊥
DrawApplies v (Letter e) = ⊥
DrawApplies v SheetOut = v.out ≡ true
DrawApplies v ReservedNumber = ⊥
DrawApplies v NumberTaken = ⊥
DrawApplies v NumberNotOnTable = ⊥
DrawApplies v TableFull = ⊥
DrawApplies v NotWorked = v.marked ≡ false

-- no sheet is out, or this one bears another number
abbrev pub SheetApplies : View → Sheet → SheetRefusal → Type 0
SheetApplies v sheet OtherCase = (v.out ≡ true) × (sheet.number ≡ v.number) → ⊥
SheetApplies v sheet ListTooShort = ⊥

abbrev pub SignApplies : View → Sheet → ℕ → SheetRefusal → Type 0
SignApplies v sheet room OtherCase = (v.out ≡ true) × (sheet.number ≡ v.number) → ⊥
SignApplies v sheet room ListTooShort = room < length (lines v.rows)

-- each call answers the smallest refusal that applies, and none where none applies
pub record SmallestInWords : Type 0 where
  pub admit : (v : View) (number amount class : ℕ) → SmallestOf case_refusal_number (AdmitApplies v number amount class) (admit_due v number amount class)
  pub amend : (v : View) (number amount : ℕ) → SmallestOf case_refusal_number (AmendApplies v number amount) (amend_due v number amount)
  pub fund : (v : View) (amount : ℕ) → SmallestOf case_refusal_number (FundApplies v amount) (fund_due v amount)
  pub press : (v : View) (letters : List ℕ) → SmallestOf case_refusal_number (PressApplies v letters) (press_due v letters)
  pub divide : (v : View) → SmallestOf case_refusal_number (DivideApplies v) (divide_due v)
  pub draw : (v : View) → SmallestOf case_refusal_number (DrawApplies v) (draw_due v)
  pub tally_and_return : (v : View) (sheet : Sheet) → SmallestOf sheet_refusal_number (SheetApplies v sheet) (sheet_due v sheet)
  pub sign : (v : View) (sheet : Sheet) (room : ℕ) → SmallestOf sheet_refusal_number (SignApplies v sheet room) (sign_due v sheet room)
