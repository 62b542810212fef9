-- The past of a case: how it was made new and then moved by its calls, and by them only. Assumes nothing.
use Rattle.std.specs.Prelude.{◌≡◌, ℕ, Bool, List, [], ◌∷◌, length, take, Ok, Err, Result, ◌==◌}
use Rattle.division.specs.Problem.{Meaning, Lawful}
use Rattle.division.specs.Refusals.{answer, unless_due}
use Rattle.cases.specs.declared.row.Posting.{Posting}
use Rattle.cases.specs.declared.sheet.Sheet.{Sheet}
use Rattle.cases.specs.declared.refusal.CaseRefusal.{CaseRefusal}
use Rattle.cases.specs.declared.refusal.SheetRefusal.{SheetRefusal}
use Rattle.cases.specs.Rows.{lines}
use Rattle.cases.specs.Cases.{View, new_case, admit_due, admitted, amend_due, amended, fund_due, funded, press_due, letters_pressed, divide_due, divided, draw_due, sheet_of, drawn, sheet_due, sign_due, answer_with, signed, returned}
use Rattle.cases.specs.Ledger.{Event, Admit, Amend, Fund, Press, Divide, Draw, Tally, Sign, Return, Settled, Balanced}

-- the postings that a sign left at the front of the list: as many as it answered
abbrev pub front_of : Result ℕ (Sheet × SheetRefusal) → List Posting → List Posting
front_of (Ok count) after = take count after
front_of (Err e) after = []

-- the promise of each call: its answer, and the case before and after it
abbrev pub Step : Event → View → View → Type 0
Step (Admit number amount class answered) v w =
    (answered ≡ answer (admit_due v number amount class) tt) × (w ≡ unless_due (admit_due v number amount class) (admitted v number amount class) v)
Step (Amend number amount answered) v w =
    (answered ≡ answer (amend_due v number amount) tt) × (w ≡ unless_due (amend_due v number amount) (amended v number amount) v)
Step (Fund amount answered) v w =
    (answered ≡ answer (fund_due v amount) tt) × (w ≡ unless_due (fund_due v amount) (funded v amount) v)
Step (Press letters answered) v w =
    (answered ≡ answer (press_due v letters) tt) × (w ≡ unless_due (press_due v letters) (letters_pressed v letters) v)
Step (Divide rule answered) v w =
    Lawful rule × (answered ≡ answer (divide_due v) tt) × (w ≡ unless_due (divide_due v) (divided v rule) v)
Step (Draw answered) v w =
    (answered ≡ answer (draw_due v) (sheet_of v)) × (w ≡ unless_due (draw_due v) (drawn v) v)
Step (Tally sheet control answered) v w =
    (answered ≡ answer_with (sheet_due v sheet) (sheet, (sheet.total == control)) sheet) × (w ≡ v)
Step (Sign sheet room answered postings) v w =
    (answered ≡ answer_with (sign_due v sheet room) (length (lines v.rows)) sheet)
    × (w ≡ unless_due (sign_due v sheet room) (signed v) v)
    × (postings ≡ unless_due (sign_due v sheet room) (lines v.rows) [])
Step (Return sheet answered) v w =
    (answered ≡ answer_with (sheet_due v sheet) tt sheet) × (w ≡ unless_due (sheet_due v sheet) (returned v) v)

-- a case has a past if it was made new and each event of the past moved it on by that call's promise; the newest first
pub data Past : List Event → View → Type 0 where
  made : (number : ℕ) → Past [] (new_case number)
  moved : {history : List Event} {e : Event} {v w : View} → Past history v → Step e v w → Past (e ∷ history) w

-- what a call owes to every past that the case had: with this event it is a past of the case afterwards, and the sums of
-- postings are settled
abbrev pub Continues : Event → View → View → Type 0
Continues e v w = (history : List Event) → Past history v → Past (e ∷ history) w × Settled (e ∷ history)

-- every past is settled
abbrev pub AlwaysSettled : Type 0
AlwaysSettled = (history : List Event) (v : View) → Past history v → Settled history

-- and in every past the estate's sum is the negative of all others
abbrev pub AlwaysBalanced : Type 0
AlwaysBalanced = (history : List Event) (v : View) → Past history v → Balanced history

-- a history is no empty word: from every case every call has a step
pub record StepsFromAll : Type 0 where
  pub admit : (v : View) (number amount class : ℕ) → (r : Result (Unit {0}) CaseRefusal) × ((w : View) × Step (Admit number amount class r) v w)
  pub amend : (v : View) (number amount : ℕ) → (r : Result (Unit {0}) CaseRefusal) × ((w : View) × Step (Amend number amount r) v w)
  pub fund : (v : View) (amount : ℕ) → (r : Result (Unit {0}) CaseRefusal) × ((w : View) × Step (Fund amount r) v w)
  pub press : (v : View) (letters : List ℕ) → (r : Result (Unit {0}) CaseRefusal) × ((w : View) × Step (Press letters r) v w)
  pub divide : (v : View) (rule : Meaning) → Lawful rule → (r : Result (Unit {0}) CaseRefusal) × ((w : View) × Step (Divide rule r) v w)
  pub draw : (v : View) → (r : Result Sheet CaseRefusal) × ((w : View) × Step (Draw r) v w)
  pub tally : (v : View) (sheet : Sheet) (control : ℕ) → (r : Result (Sheet × Bool) (Sheet × SheetRefusal)) × ((w : View) × Step (Tally sheet control r) v w)
  pub sign : (v : View) (sheet : Sheet) (room : ℕ) → (r : Result ℕ (Sheet × SheetRefusal)) × ((ps : List Posting) × ((w : View) × Step (Sign sheet room r ps) v w))
  pub give_back : (v : View) (sheet : Sheet) → (r : Result (Unit {0}) (Sheet × SheetRefusal)) × ((w : View) × Step (Return sheet r) v w)
