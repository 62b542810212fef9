-- The tests of every call stand in the order of their numbers, and each says in bits what its refusal says in words; so
-- each call answers the smallest refusal that applies. Assumes nothing.
use Rattle.std.proofs.Common.{◌≡◌, ℕ, zero, suc, ◌+◌, ◌≤◌, Bool, true, not, eqb, ◌⊎◌, List, [], ◌∷◌, length, is_some, Some, None, Option, refl, ap, ◌∙◌, inl, inr, ⊎_elim, arith}
use Rattle.std.specs.List.{ContainsAt as Has}
use Rattle.std.proofs.lemmas.Bool.{both_ways, not-true, not_from_false, cases_Bool, ltb-true, leb-true, eqb-true, eq-eqb, and_parts, or_cases, or_left, or_right, false≢true}
use Rattle.std.proofs.lemmas.Bool.Decides.{nat_tests}
use Rattle.division.specs.Amounts.{total}
use Rattle.division.specs.Problem.{most_claims, most_total}
use Rattle.division.specs.Refusals.{Stands}
use Rattle.division.proofs.Smallest.{smallest_of}
use Rattle.operators.specs.Operators.{last_class}
use Rattle.operators.specs.Classes.{is_class_number}
use Rattle.normal_form.specs.declared.letter.Operator.{Operator}
use Rattle.normal_form.specs.declared.letter.LetterRefusal.TheVariants.{UnknownLetter}
use Rattle.normal_form.specs.Letters.{letter_of, letters_in, before_others}
use Rattle.normal_form.specs.Piles.{all_letters}
use Rattle.cases.specs.declared.row.Row.{Row}
use Rattle.cases.specs.declared.sheet.Sheet.{Sheet}
use Rattle.cases.specs.declared.refusal.CaseRefusal.{CaseRefusal}
use Rattle.cases.specs.declared.refusal.CaseRefusal.TheVariants.{TotalAboveLimit, EstateAboveTotal, ClassOutsideRange, Letter, SheetOut, ReservedNumber, NumberTaken, NumberNotOnTable, TableFull, NotWorked}
use Rattle.cases.specs.declared.refusal.SheetRefusal.{SheetRefusal}
use Rattle.cases.specs.declared.refusal.SheetRefusal.TheVariants.{OtherCase, ListTooShort}
use Rattle.cases.specs.Rows.{is_reserved_number, amounts, on_table, with_amount, lines}
use Rattle.cases.specs.Cases.{View, estate_of, is_its_sheet, case_refusal_number, sheet_refusal_number, admit_tests, amend_tests, fund_tests, press_tests, divide_tests, draw_tests, sheet_tests, sign_tests}
use Rattle.cases.specs.Applying.{OnTable, Reserved, AdmitApplies, AmendApplies, FundApplies, PressApplies, DivideApplies, DrawApplies, SheetApplies, SignApplies, SmallestInWords}

-- a list has its first element and those behind it, and no other ---------------------------------------------------------

module _ {X : Type 0} where
  has_first : (x : X) (xs : List X) → Has (x ∷ xs) x
  has_first x xs = (0, omega arith, λ d. refl)

  has_later : (y x : X) (xs : List X) → Has xs x → Has (y ∷ xs) x
  has_later y x xs h = (suc h.0, omega (arith, h.1), h.2)

  has_none : (x : X) → Has [] x → ⊥
  has_none x h = omega (arith, h.1)

  has_cases : (y x : X) (xs : List X) → Has (y ∷ xs) x → (y ≡ x) ⊎ Has xs x
  has_cases y x xs (zero, within, at) = inl (at x)
  has_cases y x xs (suc k, within, at) = inr (k, omega arith, at)

-- what each test says ---------------------------------------------------------------------------------------------------

-- a test that fails exactly if something holds
not_so : {A : Type 0} (b : Bool) → (A → b ≡ true) → not b ≡ true → A → ⊥
not_so b so fails a = both_ways b (not-true b fails) (so a)

so_not : {A : Type 0} (b : Bool) → (b ≡ true → A) → (A → ⊥) → not b ≡ true
so_not b so never = ⊎_elim (λ holds. absurd (never (so holds))) (not_from_false b) (cases_Bool b)

class_is : (k : ℕ) → is_class_number k ≡ true → (1 ≤ k) × (k ≤ last_class)
class_is k e = (grind (arith, nat_tests), grind (arith, nat_tests))

is_a_class : (k : ℕ) → (1 ≤ k) × (k ≤ last_class) → is_class_number k ≡ true
is_a_class k h = grind (arith, nat_tests)

reserved_is : (n : ℕ) → is_reserved_number n ≡ true → Reserved n
reserved_is n e = grind (arith, nat_tests)

is_a_reserved : (n : ℕ) → Reserved n → is_reserved_number n ≡ true
is_a_reserved n h = grind (arith, nat_tests)

on_table_is : (n : ℕ) (rows : List Row) → on_table n rows ≡ true → OnTable n rows
on_table_is n [] e = (cc)
on_table_is n (row ∷ rows) e =
    ⊎_elim (λ here. (row, has_first row rows, eqb-true row.number n here)) (λ later. let r = on_table_is n rows later in (r.0, has_later row r.0 rows r.1, r.2)) (or_cases (eqb row.number n) (on_table n rows) e)

is_on_table : (n : ℕ) (rows : List Row) → OnTable n rows → on_table n rows ≡ true
is_on_table n [] h = absurd (has_none h.0 h.1)
is_on_table n (row ∷ rows) h =
    ⊎_elim (λ here. or_left (eqb row.number n) (on_table n rows) (eq-eqb row.number n (ap (λ (r : Row). r.number) here ∙ h.2)))
    (λ later. or_right (eqb row.number n) (on_table n rows) (is_on_table n rows (h.0, later, h.2))) (has_cases row h.0 rows h.1)

-- a string is known exactly if each of its bytes names an operator
abbrev Unknown : List ℕ → Type 0
Unknown letters = (b : ℕ) × Has letters b × (letter_of b ≡ None)

none_not_some : {X : Type 0} (o : Option X) → is_some o ≡ true → o ≡ None → ⊥
none_not_some None e is = false≢true e
none_not_some (Some x) e is = (cc)

ordered_known : (o : Option Operator) (os : Option (List Operator)) → is_some (before_others o os) ≡ true → (is_some o ≡ true) × (is_some os ≡ true)
ordered_known None os e = (cc)
ordered_known (Some o) None e = (cc)
ordered_known (Some o) (Some os) e = (refl, refl)

known_none : (letters : List ℕ) → all_letters letters ≡ true → Unknown letters → ⊥
known_none [] e u = has_none u.0 u.1
known_none (b ∷ bs) e u =
    let p = ordered_known (letter_of b) (letters_in bs) e in
    ⊎_elim (λ here. none_not_some (letter_of b) p.0 (ap letter_of here ∙ u.2)) (λ later. known_none bs p.1 (u.0, later, u.2)) (has_cases b u.0 bs u.1)

unknown_first : (b : ℕ) (bs : List ℕ) (o : Option Operator) (os : Option (List Operator)) → letter_of b ≡ o → letters_in bs ≡ os → (not (all_letters bs) ≡ true → Unknown bs) → not (is_some (before_others o os)) ≡ true → Unknown (b ∷ bs)
unknown_first b bs None os here later more n = (b, has_first b bs, here)
unknown_first b bs (Some o) None here later more n = let u = more (ap (λ x. not (is_some x)) later) in (u.0, has_later b u.0 bs u.1, u.2)
unknown_first b bs (Some o) (Some os) here later more n = (cc)

unknown_some : (letters : List ℕ) → not (all_letters letters) ≡ true → Unknown letters
unknown_some [] e = (cc)
unknown_some (b ∷ bs) e = unknown_first b bs (letter_of b) (letters_in bs) refl refl (unknown_some bs) e

its_is : (v : View) (sheet : Sheet) → is_its_sheet v sheet ≡ true → (v.out ≡ true) × (sheet.number ≡ v.number)
its_is v sheet e = (grind (arith, nat_tests), grind (arith, nat_tests))

is_its : (v : View) (sheet : Sheet) → (v.out ≡ true) × (sheet.number ≡ v.number) → is_its_sheet v sheet ≡ true
is_its v sheet h = grind (arith, nat_tests)

-- each refusal that applies has a test that holds -------------------------------------------------------------------------

admit_stands : (v : View) (number amount class : ℕ) (e : CaseRefusal) → AdmitApplies v number amount class e → Stands (admit_tests v number amount class) e
admit_stands v number amount class TotalAboveLimit h = inl (grind (arith, nat_tests), refl)
admit_stands v number amount class EstateAboveTotal h = absurd h
admit_stands v number amount class ClassOutsideRange h = inr (inl (so_not (is_class_number class) (class_is class) h, refl))
admit_stands v number amount class (Letter e) h = absurd h
admit_stands v number amount class SheetOut h = inr (inr (inl (h, refl)))
admit_stands v number amount class ReservedNumber h = inr (inr (inr (inl (is_a_reserved number h, refl))))
admit_stands v number amount class NumberTaken h = inr (inr (inr (inr (inl (is_on_table number v.rows h, refl)))))
admit_stands v number amount class NumberNotOnTable h = absurd h
admit_stands v number amount class TableFull h = inr (inr (inr (inr (inr (inl (grind (arith, nat_tests), refl))))))
admit_stands v number amount class NotWorked h = absurd h

amend_stands : (v : View) (number amount : ℕ) (e : CaseRefusal) → AmendApplies v number amount e → Stands (amend_tests v number amount) e
amend_stands v number amount TotalAboveLimit h =
    let on = is_on_table number v.rows h.0 in
    inl (grind (arith, nat_tests), refl)
amend_stands v number amount EstateAboveTotal h = absurd h
amend_stands v number amount ClassOutsideRange h = absurd h
amend_stands v number amount (Letter e) h = absurd h
amend_stands v number amount SheetOut h = inr (inl (h, refl))
amend_stands v number amount ReservedNumber h = inr (inr (inl (is_a_reserved number h, refl)))
amend_stands v number amount NumberTaken h = absurd h
amend_stands v number amount NumberNotOnTable h = inr (inr (inr (inl (so_not (on_table number v.rows) (on_table_is number v.rows) h, refl))))
amend_stands v number amount TableFull h = absurd h
amend_stands v number amount NotWorked h = absurd h

fund_stands : (v : View) (amount : ℕ) (e : CaseRefusal) → FundApplies v amount e → Stands (fund_tests v amount) e
fund_stands v amount TotalAboveLimit h = inl (grind (arith, nat_tests), refl)
fund_stands v amount EstateAboveTotal h = absurd h
fund_stands v amount ClassOutsideRange h = absurd h
fund_stands v amount (Letter e) h = absurd h
fund_stands v amount SheetOut h = inr (inl (h, refl))
fund_stands v amount ReservedNumber h = absurd h
fund_stands v amount NumberTaken h = absurd h
fund_stands v amount NumberNotOnTable h = absurd h
fund_stands v amount TableFull h = absurd h
fund_stands v amount NotWorked h = absurd h

press_stands : (v : View) (letters : List ℕ) (e : CaseRefusal) → PressApplies v letters e → Stands (press_tests v letters) e
press_stands v letters TotalAboveLimit h = absurd h
press_stands v letters EstateAboveTotal h = absurd h
press_stands v letters ClassOutsideRange h = absurd h
press_stands v letters (Letter UnknownLetter) h = inl (⊎_elim (λ known. absurd (known_none letters known h)) (not_from_false (all_letters letters)) (cases_Bool (all_letters letters)), refl)
press_stands v letters SheetOut h = inr (inl (h, refl))
press_stands v letters ReservedNumber h = absurd h
press_stands v letters NumberTaken h = absurd h
press_stands v letters NumberNotOnTable h = absurd h
press_stands v letters TableFull h = absurd h
press_stands v letters NotWorked h = absurd h

divide_stands : (v : View) (e : CaseRefusal) → DivideApplies v e → Stands (divide_tests v) e
divide_stands v TotalAboveLimit h = absurd h
divide_stands v EstateAboveTotal h = inl (grind (arith, nat_tests), refl)
divide_stands v ClassOutsideRange h = absurd h
divide_stands v (Letter e) h = absurd h
divide_stands v SheetOut h = inr (inl (h, refl))
divide_stands v ReservedNumber h = absurd h
divide_stands v NumberTaken h = absurd h
divide_stands v NumberNotOnTable h = absurd h
divide_stands v TableFull h = absurd h
divide_stands v NotWorked h = absurd h

draw_stands : (v : View) (e : CaseRefusal) → DrawApplies v e → Stands (draw_tests v) e
draw_stands v TotalAboveLimit h = absurd h
draw_stands v EstateAboveTotal h = absurd h
draw_stands v ClassOutsideRange h = absurd h
draw_stands v (Letter e) h = absurd h
draw_stands v SheetOut h = inl (h, refl)
draw_stands v ReservedNumber h = absurd h
draw_stands v NumberTaken h = absurd h
draw_stands v NumberNotOnTable h = absurd h
draw_stands v TableFull h = absurd h
draw_stands v NotWorked h = inr (inl (not_from_false v.marked h, refl))

sheet_stands : (v : View) (sheet : Sheet) (e : SheetRefusal) → SheetApplies v sheet e → Stands (sheet_tests v sheet) e
sheet_stands v sheet OtherCase h = inl (so_not (is_its_sheet v sheet) (its_is v sheet) h, refl)
sheet_stands v sheet ListTooShort h = absurd h

sign_stands : (v : View) (sheet : Sheet) (room : ℕ) (e : SheetRefusal) → SignApplies v sheet room e → Stands (sign_tests v sheet room) e
sign_stands v sheet room OtherCase h = inl (so_not (is_its_sheet v sheet) (its_is v sheet) h, refl)
sign_stands v sheet room ListTooShort h = inr (inl (grind (arith, nat_tests), refl))

-- and each test that holds says that its refusal applies ------------------------------------------------------------------

pub smallest_in_words : SmallestInWords
smallest_in_words = record {
  admit = λ v number amount class. smallest_of case_refusal_number (AdmitApplies v number amount class) (admit_tests v number amount class)
      (ltb-true most_total (total (amounts v.rows) + amount), (not_so (is_class_number class) (is_a_class class), ((λ out. out), (reserved_is number, (on_table_is number v.rows, (leb-true most_claims (length v.rows), tt))))))
      (admit_stands v number amount class) (grind arith);
  amend = λ v number amount. smallest_of case_refusal_number (AmendApplies v number amount) (amend_tests v number amount)
      ((λ e. let p = and_parts (on_table number v.rows) _ e in (on_table_is number v.rows p.0, ltb-true most_total (total (amounts (with_amount number amount v.rows))) p.1)), ((λ out. out), (reserved_is number, (not_so (on_table number v.rows) (is_on_table number v.rows), tt))))
      (amend_stands v number amount) (grind arith);
  fund = λ v amount. smallest_of case_refusal_number (FundApplies v amount) (fund_tests v amount) (ltb-true most_total amount, ((λ out. out), tt)) (fund_stands v amount) (grind arith);
  press = λ v letters. smallest_of case_refusal_number (PressApplies v letters) (press_tests v letters) (unknown_some letters, ((λ out. out), tt)) (press_stands v letters) (grind arith);
  divide = λ v. smallest_of case_refusal_number (DivideApplies v) (divide_tests v) (ltb-true (total (amounts v.rows)) (estate_of v), ((λ out. out), tt)) (divide_stands v) (grind arith);
  draw = λ v. smallest_of case_refusal_number (DrawApplies v) (draw_tests v) ((λ out. out), (not-true v.marked, tt)) (draw_stands v) (grind arith);
  tally_and_return = λ v sheet. smallest_of sheet_refusal_number (SheetApplies v sheet) (sheet_tests v sheet) (not_so (is_its_sheet v sheet) (is_its v sheet), tt) (sheet_stands v sheet) (grind arith);
  sign = λ v sheet room. smallest_of sheet_refusal_number (SignApplies v sheet room) (sign_tests v sheet room)
      (not_so (is_its_sheet v sheet) (is_its v sheet), (ltb-true room (length (lines v.rows)), tt)) (sign_stands v sheet room) (grind arith);
}
