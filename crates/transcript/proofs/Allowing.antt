-- A line is accepted exactly if it is allowed, and a refused line leaves in hand what was. Assumes nothing.
use Rattle.std.proofs.Common.{◌≡◌, ℕ, true, false, List, length, is_some, Some, None, Ok, Err, Option, Result, sym, refl, ap, ◌∙◌, subst}
use Rattle.std.proofs.lemmas.Bool.{both_ways, cond_both}
use Rattle.division.specs.Refusals.{answer, unless_due}
use Rattle.normal_form.specs.declared.letter.Operator.{Operator}
use Rattle.normal_form.specs.Forms.{normal_form}
use Rattle.cases.specs.declared.sheet.Sheet.{Sheet}
use Rattle.cases.specs.declared.refusal.CaseRefusal.{CaseRefusal}
use Rattle.cases.specs.declared.refusal.SheetRefusal.{SheetRefusal}
use Rattle.cases.specs.Rows.{lines}
use Rattle.cases.specs.Cases.{View, estate_of, admit_due, admitted, amend_due, amended, fund_due, funded, press_due, letters_pressed, divide_due, divided, draw_due, sheet_of, drawn, sheet_due, sign_due, answer_with, signed, returned}
use Rattle.casefile.specs.declared.refusal.LineRefusal.{LineRefusal}
use Rattle.casefile.specs.Calls.{Asked, asks_claim, asks_amend, asks_fund, asks_press, asks_divide, asks_draw, asks_sign, asks_return, asks_compare, asks_nothing, field_letters, reading}
use Rattle.transcript.specs.Outcomes.{Told, accepted, awarded, signed_off, given_back, same_form, other_forms}
use Rattle.transcript.specs.Turns.{InHand, answered, kept_sheet, drawn_told, drawn_sheet, sheet_told, sheet_left, posting_room, meaning_of, same_parts, on_letters, on_sign, on_return, operators_of, forms_told, asked_turn, read_turn, turn, Allowed, is_refused, Decided}

-- a turn that is accepted exactly if something holds, and else leaves in hand what was
record Settles (t : Told) (after h : InHand) (A : Type 0) : Type 0 where
  if_so : A → is_refused t ≡ false
  only_so : is_refused t ≡ false → A
  kept : is_refused t ≡ true → after ≡ h

-- a call that changes the case alone
case_settles : (due : Option CaseRefusal) (t : Told) (new : View) (h : InHand) → is_refused t ≡ false → Settles (answered (answer due (tt {0})) t) (kept_sheet h (unless_due due new h.case)) h (due ≡ None)
case_settles None t new h plain = record { if_so = λ _. plain; only_so = λ _. refl; kept = λ e. absurd (both_ways (is_refused t) plain e) }
case_settles (Some e) t new h plain = record { if_so = λ is. cc; only_so = λ is. cc; kept = λ _. refl }

draw_settles : (due : Option CaseRefusal) (sheet : Sheet) (new : View) (h : InHand) → Settles (drawn_told (answer due sheet)) (record { case = unless_due due new h.case; sheet = drawn_sheet (answer due sheet) h.sheet }) h (due ≡ None)
draw_settles None sheet new h = record { if_so = λ _. refl; only_so = λ _. refl; kept = λ e. cc }
draw_settles (Some e) sheet new h = record { if_so = λ is. cc; only_so = λ is. cc; kept = λ _. refl }

-- a call of whoever holds the sheet in hand
spent_settles : {X : Type 0} (due : Option SheetRefusal) (value : X) (sheet : Sheet) (t : Told) (new : View) (h : InHand) → is_refused t ≡ false → h.sheet ≡ Some sheet → Settles (sheet_told (answer_with due value sheet) t) (record { case = unless_due due new h.case; sheet = sheet_left (answer_with due value sheet) }) h (due ≡ None)
spent_settles None value sheet t new h plain is = record { if_so = λ _. plain; only_so = λ _. refl; kept = λ e. absurd (both_ways (is_refused t) plain e) }
spent_settles (Some e) value sheet t new h plain is = record { if_so = λ none. cc; only_so = λ no_refusal. cc; kept = λ _. ap (λ s. record { case = h.case; sheet = s }) (sym is) }

letters_settle : (o : Option (List ℕ)) (h : InHand) → Settles (on_letters o h).told (on_letters o h).hand h ((letters : List ℕ) × (o ≡ Some letters) × (press_due h.case letters ≡ None))
letters_settle None h = record { if_so = λ a. cc; only_so = λ e. cc; kept = λ _. refl }
letters_settle (Some letters) h =
    let s = case_settles (press_due h.case letters) accepted (letters_pressed h.case letters) h refl in
    record {
      if_so = λ a. s.if_so (ap (press_due h.case) (let same : letters ≡ a.0 = cc a.1 in same) ∙ a.2);
      only_so = λ e. (letters, refl, s.only_so e);
      kept = s.kept;
    }

sign_settles : (o : Option Sheet) (h : InHand) → h.sheet ≡ o → Settles (on_sign o h).told (on_sign o h).hand h ((sheet : Sheet) × (o ≡ Some sheet) × (sign_due h.case sheet posting_room ≡ None))
sign_settles None h is = record { if_so = λ a. cc; only_so = λ e. cc; kept = λ _. refl }
sign_settles (Some sheet) h is =
    let s = spent_settles (sign_due h.case sheet posting_room) (length (lines h.case.rows)) sheet (signed_off (lines h.case.rows)) (signed h.case) h refl is in
    record {
      if_so = λ a. s.if_so (ap (λ x. sign_due h.case x posting_room) (let same : sheet ≡ a.0 = cc a.1 in same) ∙ a.2);
      only_so = λ e. (sheet, refl, s.only_so e);
      kept = s.kept;
    }

return_settles : (o : Option Sheet) (h : InHand) → h.sheet ≡ o → Settles (on_return o h).told (on_return o h).hand h ((sheet : Sheet) × (o ≡ Some sheet) × (sheet_due h.case sheet ≡ None))
return_settles None h is = record { if_so = λ a. cc; only_so = λ e. cc; kept = λ _. refl }
return_settles (Some sheet) h is =
    let s = spent_settles (sheet_due h.case sheet) (tt {0}) sheet given_back (returned h.case) h refl is in
    record {
      if_so = λ a. s.if_so (ap (λ x. sheet_due h.case x) (let same : sheet ≡ a.0 = cc a.1 in same) ∙ a.2);
      only_so = λ e. (sheet, refl, s.only_so e);
      kept = s.kept;
    }

forms_accepted : (l r : Option (List Operator)) → ((is_some l ≡ true) × (is_some r ≡ true) → is_refused (forms_told l r) ≡ false) × (is_refused (forms_told l r) ≡ false → (is_some l ≡ true) × (is_some r ≡ true))
forms_accepted None r = ((λ a. cc), (λ e. cc))
forms_accepted (Some l) None = ((λ a. cc), (λ e. cc))
forms_accepted (Some l) (Some r) = (
  (λ _. cond_both (same_parts (normal_form l) (normal_form r)) (same_form (normal_form l)) (other_forms (normal_form l) (normal_form r)) (λ t. is_refused t ≡ false) (λ _. refl) (λ _. refl)),
  (λ _. (refl, refl)),
)

asked_settles : (asks : Asked) (h : InHand) → Settles (asked_turn asks h).told (asked_turn asks h).hand h (Allowed asks h)
asked_settles (asks_claim number amount class) h = case_settles (admit_due h.case number amount class) accepted (admitted h.case number amount class) h refl
asked_settles (asks_amend number amount) h = case_settles (amend_due h.case number amount) accepted (amended h.case number amount) h refl
asked_settles (asks_fund amount) h = case_settles (fund_due h.case amount) accepted (funded h.case amount) h refl
asked_settles (asks_press field) h = letters_settle (field_letters field) h
asked_settles (asks_divide rule) h =
    let after = unless_due (divide_due h.case) (divided h.case (meaning_of rule)) h.case in
    case_settles (divide_due h.case) (awarded after.rows (estate_of after)) (divided h.case (meaning_of rule)) h refl
asked_settles asks_draw h = draw_settles (draw_due h.case) (sheet_of h.case) (drawn h.case) h
asked_settles asks_sign h = sign_settles h.sheet h refl
asked_settles asks_return h = return_settles h.sheet h refl
asked_settles (asks_compare left right) h =
    let a = forms_accepted (operators_of (field_letters left)) (operators_of (field_letters right)) in
    record { if_so = a.0; only_so = a.1; kept = λ _. refl }
asked_settles asks_nothing h = record { if_so = λ _. refl; only_so = λ _. tt; kept = λ _. refl }

read_decides : (r : Result Asked LineRefusal) (h : InHand) → Settles (read_turn r h).told (read_turn r h).hand h ((asks : Asked) × (r ≡ Ok asks) × Allowed asks h)
read_decides (Ok asks) h =
    let s = asked_settles asks h in
    record {
      if_so = λ a. s.if_so (subst (λ x. Allowed x h) (let same : a.0 ≡ asks = cc a.1 in same) a.2);
      only_so = λ e. (asks, refl, s.only_so e);
      kept = s.kept;
    }
read_decides (Err e) h = record { if_so = λ a. let other = a.1 in cc; only_so = λ e'. cc; kept = λ _. refl }

pub line_decided : (line : List ℕ) (h : InHand) (t : Told) (after : InHand) → t ≡ (turn line h).told → after ≡ (turn line h).hand → Decided line h t after
line_decided line h t after told_is hand_is =
    let s = read_decides (reading line) h in
    record {
      if_allowed = λ a. ap is_refused told_is ∙ s.if_so a;
      only_allowed = λ e. s.only_so (ap is_refused (sym told_is) ∙ e);
      kept = λ e. hand_is ∙ s.kept (ap is_refused (sym told_is) ∙ e);
    }
