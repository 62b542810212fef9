-- At the end of a file no sheet is out. Assumes nothing.
use Rattle.std.proofs.Common.{◌≡◌, ℕ, Bool, true, false, not, List, [], ◌∷◌, length, Some, None, Ok, Err, Option, Result, sym, refl, ap, ◌∙◌}
use Rattle.std.proofs.lemmas.Bool.{eq-eqb, not-true}
use Rattle.division.specs.Refusals.{first_due, answer, unless_due}
use Rattle.cases.specs.declared.sheet.Sheet.{Sheet}
use Rattle.cases.specs.declared.refusal.CaseRefusal.{CaseRefusal}
use Rattle.cases.specs.declared.refusal.SheetRefusal.{SheetRefusal}
use Rattle.cases.specs.declared.refusal.SheetRefusal.TheVariants.{OtherCase}
use Rattle.cases.specs.Rows.{lines}
use Rattle.cases.specs.Cases.{View, is_its_sheet, admit_due, amend_due, fund_due, press_due, divide_due, draw_due, sheet_of, drawn, sheet_due, sign_due, answer_with, signed, returned}
use Rattle.casefile.specs.declared.refusal.LineRefusal.{LineRefusal}
use Rattle.casefile.specs.Calls.{Asked, asks_claim, asks_amend, asks_fund, asks_press, asks_divide, asks_draw, asks_sign, asks_return, asks_compare, asks_nothing, field_letters, reading}
use Rattle.transcript.specs.Hands.{in_order}
use Rattle.transcript.specs.Turns.{InHand, drawn_sheet, sheet_left, posting_room, on_letters, on_sign, on_return, asked_turn, read_turn, turn}
use Rattle.transcript.specs.Files.{case_after}
use Rattle.transcript.proofs.Handing.{kept_in_order}

abbrev Ordered : InHand → Type 0
Ordered h = in_order h.case h.sheet ≡ true

letters_ordered : (o : Option (List ℕ)) (h : InHand) → Ordered h → Ordered (on_letters o h).hand
letters_ordered None h k = k
letters_ordered (Some letters) h k = kept_in_order h.sheet (press_due h.case letters) _ h.case _ refl refl refl k

draw_ordered : (due : Option CaseRefusal) (h : InHand) → Ordered h → Ordered (record { case = unless_due due (drawn h.case) h.case; sheet = drawn_sheet (answer due (sheet_of h.case)) h.sheet })
draw_ordered None h k = eq-eqb h.case.number h.case.number refl
draw_ordered (Some e) h k = k

spent_ordered : {X : Type 0} (due : Option SheetRefusal) (value : X) (sheet : Sheet) (new : View) (h : InHand) → new.out ≡ false → h.sheet ≡ Some sheet → Ordered h → Ordered (record { case = unless_due due new h.case; sheet = sheet_left (answer_with due value sheet) })
spent_ordered None value sheet new h gone is k = ap not gone
spent_ordered (Some e) value sheet new h gone is k = ap (in_order h.case) (sym is) ∙ k

sign_ordered : (o : Option Sheet) (h : InHand) → h.sheet ≡ o → Ordered h → Ordered (on_sign o h).hand
sign_ordered None h is k = k
sign_ordered (Some sheet) h is k = spent_ordered (sign_due h.case sheet posting_room) (length (lines h.case.rows)) sheet (signed h.case) h refl is k

return_ordered : (o : Option Sheet) (h : InHand) → h.sheet ≡ o → Ordered h → Ordered (on_return o h).hand
return_ordered None h is k = k
return_ordered (Some sheet) h is k = spent_ordered (sheet_due h.case sheet) (tt {0}) sheet (returned h.case) h refl is k

asked_ordered : (asks : Asked) (h : InHand) → Ordered h → Ordered (asked_turn asks h).hand
asked_ordered (asks_claim number amount class) h k = kept_in_order h.sheet (admit_due h.case number amount class) _ h.case _ refl refl refl k
asked_ordered (asks_amend number amount) h k = kept_in_order h.sheet (amend_due h.case number amount) _ h.case _ refl refl refl k
asked_ordered (asks_fund amount) h k = kept_in_order h.sheet (fund_due h.case amount) _ h.case _ refl refl refl k
asked_ordered (asks_press field) h k = letters_ordered (field_letters field) h k
asked_ordered (asks_divide rule) h k = kept_in_order h.sheet (divide_due h.case) _ h.case _ refl refl refl k
asked_ordered asks_draw h k = draw_ordered (draw_due h.case) h k
asked_ordered asks_sign h k = sign_ordered h.sheet h refl k
asked_ordered asks_return h k = return_ordered h.sheet h refl k
asked_ordered (asks_compare left right) h k = k
asked_ordered asks_nothing h k = k

read_ordered : (r : Result Asked LineRefusal) (h : InHand) → Ordered h → Ordered (read_turn r h).hand
read_ordered (Ok asks) h k = asked_ordered asks h k
read_ordered (Err e) h k = k

-- a sheet that is the case's own is taken back
taken_back : (its : Bool) (v : View) → its ≡ true → (unless_due (first_due ((not its, OtherCase) ∷ [])) (returned v) v).out ≡ false
taken_back its v e = ap (λ b. (unless_due (first_due ((not b, OtherCase) ∷ [])) (returned v) v).out) e

end_closed : (o : Option Sheet) (h : InHand) → in_order h.case o ≡ true → (on_return o h).hand.case.out ≡ false
end_closed None h k = not-true h.case.out k
end_closed (Some sheet) h k = taken_back (is_its_sheet h.case sheet) h.case k

pub file_closed : (h : InHand) (ls : List (List ℕ)) → in_order h.case h.sheet ≡ true → (case_after h ls).out ≡ false
file_closed h [] k = end_closed h.sheet h k
file_closed h (line ∷ rest) k = file_closed (turn line h).hand rest (read_ordered (reading line) h k)
