-- The calls of a file are a past of its case, and what is told of them adds up to what they posted. Assumes nothing.
use Rattle.std.proofs.Common.{◌≡◌, ℕ, true, false, cond, eqb, List, [], ◌∷◌, ◌++◌, length, ℤ, pos, ◌+ℤ◌, Some, None, Ok, Err, Option, Result, sym, refl, ap, arith}
use Rattle.std.proofs.lemmas.Int.{ints}
use Rattle.std.proofs.lemmas.Bool.{cond_both}
use Rattle.division.specs.Refusals.{answer, unless_due}
use Rattle.cases.specs.declared.row.Posting.{Posting}
use Rattle.cases.specs.declared.sheet.Sheet.{Sheet}
use Rattle.cases.specs.declared.refusal.CaseRefusal.{CaseRefusal}
use Rattle.cases.specs.declared.refusal.SheetRefusal.{SheetRefusal}
use Rattle.cases.specs.Rows.{lines}
use Rattle.cases.specs.Cases.{estate_of, admit_due, amend_due, fund_due, press_due, divide_due, draw_due, sheet_of, sheet_due, sign_due, answer_with}
use Rattle.cases.specs.Ledger.{Event, Sign, under, posted}
use Rattle.cases.specs.History.{Past}
use Rattle.casefile.specs.declared.refusal.LineRefusal.{LineRefusal}
use Rattle.casefile.specs.Calls.{Asked, asks_claim, asks_amend, asks_fund, asks_press, asks_divide, asks_draw, asks_sign, asks_return, asks_compare, asks_nothing, field_letters, reading}
use Rattle.normal_form.specs.declared.letter.Operator.{Operator}
use Rattle.normal_form.specs.Forms.{normal_form}
use Rattle.transcript.specs.Outcomes.{Told, accepted, awarded, signed_off, given_back, same_form, other_forms}
use Rattle.transcript.specs.Turns.{InHand, Turn, answered, drawn_told, sheet_told, posting_room, on_letters, on_divide, on_sign, on_return, same_parts, operators_of, forms_told, asked_turn, read_turn, turn, ending}
use Rattle.transcript.specs.Files.{tellings, calls_after, case_after}
use Rattle.transcript.proofs.Going.{line_goes_on, return_goes_on}
use Rattle.transcript.proofs.Printing.{told_postings, all_postings}

-- the calls of lines, and the one at the end, are a past of the case
pub file_past : (h : InHand) (ls : List (List ℕ)) (past : List Event) → Past past h.case → Past (calls_after h ls past) (case_after h ls)
file_past h [] past p = return_goes_on h.sheet h past p
file_past h (line ∷ rest) past p = file_past (turn line h).hand rest ((turn line h).calls ++ past) (line_goes_on line h past p)

-- postings joined
under_joined : (n : ℕ) (ps qs : List Posting) → under n (ps ++ qs) ≡ under n ps +ℤ under n qs
under_joined n [] qs = omega (arith, ints)
under_joined n (p ∷ ps) qs =
    let rest = under_joined n ps qs in
    elim (eqb p.number n) as (λ b. cond b (p.amount +ℤ under n (ps ++ qs)) (under n (ps ++ qs)) ≡ cond b (p.amount +ℤ under n ps) (under n ps) +ℤ under n qs)
    [ true ↦ omega (arith, ints, rest) | false ↦ rest ]

-- a turn posts what it tells
abbrev Posts : Turn → Type 0
Posts t = (n : ℕ) (past : List Event) → posted n (t.calls ++ past) ≡ under n (told_postings t.told) +ℤ posted n past

-- no call, or one that writes nothing, with nothing to tell of postings
none_called : (ps : List Posting) → ps ≡ [] → (n : ℕ) (z : ℤ) → z ≡ under n ps +ℤ z
none_called ps e n z = let is = ap (under n) e in omega (arith, ints, is)

none_written : (ps : List Posting) → ps ≡ [] → (n : ℕ) (z : ℤ) → pos 0 +ℤ z ≡ under n ps +ℤ z
none_written ps e n z = ap (λ qs. under n qs +ℤ z) (sym e)

plain_answer : {X : Type 0} (r : Result X CaseRefusal) (t : Told) → told_postings t ≡ [] → told_postings (answered r t) ≡ []
plain_answer (Ok x) t e = e
plain_answer (Err e') t e = refl

drawn_answer : (r : Result Sheet CaseRefusal) → told_postings (drawn_told r) ≡ []
drawn_answer (Ok sheet) = refl
drawn_answer (Err e) = refl

back_answer : {X : Type 0} (r : Result X (Sheet × SheetRefusal)) → told_postings (sheet_told r given_back) ≡ []
back_answer (Ok x) = refl
back_answer (Err back) = refl

forms_answer : (l r : Option (List Operator)) → told_postings (forms_told l r) ≡ []
forms_answer None r = refl
forms_answer (Some l) None = refl
forms_answer (Some l) (Some r) =
    cond_both (same_parts (normal_form l) (normal_form r)) (same_form (normal_form l)) (other_forms (normal_form l) (normal_form r)) (λ t. told_postings t ≡ [])
    (λ _. refl)
    (λ _. refl)

letters_post : (o : Option (List ℕ)) (h : InHand) → Posts (on_letters o h)
letters_post None h n past = omega (arith, ints)
letters_post (Some letters) h n past = none_written _ (plain_answer (answer (press_due h.case letters) (tt {0})) accepted refl) n (posted n past)

sign_due_posts : (due : Option SheetRefusal) (sheet : Sheet) (ps : List Posting) (count n : ℕ) (past : List Event) → posted n (Sign sheet posting_room (answer_with due count sheet) (unless_due due ps []) ∷ past) ≡ under n (told_postings (sheet_told (answer_with due count sheet) (signed_off ps))) +ℤ posted n past
sign_due_posts None sheet ps count n past = refl
sign_due_posts (Some e) sheet ps count n past = refl

sign_posts : (o : Option Sheet) (h : InHand) → Posts (on_sign o h)
sign_posts None h n past = omega (arith, ints)
sign_posts (Some sheet) h n past = sign_due_posts (sign_due h.case sheet posting_room) sheet (lines h.case.rows) (length (lines h.case.rows)) n past

return_posts : (o : Option Sheet) (h : InHand) → Posts (on_return o h)
return_posts None h n past = omega (arith, ints)
return_posts (Some sheet) h n past = none_written _ (back_answer (answer_with (sheet_due h.case sheet) (tt {0}) sheet)) n (posted n past)

asked_posts : (asks : Asked) (h : InHand) → Posts (asked_turn asks h)
asked_posts (asks_claim number amount class) h n past = none_written _ (plain_answer (answer (admit_due h.case number amount class) (tt {0})) accepted refl) n (posted n past)
asked_posts (asks_amend number amount) h n past = none_written _ (plain_answer (answer (amend_due h.case number amount) (tt {0})) accepted refl) n (posted n past)
asked_posts (asks_fund amount) h n past = none_written _ (plain_answer (answer (fund_due h.case amount) (tt {0})) accepted refl) n (posted n past)
asked_posts (asks_press field) h n past = letters_post (field_letters field) h n past
asked_posts (asks_divide rule) h n past = none_written _ (plain_answer (answer (divide_due h.case) (tt {0})) (awarded (on_divide rule h).hand.case.rows (estate_of (on_divide rule h).hand.case)) refl) n (posted n past)
asked_posts asks_draw h n past = none_written _ (drawn_answer (answer (draw_due h.case) (sheet_of h.case))) n (posted n past)
asked_posts asks_sign h n past = sign_posts h.sheet h n past
asked_posts asks_return h n past = return_posts h.sheet h n past
asked_posts (asks_compare left right) h n past = none_called _ (forms_answer (operators_of (field_letters left)) (operators_of (field_letters right))) n (posted n past)
asked_posts asks_nothing h n past = omega (arith, ints)

read_posts : (r : Result Asked LineRefusal) (h : InHand) → Posts (read_turn r h)
read_posts (Ok asks) h n past = asked_posts asks h n past
read_posts (Err e) h n past = omega (arith, ints)

end_posts : (o : Option Sheet) (h : InHand) (n : ℕ) (past : List Event) → posted n ((on_return o h).calls ++ past) ≡ under n (all_postings (ending o)) +ℤ posted n past
end_posts None h n past = omega (arith, ints)
end_posts (Some sheet) h n past = refl

-- what is told of all lines is what their calls posted
pub file_posts : (h : InHand) (ls : List (List ℕ)) (n : ℕ) (past : List Event) → posted n (calls_after h ls past) ≡ under n (all_postings (tellings h ls)) +ℤ posted n past
file_posts h [] n past = end_posts h.sheet h n past
file_posts h (line ∷ rest) n past =
    let t = turn line h in
    let later = file_posts t.hand rest n (t.calls ++ past) in
    let first = read_posts (reading line) h n past in
    let both = under_joined n (told_postings t.told) (all_postings (tellings t.hand rest)) in
    omega (arith, ints, later, first, both)
