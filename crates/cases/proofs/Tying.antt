-- What ties a case to the plain ledger of its past, and that every call keeps it. Assumes nothing.
use Rattle.std.proofs.Common.{◌≡◌, ℕ, ◌+◌, ◌<◌, ◌≤◌, Bool, true, false, cond, ◌||◌, eqb, List, [], ◌∷◌, ◌++◌, map, length, None, Ok, sym, refl, ap, ◌∙◌, subst, arith}
use lib.ListN.{length-map}
use Rattle.std.proofs.lemmas.List.{map_push, length_push}
use Rattle.std.proofs.lemmas.Bool.{or_parts, eqb-false, ne_eqb}
use Rattle.std.proofs.lemmas.Bool.Decides.{nat_tests}
use Rattle.division.specs.Amounts.{total}
use Rattle.division.specs.Problem.{Meaning, Lawful, Sound, most_claims, most_total}
use Rattle.operators.specs.Operators.{Classed}
use Rattle.operators.specs.Classes.{is_class_number, all_classed}
use Rattle.operators.specs.ClassListLaws.{classed_if_tested}
use Rattle.normal_form.specs.declared.letter.Operator.{Operator}
use Rattle.normal_form.specs.Letters.{applied}
use Rattle.normal_form.specs.Forms.{Parts, no_letters, pressed, pressed_in_turn, normal_form, letters_of}
use Rattle.normal_form.specs.Piles.{operators_in}
use Rattle.normal_form.proofs.Piles.{applied_lawful}
use Rattle.normal_form.proofs.Theorems.{form_says_all}
use Rattle.cases.specs.declared.row.Row.{Row}
use Rattle.cases.specs.declared.row.Posting.{Posting}
use Rattle.cases.specs.declared.sheet.Sheet.{Sheet}
use Rattle.cases.specs.Rows.{amounts, classes_of, on_table, new_row, with_amount, with_awards, settled, lines}
use Rattle.cases.specs.Cases.{View, new_case, admit_due, admitted, amend_due, amended, fund_due, funded, press_due, letters_pressed, divide_due, divided, awards_by, draw_due, sheet_of, drawn, sheet_due, sign_due, signed, returned}
use Rattle.cases.specs.Ledger.{Event, Admit, Amend, Fund, Press, Divide, Draw, Tally, Sign, Return, Entry, Ledger, empty_ledger, award_under, re_entered, ledger_awards, fed, ledger}
use Rattle.cases.specs.History.{Step, Past, made, moved}
use Rattle.cases.proofs.Dues.{by_due, by_sheet_due}

-- the entry of a row
abbrev pub entry_of : Row → Entry
entry_of row = record { number = row.number; amount = row.amount; class = row.class }

-- what a row says under a claimant number, 0 for a claimant who is not on the table
abbrev pub found : (Row → ℕ) → ℕ → List Row → ℕ
found says n [] = 0
found says n (row ∷ rows) = cond (eqb row.number n) (says row) (found says n rows)

abbrev pub paid : Row → ℕ
paid row = row.paid

abbrev pub awarded : Row → ℕ
awarded row = row.award

-- whether a claimant number is among the entries
abbrev pub listed : ℕ → List Entry → Bool
listed n [] = false
listed n (entry ∷ entries) = eqb entry.number n || listed n entries

-- no number stands there twice
abbrev pub Distinct : List Entry → Type 0
Distinct [] = Unit {0}
Distinct (entry ∷ entries) = (listed entry.number entries ≡ false) × Distinct entries

-- entries that a case may hold
pub record Kept (entries : List Entry) : Type 0 where
  pub classed : all_classed (map (λ entry. entry.class) entries) ≡ true
  pub few : length entries ≤ most_claims
  pub small : total (map (λ entry. entry.amount) entries) ≤ most_total
  pub distinct : Distinct entries

-- the entries of rows ---------------------------------------------------------------------------------------------------

amounts_are : (rows : List Row) → map (λ (entry : Entry). entry.amount) (map entry_of rows) ≡ amounts rows
amounts_are [] = refl
amounts_are (row ∷ rows) = ap (λ xs. row.amount ∷ xs) (amounts_are rows)

classes_are : (rows : List Row) → map (λ (entry : Entry). entry.class) (map entry_of rows) ≡ classes_of rows
classes_are [] = refl
classes_are (row ∷ rows) = ap (λ xs. row.class ∷ xs) (classes_are rows)

pub listed_is : (n : ℕ) (rows : List Row) → listed n (map entry_of rows) ≡ on_table n rows
listed_is n [] = refl
listed_is n (row ∷ rows) = ap (λ b. eqb row.number n || b) (listed_is n rows)

entries_amended : (n amount : ℕ) (rows : List Row) → map entry_of (with_amount n amount rows) ≡ re_entered n amount (map entry_of rows)
entries_amended n amount [] = refl
entries_amended n amount (row ∷ rows) = let rest = entries_amended n amount rows in grind (arith, nat_tests)

entries_awarded : (new : List ℕ) (rows : List Row) → map entry_of (with_awards new rows) ≡ map entry_of rows
entries_awarded new [] = refl
entries_awarded [] (row ∷ rows) = refl
entries_awarded (a ∷ new) (row ∷ rows) = ap (λ es. entry_of row ∷ es) (entries_awarded new rows)

entries_settled : (rows : List Row) → map entry_of (map settled rows) ≡ map entry_of rows
entries_settled [] = refl
entries_settled (row ∷ rows) = ap (λ es. entry_of row ∷ es) (entries_settled rows)

-- what rows say under a number ------------------------------------------------------------------------------------------

paid_admitted : (n number amount class : ℕ) (rows : List Row) → found paid n (rows ++ new_row number amount class ∷ []) ≡ found paid n rows
paid_admitted n number amount class [] = grind (arith, nat_tests)
paid_admitted n number amount class (row ∷ rows) = ap (λ x. cond (eqb row.number n) row.paid x) (paid_admitted n number amount class rows)

paid_amended : (n number amount : ℕ) (rows : List Row) → found paid n (with_amount number amount rows) ≡ found paid n rows
paid_amended n number amount [] = refl
paid_amended n number amount (row ∷ rows) = let rest = paid_amended n number amount rows in grind (arith, nat_tests)

paid_awarded : (n : ℕ) (new : List ℕ) (rows : List Row) → found paid n (with_awards new rows) ≡ found paid n rows
paid_awarded n new [] = refl
paid_awarded n [] (row ∷ rows) = refl
paid_awarded n (a ∷ new) (row ∷ rows) = ap (λ x. cond (eqb row.number n) row.paid x) (paid_awarded n new rows)

paid_settled : (n : ℕ) (rows : List Row) → found paid n (map settled rows) ≡ found awarded n rows
paid_settled n [] = refl
paid_settled n (row ∷ rows) = ap (λ x. cond (eqb row.number n) row.award x) (paid_settled n rows)

award_found : (n : ℕ) (new : List ℕ) (rows : List Row) → length new ≡ length rows → found awarded n (with_awards new rows) ≡ award_under n (map entry_of rows) new
award_found n new [] e = refl
award_found n [] (row ∷ rows) e = absurd (omega arith)
award_found n (a ∷ new) (row ∷ rows) e = ap (λ x. cond (eqb row.number n) a x) (award_found n new rows (omega arith))

-- one entry more --------------------------------------------------------------------------------------------------------

module _ (new : Entry) where
  classed_more : (entries : List Entry) → all_classed (map (λ (entry : Entry). entry.class) entries) ≡ true → is_class_number new.class ≡ true → all_classed (map (λ (entry : Entry). entry.class) (entries ++ new ∷ [])) ≡ true
  classed_more [] h is = grind (arith, nat_tests)
  classed_more (entry ∷ entries) h is = let rest = classed_more entries in grind (arith, nat_tests)

  total_more : (entries : List Entry) → total (map (λ (entry : Entry). entry.amount) (entries ++ new ∷ [])) ≡ total (map (λ (entry : Entry). entry.amount) entries) + new.amount
  total_more [] = omega arith
  total_more (entry ∷ entries) = omega (arith, total_more entries)

  not_listed_more : (n : ℕ) (entries : List Entry) → listed n entries ≡ false → eqb new.number n ≡ false → listed n (entries ++ new ∷ []) ≡ false
  not_listed_more n [] h other = grind (arith, nat_tests)
  not_listed_more n (entry ∷ entries) h other = let rest = not_listed_more n entries in grind (arith, nat_tests)

  distinct_more : (entries : List Entry) → Distinct entries → listed new.number entries ≡ false → Distinct (entries ++ new ∷ [])
  distinct_more [] d h = (refl, tt)
  distinct_more (entry ∷ entries) d h =
      let both = or_parts (eqb entry.number new.number) (listed new.number entries) h in
      let other = ne_eqb new.number entry.number (λ e. eqb-false entry.number new.number both.0 (sym e)) in
      (not_listed_more entry.number entries d.0 other, distinct_more entries d.1 both.1)

  kept_more : (entries : List Entry) → Kept entries → is_class_number new.class ≡ true → length entries < most_claims → total (map (λ (entry : Entry). entry.amount) entries) + new.amount ≤ most_total → listed new.number entries ≡ false → Kept (entries ++ new ∷ [])
  kept_more entries k is few small h = record {
    classed = classed_more entries k.classed is;
    few = omega (arith, length_push entries new);
    small = omega (arith, total_more entries);
    distinct = distinct_more entries k.distinct h;
  }

-- another amount under one number ---------------------------------------------------------------------------------------

module _ (n amount : ℕ) where
  classes_re_entered : (entries : List Entry) → map (λ (entry : Entry). entry.class) (re_entered n amount entries) ≡ map (λ (entry : Entry). entry.class) entries
  classes_re_entered [] = refl
  classes_re_entered (entry ∷ entries) = let rest = classes_re_entered entries in grind (arith, nat_tests)

  length-re_entered : (entries : List Entry) → length (re_entered n amount entries) ≡ length entries
  length-re_entered [] = refl
  length-re_entered (entry ∷ entries) = let rest = length-re_entered entries in grind (arith, nat_tests)

  listed_re_entered : (m : ℕ) (entries : List Entry) → listed m (re_entered n amount entries) ≡ listed m entries
  listed_re_entered m [] = refl
  listed_re_entered m (entry ∷ entries) = let rest = listed_re_entered m entries in grind (arith, nat_tests)

  distinct_re_entered : (entries : List Entry) → Distinct entries → Distinct (re_entered n amount entries)
  distinct_re_entered [] d = tt
  distinct_re_entered (entry ∷ entries) d =
      elim (eqb entry.number n) as (λ b. Distinct (cond b (record { number = entry.number; amount = amount; class = entry.class } ∷ entries) (entry ∷ re_entered n amount entries))) [
        | true ↦ d
        | false ↦ (listed_re_entered entry.number entries ∙ d.0, distinct_re_entered entries d.1)
      ]

  kept_re_entered : (entries : List Entry) → Kept entries → total (map (λ (entry : Entry). entry.amount) (re_entered n amount entries)) ≤ most_total → Kept (re_entered n amount entries)
  kept_re_entered entries k small = record {
    classed = ap all_classed (classes_re_entered entries) ∙ k.classed;
    few = omega (arith, length-re_entered entries, k.few);
    small = small;
    distinct = distinct_re_entered entries k.distinct;
  }

-- letters pressed later -------------------------------------------------------------------------------------------------

pub pressed_joined : (p : Parts) (first later : List Operator) → pressed_in_turn p (first ++ later) ≡ pressed_in_turn (pressed_in_turn p first) later
pressed_joined p [] later = refl
pressed_joined p (o ∷ os) later = pressed_joined (pressed p o) os later

-- the tie ---------------------------------------------------------------------------------------------------------------

-- a case and the plain ledger of its past: the same entries and fund, the form of all letters pressed, what was paid
-- last as signed, and, while the mark stands, the awards as worked; a sheet is out only while the mark stands
pub record Tied (l : Ledger) (v : View) : Type 0 where
  pub entries : l.entries ≡ map entry_of v.rows
  pub kept : Kept l.entries
  pub fund : l.fund ≡ v.fund
  pub form : v.form ≡ normal_form l.letters
  pub out_marked : v.out ≡ true → v.marked ≡ true
  pub paid_is : (n : ℕ) → l.signed n ≡ found paid n v.rows
  pub worked_is : v.marked ≡ true → (n : ℕ) → l.worked n ≡ found awarded n v.rows

pub tied_new : (number : ℕ) → Tied empty_ledger (new_case number)
tied_new number = record {
  entries = refl;
  kept = record { classed = refl; few = omega arith; small = omega arith; distinct = tt };
  fund = refl;
  form = refl;
  out_marked = λ e. e;
  paid_is = λ n. refl;
  worked_is = λ e n. refl;
}

module _ (l : Ledger) (v : View) (t : Tied l v) where
  amounts_tied : map (λ (entry : Entry). entry.amount) l.entries ≡ amounts v.rows
  amounts_tied = ap (map (λ (entry : Entry). entry.amount)) t.entries ∙ amounts_are v.rows

  classes_tied : map (λ (entry : Entry). entry.class) l.entries ≡ classes_of v.rows
  classes_tied = ap (map (λ (entry : Entry). entry.class)) t.entries ∙ classes_are v.rows

  length_tied : length l.entries ≡ length v.rows
  length_tied = ap length t.entries ∙ length-map v.rows entry_of

  listed_tied : (n : ℕ) → listed n l.entries ≡ on_table n v.rows
  listed_tied n = ap (listed n) t.entries ∙ listed_is n v.rows

  classed_tied : Classed (classes_of v.rows)
  classed_tied = classed_if_tested (classes_of v.rows) (ap all_classed (sym classes_tied) ∙ t.kept.classed)

  -- with an estate that the claims cover, the case has a sound problem
  sound_tied : v.fund ≤ total (amounts v.rows) → Sound (amounts v.rows) v.fund
  sound_tied covered = record {
    few = omega (arith, length-map v.rows (λ (row : Row). row.amount), length_tied, t.kept.few);
    small = omega (arith, ap total amounts_tied, t.kept.small);
    covered = covered;
  }

  -- the awards by the form are those of all letters one by one
  awards_tied : (f : Meaning) → Lawful f → v.fund ≤ total (amounts v.rows) → ledger_awards l f ≡ awards_by v f
  awards_tied f law covered =
      ap (λ classes. applied l.letters classes f (map (λ (entry : Entry). entry.amount) l.entries) l.fund) classes_tied
      ∙ ap (λ claims. applied l.letters (classes_of v.rows) f claims l.fund) amounts_tied
      ∙ ap (applied l.letters (classes_of v.rows) f (amounts v.rows)) t.fund
      ∙ form_says_all l.letters f law (classes_of v.rows) classed_tied (amounts v.rows) v.fund (sound_tied covered)
      ∙ ap (λ p. applied (letters_of p) (classes_of v.rows) f (amounts v.rows) v.fund) (sym t.form)

  -- and there is one for each row
  awards_long : (f : Meaning) → Lawful f → v.fund ≤ total (amounts v.rows) → length (awards_by v f) ≡ length v.rows
  awards_long f law covered =
      (applied_lawful (letters_of v.form) (classes_of v.rows) classed_tied f law (amounts v.rows) v.fund (sound_tied covered)).as_long
      ∙ length-map v.rows (λ (row : Row). row.amount)

  pub tied_admit : (number amount class : ℕ) → admit_due v number amount class ≡ None → Tied (fed (Admit number amount class (Ok tt)) l) (admitted v number amount class)
  tied_admit number amount class none =
      let is_class : is_class_number class ≡ true = grind (arith, nat_tests) in
      let room : length v.rows < most_claims = grind (arith, nat_tests) in
      let small : total (amounts v.rows) + amount ≤ most_total = grind (arith, nat_tests) in
      let other : on_table number v.rows ≡ false = grind (arith, nat_tests) in
      let in_hand : v.out ≡ false = grind (arith, nat_tests) in
      let new : Entry = record { number = number; amount = amount; class = class } in
      record {
        entries = ap (λ es. es ++ new ∷ []) t.entries ∙ sym (map_push entry_of v.rows (new_row number amount class));
        kept = kept_more new l.entries t.kept is_class (omega (arith, length_tied)) (omega (arith, ap total amounts_tied)) (listed_tied number ∙ other);
        fund = t.fund;
        form = t.form;
        out_marked = λ out. cc;
        paid_is = λ n. t.paid_is n ∙ sym (paid_admitted n number amount class v.rows);
        worked_is = λ e. cc;
      }

  pub tied_amend : (number amount : ℕ) → amend_due v number amount ≡ None → Tied (fed (Amend number amount (Ok tt)) l) (amended v number amount)
  tied_amend number amount none =
      let rows = with_amount number amount v.rows in
      let small : total (amounts rows) ≤ most_total = grind (arith, nat_tests) in
      let in_hand : v.out ≡ false = grind (arith, nat_tests) in
      let same : re_entered number amount l.entries ≡ map entry_of rows = ap (re_entered number amount) t.entries ∙ sym (entries_amended number amount v.rows) in
      record {
        entries = same;
        kept = kept_re_entered number amount l.entries t.kept (omega (arith, ap (λ es. total (map (λ (entry : Entry). entry.amount) es)) same, ap total (amounts_are rows)));
        fund = t.fund;
        form = t.form;
        out_marked = λ out. cc;
        paid_is = λ n. t.paid_is n ∙ sym (paid_amended n number amount v.rows);
        worked_is = λ e. cc;
      }

  pub tied_fund : (amount : ℕ) → fund_due v amount ≡ None → Tied (fed (Fund amount (Ok tt)) l) (funded v amount)
  tied_fund amount none =
      let in_hand : v.out ≡ false = grind (arith, nat_tests) in
      record {
        entries = t.entries;
        kept = t.kept;
        fund = refl;
        form = t.form;
        out_marked = λ out. cc;
        paid_is = t.paid_is;
        worked_is = λ e. cc;
      }

  pub tied_press : (letters : List ℕ) → press_due v letters ≡ None → Tied (fed (Press letters (Ok tt)) l) (letters_pressed v letters)
  tied_press letters none =
      let in_hand : v.out ≡ false = grind (arith, nat_tests) in
      record {
        entries = t.entries;
        kept = t.kept;
        fund = t.fund;
        form = ap (λ p. pressed_in_turn p (operators_in letters)) t.form ∙ sym (pressed_joined no_letters l.letters (operators_in letters));
        out_marked = λ out. cc;
        paid_is = t.paid_is;
        worked_is = λ e. cc;
      }

  pub tied_divide : (f : Meaning) → Lawful f → divide_due v ≡ None → Tied (fed (Divide f (Ok tt)) l) (divided v f)
  tied_divide f law none =
      let covered : v.fund ≤ total (amounts v.rows) = grind (arith, nat_tests) in
      record {
        entries = t.entries ∙ sym (entries_awarded (awards_by v f) v.rows);
        kept = t.kept;
        fund = t.fund;
        form = t.form;
        out_marked = λ out. refl;
        paid_is = λ n. t.paid_is n ∙ sym (paid_awarded n (awards_by v f) v.rows);
        worked_is = λ marked n.
            ap (λ es. award_under n es (ledger_awards l f)) t.entries
            ∙ ap (award_under n (map entry_of v.rows)) (awards_tied f law covered)
            ∙ sym (award_found n (awards_by v f) v.rows (awards_long f law covered));
      }

  pub tied_draw : draw_due v ≡ None → Tied l (drawn v)
  tied_draw none =
      let marked : v.marked ≡ true = grind (arith, nat_tests) in
      record {
        entries = t.entries;
        kept = t.kept;
        fund = t.fund;
        form = t.form;
        out_marked = λ out. marked;
        paid_is = t.paid_is;
        worked_is = t.worked_is;
      }

  -- a sheet of the case says that the awards are worked
  pub sheet_marked : (sheet : Sheet) (room : ℕ) → sign_due v sheet room ≡ None → v.marked ≡ true
  sheet_marked sheet room none =
      let out : v.out ≡ true = grind (arith, nat_tests) in
      t.out_marked out

  pub tied_sign : (sheet : Sheet) (room count : ℕ) (postings : List Posting) → sign_due v sheet room ≡ None → Tied (fed (Sign sheet room (Ok count) postings) l) (signed v)
  tied_sign sheet room count postings none = record {
    entries = t.entries ∙ sym (entries_settled v.rows);
    kept = t.kept;
    fund = t.fund;
    form = t.form;
    out_marked = λ e. e;
    paid_is = λ n. t.worked_is (sheet_marked sheet room none) n ∙ sym (paid_settled n v.rows);
    worked_is = λ e. cc;
  }

  pub tied_return : Tied l (returned v)
  tied_return = record {
    entries = t.entries;
    kept = t.kept;
    fund = t.fund;
    form = t.form;
    out_marked = λ e. cc;
    paid_is = t.paid_is;
    worked_is = t.worked_is;
  }

-- every call keeps the tie: an accepted one by its own law, and a refused one because it changes nothing
pub tied_step : (e : Event) (l : Ledger) (v w : View) → Tied l v → Step e v w → Tied (fed e l) w
tied_step (Admit number amount class answered) l v w t step =
    by_due (λ r x. Tied (fed (Admit number amount class r) l) x) (admit_due v number amount class) tt (admitted v number amount class) v answered w step.0 step.1 (tied_admit l v t number amount class) (λ e. t)
tied_step (Amend number amount answered) l v w t step =
    by_due (λ r x. Tied (fed (Amend number amount r) l) x) (amend_due v number amount) tt (amended v number amount) v answered w step.0 step.1 (tied_amend l v t number amount) (λ e. t)
tied_step (Fund amount answered) l v w t step =
    by_due (λ r x. Tied (fed (Fund amount r) l) x) (fund_due v amount) tt (funded v amount) v answered w step.0 step.1 (tied_fund l v t amount) (λ e. t)
tied_step (Press letters answered) l v w t step =
    by_due (λ r x. Tied (fed (Press letters r) l) x) (press_due v letters) tt (letters_pressed v letters) v answered w step.0 step.1 (tied_press l v t letters) (λ e. t)
tied_step (Divide rule answered) l v w t step =
    by_due (λ r x. Tied (fed (Divide rule r) l) x) (divide_due v) tt (divided v rule) v answered w step.1 step.2 (tied_divide l v t rule step.0) (λ e. t)
tied_step (Draw answered) l v w t step =
    by_due (λ r x. Tied l x) (draw_due v) (sheet_of v) (drawn v) v answered w step.0 step.1 (tied_draw l v t) (λ e. t)
tied_step (Tally sheet control answered) l v w t step = subst (Tied l) (sym step.1) t
tied_step (Sign sheet room answered postings) l v w t step =
    by_sheet_due (λ r x. Tied (fed (Sign sheet room r postings) l) x) (sign_due v sheet room) (length (lines v.rows)) sheet (signed v) v answered w step.0 step.1 (tied_sign l v t sheet room (length (lines v.rows)) postings) (λ e. t)
tied_step (Return sheet answered) l v w t step =
    by_sheet_due (λ r x. Tied l x) (sheet_due v sheet) tt sheet (returned v) v answered w step.0 step.1 (λ none. tied_return l v t) (λ e. t)

-- and so it stands between every case and its past
pub always_tied : {history : List Event} {v : View} → Past history v → Tied (ledger history) v
always_tied (made number) = tied_new number
always_tied (moved {history} {e} {v} {w} past step) = tied_step e (ledger history) v w (always_tied past) step
