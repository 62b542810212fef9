-- One run of a case with two signings, so that the law of histories is seen to say something: money moves, and part of
-- it comes back. Assumes nothing.
use Rattle.std.specs.Prelude.{◌≡◌, ℕ, suc, true, false, List, [], ◌∷◌, pos, neg_ℤ, Ok, Err, codes, Some}
use Rattle.division.specs.EqualAwards.{equal_awards}
use Rattle.division.specs.Proportion.{proportion}
use Rattle.operators.specs.declared.classes.ClassOrder.TheVariants.{JuniorFirst}
use Rattle.normal_form.specs.declared.form.Place.TheVariants.{Absent, Inner}
use Rattle.cases.specs.declared.row.Posting.{Posting}
use Rattle.cases.specs.declared.sheet.Sheet.{Sheet}
use Rattle.cases.specs.declared.refusal.CaseRefusal.TheVariants.{SheetOut}
use Rattle.cases.specs.Rows.{estate_number}
use Rattle.cases.specs.Cases.{View}
use Rattle.cases.specs.Ledger.{Event, Admit, Amend, Fund, Press, Divide, Draw, Tally, Sign, Return, posted}
use Rattle.cases.specs.History.{Past}

-- how many signs of a history were accepted
abbrev pub signs_accepted : List Event → ℕ
signs_accepted [] = 0
signs_accepted (Admit number amount class answered ∷ history) = signs_accepted history
signs_accepted (Amend number amount answered ∷ history) = signs_accepted history
signs_accepted (Fund amount answered ∷ history) = signs_accepted history
signs_accepted (Press letters answered ∷ history) = signs_accepted history
signs_accepted (Divide rule answered ∷ history) = signs_accepted history
signs_accepted (Draw answered ∷ history) = signs_accepted history
signs_accepted (Tally sheet control answered ∷ history) = signs_accepted history
signs_accepted (Sign sheet room (Ok count) postings ∷ history) = suc (signs_accepted history)
signs_accepted (Sign sheet room (Err e) postings ∷ history) = signs_accepted history
signs_accepted (Return sheet answered ∷ history) = signs_accepted history

-- a posting of money to the bearer of a number
abbrev pub to : ℕ → ℕ → Posting
to number amount = record { number = number; amount = pos amount }

-- and one of money from him
abbrev pub from : ℕ → ℕ → Posting
from number amount = record { number = number; amount = neg_ℤ (pos amount) }

-- the two sheets drawn, for 200 and for 350
abbrev pub first_sheet : Sheet
first_sheet = record { number = 7; rows = 2; total = 200 }

abbrev pub second_sheet : Sheet
second_sheet = record { number = 7; rows = 2; total = 350 }

-- the run of case 7, the newest call first
abbrev pub example_history : List Event
example_history =
    Sign second_sheet 3 (Ok 3) (from 0 150 ∷ from 11 50 ∷ to 12 200 ∷ [])
    ∷ Draw (Ok second_sheet)
    ∷ Divide proportion (Ok tt)
    ∷ Press (codes "d") (Ok tt)
    ∷ Fund 350 (Ok tt)
    ∷ Sign first_sheet 3 (Ok 3) (from 0 200 ∷ to 11 100 ∷ to 12 100 ∷ [])
    ∷ Admit 13 50 1 (Err SheetOut)
    ∷ Draw (Ok first_sheet)
    ∷ Divide equal_awards (Ok tt)
    ∷ Press (codes "ts") (Ok tt)
    ∷ Fund 200 (Ok tt)
    ∷ Admit 12 300 2 (Ok tt)
    ∷ Admit 11 100 1 (Ok tt)
    ∷ []

-- the case after it: what was awarded last is paid, under the form that the letters t, s and d came to
abbrev pub example_view : View
example_view = record {
  number = 7;
  fund = 350;
  form = record { dual = true; order = Some JuniorFirst; truncation = Absent; rights = Inner };
  rows =
      record { number = 11; amount = 100; class = 1; paid = 50; award = 50 }
      ∷ record { number = 12; amount = 300; class = 2; paid = 300; award = 300 }
      ∷ [];
  marked = false;
  out = false;
}

-- a case has this past, it signed twice, and its two claimants have money in the end, which the estate gave
pub record ExampleRun : Type 0 where
  pub past : Past example_history example_view
  pub signs : signs_accepted example_history ≡ 2
  pub first_sum : posted 11 example_history ≡ pos 50
  pub second_sum : posted 12 example_history ≡ pos 300
  pub estate_sum : posted estate_number example_history ≡ neg_ℤ (pos 350)
  pub first_some : posted 11 example_history ≡ pos 0 → ⊥
  pub second_some : posted 12 example_history ≡ pos 0 → ⊥
