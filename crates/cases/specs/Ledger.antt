-- The plain ledger: what a case's calls come to where every letter pressed is kept and applied one by one, and the law
-- that the postings add up to it. No case and no form occurs here. Assumes nothing.
use Rattle.std.specs.Prelude.{◌≡◌, ℕ, Bool, cond, List, [], ◌∷◌, ◌++◌, map, ℤ, pos, ◌+ℤ◌, neg_ℤ, Ok, Err, Result, ◌==◌, ◌≢◌}
use Rattle.division.specs.Problem.{Meaning}
use Rattle.normal_form.specs.declared.letter.Operator.{Operator}
use Rattle.normal_form.specs.Letters.{applied}
use Rattle.normal_form.specs.Piles.{operators_in}
use Rattle.cases.specs.declared.row.Posting.{Posting}
use Rattle.cases.specs.declared.sheet.Sheet.{Sheet}
use Rattle.cases.specs.declared.refusal.CaseRefusal.{CaseRefusal}
use Rattle.cases.specs.declared.refusal.SheetRefusal.{SheetRefusal}
use Rattle.cases.specs.Rows.{estate_number, balance}

-- an event: a call with its arguments and what it answered; a divide with the meaning of the rule that it was given, a
-- sign with the room in the list that it was handed and the postings at the front of that list afterwards
pub data Event : Type 0 where
  Admit : (number amount class : ℕ) → Result (Unit {0}) CaseRefusal → Event
  Amend : (number amount : ℕ) → Result (Unit {0}) CaseRefusal → Event
  Fund : (amount : ℕ) → Result (Unit {0}) CaseRefusal → Event
  Press : (letters : List ℕ) → Result (Unit {0}) CaseRefusal → Event
  Divide : (rule : Meaning) → Result (Unit {0}) CaseRefusal → Event
  Draw : Result Sheet CaseRefusal → Event
  Tally : Sheet → (control : ℕ) → Result (Sheet × Bool) (Sheet × SheetRefusal) → Event
  Sign : Sheet → (room : ℕ) → Result ℕ (Sheet × SheetRefusal) → List Posting → Event
  Return : Sheet → Result (Unit {0}) (Sheet × SheetRefusal) → Event

-- an entry of the ledger: a claimant number, the amount claimed and its class
pub record Entry : Type 0 where
  pub number : ℕ
  pub amount : ℕ
  pub class : ℕ

-- the ledger: entries, a fund, the string of all letters pressed, and the awards worked and signed, by claimant number
pub record Ledger : Type 0 where
  pub entries : List Entry
  pub fund : ℕ
  pub letters : List Operator
  pub worked : ℕ → ℕ
  pub signed : ℕ → ℕ

-- the ledger before any call
abbrev pub empty_ledger : Ledger
empty_ledger = record { entries = []; fund = 0; letters = []; worked = λ n. 0; signed = λ n. 0 }

-- the award under a claimant number, 0 for a claimant who is not among the entries
abbrev pub award_under : ℕ → List Entry → List ℕ → ℕ
award_under n [] awards = 0
award_under n (entry ∷ entries) [] = 0
award_under n (entry ∷ entries) (a ∷ awards) = cond (entry.number == n) a (award_under n entries awards)

-- the entries with another amount under one number
abbrev pub re_entered : ℕ → ℕ → List Entry → List Entry
re_entered n amount [] = []
re_entered n amount (entry ∷ entries) =
    cond (entry.number == n) (record { number = entry.number; amount = amount; class = entry.class } ∷ entries) (entry ∷ re_entered n amount entries)

-- the awards of a rule under the whole string of letters, each letter in turn, with the fund as estate
abbrev pub ledger_awards : Ledger → Meaning → List ℕ
ledger_awards l f = applied l.letters (map (λ entry. entry.class) l.entries) f (map (λ entry. entry.amount) l.entries) l.fund

-- what an event does to the ledger; draw, tally, return and every refused call do nothing
abbrev pub fed : Event → Ledger → Ledger
fed (Admit number amount class (Ok done)) l =
    record { entries = l.entries ++ record { number = number; amount = amount; class = class } ∷ []; fund = l.fund; letters = l.letters; worked = l.worked; signed = l.signed }
fed (Admit number amount class (Err e)) l = l
fed (Amend number amount (Ok done)) l =
    record { entries = re_entered number amount l.entries; fund = l.fund; letters = l.letters; worked = l.worked; signed = l.signed }
fed (Amend number amount (Err e)) l = l
fed (Fund amount (Ok done)) l = record { entries = l.entries; fund = amount; letters = l.letters; worked = l.worked; signed = l.signed }
fed (Fund amount (Err e)) l = l
fed (Press letters (Ok done)) l =
    record { entries = l.entries; fund = l.fund; letters = l.letters ++ operators_in letters; worked = l.worked; signed = l.signed }
fed (Press letters (Err e)) l = l
fed (Divide rule (Ok done)) l =
    record { entries = l.entries; fund = l.fund; letters = l.letters; worked = λ n. award_under n l.entries (ledger_awards l rule); signed = l.signed }
fed (Divide rule (Err e)) l = l
fed (Draw answered) l = l
fed (Tally sheet control answered) l = l
fed (Sign sheet room (Ok count) postings) l =
    record { entries = l.entries; fund = l.fund; letters = l.letters; worked = l.worked; signed = l.worked }
fed (Sign sheet room (Err e) postings) l = l
fed (Return sheet answered) l = l

-- the ledger of a history, the newest event first
abbrev pub ledger : List Event → Ledger
ledger [] = empty_ledger
ledger (e ∷ history) = fed e (ledger history)

-- what the postings under one number add up to
abbrev pub under : ℕ → List Posting → ℤ
under n [] = pos 0
under n (p ∷ ps) = cond (p.number == n) (p.amount +ℤ under n ps) (under n ps)

-- the postings that an event wrote
abbrev pub written : Event → List Posting
written (Admit number amount class answered) = []
written (Amend number amount answered) = []
written (Fund amount answered) = []
written (Press letters answered) = []
written (Divide rule answered) = []
written (Draw answered) = []
written (Tally sheet control answered) = []
written (Sign sheet room (Ok count) postings) = postings
written (Sign sheet room (Err e) postings) = []
written (Return sheet answered) = []

-- what all accepted signs of a history wrote under one number
abbrev pub posted : ℕ → List Event → ℤ
posted n [] = pos 0
posted n (e ∷ history) = under n (written e) +ℤ posted n history

-- each claimant's sum of postings is his award in the last signed division of the plain ledger, or zero if none was
-- signed; every number but the estate's is a claimant's
abbrev pub Settled : List Event → Type 0
Settled history = (n : ℕ) → (n ≢ estate_number) → posted n history ≡ pos ((ledger history).signed n)

-- what all accepted signs of a history wrote under any number but the estate's
abbrev pub others : List Posting → ℤ
others [] = pos 0
others (p ∷ ps) = cond (p.number == estate_number) (others ps) (p.amount +ℤ others ps)

abbrev pub posted_to_others : List Event → ℤ
posted_to_others [] = pos 0
posted_to_others (e ∷ history) = others (written e) +ℤ posted_to_others history

-- the postings of each event add up to zero
abbrev pub EachBalanced : List Event → Type 0
EachBalanced [] = Unit {0}
EachBalanced (e ∷ history) = (balance (written e) ≡ pos 0) × EachBalanced history

-- the postings of each sign add up to zero, and the estate's sum is the negative of all other numbers' sums
pub record Balanced (history : List Event) : Type 0 where
  pub each : EachBalanced history
  pub estate : posted estate_number history ≡ neg_ℤ (posted_to_others history)
