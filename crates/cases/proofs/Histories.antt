-- The law over every history of a case: its postings are settled and balanced, and every call has a step. Assumes nothing.
use Rattle.std.proofs.Common.{◌≡◌, ℕ, List, [], ◌∷◌, length, pos, ◌+ℤ◌, None, Ok, Err, sym, refl, ap, ◌∙◌, subst, arith}
use Rattle.std.proofs.lemmas.Int.{ints}
use Rattle.cases.specs.declared.sheet.Sheet.{Sheet}
use Rattle.cases.specs.Rows.{estate_number, balance, lines}
use Rattle.cases.specs.Cases.{View, new_case, sign_due}
use Rattle.cases.specs.Ledger.{Event, Admit, Amend, Fund, Press, Divide, Draw, Tally, Sign, Return, Ledger, fed, ledger, under, written, Settled, Balanced}
use Rattle.cases.specs.History.{Step, Past, made, moved, Continues, AlwaysSettled, AlwaysBalanced, StepsFromAll}
use Rattle.cases.proofs.Dues.{by_sheet_due}
use Rattle.cases.proofs.Tying.{Tied, sheet_marked, always_tied, Distinct}
use Rattle.cases.proofs.Postings.{under_lines, estate_and_others, lines_balance}

-- what an event posts under a claimant's number is what it adds to the awards signed
abbrev Posts : Event → Ledger → ℕ → Type 0
Posts e l n = under n (written e) +ℤ pos (l.signed n) ≡ pos ((fed e l).signed n)

-- nothing posted and nothing signed
posts_none : (k : ℕ) → pos 0 +ℤ pos k ≡ pos k
posts_none k = omega (arith, ints)

posts_sign : (sheet : Sheet) (room : ℕ) (l : Ledger) (v : View) → Tied l v → sign_due v sheet room ≡ None → (n : ℕ) → (n ≡ estate_number → ⊥) → under n (lines v.rows) +ℤ pos (l.signed n) ≡ pos (l.worked n)
posts_sign sheet room l v t none n claimant =
    let lines_are = under_lines n v.rows claimant (subst Distinct t.entries t.kept.distinct) in
    let worked_are = t.worked_is (sheet_marked l v t sheet room none) n in
    omega (arith, ints, lines_are, worked_are, t.paid_is n)

posts : (e : Event) (l : Ledger) (v w : View) → Tied l v → Step e v w → (n : ℕ) → (n ≡ estate_number → ⊥) → Posts e l n
posts (Admit number amount class (Ok done)) l v w t step n claimant = posts_none (l.signed n)
posts (Admit number amount class (Err e)) l v w t step n claimant = posts_none (l.signed n)
posts (Amend number amount (Ok done)) l v w t step n claimant = posts_none (l.signed n)
posts (Amend number amount (Err e)) l v w t step n claimant = posts_none (l.signed n)
posts (Fund amount (Ok done)) l v w t step n claimant = posts_none (l.signed n)
posts (Fund amount (Err e)) l v w t step n claimant = posts_none (l.signed n)
posts (Press letters (Ok done)) l v w t step n claimant = posts_none (l.signed n)
posts (Press letters (Err e)) l v w t step n claimant = posts_none (l.signed n)
posts (Divide rule (Ok done)) l v w t step n claimant = posts_none (l.signed n)
posts (Divide rule (Err e)) l v w t step n claimant = posts_none (l.signed n)
posts (Draw answered) l v w t step n claimant = posts_none (l.signed n)
posts (Tally sheet control answered) l v w t step n claimant = posts_none (l.signed n)
posts (Sign sheet room answered postings) l v w t step n claimant =
    by_sheet_due (λ r ps. Posts (Sign sheet room r ps) l n) (sign_due v sheet room) (length (lines v.rows)) sheet (lines v.rows) [] answered postings step.0 step.2 (λ none. posts_sign sheet room l v t none n claimant) (λ e. posts_none (l.signed n))
posts (Return sheet answered) l v w t step n claimant = posts_none (l.signed n)

settled_past : {history : List Event} {v : View} → Past history v → Settled history
settled_past (made number) n claimant = refl
settled_past (moved {history} {e} {v} {w} past step) n claimant =
    ap (λ z. under n (written e) +ℤ z) (settled_past past n claimant) ∙ posts e (ledger history) v w (always_tied past) step n claimant

pub always_settled : AlwaysSettled
always_settled history v past = settled_past past

-- each event's postings add up to zero
balanced_event : (e : Event) (v w : View) → Step e v w → balance (written e) ≡ pos 0
balanced_event (Admit number amount class answered) v w step = refl
balanced_event (Amend number amount answered) v w step = refl
balanced_event (Fund amount answered) v w step = refl
balanced_event (Press letters answered) v w step = refl
balanced_event (Divide rule answered) v w step = refl
balanced_event (Draw answered) v w step = refl
balanced_event (Tally sheet control answered) v w step = refl
balanced_event (Sign sheet room answered postings) v w step =
    by_sheet_due (λ r ps. balance (written (Sign sheet room r ps)) ≡ pos 0) (sign_due v sheet room) (length (lines v.rows)) sheet (lines v.rows) [] answered postings step.0 step.2 (λ none. lines_balance v.rows) (λ e. refl)
balanced_event (Return sheet answered) v w step = refl

balanced_past : {history : List Event} {v : View} → Past history v → Balanced history
balanced_past (made number) = record { each = tt; estate = refl }
balanced_past (moved {history} {e} {v} {w} past step) =
    let before = balanced_past past in
    let zero_sum = balanced_event e v w step in
    let parts = estate_and_others (written e) in
    record {
      each = (zero_sum, before.each);
      estate = omega (arith, ints, zero_sum, parts, before.estate);
    }

pub always_balanced : AlwaysBalanced
always_balanced history v past = balanced_past past

-- a call that keeps its promise continues every past of its case
pub continues : (e : Event) (v w : View) → Step e v w → Continues e v w
continues e v w step history past =
    let longer = moved past step in
    (longer, always_settled (e ∷ history) w longer)

-- a case that is as it is made has no past yet
pub no_past : (number : ℕ) (v : View) → v ≡ new_case number → Past [] v
no_past number v is = subst (Past []) (sym is) (made number)

pub steps_from_all : StepsFromAll
steps_from_all = record {
  admit = λ v number amount class. (_, (_, (refl, refl)));
  amend = λ v number amount. (_, (_, (refl, refl)));
  fund = λ v amount. (_, (_, (refl, refl)));
  press = λ v letters. (_, (_, (refl, refl)));
  divide = λ v rule law. (_, (_, (law, refl, refl)));
  draw = λ v. (_, (_, (refl, refl)));
  tally = λ v sheet control. (_, (_, (refl, refl)));
  sign = λ v sheet room. (_, (_, (_, (refl, refl, refl))));
  give_back = λ v sheet. (_, (_, (refl, refl)));
}
