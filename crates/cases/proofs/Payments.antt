-- One row more of writing awards and of settling. Assumes nothing.
use Rattle.std.proofs.Common.{◌≡◌, ℕ, zero, suc, ◌+◌, ◌<◌, ◌≤◌, List, [], ◌∷◌, ◌++◌, map, length, get_or, take, drop, set, ◌+ℤ◌, refl, ap, add-one, arith}
use Rattle.std.proofs.lemmas.Int.{ints}
use Rattle.cases.specs.declared.row.Row.{Row}
use Rattle.cases.specs.declared.row.Posting.{Posting}
use Rattle.cases.specs.Rows.{set_award, with_awards, settled, balance}

-- no award is written yet
pub awards_none : (rows : List Row) → with_awards [] rows ≡ rows
awards_none [] = refl
awards_none (row ∷ rows) = refl

awards_suc : (new : List ℕ) (rows : List Row) (i : ℕ) (d : Row) → length new ≡ length rows → i < length rows → set (with_awards (take i new) rows) i (set_award (get_or new i 0) (get_or (with_awards (take i new) rows) i d)) ≡ with_awards (take (suc i) new) rows
awards_suc new [] i d e h = absurd (omega arith)
awards_suc [] (row ∷ rows) i d e h = absurd (omega arith)
awards_suc (a ∷ new) (row ∷ []) zero d e h = refl
awards_suc (a ∷ new) (row ∷ r ∷ rows) zero d e h = refl
awards_suc (a ∷ new) (row ∷ rows) (suc i) d e h = ap (λ rs. set_award a row ∷ rs) (awards_suc new rows i d (omega arith) (omega arith))

-- one award more is written
pub awards_more : (new : List ℕ) (rows : List Row) (i : ℕ) (d : Row) → length new ≡ length rows → i < length rows → set (with_awards (take i new) rows) i (set_award (get_or new i 0) (get_or (with_awards (take i new) rows) i d)) ≡ with_awards (take (i + 1) new) rows
awards_more new rows i d e h = rw (add-one i) (awards_suc new rows i d e h)

module _ {X Y : Type 0} (f : X → Y) where
  mapped_suc : (xs : List X) (out : List Y) (i : ℕ) (d : X) → i < length xs → length xs ≤ length out → set (map f (take i xs) ++ drop i out) i (f (get_or xs i d)) ≡ map f (take (suc i) xs) ++ drop (suc i) out
  mapped_suc [] out i d h room = absurd (omega arith)
  mapped_suc (x ∷ xs) [] i d h room = absurd (omega arith)
  mapped_suc (x ∷ xs) (o ∷ out) zero d h room = refl
  mapped_suc (x ∷ xs) (o ∷ out) (suc i) d h room = ap (λ l. f x ∷ l) (mapped_suc xs out i d (omega arith) (omega arith))

  -- a list whose front is made from another: one place more
  pub mapped_more : (xs : List X) (out : List Y) (i : ℕ) (d : X) → i < length xs → length xs ≤ length out → set (map f (take i xs) ++ drop i out) i (f (get_or xs i d)) ≡ map f (take (i + 1) xs) ++ drop (i + 1) out
  mapped_more xs out i d h room = rw (add-one i) (mapped_suc xs out i d h room)

-- the row that comes next is still as it was
pub next_as_was : (rows : List Row) (i : ℕ) (d : Row) → i < length rows → get_or (map settled (take i rows) ++ drop i rows) i d ≡ get_or rows i d
next_as_was [] i d h = absurd (omega arith)
next_as_was (row ∷ rows) zero d h = refl
next_as_was (row ∷ rows) (suc i) d h = next_as_was rows i d (omega arith)

pub balance_push : (ps : List Posting) (p : Posting) → balance (ps ++ p ∷ []) ≡ balance ps +ℤ p.amount
balance_push [] p = omega (arith, ints)
balance_push (q ∷ ps) p = omega (arith, ints, balance_push ps p)
