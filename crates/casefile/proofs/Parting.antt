-- What holds of bytes parted by a mark. Assumes nothing.
use Rattle.std.proofs.Common.{◌≡◌, ℕ, suc, ◌+◌, ◌<◌, ◌≤◌, Bool, true, false, cond, eqb, ltb, List, [], ◌∷◌, length, take, drop, Some, None, unwrap_or, sym, refl, ap, add-one, arith, rules}
use Rattle.std.specs.List.{position, position_or_len}
use Rattle.std.proofs.lemmas.Bool.{cond_both, ltb-false}
use Rattle.std.proofs.lemmas.List.Recursion.{is_position_or_len}
use Rattle.casefile.specs.Marks.{before, behind, in_front, joined_by, Without}

-- no more bytes stand before the mark than there are
pub before_within : (mark : ℕ) (bs : List ℕ) → length (before mark bs) ≤ length bs
before_within mark [] = omega arith
before_within mark (b ∷ bs) =
    cond_both (eqb b mark) [] (b ∷ before mark bs) (λ xs. length xs ≤ suc (length bs))
    (λ _. omega arith)
    (λ _. omega (arith, before_within mark bs))

-- the bytes before the mark are the front
pub before_front : (mark : ℕ) (bs : List ℕ) → take (length (before mark bs)) bs ≡ before mark bs
before_front mark [] = refl
before_front mark (b ∷ bs) =
    cond_both (eqb b mark) [] (b ∷ before mark bs) (λ xs. take (length xs) (b ∷ bs) ≡ xs)
    (λ _. refl)
    (λ _. ap (λ xs. b ∷ xs) (before_front mark bs))

behind_from : (mark : ℕ) (bs : List ℕ) → drop (suc (length (before mark bs))) bs ≡ behind mark bs
behind_from mark [] = refl
behind_from mark (b ∷ bs) =
    elim (eqb b mark) as (λ v. drop (length (cond v [] (b ∷ before mark bs))) bs ≡ cond v bs (behind mark bs))
    [ true ↦ refl | false ↦ behind_from mark bs ]

-- one byte further, the bytes behind the mark begin
pub behind_rest : (mark : ℕ) (bs : List ℕ) → drop (length (before mark bs) + 1) bs ≡ behind mark bs
behind_rest mark bs = rw (add-one (length (before mark bs))) (behind_from mark bs)

-- where there is no mark, nothing is behind it
pub behind_none : (mark : ℕ) (bs : List ℕ) → length bs ≤ length (before mark bs) → behind mark bs ≡ []
behind_none mark [] h = refl
behind_none mark (b ∷ bs) h =
    elim (eqb b mark) as (λ v. suc (length bs) ≤ length (cond v [] (b ∷ before mark bs)) → cond v bs (behind mark bs) ≡ [])
    [ true ↦ (λ k. absurd (omega arith)) | false ↦ (λ k. behind_none mark bs (omega arith)) ] h

-- the place of the first mark, or the length where there is none
pub before_position : (mark : ℕ) (bs : List ℕ) → unwrap_or (position (λ b. eqb b mark) bs) (length bs) ≡ length (before mark bs)
before_position mark bs =
    let test : ℕ → Bool = λ b. eqb b mark in
    let at = position_or_len test bs in
    let same : length (before mark bs) ≡ at = is_position_or_len (λ xs. length (before mark xs)) test refl (λ x xs. search rules) bs in
    cond_both (ltb at (length bs)) (Some at) None (λ o. unwrap_or o (length bs) ≡ length (before mark bs))
    (λ _. sym same)
    (λ t. omega (arith, before_within mark bs, ltb-false at (length bs) t))

-- a byte in front of the first text stands in front of the joined texts
pub joined_in_front : (mark b : ℕ) (texts : List (List ℕ)) → joined_by mark (in_front b texts) ≡ b ∷ joined_by mark texts
joined_in_front mark b [] = refl
joined_in_front mark b (text ∷ []) = refl
joined_in_front mark b (text ∷ next ∷ texts) = refl

-- an empty text in front of others adds the mark
pub joined_empty : (mark : ℕ) (texts : List (List ℕ)) → 0 < length texts → joined_by mark ([] ∷ texts) ≡ mark ∷ joined_by mark texts
joined_empty mark [] h = absurd (omega arith)
joined_empty mark (text ∷ texts) h = refl

-- another byte than the mark brings no mark into the texts
pub without_in_front : (mark b : ℕ) (texts : List (List ℕ)) → (b ≡ mark → ⊥) → Without mark texts → Without mark (in_front b texts)
without_in_front mark b [] other all = ((other, tt), tt)
without_in_front mark b (text ∷ texts) other all = ((other, all.0), all.1)
