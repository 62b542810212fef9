-- The lines of a file, one after the other, and what they keep of it. Assumes nothing.
use Rattle.std.proofs.Common.{◌≡◌, ℕ, ◌+◌, ◌<◌, ◌≤◌, min, true, false, cond, eqb, List, [], ◌∷◌, ◌++◌, length, take, drop, sym, refl, ap, ◌∙◌, subst, ⊎_elim, arith, length-drop, length-take}
use Rattle.std.proofs.lemmas.Bool.{cond_both, eqb-true, eqb-false, cases_lt}
use Rattle.std.proofs.lemmas.List.{drop-drop, drop_all}
use Rattle.casefile.specs.Marks.{before, behind, in_front, joined_by, Without}
use Rattle.casefile.specs.Lines.{line_end, lines, last_end, NextLine, LineLaws}
use Rattle.casefile.proofs.Parting.{before_within, before_front, behind_rest, behind_none, joined_in_front, joined_empty, without_in_front}

-- the first line is what stands before the first line end, and the others are those behind it
lines_step : (bs : List ℕ) → 0 < length bs → lines bs ≡ before line_end bs ∷ lines (behind line_end bs)
lines_step [] h = absurd (omega arith)
lines_step (b ∷ []) h =
    elim (eqb b line_end) as (λ v. cond v ([] ∷ []) ((b ∷ []) ∷ []) ≡ cond v [] (b ∷ []) ∷ lines (cond v [] []))
    [ true ↦ refl | false ↦ refl ]
lines_step (b ∷ c ∷ bs) h =
    elim (eqb b line_end) as (λ v. cond v ([] ∷ lines (c ∷ bs)) (in_front b (lines (c ∷ bs))) ≡ cond v [] (b ∷ before line_end (c ∷ bs)) ∷ lines (cond v (c ∷ bs) (behind line_end (c ∷ bs))))
    [ true ↦ refl | false ↦ ap (in_front b) (lines_step (c ∷ bs) (omega arith)) ]

-- the place behind a line and its line end is where the other bytes begin
after_line : (file : List ℕ) (place count after : ℕ) → place < length file → count ≡ length (before line_end (drop place file)) → after ≡ min (place + count + 1) (length file) → drop after file ≡ behind line_end (drop place file)
after_line file place count after begins counted after_is =
    let rest = drop place file in
    ⊎_elim
    (λ more. let at : after ≡ place + (count + 1) = omega arith in
    ap (λ n. drop n file) at ∙ sym (drop-drop (count + 1) place file) ∙ ap (λ n. drop (n + 1) rest) counted ∙ behind_rest line_end rest)
    (λ last. drop_all after file (omega arith) ∙ sym (behind_none line_end rest (omega (arith, length-drop place file))))
    (cases_lt (place + count) (length file))

-- the line that was found, and the place behind it
pub line_found : (file : List ℕ) (place count after : ℕ) → place < length file → count ≡ length (before line_end (drop place file)) → after ≡ min (place + count + 1) (length file) → NextLine file place (take count (drop place file)) after
line_found file place count after begins counted after_is =
    let rest = drop place file in
    let room : count + place ≤ length file = omega (arith, before_within line_end rest, length-drop place file) in
    let long : length (take count rest) ≡ count = omega (arith, length-take count rest, length-drop place file) in
    let line : take count rest ≡ before line_end rest = ap (λ n. take n rest) counted ∙ before_front line_end rest in
    record {
      begins = begins;
      ends = omega arith;
      bytes = ap (λ n. take n rest) (sym long);
      after_is = omega arith;
      others = lines_step rest (omega (arith, length-drop place file))
          ∙ ap (λ xs. xs ∷ lines (behind line_end rest)) (sym line)
          ∙ ap (λ xs. take count rest ∷ lines xs) (sym (after_line file place count after begins counted after_is));
    }

some_line : (b : ℕ) (bs : List ℕ) → 0 < length (lines (b ∷ bs))
some_line b bs = subst (λ ls. 0 < length ls) (sym (lines_step (b ∷ bs) (omega arith))) (omega arith)

lines_whole : (file : List ℕ) → joined_by line_end (lines file) ++ last_end file ≡ file
lines_whole [] = refl
lines_whole (b ∷ []) =
    elim (eqb b line_end) as (λ v. joined_by line_end (cond v ([] ∷ []) ((b ∷ []) ∷ [])) ++ cond v (b ∷ []) [] ≡ b ∷ [])
    [ true ↦ refl | false ↦ refl ]
lines_whole (b ∷ c ∷ bs) =
    let others = lines (c ∷ bs) in
    let end = last_end (c ∷ bs) in
    let again : joined_by line_end others ++ end ≡ c ∷ bs = lines_whole (c ∷ bs) in
    cond_both (eqb b line_end) ([] ∷ others) (in_front b others) (λ ls. joined_by line_end ls ++ end ≡ b ∷ c ∷ bs)
    (λ e. ap (λ xs. xs ++ end) (joined_empty line_end others (some_line c bs)) ∙ ap (λ xs. line_end ∷ xs) again ∙ ap (λ x. x ∷ c ∷ bs) (sym (eqb-true b line_end e)))
    (λ _. ap (λ xs. xs ++ end) (joined_in_front line_end b others) ∙ ap (λ xs. b ∷ xs) again)

lines_without : (file : List ℕ) → Without line_end (lines file)
lines_without [] = tt
lines_without (b ∷ bs) =
    cond_both (eqb b line_end) ([] ∷ lines bs) (in_front b (lines bs)) (Without line_end)
    (λ _. (tt, lines_without bs))
    (λ e. without_in_front line_end b (lines bs) (eqb-false b line_end e) (lines_without bs))

pub line_laws : LineLaws
line_laws = record { whole = lines_whole; without_ends = lines_without }
