-- The fields of a line, one after the other, and what they keep of it. Assumes nothing.
use Rattle.std.proofs.Common.{◌≡◌, ℕ, suc, ◌+◌, ◌<◌, ◌≤◌, true, false, cond, eqb, List, [], ◌∷◌, ◌++◌, length, take, drop, Some, None, Option, sym, refl, ap, ◌∙◌, ⊎_elim, arith}
use Rattle.std.specs.Borrow.{Bor}
use Rattle.std.specs.Slice.{IsGetRangeResult}
use Rattle.std.specs.List.{AllByRecursion}
use Rattle.std.proofs.lemmas.Bool.{cond_both, cond-false, eqb-true, eqb-false, ne_eqb}
use Rattle.std.proofs.lemmas.List.{take_rest}
use Rattle.casefile.specs.Marks.{before, behind, in_front, joined_by, Without}
use Rattle.casefile.specs.Fields.{comma, fields, fields_left, FieldLaws}
use Rattle.casefile.proofs.Parting.{before_front, behind_rest, joined_in_front, joined_empty, without_in_front}

-- where there is a comma, the first field stands before it, and the others behind it
fields_more : (bs : List ℕ) → length (before comma bs) < length bs → fields bs ≡ before comma bs ∷ fields (behind comma bs)
fields_more [] h = absurd (omega arith)
fields_more (b ∷ bs) h =
    elim (eqb b comma) as (λ v. length (cond v [] (b ∷ before comma bs)) < suc (length bs) → cond v ([] ∷ fields bs) (in_front b (fields bs)) ≡ cond v [] (b ∷ before comma bs) ∷ fields (cond v bs (behind comma bs)))
    [ true ↦ (λ _. refl) | false ↦ (λ k. ap (in_front b) (fields_more bs (omega arith))) ] h

-- where there is none, the text is its only field
fields_last : (bs : List ℕ) → length bs ≤ length (before comma bs) → fields bs ≡ before comma bs ∷ []
fields_last [] h = refl
fields_last (b ∷ bs) h =
    elim (eqb b comma) as (λ v. suc (length bs) ≤ length (cond v [] (b ∷ before comma bs)) → cond v ([] ∷ fields bs) (in_front b (fields bs)) ≡ cond v [] (b ∷ before comma bs) ∷ [])
    [ true ↦ (λ k. absurd (omega arith)) | false ↦ (λ k. ap (in_front b) (fields_last bs (omega arith))) ] h

-- the first field is cut off at the first comma, and the others are those of the text behind it, if there is one
pub cut_off : (text : List ℕ) (count : ℕ) (rest : Option (Bor (List ℕ))) → count ≡ length (before comma text) → IsGetRangeResult text (count + 1) (length text) rest → fields text ≡ take count text ∷ fields_left rest
cut_off text count None counted got =
    let last : length text ≤ count = ⊎_elim (λ none. omega arith) (λ none. omega arith) got.0 in
    fields_last text (omega arith) ∙ ap (λ xs. xs ∷ []) (sym (ap (λ n. take n text) counted ∙ before_front comma text))
cut_off text count (Some rest) counted got =
    let part = got.0 in
    let first : take count text ≡ before comma text = ap (λ n. take n text) counted ∙ before_front comma text in
    let others : rest.now ≡ behind comma text = part.2 ∙ take_rest text (count + 1) ∙ ap (λ n. drop (n + 1) text) counted ∙ behind_rest comma text in
    fields_more text (omega arith) ∙ ap (λ xs. xs ∷ fields (behind comma text)) (sym first) ∙ ap (λ xs. take count text ∷ fields xs) (sym others)

some_in_front : (b : ℕ) (texts : List (List ℕ)) → 0 < length (in_front b texts)
some_in_front b [] = omega arith
some_in_front b (text ∷ texts) = omega arith

pub some_field : (line : List ℕ) → 0 < length (fields line)
some_field [] = omega arith
some_field (b ∷ bs) =
    cond_both (eqb b comma) ([] ∷ fields bs) (in_front b (fields bs)) (λ fs. 0 < length fs)
    (λ _. omega arith)
    (λ _. some_in_front b (fields bs))

fields_whole : (line : List ℕ) → joined_by comma (fields line) ≡ line
fields_whole [] = refl
fields_whole (b ∷ bs) =
    cond_both (eqb b comma) ([] ∷ fields bs) (in_front b (fields bs)) (λ fs. joined_by comma fs ≡ b ∷ bs)
    (λ e. joined_empty comma (fields bs) (some_field bs) ∙ ap (λ xs. comma ∷ xs) (fields_whole bs) ∙ ap (λ x. x ∷ bs) (sym (eqb-true b comma e)))
    (λ _. joined_in_front comma b (fields bs) ∙ ap (λ xs. b ∷ xs) (fields_whole bs))

fields_without : (line : List ℕ) → Without comma (fields line)
fields_without [] = (tt, tt)
fields_without (b ∷ bs) =
    cond_both (eqb b comma) ([] ∷ fields bs) (in_front b (fields bs)) (Without comma)
    (λ _. (tt, fields_without bs))
    (λ e. without_in_front comma b (fields bs) (eqb-false b comma e) (fields_without bs))

pub field_laws : FieldLaws
field_laws = record { whole = fields_whole; without_commas = fields_without }

field_front : (text rest : List ℕ) → AllByRecursion (λ b. b ≡ comma → ⊥) text → fields (text ++ comma ∷ rest) ≡ text ∷ fields rest
field_front [] rest none = refl
field_front (b ∷ bs) rest none =
    cond-false (eqb b comma) ([] ∷ fields (bs ++ comma ∷ rest)) (in_front b (fields (bs ++ comma ∷ rest))) (ne_eqb b comma none.0)
    ∙ ap (in_front b) (field_front bs rest none.1)

field_alone : (text : List ℕ) → AllByRecursion (λ b. b ≡ comma → ⊥) text → fields text ≡ text ∷ []
field_alone [] none = refl
field_alone (b ∷ bs) none =
    cond-false (eqb b comma) ([] ∷ fields bs) (in_front b (fields bs)) (ne_eqb b comma none.0)
    ∙ ap (in_front b) (field_alone bs none.1)

-- fields that were joined are parted again
pub fields_joined : (texts : List (List ℕ)) → 0 < length texts → Without comma texts → fields (joined_by comma texts) ≡ texts
fields_joined [] some none = absurd (omega arith)
fields_joined (text ∷ []) some none = field_alone text none.0
fields_joined (text ∷ next ∷ texts) some none =
    field_front text (joined_by comma (next ∷ texts)) none.0
    ∙ ap (λ fs. text ∷ fs) (fields_joined (next ∷ texts) (omega arith) none.1)
