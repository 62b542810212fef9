-- The refusal of a line that is answered applies, and none with a smaller number does. Assumes nothing.
use Rattle.std.proofs.Common.{◌≡◌, ℕ, ◌≤◌, Bool, false, cond, ltb, ◌⊎◌, List, [], ◌∷◌, length, Some, None, Ok, Err, codes, Option, Result, sym, refl, ap, ◌∙◌, subst, inl, inr, ⊎_elim, arith}
use Rattle.std.specs.Str.{bytes_eq}
use Rattle.std.proofs.lemmas.Bool.{cond_both, ltb-true, ltb-false}
use Rattle.casefile.specs.declared.call.RuleName.TheVariants.{Priority, Equal, Proportion, Talmud}
use Rattle.casefile.specs.declared.refusal.LineRefusal.{LineRefusal}
use Rattle.casefile.specs.declared.refusal.LineRefusal.TheVariants.{TooLong, UnknownForm, BadNumber, UnknownRule}
use Rattle.casefile.specs.Fields.{fields}
use Rattle.casefile.specs.Decimal.{number_in}
use Rattle.casefile.specs.LineRefusals.{and_then, line_number}
use Rattle.casefile.specs.LineKinds.{most_line, Kind, claim_line, amend_line, fund_line, press_line, divide_line, draw_line, sign_line, return_line, compare_line, remark_line, is_remark, kind_by_fields}
use Rattle.casefile.specs.Calls.{most_claimant, most_class, most_amount, needed, limited, rule_named, call_of, reading}
use Rattle.casefile.specs.Refused.{FieldsRefused, Applies, RefusalLaws}

module _ {X : Type 0} where
  -- one row of a table whose other rows refuse only so
  row : (only d : LineRefusal) (test : Bool) (x : X) (others : Result X LineRefusal) → (others ≡ Err d → d ≡ only) → cond test (Ok x) others ≡ Err d → d ≡ only
  row only d test x others rest =
      cond_both test (Ok x) others (λ r. r ≡ Err d → d ≡ only) (λ _ h. cc) (λ _ h. rest h)

  last_row : (only d : LineRefusal) → ◌≡◌ {A = Result X LineRefusal} (Err only) (Err d) → d ≡ only
  last_row only d h = cc

-- a line without a kind is of unknown form
form_refused : (fs : List (List ℕ)) (d : LineRefusal) → kind_by_fields fs ≡ Err d → d ≡ UnknownForm
form_refused [] d h = last_row UnknownForm d h
form_refused (word ∷ []) d h =
    row UnknownForm d (bytes_eq word (codes "draw")) draw_line _
    (row UnknownForm d (bytes_eq word (codes "sign")) sign_line _
    (row UnknownForm d (bytes_eq word (codes "return")) return_line (Err UnknownForm) (last_row UnknownForm d))) h
form_refused (word ∷ first ∷ []) d h =
    row UnknownForm d (bytes_eq word (codes "fund")) (fund_line first) _
    (row UnknownForm d (bytes_eq word (codes "press")) (press_line first) _
    (row UnknownForm d (bytes_eq word (codes "divide")) (divide_line first) (Err UnknownForm) (last_row UnknownForm d))) h
form_refused (word ∷ first ∷ second ∷ []) d h =
    row UnknownForm d (bytes_eq word (codes "amend")) (amend_line first second) _
    (row UnknownForm d (bytes_eq word (codes "compare")) (compare_line first second) (Err UnknownForm) (last_row UnknownForm d)) h
form_refused (word ∷ first ∷ second ∷ third ∷ []) d h =
    row UnknownForm d (bytes_eq word (codes "claim")) (claim_line first second third) (Err UnknownForm) (last_row UnknownForm d) h
form_refused (word ∷ first ∷ second ∷ third ∷ fourth ∷ more) d h = last_row UnknownForm d h

rule_refused : (name : List ℕ) (d : LineRefusal) → rule_named name ≡ Err d → d ≡ UnknownRule
rule_refused name d h =
    row UnknownRule d (bytes_eq name (codes "priority")) Priority _
    (row UnknownRule d (bytes_eq name (codes "equal")) Equal _
    (row UnknownRule d (bytes_eq name (codes "proportion")) Proportion _
    (row UnknownRule d (bytes_eq name (codes "talmud")) Talmud (Err UnknownRule) (last_row UnknownRule d)))) h

needed_refused : (o : Option ℕ) (d : LineRefusal) → needed o ≡ Err d → d ≡ BadNumber
needed_refused None d h = last_row BadNumber d h
needed_refused (Some n) d h = cc

-- two steps that refuse only so refuse only so
then_refused : {X Y : Type 0} (only d : LineRefusal) (r : Result X LineRefusal) (next : X → Result Y LineRefusal) → (r ≡ Err d → d ≡ only) → ((x : X) → next x ≡ Err d → d ≡ only) → and_then r next ≡ Err d → d ≡ only
then_refused only d (Ok x) next first second h = second x h
then_refused only d (Err e) next first second h = first cc

-- fields are refused for a number or a rule
fields_refused : (k : Kind) (d : LineRefusal) → call_of k ≡ Err d → (d ≡ BadNumber) ⊎ (d ≡ UnknownRule)
fields_refused (claim_line number amount class) d h =
    inl (then_refused BadNumber d (limited number most_claimant) _ (needed_refused (number_in number most_claimant) d)
    (λ n. then_refused BadNumber d (limited amount most_amount) _ (needed_refused (number_in amount most_amount) d)
    (λ a. then_refused BadNumber d (limited class most_class) _ (needed_refused (number_in class most_class) d)
    (λ c e. cc))) h)
fields_refused (amend_line number amount) d h =
    inl (then_refused BadNumber d (limited number most_claimant) _ (needed_refused (number_in number most_claimant) d)
    (λ n. then_refused BadNumber d (limited amount most_amount) _ (needed_refused (number_in amount most_amount) d)
    (λ a e. cc)) h)
fields_refused (fund_line amount) d h =
    inl (then_refused BadNumber d (limited amount most_amount) _ (needed_refused (number_in amount most_amount) d)
    (λ a e. cc) h)
fields_refused (press_line letters) d h = cc
fields_refused (divide_line rule) d h =
    inr (then_refused UnknownRule d (rule_named rule) _ (rule_refused rule d) (λ r e. cc) h)
fields_refused draw_line d h = cc
fields_refused sign_line d h = cc
fields_refused return_line d h = cc
fields_refused (compare_line left right) d h = cc
fields_refused remark_line d h = cc

-- what is known of a line that was refused
record Known (line : List ℕ) (e : LineRefusal) : Type 0 where
  applies : Applies line e
  smallest : (other : LineRefusal) → Applies line other → line_number e ≤ line_number other

both_kinds : (line : List ℕ) (k : Kind) (d e : LineRefusal) → kind_by_fields (fields line) ≡ Ok k → call_of k ≡ Err e → FieldsRefused line d → d ≡ e
both_kinds line k d e has refused other =
    let same : other.0 ≡ k = (let left = other.1 in cc) in
    let both = sym other.2 ∙ ap call_of same ∙ refused in
    cc

by_kind : (line : List ℕ) (e : LineRefusal) (r : Result Kind LineRefusal) → length line ≤ most_line → is_remark line ≡ false → kind_by_fields (fields line) ≡ r → and_then r call_of ≡ Err e → Known line e
by_kind line e (Err d) short plain has h =
    let unknown : e ≡ UnknownForm = form_refused (fields line) e cc in
    subst (Known line) (sym unknown)
    record { applies = (plain, (λ k is. cc)); smallest = above }
  where
    above : (other : LineRefusal) → Applies line other → 17 ≤ line_number other
    above TooLong a = absurd (omega arith)
    above UnknownForm a = omega arith
    above BadNumber a = omega arith
    above UnknownRule a = omega arith
by_kind line e (Ok k) short plain has h =
    ⊎_elim
    (λ bad. subst (Known line) (sym bad) record { applies = (plain, (k, has, h ∙ ap Err bad)); smallest = above_number })
    (λ rule. subst (Known line) (sym rule) record { applies = (plain, (k, has, h ∙ ap Err rule)); smallest = above_rule (h ∙ ap Err rule) })
    (fields_refused k e h)
  where
    above_number : (other : LineRefusal) → Applies line other → 18 ≤ line_number other
    above_number TooLong a = absurd (omega arith)
    above_number UnknownForm a = absurd (a.1 k has)
    above_number BadNumber a = omega arith
    above_number UnknownRule a = omega arith

    above_rule : call_of k ≡ Err UnknownRule → (other : LineRefusal) → Applies line other → 19 ≤ line_number other
    above_rule is TooLong a = absurd (omega arith)
    above_rule is UnknownForm a = absurd (a.1 k has)
    above_rule is BadNumber a = let same = ap line_number (both_kinds line k BadNumber UnknownRule has is a.1) in omega arith
    above_rule is UnknownRule a = omega arith

known : (line : List ℕ) (e : LineRefusal) → reading line ≡ Err e → Known line e
known line e =
    cond_both (ltb most_line (length line)) (Err TooLong) (cond (is_remark line) (Ok remark_line) (kind_by_fields (fields line))) (λ r. and_then r call_of ≡ Err e → Known line e)
    (λ long h. let same : TooLong ≡ e = cc in subst (Known line) same record { applies = ltb-true most_line (length line) long; smallest = λ other _. least other })
    (λ short. cond_both (is_remark line) (Ok remark_line) (kind_by_fields (fields line)) (λ r. and_then r call_of ≡ Err e → Known line e)
    (λ _ h. cc)
    (λ plain h. by_kind line e (kind_by_fields (fields line)) (ltb-false most_line (length line) short) plain refl h))
  where
    least : (other : LineRefusal) → 16 ≤ line_number other
    least TooLong = omega arith
    least UnknownForm = omega arith
    least BadNumber = omega arith
    least UnknownRule = omega arith

pub refusal_laws : RefusalLaws
refusal_laws = record { applies = λ line e h. (known line e h).applies; smallest = λ line e other h a. (known line e h).smallest other a }
