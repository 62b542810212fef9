-- A line asks for something exactly if it is the line that is written for it. Assumes nothing.
use Rattle.std.proofs.Common.{◌≡◌, ℕ, ◌^◌, ◌<◌, ◌≤◌, Bool, true, false, cond, not, ◌&&◌, eqb, ltb, leb, List, [], ◌∷◌, length, Some, None, Ok, Err, codes, Option, Result, sym, refl, ap, ◌∙◌, subst, arith}
use Rattle.std.specs.Str.{bytes_eq}
use Rattle.std.proofs.lemmas.Bool.{cond_both, cond-true, cond-false, and_parts, le-ltb, ltb-false, eqb-false, not-true, leb-true}
use Rattle.std.proofs.lemmas.Slice.Eq.{bytes_eq-Decides}
use Rattle.casefile.specs.declared.call.RuleName.{RuleName}
use Rattle.casefile.specs.declared.call.RuleName.TheVariants.{Priority, Equal, Proportion, Talmud}
use Rattle.casefile.specs.declared.refusal.LineRefusal.{LineRefusal}
use Rattle.casefile.specs.declared.refusal.LineRefusal.TheVariants.{TooLong, UnknownForm, UnknownRule}
use Rattle.casefile.specs.Marks.{joined_by, Without}
use Rattle.casefile.specs.Fields.{comma, fields}
use Rattle.casefile.specs.Decimal.{digits, is_decimal_digit, all_digits, number_in}
use Rattle.casefile.specs.LineRefusals.{and_then}
use Rattle.casefile.specs.LineKinds.{most_line, Kind, claim_line, amend_line, fund_line, press_line, divide_line, draw_line, sign_line, return_line, compare_line, remark_line, is_remark, kind_by_fields, line_kind}
use Rattle.casefile.specs.Calls.{Asked, asks_claim, asks_amend, asks_fund, asks_press, asks_divide, asks_draw, asks_sign, asks_return, asks_compare, asks_nothing, most_claimant, most_class, most_amount, needed, limited, rule_named, call_of, reading}
use Rattle.casefile.specs.Written.{name_of, fields_for, line_for, NoComma, Askable, ReadingLaws}
use Rattle.casefile.proofs.Fielding.{some_field, field_laws, fields_joined}
use Rattle.casefile.proofs.Numbering.{number_laws, digits_all}

-- two steps that were accepted, taken apart
both_accepted : {X Y : Type 0} (r : Result X LineRefusal) (next : X → Result Y LineRefusal) (y : Y) → and_then r next ≡ Ok y → (x : X) × (r ≡ Ok x) × (next x ≡ Ok y)
both_accepted (Ok x) next y e = (x, refl, e)
both_accepted (Err d) next y e = cc

-- the fields of a line of a known kind
abbrev kind_fields : Kind → List (List ℕ)
kind_fields (claim_line number amount class) = codes "claim" ∷ number ∷ amount ∷ class ∷ []
kind_fields (amend_line number amount) = codes "amend" ∷ number ∷ amount ∷ []
kind_fields (fund_line amount) = codes "fund" ∷ amount ∷ []
kind_fields (press_line letters) = codes "press" ∷ letters ∷ []
kind_fields (divide_line rule) = codes "divide" ∷ rule ∷ []
kind_fields draw_line = codes "draw" ∷ []
kind_fields sign_line = codes "sign" ∷ []
kind_fields return_line = codes "return" ∷ []
kind_fields (compare_line left right) = codes "compare" ∷ left ∷ right ∷ []
kind_fields remark_line = []

-- one row of a table of words
row : (word name : List ℕ) (made k : Kind) (others : Result Kind LineRefusal) (fs : List (List ℕ)) → (word ≡ name → fs ≡ kind_fields made) → (others ≡ Ok k → fs ≡ kind_fields k) → cond (bytes_eq word name) (Ok made) others ≡ Ok k → fs ≡ kind_fields k
row word name made k others fs known rest =
    cond_both (bytes_eq word name) (Ok made) others (λ r. r ≡ Ok k → fs ≡ kind_fields k)
    (λ t e. known ((bytes_eq-Decides word name).0 t) ∙ ap kind_fields (cc))
    (λ _ e. rest e)

-- a line of a known kind has the fields of its kind
kind_has : (fs : List (List ℕ)) (k : Kind) → kind_by_fields fs ≡ Ok k → fs ≡ kind_fields k
kind_has [] k e = cc
kind_has (word ∷ []) k e =
    row word (codes "draw") draw_line k _ (word ∷ []) (ap (λ w. w ∷ []))
    (row word (codes "sign") sign_line k _ (word ∷ []) (ap (λ w. w ∷ []))
    (row word (codes "return") return_line k (Err UnknownForm) (word ∷ []) (ap (λ w. w ∷ [])) (λ d. cc))) e
kind_has (word ∷ first ∷ []) k e =
    row word (codes "fund") (fund_line first) k _ (word ∷ first ∷ []) (ap (λ w. w ∷ first ∷ []))
    (row word (codes "press") (press_line first) k _ (word ∷ first ∷ []) (ap (λ w. w ∷ first ∷ []))
    (row word (codes "divide") (divide_line first) k (Err UnknownForm) (word ∷ first ∷ []) (ap (λ w. w ∷ first ∷ [])) (λ d. cc))) e
kind_has (word ∷ first ∷ second ∷ []) k e =
    row word (codes "amend") (amend_line first second) k _ (word ∷ first ∷ second ∷ []) (ap (λ w. w ∷ first ∷ second ∷ []))
    (row word (codes "compare") (compare_line first second) k (Err UnknownForm) (word ∷ first ∷ second ∷ []) (ap (λ w. w ∷ first ∷ second ∷ [])) (λ d. cc)) e
kind_has (word ∷ first ∷ second ∷ third ∷ []) k e =
    row word (codes "claim") (claim_line first second third) k (Err UnknownForm) (word ∷ first ∷ second ∷ third ∷ []) (ap (λ w. w ∷ first ∷ second ∷ third ∷ [])) (λ d. cc) e
kind_has (word ∷ first ∷ second ∷ third ∷ fourth ∷ more) k e = cc

-- a number that was accepted is the one that its field writes
needed_some : (o : Option ℕ) (n : ℕ) → needed o ≡ Ok n → o ≡ Some n
needed_some None n e = cc
needed_some (Some m) n e = ap Some (cc)

limited_only : (text : List ℕ) (limit n : ℕ) → limit < 2 ^ 64 → limited text limit ≡ Ok n → (text ≡ digits n) × (n ≤ limit)
limited_only text limit n small e = (number_laws text limit small).only_written n (needed_some (number_in text limit) n e)

limited_all : (limit n : ℕ) → limit < 2 ^ 64 → n ≤ limit → limited (digits n) limit ≡ Ok n
limited_all limit n small within = ap needed ((number_laws (digits n) limit small).all_written n refl within)

-- a rule that was accepted is the one that its name says
rule_only : (name : List ℕ) (rule : RuleName) → rule_named name ≡ Ok rule → name ≡ name_of rule
rule_only name rule e =
    rule_row (codes "priority") Priority _
    (rule_row (codes "equal") Equal _
    (rule_row (codes "proportion") Proportion _
    (rule_row (codes "talmud") Talmud (Err UnknownRule) (λ d. cc) refl) refl) refl) refl e
  where
    rule_row : (known : List ℕ) (made : RuleName) (others : Result RuleName LineRefusal) → (others ≡ Ok rule → name ≡ name_of rule) → known ≡ name_of made → cond (bytes_eq name known) (Ok made) others ≡ Ok rule → name ≡ name_of rule
    rule_row known made others rest is =
        cond_both (bytes_eq name known) (Ok made) others (λ r. r ≡ Ok rule → name ≡ name_of rule)
        (λ t d. (bytes_eq-Decides name known).0 t ∙ is ∙ ap name_of (cc))
        (λ _ d. rest d)

-- what a line of a known kind asks for has the fields of that kind
abbrev Fits : List (List ℕ) → Asked → Type 0
Fits fs asks = (fs ≡ fields_for asks) × Askable asks

call_has : (k : Kind) (asks : Asked) → Without comma (kind_fields k) → 0 < length (kind_fields k) → call_of k ≡ Ok asks → Fits (kind_fields k) asks
call_has (claim_line number amount class) asks none some e =
    let p = both_accepted (limited number most_claimant) _ asks e in
    let q = both_accepted (limited amount most_amount) _ asks p.2 in
    let r = both_accepted (limited class most_class) _ asks q.2 in
    let n = limited_only number most_claimant p.0 (omega arith) p.1 in
    let a = limited_only amount most_amount q.0 (omega arith) q.1 in
    let c = limited_only class most_class r.0 (omega arith) r.1 in
    let same_number = n.0 in
    let same_amount = a.0 in
    let same_Class = c.0 in
    let same : asks_claim p.0 q.0 r.0 ≡ asks = cc in
    subst (Fits (kind_fields (claim_line number amount class))) same
    ((cc), (n.1, a.1, c.1))
call_has (amend_line number amount) asks none some e =
    let p = both_accepted (limited number most_claimant) _ asks e in
    let q = both_accepted (limited amount most_amount) _ asks p.2 in
    let n = limited_only number most_claimant p.0 (omega arith) p.1 in
    let a = limited_only amount most_amount q.0 (omega arith) q.1 in
    let same_number = n.0 in
    let same_amount = a.0 in
    let same : asks_amend p.0 q.0 ≡ asks = cc in
    subst (Fits (kind_fields (amend_line number amount))) same
    ((cc), (n.1, a.1))
call_has (fund_line amount) asks none some e =
    let p = both_accepted (limited amount most_amount) _ asks e in
    let a = limited_only amount most_amount p.0 (omega arith) p.1 in
    let same_amount = a.0 in
    let same : asks_fund p.0 ≡ asks = cc in
    subst (Fits (kind_fields (fund_line amount))) same ((cc), a.1)
call_has (press_line letters) asks none some e =
    let same : asks_press letters ≡ asks = cc in
    subst (Fits (kind_fields (press_line letters))) same (refl, none.1.0)
call_has (divide_line rule) asks none some e =
    let p = both_accepted (rule_named rule) _ asks e in
    let named = rule_only rule p.0 p.1 in
    let same : asks_divide p.0 ≡ asks = cc in
    subst (Fits (kind_fields (divide_line rule))) same ((cc), tt)
call_has draw_line asks none some e =
    let same : asks_draw ≡ asks = cc in
    subst (Fits (kind_fields draw_line)) same (refl, tt)
call_has sign_line asks none some e =
    let same : asks_sign ≡ asks = cc in
    subst (Fits (kind_fields sign_line)) same (refl, tt)
call_has return_line asks none some e =
    let same : asks_return ≡ asks = cc in
    subst (Fits (kind_fields return_line)) same (refl, tt)
call_has (compare_line left right) asks none some e =
    let same : asks_compare left right ≡ asks = cc in
    subst (Fits (kind_fields (compare_line left right))) same (refl, (none.1.0, none.1.1.0))
call_has remark_line asks none some e = absurd (omega arith)

-- the tests that come before the fields
long_enough : (line : List ℕ) (k : Kind) → line_kind line ≡ Ok k → length line ≤ most_line
long_enough line k =
    cond_both (ltb most_line (length line)) (Err TooLong) (cond (is_remark line) (Ok remark_line) (kind_by_fields (fields line))) (λ r. r ≡ Ok k → length line ≤ most_line)
    (λ _ e. cc)
    (λ t _. ltb-false most_line (length line) t)

past_tests : (line : List ℕ) → length line ≤ most_line → is_remark line ≡ false → line_kind line ≡ kind_by_fields (fields line)
past_tests line short plain =
    cond-false (ltb most_line (length line)) (Err TooLong) (cond (is_remark line) (Ok remark_line) (kind_by_fields (fields line))) (le-ltb most_line (length line) short)
    ∙ cond-false (is_remark line) (Ok remark_line) (kind_by_fields (fields line)) plain

only_written : (line : List ℕ) (asks : Asked) → is_remark line ≡ false → reading line ≡ Ok asks → (line ≡ line_for asks) × (length line ≤ most_line) × Askable asks
only_written line asks plain e =
    let p = both_accepted (line_kind line) call_of asks e in
    let short = long_enough line p.0 p.1 in
    let has : fields line ≡ kind_fields p.0 = kind_has (fields line) p.0 (sym (past_tests line short plain) ∙ p.1) in
    let fits = call_has p.0 asks (subst (Without comma) has (field_laws.without_commas line)) (subst (λ fs. 0 < length fs) has (some_field line)) p.2 in
    (sym (field_laws.whole line) ∙ ap (joined_by comma) (has ∙ fits.0), short, fits.1)

-- whether no byte is a comma
abbrev free : List ℕ → Bool
free [] = true
free (b ∷ bs) = not (eqb b comma) && free bs

no_comma : (bs : List ℕ) → free bs ≡ true → NoComma bs
no_comma [] e = tt
no_comma (b ∷ bs) e =
    let p = and_parts (not (eqb b comma)) (free bs) e in
    (eqb-false b comma (not-true (eqb b comma) p.0), no_comma bs p.1)

digits_no_comma : (bs : List ℕ) → all_digits bs ≡ true → NoComma bs
digits_no_comma [] e = tt
digits_no_comma (b ∷ bs) e =
    let p = and_parts (is_decimal_digit b) (all_digits bs) e in
    let low = leb-true 48 b (and_parts (leb 48 b) (leb b 57) p.0).0 in
    ((λ is. omega arith), digits_no_comma bs p.1)

number_no_comma : (n : ℕ) → n < 2 ^ 64 → NoComma (digits n)
number_no_comma n small = digits_no_comma (digits n) (digits_all n small)

-- the line for something is read as it
rereads : (asks : Asked) (k : Kind) → 0 < length (fields_for asks) → Without comma (fields_for asks) → is_remark (line_for asks) ≡ false → kind_by_fields (fields_for asks) ≡ Ok k → call_of k ≡ Ok asks → length (line_for asks) ≤ most_line → reading (line_for asks) ≡ Ok asks
rereads asks k some none plain known call short =
    ap (λ r. and_then r call_of) (past_tests (line_for asks) short plain ∙ ap kind_by_fields (fields_joined (fields_for asks) some none) ∙ known) ∙ call

then_ok : {X Y : Type 0} (r : Result X LineRefusal) (next : X → Result Y LineRefusal) (x : X) (y : Result Y LineRefusal) → r ≡ Ok x → next x ≡ y → and_then r next ≡ y
then_ok r next x y e f = ap (λ s. and_then s next) e ∙ f

rule_again : (rule : RuleName) → (rule_named (name_of rule) ≡ Ok rule) × NoComma (name_of rule)
rule_again Priority = (refl, no_comma (codes "priority") refl)
rule_again Equal = (refl, no_comma (codes "equal") refl)
rule_again Proportion = (refl, no_comma (codes "proportion") refl)
rule_again Talmud = (refl, no_comma (codes "talmud") refl)

all_written : (asks : Asked) → Askable asks → length (line_for asks) ≤ most_line → reading (line_for asks) ≡ Ok asks
all_written (asks_claim number amount class) h short =
    rereads (asks_claim number amount class) (claim_line (digits number) (digits amount) (digits class)) (omega arith)
    (no_comma (codes "claim") refl, (number_no_comma number (omega arith), (number_no_comma amount (omega arith), (number_no_comma class (omega arith), tt)))) refl refl
    (then_ok (limited (digits number) most_claimant) _ number _ (limited_all most_claimant number (omega arith) h.0)
    (then_ok (limited (digits amount) most_amount) _ amount _ (limited_all most_amount amount (omega arith) h.1)
    (then_ok (limited (digits class) most_class) _ class _ (limited_all most_class class (omega arith) h.2) refl))) short
all_written (asks_amend number amount) h short =
    rereads (asks_amend number amount) (amend_line (digits number) (digits amount)) (omega arith)
    (no_comma (codes "amend") refl, (number_no_comma number (omega arith), (number_no_comma amount (omega arith), tt))) refl refl
    (then_ok (limited (digits number) most_claimant) _ number _ (limited_all most_claimant number (omega arith) h.0)
    (then_ok (limited (digits amount) most_amount) _ amount _ (limited_all most_amount amount (omega arith) h.1) refl)) short
all_written (asks_fund amount) h short =
    rereads (asks_fund amount) (fund_line (digits amount)) (omega arith)
    (no_comma (codes "fund") refl, (number_no_comma amount (omega arith), tt)) refl refl
    (then_ok (limited (digits amount) most_amount) _ amount _ (limited_all most_amount amount (omega arith) h) refl) short
all_written (asks_press letters) h short =
    rereads (asks_press letters) (press_line letters) (omega arith) (no_comma (codes "press") refl, (h, tt)) refl refl refl short
all_written (asks_divide rule) h short =
    rereads (asks_divide rule) (divide_line (name_of rule)) (omega arith)
    (no_comma (codes "divide") refl, ((rule_again rule).1, tt)) refl refl
    (then_ok (rule_named (name_of rule)) _ rule _ (rule_again rule).0 refl) short
all_written asks_draw h short = rereads asks_draw draw_line (omega arith) (no_comma (codes "draw") refl, tt) refl refl refl short
all_written asks_sign h short = rereads asks_sign sign_line (omega arith) (no_comma (codes "sign") refl, tt) refl refl refl short
all_written asks_return h short = rereads asks_return return_line (omega arith) (no_comma (codes "return") refl, tt) refl refl refl short
all_written (asks_compare left right) h short =
    rereads (asks_compare left right) (compare_line left right) (omega arith) (no_comma (codes "compare") refl, (h.0, (h.1, tt))) refl refl refl short
all_written asks_nothing h short = absurd h

remarks : (line : List ℕ) → is_remark line ≡ true → length line ≤ most_line → reading line ≡ Ok asks_nothing
remarks line is short =
    ap (λ r. and_then r call_of)
    (cond-false (ltb most_line (length line)) (Err TooLong) (cond (is_remark line) (Ok remark_line) (kind_by_fields (fields line))) (le-ltb most_line (length line) short)
    ∙ cond-true (is_remark line) (Ok remark_line) (kind_by_fields (fields line)) is)

pub reading_laws : ReadingLaws
reading_laws = record { only_written = only_written; all_written = all_written; remarks = remarks }
