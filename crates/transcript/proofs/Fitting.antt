-- A claimant number that is read from a line has 16 bits. Assumes nothing.
use Rattle.std.proofs.Common.{◌≡◌, ℕ, List, length, Ok, Err, nat_lt, sym, ap, ◌∙◌, subst, ⊎_elim}
use Rattle.std.proofs.lemmas.Bool.{cond-true, cases_Bool, cases_lt, lt-ltb}
use Rattle.casefile.specs.declared.refusal.LineRefusal.TheVariants.{TooLong}
use Rattle.casefile.specs.LineKinds.{most_line, is_remark}
use Rattle.casefile.specs.LineRefusals.{and_then}
use Rattle.casefile.specs.Calls.{Asked, asks_claim, asks_amend, asks_fund, asks_press, asks_divide, asks_draw, asks_sign, asks_return, asks_compare, asks_nothing, call_of, reading}
use Rattle.casefile.specs.Written.{Askable}
use Rattle.casefile.proofs.Rereading.{reading_laws}
use Rattle.transcript.specs.HandViews.{ClaimantFits}

askable_fits : (asks : Asked) → Askable asks → ClaimantFits asks
askable_fits (asks_claim number amount class) h = h.0
askable_fits (asks_amend number amount) h = h.0
askable_fits (asks_fund amount) h = tt
askable_fits (asks_press letters) h = tt
askable_fits (asks_divide rule) h = tt
askable_fits asks_draw h = tt
askable_fits asks_sign h = tt
askable_fits asks_return h = tt
askable_fits (asks_compare left right) h = tt
askable_fits asks_nothing h = tt

pub claimant_fits : (line : List ℕ) (asks : Asked) → reading line ≡ Ok asks → ClaimantFits asks
claimant_fits line asks read =
    ⊎_elim
    (λ long.
    let refused : reading line ≡ Err TooLong = ap (λ k. and_then k call_of) (cond-true (nat_lt most_line (length line)) _ _ (lt-ltb most_line (length line) long)) in
    cc (sym read ∙ refused))
    (λ short. ⊎_elim
    (λ remark. let same : asks_nothing ≡ asks = cc (sym (reading_laws.remarks line remark short) ∙ read) in subst ClaimantFits same tt)
    (λ plain. askable_fits asks (reading_laws.only_written line asks plain read).2)
    (cases_Bool (is_remark line)))
    (cases_lt most_line (length line))
