-- The laws of a transcript. Assumes nothing.
use Rattle.std.proofs.Common.{◌≡◌, ℕ, true, false, cond, List, [], ◌∷◌, sym, refl, ap, ◌∙◌, arith}
use Rattle.std.proofs.lemmas.Int.{ints}
use Rattle.std.proofs.lemmas.Bool.{both_ways}
use Rattle.normal_form.specs.Forms.{Parts, normal_form}
use Rattle.normal_form.proofs.Theorems as theorem
use Rattle.cases.specs.Ledger.{under}
use Rattle.cases.specs.History.{Past, made}
use Rattle.cases.proofs.Histories.{always_settled}
use Rattle.casefile.specs.Lines.{lines}
use Rattle.transcript.specs.declared.refusal.RunRefusal.TheVariants.{FileTooLong}
use Rattle.transcript.specs.Outcomes.{run_number}
use Rattle.transcript.specs.Texts.{refused_fields, as_text}
use Rattle.transcript.specs.Turns.{new_in_hand, same_parts}
use Rattle.transcript.specs.Files.{too_long, tellings, texts, file_case, lines_run, calls_of, case_of, transcript}
use Rattle.transcript.specs.Transcripts.{postings_in, FormsDecide, Transcribed}
use Rattle.transcript.proofs.Comparing.{parts_itself, parts_same}
use Rattle.transcript.proofs.Closing.{file_closed}
use Rattle.transcript.proofs.Printing.{all_postings, texts_show, refusal_shows}
use Rattle.transcript.proofs.Summing.{file_past, file_posts}

past_of : (file : List ℕ) → Past (calls_of file) (case_of file)
past_of file = file_past (new_in_hand file_case) (lines_run file) [] (made file_case)

-- the text shows what is told of the lines that are run
text_shows : (file : List ℕ) → postings_in (transcript file) ≡ all_postings (tellings (new_in_hand file_case) (lines_run file))
text_shows file =
    elim (too_long file) as (λ b. postings_in (cond b (as_text (refused_fields 0 (run_number FileTooLong) ∷ [])) (texts 1 (tellings (new_in_hand file_case) (lines file)))) ≡ all_postings (tellings (new_in_hand file_case) (cond b [] (lines file))))
    [ true ↦ refusal_shows 0 (run_number FileTooLong) | false ↦ texts_show 1 (tellings (new_in_hand file_case) (lines file)) ]

-- of two forms that cannot but be the same
same_unless : (p q : Parts) → ((p ≡ q → ⊥) → ⊥) → p ≡ q
same_unless p q other =
    elim (same_parts p q) as (λ b. same_parts p q ≡ b → p ≡ q)
    [ true ↦ (λ e. parts_same p q e) | false ↦ (λ e. absurd (other (λ is. both_ways (same_parts p q) e (ap (λ x. same_parts p x) (sym is) ∙ parts_itself p)))) ] refl

forms_decide : FormsDecide
forms_decide = record {
  alike_if_same = theorem.same_form_alike;
  same_if_alike = λ left right alike.
      same_unless (normal_form left) (normal_form right) (λ other. theorem.told_apart_not_alike left right (theorem.other_form_told_apart left right other) alike);
}

pub transcribed : (file text : List ℕ) → text ≡ transcript file → Transcribed file text
transcribed file text is = record {
  text_is = is;
  past = past_of file;
  closed = file_closed (new_in_hand file_case) (lines_run file) refl;
  settled = always_settled (calls_of file) (case_of file) (past_of file);
  sums = λ n claimant.
      let shown = ap (under n) (ap postings_in is ∙ text_shows file) in
      let told = file_posts (new_in_hand file_case) (lines_run file) n [] in
      let owed = always_settled (calls_of file) (case_of file) (past_of file) n claimant in
      omega (arith, ints, shown, told, owed);
  lawful = (theorem.string_laws).lawful_under_letters;
  forms = forms_decide;
}
