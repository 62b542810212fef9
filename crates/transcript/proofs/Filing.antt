-- The text of a whole file, line by line. Assumes nothing.
use Rattle.std.proofs.Common.{◌≡◌, ℕ, ◌+◌, ◌<◌, ◌≤◌, List, [], ◌∷◌, ◌++◌, length, Err, Result, sym, ap, ◌∙◌, subst}
use Rattle.std.proofs.lemmas.Bool.{cond-true, cond-false, le-ltb, lt-ltb}
use Rattle.casefile.specs.Lines.{lines}
use Rattle.transcript.specs.declared.refusal.RunRefusal.{RunRefusal}
use Rattle.transcript.specs.declared.refusal.RunRefusal.TheVariants.{FileTooLong}
use Rattle.transcript.specs.declared.runner.Runner.{Runner}
use Rattle.transcript.specs.declared.runner.OpenRefusal.{OpenRefusal}
use Rattle.transcript.specs.declared.runner.OpenRefusal.TheVariants.{Refused}
use Rattle.transcript.specs.Outcomes.{run_number}
use Rattle.transcript.specs.Texts.{refused_fields, as_text}
use Rattle.transcript.specs.Turns.{new_in_hand, ending}
use Rattle.transcript.specs.Files.{most_file, too_long, tellings, texts, file_case, transcript}
use Rattle.transcript.specs.Running.{Run, at_start, Opened, text_left, Ran}

-- a file that is not too long has the texts of its lines
pub file_run : (file before after whole : List ℕ) (from to : Run) → length file ≤ most_file → from ≡ at_start file_case file → before ≡ [] → Ran from before to after → whole ≡ after ++ texts (to.count + 1) (ending to.hand.sheet) → whole ≡ transcript file
file_run file before after whole from to short start none ran is =
    is ∙ ran.whole ∙ ap (λ l. l ++ text_left from) none ∙ ap text_left start
    ∙ sym (cond-false (too_long file) (as_text (refused_fields 0 (run_number FileTooLong) ∷ [])) (texts 1 (tellings (new_in_hand file_case) (lines file))) (le-ltb most_file (length file) short))

-- one that is too long has one line
pub file_refused : (file before whole : List ℕ) (e : RunRefusal) → (most_file < length file) × (e ≡ FileTooLong) → before ≡ [] → whole ≡ before ++ as_text (refused_fields 0 (run_number e) ∷ []) → whole ≡ transcript file
file_refused file before whole e h none is =
    is ∙ ap (λ l. l ++ as_text (refused_fields 0 (run_number e) ∷ [])) none ∙ ap (λ r. as_text (refused_fields 0 (run_number r) ∷ [])) h.1
    ∙ sym (cond-true (too_long file) (as_text (refused_fields 0 (run_number FileTooLong) ∷ [])) (texts 1 (tellings (new_in_hand file_case) (lines file))) (lt-ltb most_file (length file) h.0))

-- a file that was not opened
pub open_refused : (number : ℕ) (file : List ℕ) (r : Result Runner OpenRefusal) (e : RunRefusal) → Opened number file r → r ≡ Err (Refused e) → (most_file < length file) × (e ≡ FileTooLong)
open_refused number file r e h is = subst (Opened number file) is h
