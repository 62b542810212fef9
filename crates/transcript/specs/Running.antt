-- A runner over a file: where it stands, and what running one line promises. Assumes nothing.
use Rattle.std.specs.Prelude.{◌≡◌, ℕ, ◌+◌, ◌<◌, ◌≤◌, List, ◌++◌, length, drop, Some, None, Ok, Err, Option, Result}
use Rattle.cases.specs.Ledger.{Event, Settled}
use Rattle.cases.specs.History.{Past}
use Rattle.casefile.specs.Lines.{lines, NextLine, NoLine}
use Rattle.transcript.specs.declared.refusal.RunRefusal.{RunRefusal}
use Rattle.transcript.specs.declared.refusal.RunRefusal.TheVariants.{BufferTooShort, FileTooLong}
use Rattle.transcript.specs.declared.runner.Runner.{Runner}
use Rattle.transcript.specs.declared.runner.Printed.{Printed}
use Rattle.transcript.specs.declared.runner.OpenRefusal.{OpenRefusal}
use Rattle.transcript.specs.declared.runner.OpenRefusal.TheVariants.{Refused, NoMemory}
use Rattle.transcript.specs.Outcomes.{told}
use Rattle.transcript.specs.Texts.{text_of, least_buffer}
use Rattle.transcript.specs.Turns.{InHand, new_in_hand, turn, Decided, ending}
use Rattle.transcript.specs.Files.{most_file, tellings, texts}
use Rattle.transcript.specs.HandViews.{in_hand}

-- a file, the place up to which it was read, how many lines that were, and what is in hand
pub record Run : Type 0 where
  pub file : List ℕ
  pub place : ℕ
  pub count : ℕ
  pub hand : InHand

-- where the code's runner stands
abbrev pub running : Runner → Run
running r = record { file = r.reader.file.now; place = r.reader.place; count = r.count; hand = in_hand r.hand }

-- a runner at the start of a file, over a new case
abbrev pub at_start : ℕ → List ℕ → Run
at_start number file = record { file = file; place = 0; count = 0; hand = new_in_hand number }

-- what opening a file answers: a runner at its start, or a refusal if the file is too long; memory may be wanted only
-- for a file that is not
abbrev pub Opened : ℕ → List ℕ → Result Runner OpenRefusal → Type 0
Opened number file (Ok runner) = (length file ≤ most_file) × (running runner ≡ at_start number file)
Opened number file (Err (Refused e)) = (most_file < length file) × (e ≡ FileTooLong)
Opened number file (Err (NoMemory e)) = length file ≤ most_file

-- a line was run: which bytes of the file it was, what came of it, that it was accepted exactly if it is allowed, and its
-- text at the front of the buffer; every past that the case had goes on with the calls of the line, and is settled
pub record LineRun (from : Run) (buffer : List ℕ) (printed : Printed) (to : Run) (after : List ℕ) : Type 0 where
  pub line : List ℕ
  pub read : NextLine from.file from.place line to.place
  pub file : to.file ≡ from.file
  pub counted : to.count ≡ from.count + 1
  pub tells : told printed.outcome ≡ (turn line from.hand).told
  pub hand : to.hand ≡ (turn line from.hand).hand
  pub decided : Decided line from.hand (told printed.outcome) to.hand
  pub bytes : printed.bytes ≡ length (text_of to.count (told printed.outcome))
  pub short : printed.bytes ≤ least_buffer
  pub text : after ≡ text_of to.count (told printed.outcome) ++ drop printed.bytes buffer
  pub history : (past : List Event) → Past past from.hand.case → Past ((turn line from.hand).calls ++ past) to.hand.case × Settled ((turn line from.hand).calls ++ past)

-- what running the next line answers; a buffer that is too short is refused before anything else, and then, as at the
-- end of the file, nothing changes
abbrev pub RunAnswered : Run → List ℕ → Result (Option Printed) RunRefusal → Run → List ℕ → Type 0
RunAnswered from buffer (Ok (Some printed)) to after = (least_buffer ≤ length buffer) × LineRun from buffer printed to after
RunAnswered from buffer (Ok None) to after = (least_buffer ≤ length buffer) × NoLine from.file from.place to.place × (to ≡ from) × (after ≡ buffer)
RunAnswered from buffer (Err e) to after = (length buffer < least_buffer) × (e ≡ BufferTooShort) × (to ≡ from) × (after ≡ buffer)

-- the text that is still to come
abbrev pub text_left : Run → List ℕ
text_left run = texts (run.count + 1) (tellings run.hand (lines (drop run.place run.file)))

-- all lines were run: no text is still to come but what is told at the end
pub record Ran (from : Run) (before : List ℕ) (to : Run) (after : List ℕ) : Type 0 where
  pub whole : after ++ texts (to.count + 1) (ending to.hand.sheet) ≡ before ++ text_left from
