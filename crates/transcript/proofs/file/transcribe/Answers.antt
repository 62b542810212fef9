use Rattle.std.proofs.Common.{◌≡◌, ◌+◌, Err, vec_items}
use Rattle.transcript.specs.declared.runner.OpenRefusal.TheVariants.{Refused}
use Rattle.transcript.specs.Files.{file_case}
use Rattle.transcript.specs.Running.{running}
use Rattle.transcript.proofs.Filing.{open_refused, file_run, file_refused}
use Rattle.transcript.proofs.Transcribing.{transcribed}
use Rattle.transcript.proofs.file.transcribe.Goals as goal

pub returns-in_ok-push_ending-in-Ok : goal.returns-in_ok-push_ending-in-Ok
returns-in_ok-push_ending-in-Ok c =
    let file = c.args.file.now in
    let opened = c.in-Ok.ensures.result in
    let to = running c.run_lines-ran.new.runner in
    let text = vec_items c.push_ending.new.text in
    let whole = c.in_ok-push_ending-in-Ok.ensures.text c.run_lines-ran.new.runner.hand.sheet (to.count + 1) c.finish-told.ensures.ending in
    record {
      transcript = transcribed file text
          (file_run file (vec_items c.new-text.result) (vec_items c.run_lines-ran.new.text) text (running c.in-Ok.runner) to opened.0 opened.1 c.new-text.ensures.items c.in_ok-ran-in-Ok.ensures.ran whole);
    }

pub returns-in_ok-push_refusal-in-Err-Refused : goal.returns-in_ok-push_refusal-in-Err-Refused
returns-in_ok-push_refusal-in-Err-Refused c =
    let file = c.args.file.now in
    let text = vec_items c.push_refusal.new.text in
    let is : c.open.result ≡ Err (Refused c.in-Err-Refused.refusal) = cc in
    let refused = open_refused file_case file c.open.result c.in-Err-Refused.refusal c.open.ensures.result is in
    record {
      transcript = transcribed file text
          (file_refused file (vec_items c.new-text.result) text c.in-Err-Refused.refusal refused c.new-text.ensures.items c.in_ok-push_refusal-in-Err-Refused.ensures.text);
    }
