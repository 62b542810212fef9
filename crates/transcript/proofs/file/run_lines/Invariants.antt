use Rattle.std.proofs.Common.{◌≡◌, ◌-◌, ◌++◌, length, vec_items}
use Rattle.transcript.specs.Running.{running, text_left}
use Rattle.transcript.proofs.file.run_lines.Given as goal

abbrev pub invariant-loop-printed : goal.invariant-loop-printed
invariant-loop-printed l = vec_items l.text ++ text_left (running l.runner) ≡ vec_items l.initial.text ++ text_left (running l.initial.runner)

abbrev pub decreases-loop-printed : goal.decreases-loop-printed
decreases-loop-printed l = length l.runner.reader.file.now - l.runner.reader.place
