use Rattle.std.proofs.Common.{◌+◌, ◌++◌, drop, sym, refl, ap, ◌∙◌, subst}
use Rattle.cases.specs.Ledger.{Settled}
use Rattle.cases.specs.History.{Past}
use Rattle.transcript.specs.Outcomes.{told}
use Rattle.transcript.specs.Texts.{text_of}
use Rattle.transcript.specs.Turns.{InHand, turn}
use Rattle.transcript.specs.HandViews.{in_hand}
use Rattle.transcript.proofs.Allowing.{line_decided}
use Rattle.transcript.proofs.Going.{line_settles}
use Rattle.transcript.proofs.runner.Runner.run_line.Goals as goal

pub returns : goal.returns
returns c =
    let line = c.in-Some.line.now in
    let hand = in_hand c.args.self.now.hand in
    let comes = c.run-outcome.ensures.turn in
    let wrote = c.in_ok-bytes.ensures.text in
    let text = text_of (c.args.self.now.count + 1) (told c.run-outcome.result) in
    record {
      result = (
        wrote.0,
        record {
          line = line;
          read = c.in-Some.ensures.line;
          file = c.in-Some.ensures.file;
          counted = refl;
          tells = comes.tells;
          hand = comes.holds;
          decided = line_decided line hand (told c.run-outcome.result) (in_hand c.run-outcome.new.self) comes.tells comes.holds;
          bytes = wrote.1;
          short = wrote.2;
          text = wrote.3 ∙ ap (λ n. text ++ drop n c.args.out.now) (sym wrote.1);
          history = λ past p. subst (λ (h : InHand). Past ((turn line hand).calls ++ past) h.case × Settled ((turn line hand).calls ++ past)) (sym comes.holds) (line_settles line hand past p);
        },
      );
    }
