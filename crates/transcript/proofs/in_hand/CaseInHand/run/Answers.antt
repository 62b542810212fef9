use Rattle.std.proofs.Common.{sym}
use Rattle.casefile.specs.Calls.{asked}
use Rattle.transcript.proofs.Fitting.{claimant_fits}
use Rattle.transcript.proofs.in_hand.CaseInHand.run.Goals as goal

pub perform-requires : goal.perform-requires
perform-requires c = record { fits = claimant_fits c.args.line.now (asked c.in-Ok.call) (sym c.in-Ok.ensures.result) }
