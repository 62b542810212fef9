use Rattle.cases.proofs.ExampleRuns.{example_run}
use Rattle.cases.proofs.laws.example_run.Goals as goal

pub returns : goal.returns
returns c = record { run = example_run }
