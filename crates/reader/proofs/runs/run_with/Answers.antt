-- `run_with`: the expander is lent what it asks.
use native.Mathlib.Omega.{arith}
use Rattle.reader.proofs.RunLaws as laws
use Rattle.reader.proofs.runs.run_with.Goals as goal

pub run-requires : goal.run-requires
run-requires g c = laws.run_lent c.requires.runnable (omega arith)

pub returns : goal.returns
returns g c = laws.run_given c.requires.runnable (omega arith) c.run.ensures
