-- `run_with`: the run with the root that the table's last byte names.
use native.Mathlib.Omega.{arith}
use Rattle.parser.proofs.Running as laws
use Rattle.parser.proofs.run_with.Goals as goal

pub run-requires : goal.run-requires
run-requires g c = laws.lent_some c.requires.runnable (omega arith)

pub returns : goal.returns
returns g c =
    laws.runs_from c.requires.runnable (omega arith) c.root_of-root.ensures c.run.ensures
