-- `check_table`: the verdict, with a room of its own.
use mathlib.Core.Path.{ap}
use native.Mathlib.Omega.{arith}
use Rattle.answers.specs.Refusals.{numbered_verdict}
use Rattle.decoding.proofs.Split.{Bytes}
use Rattle.checker.proofs.Passing.{verdict_exactly}
use Rattle.checker.proofs.check_table.Goals as goal

pub returns : goal.returns
returns c =
    let bytes : Bytes c.args.table.now = λ i. omega (arith, c.type_inv.table i) in record {
      value = c.check_into.ensures.answer;
      result_value = ap numbered_verdict c.check_into.ensures.answer;
      variant = verdict_exactly _ bytes c.check_into.ensures.answer;
    }
