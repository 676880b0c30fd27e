-- `expand`: the check, then the expansion after it. Number and values, demand 3, and what a table that does not pass gets follow from the equation.
use mathlib.Core.Path.{ap}
use native.Mathlib.Omega.{arith}
use Rattle.answers.specs.Refusals.{numbered}
use Rattle.decoding.proofs.Split.{Bytes}
use Rattle.meaning.specs.Expand.{Expanded}
use Rattle.meaning.proofs.Hygiene.{call_meets_demand_3}
use Rattle.parser.proofs.Joining.{checked_room}
use Rattle.vegzump.proofs.Refusing.{call_refuses}
use Rattle.vegzump.proofs.expand.Goals as goal

pub expand_checked-requires : goal.expand_checked-requires
expand_checked-requires c =
    let bytes : Bytes c.args.table.now = λ i. omega (arith, c.type_inv.table i) in
    checked_room bytes c.check_into-verdict.ensures

pub returns : goal.returns
returns c =
    let e = c.expand_checked.ensures in
    let bytes : Bytes c.args.table.now = λ i. omega (arith, c.type_inv.table i) in record {
      text_after = e;
      result_value = ap (λ (x : Expanded). numbered x.answer) e;
      demand3 = call_meets_demand_3 e;
      not_passed = call_refuses _ bytes _ _ e;
    }
