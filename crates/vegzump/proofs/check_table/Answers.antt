-- `check_table`: what the check of the table answers.
use native.Mathlib.Omega.{arith}
use Rattle.decoding.proofs.Split.{Bytes}
use Rattle.vegzump.proofs.Refusing.{verdict_refuses}
use Rattle.vegzump.proofs.check_table.Goals as goal

pub returns : goal.returns
returns c =
    let e = c.check_table.ensures in
    let bytes : Bytes c.args.table.now = λ i. omega (arith, c.type_inv.table i) in
    record { value = e.value; result_value = e.result_value; variant = e.variant; variant_2 = verdict_refuses _ bytes e.value }
