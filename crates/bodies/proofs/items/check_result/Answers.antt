-- `check_result`: one place, of the sort that the signature gives.
use mathlib.Core.Path.{◌∙◌}
use lib.ListN.{length-set}
use Rattle.bodies.proofs.BodyLaws as laws
use native.Mathlib.Omega.{arith}
use Rattle.bodies.proofs.items.check_result.Goals as goal

pub bounds-stack-0 : goal.bounds-stack-0
bounds-stack-0 c = omega arith

pub fault_in-requires : goal.fault_in-requires
fault_in-requires c = simp length-set (omega (arith, c.requires))

pub shape_of-stack : goal.shape_of-stack
shape_of-stack c = c.fault_in.auto.stack ∙ simp length-set

pub returns : goal.returns
returns c =
    let a = c.args in
    laws.result_is a.table.now a.known a.sorts.now a.v.now a.stack.now c.signature_at-signature.ensures c.byte.ensures
    (omega arith) (cc (c.fault_in.ensures, c.part-variables.ensures))
