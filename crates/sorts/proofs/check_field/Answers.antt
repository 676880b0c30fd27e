-- `check_field`: by the field's tag.
use mathlib.Core.Path.{refl, ap}
use lib.ListN.{length}
use Rattle.bodies.proofs.HeadLaws.{signature_short}
use Rattle.sorts.proofs.StepLaws as laws
use native.Mathlib.Omega.{arith}
use Rattle.sorts.proofs.check_field.Goals as goal

pub collect-requires : goal.collect-requires
collect-requires c = omega arith

pub load_params-variables-requires : goal.load_params-variables-requires
load_params-variables-requires c =
    omega (arith, ap length c.signature_at.ensures, signature_short c.args.table.now c.args.known.head)

pub returns-in-3 : goal.returns-in-3
returns-in-3 c = search laws.step_block

pub returns-in-5 : goal.returns-in-5
returns-in-5 c = search laws.step_parameters

pub shape_of-heads-in-6 : goal.shape_of-heads-in-6
shape_of-heads-in-6 c = refl

pub returns-in-6 : goal.returns-in-6
returns-in-6 c = search laws.step_item

pub shape_of-sorts-in-7 : goal.shape_of-sorts-in-7
shape_of-sorts-in-7 c = refl

pub shape_of-stack-in-7 : goal.shape_of-stack-in-7
shape_of-stack-in-7 c = c.check_result.auto.stack

pub returns-in-7 : goal.returns-in-7
returns-in-7 c = search laws.step_result

pub shape_of-heads-in-8 : goal.shape_of-heads-in-8
shape_of-heads-in-8 c = refl

pub returns-in-8 : goal.returns-in-8
returns-in-8 c = search laws.step_root

pub returns-in-9 : goal.returns-in-9
returns-in-9 c = search laws.step_text

pub returns-in_default : goal.returns-in_default
returns-in_default c = search laws.step_counts
