-- `fault_in`: the bytes left and the places open give what all of them give.
use mathlib.Core.Bool.{not}
use mathlib.Core.Path.{refl, ap}
use native.Mathlib.Omega.{arith}
use Rattle.bodies.proofs.TemplateLoops as laws
use Rattle.bodies.proofs.templates.fault_in.Goals as goal

pub loop-b-init : goal.loop-b-init
loop-b-init c = search laws.testing_start

pub returns-then-outsides-n : goal.returns-then-outsides-n
returns-then-outsides-n c = search laws.testing_unnamed

pub loop-b-preserved-then-name : goal.loop-b-preserved-then-name
loop-b-preserved-then-name c = search laws.testing_number

pub returns-then-not-defined : goal.returns-then-not-defined
returns-then-not-defined c = search laws.testing_unbound

pub fill-filling-requires : goal.fill-filling-requires
fill-filling-requires c = omega arith

pub loop-b-preserved : goal.loop-b-preserved
loop-b-preserved c =
    laws.testing_next c.loop-b.invariant c.loop-b-test.true refl
    c.if-name.false (ap not c.if-not-defined.false) c.fill-filling.auto.stack c.fill-filling.ensures

pub returns : goal.returns
returns c = search laws.testing_end
