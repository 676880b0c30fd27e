-- `collect`: the fields left give what all of them give.
use native.Mathlib.Omega.{arith}
use Rattle.grammar.proofs.LookupLaws.{field_lies}
use Rattle.bodies.proofs.CollectLaws as laws
use Rattle.bodies.proofs.heads.collect.Goals as goal

pub loop-at-init : goal.loop-at-init
loop-at-init c = laws.collecting_start

pub returns-then-tag : goal.returns-then-tag
returns-then-tag c = search laws.collecting_ends

pub define-requires : goal.define-requires
define-requires c = omega arith

pub returns-in-Err : goal.returns-in-Err
returns-in-Err c = search laws.collecting_fault

pub loop-at-smaller : goal.loop-at-smaller
loop-at-smaller c =
    let lies = field_lies _ _ c.field_at-field.ensures in
    omega (arith, lies.further c.loop-at-test.true, lies.inside)

pub loop-at-preserved : goal.loop-at-preserved
loop-at-preserved c = search laws.collecting_next

pub returns : goal.returns
returns c = search laws.collecting_end
