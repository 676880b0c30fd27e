-- `after_leading`: the fields that are left give what all of them give.
use mathlib.Core.Path.{refl}
use native.Mathlib.Omega.{arith}
use Rattle.grammar.proofs.LookupLaws as laws
use Rattle.grammar.proofs.after_leading.Goals as goal

pub loop-at-init : goal.loop-at-init
loop-at-init c = record { rest = refl }

pub returns-then-field-tag : goal.returns-then-field-tag
returns-then-field-tag c = search laws.passing_out

pub loop-at-smaller : goal.loop-at-smaller
loop-at-smaller c =
    let p = c in
    let lies = laws.field_lies _ _ p.field_at-field.ensures in
    omega (arith, lies.further p.loop-at-test.true, lies.inside)

pub loop-at-preserved : goal.loop-at-preserved
loop-at-preserved c = search laws.passing_next

pub returns : goal.returns
returns c = search laws.passing_end
