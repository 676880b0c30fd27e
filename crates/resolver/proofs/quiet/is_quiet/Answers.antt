-- `is_quiet`: the rows from the present one on tell of all.
use mathlib.Core.Path.{sym, ◌∙◌}
use Rattle.resolver.proofs.QuietLaws as laws
use Rattle.resolver.proofs.quiet.is_quiet.Goals as goal

pub loop-row-init : goal.loop-row-init
loop-row-init c = laws.looking_start _

pub loop-row-preserved : goal.loop-row-preserved
loop-row-preserved c =
    laws.looking_next c.loop-row.invariant c.loop-row-test.true c.column.ensures c.column-in-loop-row.ensures
    (sym c.is_quiet_row-quiet.ensures ∙ c.if-not-quiet.false)

pub returns-then-not-quiet : goal.returns-then-not-quiet
returns-then-not-quiet c =
    laws.looking_stop c.loop-row.invariant c.loop-row-test.true c.column.ensures c.column-in-loop-row.ensures
    (sym c.is_quiet_row-quiet.ensures ∙ c.if-not-quiet.true)

pub returns : goal.returns
returns c = laws.looking_end c.loop-row.invariant c.loop-row-test.false
