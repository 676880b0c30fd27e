-- `dollars_below`: each byte is passed that is no `$` before a digit, or begins a variable.
use mathlib.Core.Path.{sym, ◌∙◌}
use Rattle.scanner.proofs.DollarLaws as laws
use Rattle.scanner.proofs.dollars.dollars_below.Goals as goal

pub returns-then-not-named : goal.returns-then-not-named
returns-then-not-named c =
    laws.passing_fails c.loop-at.invariant c.loop-at-test.true (sym c.if-not-named.true ∙ c.is_named-named.ensures)

pub loop-at-preserved : goal.loop-at-preserved
loop-at-preserved c =
    laws.passing_next c.loop-at.invariant c.loop-at-test.true (sym c.if-not-named.false ∙ c.is_named-named.ensures)

pub returns : goal.returns
returns c = search laws.passing_end

pub loop-at-init : goal.loop-at-init
loop-at-init c = laws.passing_start
