-- `is_named`: no `$` before a digit, or a variable.
use mathlib.Core.Path.{sym, ap, ◌∙◌}
use Rattle.std.specs.Option.{is_some}
use Rattle.scanner.proofs.DollarLaws as laws
use Rattle.scanner.proofs.dollars.is_named.Goals as goal

pub returns-then-not-dollar : goal.returns-then-not-dollar
returns-then-not-dollar c = laws.plain_named _ _ (sym c.if-not-dollar.true ∙ c.is_dollar-dollar.ensures)

pub returns : goal.returns
returns c =
    c.is_some.ensures
    ∙ ap is_some c.variable_at.ensures
    ∙ laws.dollar_named _ _ (sym c.if-not-dollar.false ∙ c.is_dollar-dollar.ensures)
