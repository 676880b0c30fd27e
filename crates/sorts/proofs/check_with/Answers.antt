-- `check_with`: a stack that is long enough for the table.
use mathlib.Core.Path.{◌∙◌}
use Rattle.sorts.proofs.StepLaws as laws
use Rattle.sorts.proofs.check_with.Goals as goal

pub returns : goal.returns
returns g c = c.check_fields.ensures ∙ laws.sorts_short _ c.requires.short
