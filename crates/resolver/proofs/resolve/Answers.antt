-- `resolve`: nothing to resolve, or room by the number of rows.
use mathlib.Core.Path.{refl, sym, ◌∙◌}
use Rattle.resolver.proofs.ResolvedLaws.{quiet_resolves}
use Rattle.resolver.proofs.resolve.Goals as goal

pub returns-then-is_quiet : goal.returns-then-is_quiet
returns-then-is_quiet c = (quiet_resolves c.requires (sym c.is_quiet.ensures ∙ c.if-is_quiet.true), refl)
