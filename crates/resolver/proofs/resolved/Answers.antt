-- `resolved`: the marks of the walk, numbered.
use mathlib.Core.Path.{◌∙◌}
use native.Mathlib.Omega.{arith}
use Rattle.marking.proofs.WalkLaws.{walks_long}
use Rattle.resolver.proofs.ResolvedLaws.{root_fits, resolves_numbered}
use Rattle.resolver.proofs.resolved.Goals as goal

pub resolve_term-requires : goal.resolve_term-requires
resolve_term-requires c = root_fits c.requires.0 c.requires.1

pub number-requires : goal.number-requires
number-requires c = omega (arith, walks_long c.resolve_term.ensures, c.requires.0.few)

pub returns : goal.returns
returns c = (
  resolves_numbered c.requires.0 c.requires.1 c.resolve_term.ensures c.number.ensures,
  c.number.auto.marks ∙ walks_long c.resolve_term.ensures,
)
