-- `place_bit`: a sort that the layout passes, or none.
use native.Mathlib.Omega.{arith}
use Rattle.patterns.proofs.PatternLaws as laws
use Rattle.patterns.proofs.place_bit.Goals as goal

pub returns-then-known : goal.returns-then-known
returns-then-known c = search laws.place_known

pub returns-else-known : goal.returns-else-known
returns-else-known c = search laws.place_unknown

pub overflow_add-sort : goal.overflow_add-sort
overflow_add-sort c = omega (arith, laws.sort_small c.args.sort c.is_code-known.ensures c.if-known.true)
