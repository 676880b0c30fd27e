-- `line_end`: a run of what is left ends in it.
use native.Mathlib.Omega.{arith}
use Rattle.formulas.proofs.LineLaws.{line_end_is}
use Rattle.formulas.proofs.lines.line_end.Goals as goal

pub overflow_add-result : goal.overflow_add-result
overflow_add-result c = omega (arith, (line_end_is c.args.input.now c.requires c.line_run.ensures).1)

pub returns : goal.returns
returns c = line_end_is _ c.requires c.line_run.ensures
