-- `size_rows`: the rows before the present one have their sizes.
use native.Mathlib.Omega.{arith}
use Rattle.copying.proofs.SizeLaws as laws
use Rattle.copying.proofs.sizes.size_rows.Goals as goal

pub loop-row-preserved : goal.loop-row-preserved
loop-row-preserved c =
    laws.passed_next c.loop-row.invariant (omega arith) c.parts_at-parts.ensures c.are_parts-ordered.ensures c.if-not-ordered.false c.parts_sum.ensures
