-- `size_at`: the first count is enough, or it counted all that a term may have, or a pass over the rows tells the size.
use native.Mathlib.Omega.{arith}
use Rattle.rows.proofs.sizes.size_at.Goals as goal

pub returns-then-made-ge-MANY_ROWS : goal.returns-then-made-ge-MANY_ROWS
returns-then-made-ge-MANY_ROWS c =
    let counted = c.first_count-count in
    omega (arith, counted.ensures.all c.if-made-ge-MANY_ROWS.true)
