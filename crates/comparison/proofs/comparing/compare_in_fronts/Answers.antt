-- `compare_in_fronts`: as much of the cells and the text as is lent.
use mathlib.Core.Path.{sym}
use native.Mathlib.Omega.{arith}
use lib.Seq.{length-take-le}
use Rattle.comparison.proofs.ComparingLaws.{compared_fronts}
use Rattle.comparison.proofs.comparing.compare_in_fronts.Goals as goal

pub slice_bounds-compare_in-end-2 : goal.slice_bounds-compare_in-end-2
slice_bounds-compare_in-end-2 c = sym (length-take-le _ _ (omega arith))

pub slice_bounds-compare_in-end-4 : goal.slice_bounds-compare_in-end-4
slice_bounds-compare_in-end-4 c = sym (length-take-le _ _ (omega arith))

pub returns : goal.returns
returns c =
    compared_fronts _ _ _ _ c.min-count.ensures c.min-size.ensures c.compare_in.ensures
