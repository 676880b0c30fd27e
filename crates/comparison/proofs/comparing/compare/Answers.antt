-- `compare`: in cells and text that nobody has touched.
use Rattle.comparison.specs.Comparing.{untouched_cells, untouched_text}
use Rattle.comparison.proofs.comparing.compare.Goals as goal

pub returns : goal.returns
unfolding untouched_cells untouched_text
returns c = c.compare_in_fronts.ensures
