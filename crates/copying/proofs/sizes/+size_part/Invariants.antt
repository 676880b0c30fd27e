-- `size_part`: the parts of a row decide, and the depth bound falls from a row to its parts.
use Rattle.copying.proofs.sizes.+size_part.Given as goal

abbrev pub decreases-size_part : goal.decreases-size_part
decreases-size_part l = l.bound
