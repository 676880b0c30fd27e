-- `is_small`: the size of a row by the pass, or by a walk.
use Rattle.copying.proofs.SizeLaws as laws
use Rattle.copying.proofs.sizes.is_small.Goals as goal

pub returns-then-ordered-at : goal.returns-then-ordered-at
returns-then-ordered-at c = search laws.told_small

pub returns-then-below : goal.returns-then-below
returns-then-below c = search laws.walked_small

pub returns : goal.returns
returns c = search laws.leaf_small
