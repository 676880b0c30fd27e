-- `is_root`: the tests as they stand, over the byte.
use Rattle.decoding.specs.Layout.{is_root}
use Rattle.fields.proofs.is_root.Goals as goal

pub returns : goal.returns
unfolding is_root
returns c = cc
