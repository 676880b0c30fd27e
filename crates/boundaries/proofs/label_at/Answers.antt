-- `label_at`: the labels in their order, the last for all numbers behind.
use Prim.Native.Nat.{ℕ}
use mathlib.Core.List.{List, []}
use denote.Bor.{Bor}
use lib.ListN.{get_or-map}
use Rattle.spellings.specs.Bytes.{bytes}
use Rattle.boundaries.specs.Lines.{first_labels, label_at}
use Rattle.boundaries.proofs.LineLaws.{or_last}
use Rattle.boundaries.proofs.label_at.Goals as goal

pub returns : goal.returns
unfolding bytes first_labels label_at
returns c = rw (← get_or-map (λ (b : Bor (List ℕ)). b.now), c.min.ensures) (or_last first_labels (bytes "seventeen levels") [] c.args.i)
