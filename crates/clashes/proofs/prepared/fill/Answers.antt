-- `fill`: the entries behind the next one are laid.
use mathlib.Core.Path.{◌∙◌, sym}
use Rattle.clashes.proofs.FillLaws as laws
use Rattle.clashes.proofs.prepared.fill.Goals as goal

pub loop-j-init : goal.loop-j-init
loop-j-init c = search laws.fill_start

pub lay-requires : goal.lay-requires
lay-requires c =
    laws.fill_at c.requires _ _ c.loop-j.invariant c.loop-j-test.true

pub loop-j-preserved : goal.loop-j-preserved
loop-j-preserved c =
    laws.fill_next c.requires _ _ c.loop-j.invariant c.loop-j-test.true c.offset-start.ensures
    c.opening-found.ensures c.lay.ensures c.join-places.ensures

pub shape_of-room : goal.shape_of-room
shape_of-room c = c.loop-j.invariant.filling.size ∙ sym c.requires.lent.size

pub returns : goal.returns
returns c = search laws.fill_end
