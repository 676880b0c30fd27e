-- `fill_sorts`: the entries behind the next one are laid.
use mathlib.Core.Path.{◌∙◌, sym}
use Rattle.clashes.proofs.FillLaws as laws
use Rattle.clashes.proofs.sorts.fill_sorts.Goals as goal

pub loop-j-init : goal.loop-j-init
loop-j-init c = search laws.sorts_start

pub lay-requires : goal.lay-requires
lay-requires c =
    laws.sorts_at_lem c.requires _ c.loop-j.invariant c.loop-j-test.true

pub loop-j-preserved : goal.loop-j-preserved
loop-j-preserved c =
    laws.sorts_next c.requires _ c.loop-j.invariant c.loop-j-test.true c.offset-start.ensures
    c.gather-found.ensures c.lay.ensures

pub shape_of-room : goal.shape_of-room
shape_of-room c = c.loop-j.invariant.size ∙ sym c.requires.lent.size

pub returns : goal.returns
returns c = search laws.sorts_end
