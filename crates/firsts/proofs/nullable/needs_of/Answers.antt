-- `needs_of`: the productions before number j are noted, and held where they need only others.
use Rattle.firsts.proofs.NeedsLaws as laws
use Rattle.firsts.proofs.MentionLaws as notes
use Rattle.firsts.proofs.nullable.needs_of.Goals as goal
use Rattle.firsts.proofs.nullable.needs_of.Goals.{then-found, else-found}

pub loop-j-init : goal.loop-j-init
loop-j-init c = (search laws.holding_start, search notes.noting_start)

pub loop-j-preserved : goal.loop-j-preserved
loop-j-preserved c =
    let i = c.loop-j.invariant in (
      elim c.if-found.branch [
        | then-found w ↦
            rw (w.whose-is, w.needs-is, w.k-is)
            (laws.holding_held i.0 c.loop-j-test.true c.byte-owner.ensures c.offset-start.ensures c.note-found.ensures.found_is w.if-found.true)
        | else-found w ↦
            rw (w.whose-is, w.needs-is, w.k-is)
            (laws.holding_other i.0 c.loop-j-test.true c.byte-owner.ensures c.offset-start.ensures c.note-found.ensures.found_is w.if-found.false)
      ],
      notes.noting_next i.1 c.loop-j-test.true c.byte-owner.ensures c.offset-start.ensures c.note-found.ensures,
    )

pub shape_of-whose : goal.shape_of-whose
shape_of-whose c = c.loop-j.invariant.0.whose_many

pub shape_of-needs : goal.shape_of-needs
shape_of-needs c = c.loop-j.invariant.0.needs_many

pub shape_of-kinds : goal.shape_of-kinds
shape_of-kinds c = c.loop-j.invariant.1.kinds_many

pub shape_of-calls : goal.shape_of-calls
shape_of-calls c = c.loop-j.invariant.1.calls_many

pub returns : goal.returns
returns c = record { held = search laws.holding_end; noted = search notes.noting_end }
