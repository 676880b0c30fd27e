-- `check_firsts`: left recursion is refused before a clash.
use mathlib.Core.Path.{◌∙◌}
use Rattle.clashes.specs.CheckCalls.{BoundIndex}
use Rattle.clashes.proofs.CheckLaws as laws
use Rattle.clashes.proofs.prepared.check_firsts.Goals as goal

pub bound-many-requires : goal.bound-many-requires
bound-many-requires c = laws.owners_small c.requires

pub check_clash-requires : goal.check_clash-requires
check_clash-requires c =
    let index : BoundIndex c.bound-many.result c.args.table.now c.args.m c.args.owners.now c.args.starts.now
    = record { index = c.requires; owned = c.bound-many.ensures } in
    laws.places_below index c.prepare-found.ensures

pub check_sorts-requires : goal.check_sorts-requires
check_sorts-requires c =
    let index : BoundIndex c.bound-many.result c.args.table.now c.args.m c.args.owners.now c.args.starts.now
    = record { index = c.requires; owned = c.bound-many.ensures } in
    record { index = index; kinds_below = laws.places_below index c.prepare-found.ensures }

pub returns-then-found-many : goal.returns-then-found-many
returns-then-found-many c =
    let index : BoundIndex c.bound-many.result c.args.table.now c.args.m c.args.owners.now c.args.starts.now
    = record { index = c.requires; owned = c.bound-many.ensures } in
    record {
      answer = laws.check_recursive index c.prepare-found.ensures c.if-found-many.true c.refuse.ensures;
      held = c.prepare-found.ensures.held;
    }

pub returns-then-found-eq0 : goal.returns-then-found-eq0
returns-then-found-eq0 c =
    let index : BoundIndex c.bound-many.result c.args.table.now c.args.m c.args.owners.now c.args.starts.now
    = record { index = c.requires; owned = c.bound-many.ensures } in
    record {
      answer = c.check_clash.ensures ∙ laws.check_clashes index c.prepare-found.ensures c.if-found-many.false c.if-found-eq0.true;
      held = c.prepare-found.ensures.held;
    }

pub returns-else-found-eq0 : goal.returns-else-found-eq0
returns-else-found-eq0 c =
    let index : BoundIndex c.bound-many.result c.args.table.now c.args.m c.args.owners.now c.args.starts.now
    = record { index = c.requires; owned = c.bound-many.ensures } in
    record {
      answer = c.check_sorts.ensures ∙ laws.check_both index c.prepare-found.ensures c.if-found-many.false;
      held = c.prepare-found.ensures.held;
    }
