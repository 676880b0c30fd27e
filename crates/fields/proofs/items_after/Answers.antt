-- `items_after`: a sum within the room that is left.
use mathlib.Core.Path.{sym}
use native.Mathlib.Omega.{arith}
use lib.Dec.{eqb, lit<}
use Rattle.grammar.specs.Limits.{most}
use Rattle.fields.proofs.Laws as laws
use Rattle.decoding.proofs.Rooms.{room_of}
use Rattle.fields.proofs.items_after.Goals as goal

pub returns-then-tag-eq-ALTERNATIVE_TAG : goal.returns-then-tag-eq-ALTERNATIVE_TAG
returns-then-tag-eq-ALTERNATIVE_TAG c = sym (laws.items_begin _ _ c.if-tag-eq-ALTERNATIVE_TAG.true)

pub overflow_add-result : goal.overflow_add-result
overflow_add-result c =
    let p = c in
    let q = p in
    laws.fitting _ most.items (eqb q.args.tag 6) (room_of _ _ q.requires).items (lit< tt) (omega arith) p.from.ensures

pub returns : goal.returns
returns c = cc (laws.items_more _ _ c.if-tag-eq-ALTERNATIVE_TAG.false)
