-- `further`: sums within the room that is left.
use Prim.Native.Nat.{◌+◌}
use native.Mathlib.Omega.{arith}
use lib.Dec.{eqb, lit<}
use Rattle.grammar.specs.Limits.{most}
use Rattle.decoding.specs.Layout.{passed}
use Rattle.fields.proofs.Laws as laws
use Rattle.decoding.proofs.Rooms.{room_of}
use Rattle.fields.proofs.further.Goals as goal

pub overflow_add-result : goal.overflow_add-result
overflow_add-result c =
    let p = c in
    let q = p in
    laws.fitting _ most.keywords (eqb q.args.tag 1) (room_of _ _ q.requires).keywords (lit< tt) (omega arith) p.from.ensures

pub overflow_add-result-2 : goal.overflow_add-result-2
overflow_add-result-2 c =
    let p = c in
    laws.fitting _ most.outsides (eqb p.args.tag 2) (room_of _ _ p.requires).outsides (lit< tt)
    (omega arith) p.from-2.ensures

pub overflow_add-result-3 : goal.overflow_add-result-3
overflow_add-result-3 c =
    let p = c in
    laws.fitting _ most.blocks (eqb p.args.tag 3) (room_of _ _ p.requires).blocks
    (lit< tt) (omega arith) p.from-3.ensures

pub overflow_add-result-4 : goal.overflow_add-result-4
overflow_add-result-4 c =
    let p = c in
    laws.fitting _ most.alternatives (eqb p.args.tag 5)
    (room_of _ _ p.requires).alternatives (lit< tt) (omega arith) p.from-4.ensures

pub returns : goal.returns
unfolding passed
returns c =
    let p = c in
    let a = p.args in
    λ i.
    record {
      last = a.tag;
      keywords = a.s.keywords + p.from.ensures i;
      outsides = a.s.outsides + p.from-2.ensures i;
      blocks = a.s.blocks + p.from-3.ensures i;
      alternatives = a.s.alternatives + p.from-4.ensures i;
      items = c.items_after.ensures i;
    }
