-- `read_full`: what a turn reads stands behind what was read before it.
use Rattle.std.proofs.Common.{rules, subst}
use Rattle.std.specs.Io.KnownBytes.{Consumes}
use Rattle.std.proofs.KnownBytes.{Consumes-trans}
use Rattle.rooms.proofs.ReadingLaws.{read_behind}
use Rattle.rooms.proofs.read_full.Goals as goal

pub loop-done-preserved : goal.loop-done-preserved
loop-done-preserved g c =
    let kept = c.loop-done.invariant in
    let behind = read_behind c.loop-done.done c.in-Ok.n c.loop-done.room c.read.new.buf kept.1 c.in-Ok.ensures.bound.0 in
    (search rules, search rules, search rules, subst (Consumes _ _) behind (Consumes-trans _ _ _ _ _ kept.3 c.in-Ok.ensures.bytes.0))
