-- `value_at`: a token of the room, or the end.
use mathlib.Core.Path.{ap}
use lib.Dec.{lit<}
use Rattle.tokens.specs.declared.Token.{Token}
use Rattle.scanner.proofs.RoomLaws as rooms
use Rattle.scanner.proofs.room.value_at.Goals as goal

pub returns-then-at-n : goal.returns-then-at-n
returns-then-at-n c =
    let inside = c.if-at-n.true in
    (ap (λ (t : Token). t.value) (rooms.token_in _ _ _ inside), c.requires.values _ inside)

pub returns-else-at-n : goal.returns-else-at-n
returns-else-at-n c = (ap (λ (t : Token). t.value) (rooms.token_past _ _ _ c.if-at-n.false), lit< tt)
