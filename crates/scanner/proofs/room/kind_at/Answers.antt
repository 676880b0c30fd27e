-- `kind_at`: a token of the room, or the end.
use mathlib.Core.Path.{ap}
use Rattle.tokens.specs.declared.Token.{Token}
use Rattle.scanner.proofs.RoomLaws as rooms
use Rattle.scanner.proofs.room.kind_at.Goals as goal

pub returns-then-at-n : goal.returns-then-at-n
returns-then-at-n c = ap (λ (t : Token). t.kind) (rooms.token_in _ _ _ c.if-at-n.true)

pub returns-else-at-n : goal.returns-else-at-n
returns-else-at-n c = ap (λ (t : Token). t.kind) (rooms.token_past _ _ _ c.if-at-n.false)
