-- `with_owner`: a nonterminal is joined or not.
use Rattle.patterns.proofs.TextRoomLaws as laws
use Rattle.patterns.proofs.text_room.with_owner.Goals as goal

pub returns-then-nullable : goal.returns-then-nullable
returns-then-nullable c = search laws.owner_joined
