-- `exchange`: a slot, if it is there.
use Rattle.scopes.proofs.AroundLaws.{not_exchanged}
use Rattle.scopes.proofs.slots.exchange.Goals as goal

pub returns-else-slot-current : goal.returns-else-slot-current
returns-else-slot-current c = search not_exchanged
