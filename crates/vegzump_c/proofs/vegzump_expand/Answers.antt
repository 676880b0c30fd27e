-- `vegzump_expand`: the answer as a reply, beside what was lent.
use Rattle.vegzump_c.proofs.Replying.{beside}
use Rattle.vegzump_c.proofs.vegzump_expand.Goals as goal

pub returns : goal.returns
returns c = beside c.from.ensures c.expand.ensures.text_after
