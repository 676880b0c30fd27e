-- `store`: four numbers copied to their places.
use Rattle.vegzump.proofs.EachLoop.{numbers_stored}
use Rattle.vegzump.proofs.each.store.Goals as goal

pub returns : goal.returns
returns c = numbers_stored c.args.answers.now c.args.at c.args.answer c.requires cc
