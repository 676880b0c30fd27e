-- `decimal_size`: the digits dropped so far are counted.
use Rattle.spellings.proofs.Writes as writes
use Rattle.spellings.proofs.decimal_size.Goals as goal

pub loop-rest-init : goal.loop-rest-init
loop-rest-init c = writes.sizing_start c.args.n

pub loop-rest-preserved : goal.loop-rest-preserved
loop-rest-preserved c = writes.sizing_next c.loop-rest.invariant c.loop-rest-test.true

pub returns : goal.returns
returns c = writes.sizing_end c.loop-rest.invariant c.loop-rest-test.false
