-- `write_decimal`: the digits are written from the last to the first.
use mathlib.Core.Path.{sym}
use native.Mathlib.Omega.{arith}
use Rattle.spellings.specs.Bytes.{decimal}
use Rattle.spellings.proofs.BuffersLaws.{written_not}
use Rattle.spellings.proofs.Writes as writes
use Rattle.spellings.proofs.write_decimal.Goals as goal

pub returns-then-out-size : goal.returns-then-out-size
returns-then-out-size c =
    let at-start = c in
    (c.decimal_size-size.ensures, sym (written_not (decimal at-start.args.n) at-start.args.out.now (omega arith)))

pub loop-at-init : goal.loop-at-init
loop-at-init c =
    let decimal_size_place = c in
    let start = decimal_size_place in
    writes.writing_start start.args.out.now start.args.n _ decimal_size_place.decimal_size-size.ensures c.if-out-size.false

pub loop-at-preserved : goal.loop-at-preserved
loop-at-preserved c = writes.writing_next c.loop-at.invariant c.loop-at-test.true

pub returns : goal.returns
returns c =
    (c.decimal_size-size.ensures, writes.writing_end c.loop-at.invariant c.loop-at-test.false (omega arith))
