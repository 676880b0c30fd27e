-- `text_length`: a pass is made where the numbers add up to 0, so that no name is new.
use Rattle.measuring.proofs.OwnLaws as laws
use Rattle.measuring.proofs.by_rows.text_length.Goals as goal

pub length_in_room-requires-clause-unnumbered : goal.length_in_room-requires-clause-unnumbered
length_in_room-requires-clause-unnumbered c = laws.none-new c.args.shown.now c.numbers_sum.ensures c.if-numbers_sum-gt0.false

pub length_in_room-requires-2-clause-unnumbered : goal.length_in_room-requires-2-clause-unnumbered
length_in_room-requires-2-clause-unnumbered c = laws.none-new c.args.shown.now c.numbers_sum.ensures c.if-numbers_sum-gt0.false
