-- `scan_loop`: what is left of the formula gives what the whole gives.
use native.Mathlib.Omega.{arith}
use Rattle.scanner.proofs.ScanLoop as loop
use Rattle.scanner.proofs.ScanningLaws as laws
use Rattle.scanner.proofs.scan_loop.Goals as goal

pub loop-at-init : goal.loop-at-init
loop-at-init c = search laws.scanning_start

pub step_at-made-requires : goal.step_at-made-requires
step_at-made-requires c =
    let inv = c.loop-at.invariant in record { ready = inv.ready; at_in_bounds = (c.loop-at-test.true, inv.short) }

pub loop-at-preserved-in-Skip : goal.loop-at-preserved-in-Skip
loop-at-preserved-in-Skip c =
    let inv = c.loop-at.invariant in
    laws.scanning_skip inv c.loop-at-test.true c.step_at-made.ensures c.in-Skip.is

pub shape_of-tokens-in-Stop : goal.shape_of-tokens-in-Stop
shape_of-tokens-in-Stop c =
    c.loop-at.invariant.tokens_same

pub shape_of-words-in-Stop : goal.shape_of-words-in-Stop
shape_of-words-in-Stop c =
    c.loop-at.invariant.words_same

pub shape_of-links-in-Stop : goal.shape_of-links-in-Stop
shape_of-links-in-Stop c =
    c.loop-at.invariant.links_same

pub returns-in-Stop : goal.returns-in-Stop
returns-in-Stop c =
    let inv = c.loop-at.invariant in
    let more = c.loop-at-test.true in
    loop.turn_stop inv.turn more (laws.stop_eq inv more c.step_at-made.ensures c.in-Stop.is) c.bad_lexeme.ensures

pub shape_of-tokens-then-n-eq-MOST_TOKENS : goal.shape_of-tokens-then-n-eq-MOST_TOKENS
shape_of-tokens-then-n-eq-MOST_TOKENS c =
    c.loop-at.invariant.tokens_same

pub shape_of-words-then-n-eq-MOST_TOKENS : goal.shape_of-words-then-n-eq-MOST_TOKENS
shape_of-words-then-n-eq-MOST_TOKENS c =
    c.loop-at.invariant.words_same

pub shape_of-links-then-n-eq-MOST_TOKENS : goal.shape_of-links-then-n-eq-MOST_TOKENS
shape_of-links-then-n-eq-MOST_TOKENS c =
    c.loop-at.invariant.links_same

pub returns-then-n-eq-MOST_TOKENS : goal.returns-then-n-eq-MOST_TOKENS
returns-then-n-eq-MOST_TOKENS c =
    let inv = c.loop-at.invariant in
    let more = c.loop-at-test.true in
    let step = c.step_at-made.ensures in
    let emits = c.in-Emit.is in
    loop.turn_full inv.turn more (laws.emit_eq inv more step emits) c.if-n-eq-MOST_TOKENS.true c.unscanned.ensures

pub store_token-requires : goal.store_token-requires
store_token-requires c =
    let inv = c.loop-at.invariant in
    let more = c.loop-at-test.true in
    let step = c.step_at-made.ensures in
    let emits = c.in-Emit.is in
    laws.row_inside inv more step emits c.if-n-eq-MOST_TOKENS.false

pub store_word-count-requires : goal.store_word-count-requires
store_word-count-requires c =
    let inv = c.loop-at.invariant in
    let more = c.loop-at-test.true in
    let step = c.step_at-made.ensures in
    let emits = c.in-Emit.is in
    let below = c.if-n-eq-MOST_TOKENS.false in (
      laws.spot_agrees inv more step emits,
      laws.spot_linkable inv more step emits,
      laws.place_inside inv more step emits below,
      laws.few_inside inv more step emits below,
    )

pub overflow_add-n : goal.overflow_add-n
overflow_add-n c =
    let inv = c.loop-at.invariant in
    omega (arith, inv.turn.small)

pub overflow_add-at-in-Emit : goal.overflow_add-at-in-Emit
overflow_add-at-in-Emit c =
    let inv = c.loop-at.invariant in
    let more = c.loop-at-test.true in
    let step = c.step_at-made.ensures in
    let emits = c.in-Emit.is in
    omega (arith, laws.token_inside inv more step emits, inv.short)

pub loop-at-smaller : goal.loop-at-smaller
loop-at-smaller c =
    let inv = c.loop-at.invariant in
    let more = c.loop-at-test.true in
    let step = c.step_at-made.ensures in
    let emits = c.in-Emit.is in
    loop.turn_less inv.turn more (laws.emit_eq inv more step emits)

pub shape_of-tokens : goal.shape_of-tokens
shape_of-tokens c = c.loop-at.invariant.tokens_same

pub shape_of-words : goal.shape_of-words
shape_of-words c = c.loop-at.invariant.words_same

pub shape_of-links : goal.shape_of-links
shape_of-links c = c.loop-at.invariant.links_same

pub returns : goal.returns
returns c = search loop.turn_end

pub loop-at-preserved : goal.loop-at-preserved
loop-at-preserved c =
    let after = c.store_word-count.ensures in
    laws.scanning_emit c.loop-at.invariant c.loop-at-test.true c.step_at-made.ensures c.in-Emit.is c.if-n-eq-MOST_TOKENS.false
    c.store_token.ensures after.words_after after.links_after after.value
