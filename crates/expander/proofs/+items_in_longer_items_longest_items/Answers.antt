-- `items_in`, `longer_items` and `longest_items`: where a room is too short the calls go on in a longer one, until they end. The longer the room, the
-- less is left of the longest.
use native.Mathlib.Omega.{arith}
use borrow.Author.Tests.{ltb-true}
use Rattle.expander.proofs.CallLaws as laws
use Rattle.expander.proofs.+items_in_longer_items_longest_items.Goals as goal

pub items_in-items-progress-requires : goal.items_in-items-progress-requires
items_in-items-progress-requires t c = c.requires

pub items_in-longer_items-requires : goal.items_in-longer_items-requires
items_in-longer_items-requires t c =
    let may = c.requires.holds in (
      omega (arith, c.decreases, c.items-progress.auto.frames),
      record {
        patterns = _;
        holds = laws.may_go_on (c.items-progress.ensures _ may) c.in-Paused.is c.items-progress.auto.cells may.stands c.items-progress.auto.stack;
      },
    )

pub items_in-returns-in-Ended : goal.items_in-returns-in-Ended
items_in-returns-in-Ended t c =
    λ patterns may. laws.ends-here (c.items-progress.ensures patterns may) c.in-Ended.is

pub items_in-returns-in-Paused : goal.items_in-returns-in-Paused
items_in-returns-in-Paused t c =
    let paused = c.in-Paused.is in
    λ patterns may.
    let went = c.items-progress.ensures patterns may in
    laws.ends_later went paused c.items-progress.auto.cells
    (c.longer_items.ensures patterns (laws.may_go_on went paused c.items-progress.auto.cells may.stands c.items-progress.auto.stack))

pub longer_items-copy-requires : goal.longer_items-copy-requires
longer_items-copy-requires t c = omega (arith, ltb-true)

pub longer_items-items_in-requires : goal.longer_items-items_in-requires
longer_items-items_in-requires t c =
    let copied : laws.Copied c.args.short.now c.copy.new.frames =
    record { old = _; front = c.copy.ensures; many = 64; long = c.copy.auto.frames; less = c.if-short-lt-MIDDLE_FRAMES.true } in
    (omega (arith, c.decreases, copied.long, copied.less), record { patterns = _; holds = laws.may_go c.requires.holds copied })

pub longer_items-returns-then-short-lt-MIDDLE_FRAMES : goal.longer_items-returns-then-short-lt-MIDDLE_FRAMES
longer_items-returns-then-short-lt-MIDDLE_FRAMES t c =
    let copied : laws.Copied c.args.short.now c.copy.new.frames =
    record { old = _; front = c.copy.ensures; many = 64; long = c.copy.auto.frames; less = c.if-short-lt-MIDDLE_FRAMES.true } in
    λ patterns may. laws.ends_copied copied (c.items_in.ensures patterns (laws.may_go may copied))

pub longer_items-longest_items-requires : goal.longer_items-longest_items-requires
longer_items-longest_items-requires t c = (omega (arith, c.decreases), c.requires)

pub longer_items-returns : goal.longer_items-returns
longer_items-returns t c = c.longest_items.ensures

pub longest_items-copy-requires : goal.longest_items-copy-requires
longest_items-copy-requires t c = omega (arith, ltb-true)

pub longest_items-items_in-requires : goal.longest_items-items_in-requires
longest_items-items_in-requires t c =
    let copied : laws.Copied c.args.short.now c.copy.new.frames =
    record { old = _; front = c.copy.ensures; many = 256; long = c.copy.auto.frames; less = c.if-short-lt-LONG_FRAMES.true } in
    (omega (arith, c.decreases, copied.long, copied.less), record { patterns = _; holds = laws.may_go c.requires.holds copied })

pub longest_items-returns-then-short-lt-LONG_FRAMES : goal.longest_items-returns-then-short-lt-LONG_FRAMES
longest_items-returns-then-short-lt-LONG_FRAMES t c =
    let copied : laws.Copied c.args.short.now c.copy.new.frames =
    record { old = _; front = c.copy.ensures; many = 256; long = c.copy.auto.frames; less = c.if-short-lt-LONG_FRAMES.true } in
    λ patterns may. laws.ends_copied copied (c.items_in.ensures patterns (laws.may_go may copied))

pub longest_items-items_in-requires-2 : goal.longest_items-items_in-requires-2
longest_items-items_in-requires-2 t c =
    let copied : laws.Copied c.args.short.now c.copy-2.new.frames =
    record { old = _; front = c.copy-2.ensures; many = 1025; long = c.copy-2.auto.frames; less = c.requires.holds.frames_short } in
    (omega (arith, c.decreases, copied.long, copied.less), record { patterns = _; holds = laws.may_go c.requires.holds copied })

pub longest_items-returns : goal.longest_items-returns
longest_items-returns t c =
    let copied : laws.Copied c.args.short.now c.copy-2.new.frames =
    record { old = _; front = c.copy-2.ensures; many = 1025; long = c.copy-2.auto.frames; less = c.requires.holds.frames_short } in
    λ patterns may. laws.ends_copied copied (c.items_in-2.ensures patterns (laws.may_go may copied))
