-- `root_items`: the root's call stands at the lowest level of a short room; where it pauses it goes on in a longer one.
use Prim.Native.Nat.{ℕ}
use mathlib.Core.List.{List}
use native.Mathlib.Omega.{arith}
use Rattle.steps.specs.Source.{Source}
use Rattle.calls.specs.Lent.{reading}
use Rattle.calls.specs.Calls.{StandsAt, MayStand}
use Rattle.expander.specs.Roots.{root_items, MayBeginRoot}
use Rattle.expander.proofs.CallLaws as laws
use Rattle.expansion.specs.declared.State.{State}
use Rattle.steps.specs.declared.Activation.{Activation}
use Rattle.expander.proofs.root_items.Goals as goal

-- where the root's call stands, a source that is asked for may go on
may_stand : {S : Source} {room memory tokens cells stack frames : List ℕ} {call : Activation} {state : State}
    → MayBeginRoot S room memory tokens stack call state
    → StandsAt S tokens cells frames (record { level = 0; state = state }) (root_items (reading S tokens cells) S call.next state cells)
    → MayStand S room memory tokens cells stack frames (record { level = 0; state = state })
may_stand may standing = record { lent = may.lent; remembers = may.remembers; result = _; standing = standing }

pub save-requires : goal.save-requires
save-requires c =
    let e = c.requires.holds.entered in record {
      level_fits = record { few = omega arith; inside = omega arith };
      storable = record { call_fits = e.call_fits; count_small = omega (arith, e.no_variables); next_small = omega (arith, e.goes_on.inside) };
    }

pub items-progress-requires : goal.items-progress-requires
items-progress-requires c =
    let may = c.requires.holds in
    let standing =
    laws.standing_root may.entered c.args.cells.now (record { few = omega arith; inside = omega (arith, c.save.auto.frames) }) c.save.ensures in
    let stands = may_stand may standing in
    record { patterns = _; holds = record { stands = stands; next_fits = omega (arith, c.save.auto.frames) } }

pub longer_items-requires : goal.longer_items-requires
longer_items-requires c =
    let may = c.requires.holds in
    let standing =
    laws.standing_root may.entered c.args.cells.now (record { few = omega arith; inside = omega (arith, c.save.auto.frames) }) c.save.ensures in
    let stands = may_stand may standing in
    let went = c.items-progress.ensures _ (record { stands = stands; next_fits = omega (arith, c.save.auto.frames) }) in
    record { patterns = _; holds = laws.may_go_on went c.in-Paused.is c.items-progress.auto.cells stands c.items-progress.auto.stack }

pub returns-in-Ended : goal.returns-in-Ended
returns-in-Ended c =
    λ patterns may.
    let standing =
    laws.standing_root may.entered c.args.cells.now (record { few = omega arith; inside = omega (arith, c.save.auto.frames) }) c.save.ensures in
    let stands = may_stand may standing in
    let went = c.items-progress.ensures patterns (record { stands = stands; next_fits = omega (arith, c.save.auto.frames) }) in
    (laws.ends-here went c.in-Ended.is).ends _ standing

pub returns-in-Paused : goal.returns-in-Paused
returns-in-Paused c =
    λ patterns may.
    let standing =
    laws.standing_root may.entered c.args.cells.now (record { few = omega arith; inside = omega (arith, c.save.auto.frames) }) c.save.ensures in
    let stands = may_stand may standing in
    let went = c.items-progress.ensures patterns (record { stands = stands; next_fits = omega (arith, c.save.auto.frames) }) in
    let on = laws.may_go_on went c.in-Paused.is c.items-progress.auto.cells stands c.items-progress.auto.stack in
    (laws.ends_later went c.in-Paused.is c.items-progress.auto.cells (c.longer_items.ensures patterns on)).ends _ standing
