-- `symbol_step`: the kind that the room holds for the symbol.
use Prim.Native.Nat.{◌+◌, ◌<◌}
use native.Mathlib.Omega.{arith}
use lib.ListN.{length, get_or}
use Rattle.lexicon.specs.LexiconRoom.{symbols_at}
use Rattle.scanner.proofs.MadeLaws as laws
use Rattle.scanner.proofs.symbol_step.Goals as goal

pub overflow_cast-result : goal.overflow_cast-result
overflow_cast-result c =
    let inside : symbols_at + get_or c.args.formula.now c.args.at 0 < length c.args.room.now = laws.symbol_inside c.requires.0.held _ c.requires.1.symbol in
    omega (arith, inside)

pub overflow_add-result : goal.overflow_add-result
overflow_add-result c =
    let inside : symbols_at + get_or c.args.formula.now c.args.at 0 < length c.args.room.now = laws.symbol_inside c.requires.0.held _ c.requires.1.symbol in
    omega (arith, inside)

pub offset_bounds-room-b : goal.offset_bounds-room-b
offset_bounds-room-b c =
    let inside : symbols_at + get_or c.args.formula.now c.args.at 0 < length c.args.room.now = laws.symbol_inside c.requires.0.held _ c.requires.1.symbol in
    omega (arith, inside)

pub bounds-room-b : goal.bounds-room-b
bounds-room-b c =
    let inside : symbols_at + get_or c.args.formula.now c.args.at 0 < length c.args.room.now = laws.symbol_inside c.requires.0.held _ c.requires.1.symbol in
    inside

pub returns : goal.returns
returns c = laws.symbol_at c.requires.0.held c.requires.1
