-- `front_at`: each way out is a law of what stands at an offset.
use Prim.Native.Nat.{◌+◌, ◌*◌}
use mathlib.Core.Path.{◌≡◌, refl, sym}
use native.Mathlib.Omega.{arith}
use lib.ListN.{get_or}
use Rattle.grammar.proofs.LookupLaws as laws
use Rattle.grammar.proofs.front_at.Goals as goal

pub returns-then-table-at : goal.returns-then-table-at
returns-then-table-at c = sym (laws.front_nothing _ _ c.if-table-at.true)

pub returns-then-left-lt-HEADER : goal.returns-then-left-lt-HEADER
returns-then-left-lt-HEADER c = search laws.front_short

pub returns-then-left-size : goal.returns-then-left-size
returns-then-left-size c = sym (laws.front_cut _ _ c.if-table-at.false (omega (arith, c.from_be_bytes-size.ensures, c.if-left-size.true)))

pub returns : goal.returns
returns c =
    let a = c.args in
    let size : c.from_be_bytes-size.result ≡ get_or a.table.now (a.at + 1) 0 * 256 + get_or a.table.now (a.at + 2) 0
    = omega (arith, c.from_be_bytes-size.ensures) in
    rw size (sym (laws.front_is a.table.now a.at c.if-table-at.false c.if-left-lt-HEADER.false refl refl (omega (arith, c.if-left-size.false))))
