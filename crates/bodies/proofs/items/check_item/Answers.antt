-- `check_item`: by the item's kind.
use mathlib.Core.Path.{ap}
use lib.ListN.{length, drop, length-take}
use Rattle.bodies.proofs.BodyLaws as laws
use native.Mathlib.Omega.{arith}
use Rattle.bodies.proofs.items.check_item.Goals as goal

pub returns-then-operand-known : goal.returns-then-operand-known
returns-then-operand-known c = search laws.item_keyword

pub check_call-requires : goal.check_call-requires
check_call-requires c =
    omega (arith, ap length c.part.ensures, length-take (length c.args.v.now) (drop 2 c.args.v.now))

pub returns-else-operand-known : goal.returns-else-operand-known
returns-else-operand-known c = search laws.item_unknown

pub returns-in-1 : goal.returns-in-1
returns-in-1 c = search laws.item_ide

pub returns-in-3 : goal.returns-in-3
returns-in-3 c = search laws.item_local

pub returns-in-4 : goal.returns-in-4
returns-in-4 c = cc (laws.item_call _ _ _ _ _ c.byte-kind.ensures c.byte-operand.ensures c.in-4.is
    c.part.ensures)

pub returns-in-5 : goal.returns-in-5
returns-in-5 c = search laws.item_place

pub returns-in_default : goal.returns-in_default
returns-in_default c = search laws.item_other
