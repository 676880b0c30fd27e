-- `portions`: the counts, then the check, then the expansion that writes the portions.
use native.Mathlib.Omega.{arith}
use Rattle.decoding.proofs.Split.{Bytes}
use Rattle.parser.proofs.Joining.{checked_room}
use Rattle.vegzump.proofs.PortionsLaws as laws
use Rattle.vegzump.proofs.portions.Goals as goal

pub write_checked-requires : goal.write_checked-requires
write_checked-requires c =
    let bytes : Bytes c.args.table.now = λ i. omega (arith, c.type_inv.table i) in record {
      checked_room = checked_room bytes c.check_into-verdict.ensures;
      writable = laws.portions_writable _ _ c.are_counts-allowed.ensures c.if-allowed.true;
    }

pub returns-then-allowed : goal.returns-then-allowed
returns-then-allowed c = search laws.portions_written

pub returns : goal.returns
returns c = search laws.portions_refused
