-- `expand_each`: the check, then the expansions after it.
use native.Mathlib.Omega.{arith}
use Rattle.decoding.proofs.Split.{Bytes}
use Rattle.parser.proofs.Joining.{checked_room}
use Rattle.vegzump.proofs.expand_each.Goals as goal

pub expand_all-requires : goal.expand_all-requires
expand_all-requires c =
    let bytes : Bytes c.args.table.now = λ i. omega (arith, c.type_inv.table i) in
    checked_room bytes c.check_into-verdict.ensures
