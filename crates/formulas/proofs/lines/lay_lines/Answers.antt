-- `lay_lines`: the check, then the lines after it.
use native.Mathlib.Omega.{arith}
use borrow.Author.Rules.{rules}
use Rattle.decoding.proofs.Split.{Bytes}
use Rattle.parser.proofs.Joining.{checked_room}
use Rattle.formulas.proofs.lines.lay_lines.Goals as goal

pub lay_checked-requires : goal.lay_checked-requires
lay_checked-requires c =
    let bytes : Bytes c.args.table.now = λ i. omega (arith, c.type_inv.table i) in
    record { checked_room = checked_room bytes c.check_into-verdict.ensures; from_in_bounds = (c.requires, search rules) }
