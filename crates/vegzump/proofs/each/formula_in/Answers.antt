-- `formula_in`: the bytes between, as far as the buffer goes.
use Rattle.vegzump.proofs.EachLoop.{formula_cut}
use Rattle.vegzump.proofs.each.formula_in.Goals as goal

pub returns : goal.returns
returns c =
    let args = c.args in
    rw (c.min.ensures, c.min-last.ensures) (formula_cut args.formulas.now args.from args.end)
