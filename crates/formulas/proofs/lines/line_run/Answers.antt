-- `line_run`: the first line end ends the run.
use Rattle.std.proofs.Common.{rules, tests, not}
use Rattle.std.proofs.lemmas.Iterator.{YieldsList-from_slice}
use Rattle.std.proofs.lemmas.Iterator.Search.{position_from_yields_List}
use Rattle.spellings.proofs.Loops as loops
use Rattle.formulas.specs.Output.{is_line_byte}
use Rattle.formulas.proofs.lines.line_run.Goals as goal

pub returns : goal.returns
returns c =
    let s = c.args.s.now in
    let place = position_from_yields_List (λ b. not (is_line_byte b)) _ _ c.position.result c.position.ensures.ran (YieldsList-from_slice s c.iter.ensures.rest)
    (λ x b q k. search (rules, tests)) in
    cc (c.unwrap_or.ensures, loops.run_by_position is_line_byte s place)
