-- `parse_passed`: the scan refuses, or the tokens are run.
use mathlib.Core.Path.{sym}
use lib.Seq.{length-take-le}
use native.Mathlib.Omega.{arith}
use Rattle.decoding.proofs.Split.{Bytes}
use Rattle.parser.proofs.Joining as joining
use Rattle.parser.proofs.Cutting.{cut_fits}
use Rattle.parser.proofs.parse_passed.Goals as goal

pub scan-scanned-requires : goal.scan-scanned-requires
scan-scanned-requires c =
    let pre = c.requires in
    record { short = omega (arith, pre.checked.ready.held.grammar.small); few = omega arith; room = pre.rooms }

pub overflow_mul-end : goal.overflow_mul-end
overflow_mul-end c =
    let bytes : Bytes c.args.table.now = λ i. omega (arith, c.type_inv.table i) in
    omega (arith, (joining.parsed_fit bytes c.requires c.reached.ensures c.scan-scanned.ensures.fills c.in-Ok.is).few)

pub slice_bounds-run_tokens-end : goal.slice_bounds-run_tokens-end
slice_bounds-run_tokens-end c =
    let bytes : Bytes c.args.table.now = λ i. omega (arith, c.type_inv.table i) in
    omega (arith, (joining.parsed_fit bytes c.requires c.reached.ensures c.scan-scanned.ensures.fills c.in-Ok.is).long)

pub slice_bounds-run_tokens-end-in-Ok : goal.slice_bounds-run_tokens-end-in-Ok
slice_bounds-run_tokens-end-in-Ok c =
    let bytes : Bytes c.args.table.now = λ i. omega (arith, c.type_inv.table i) in
    sym (length-take-le _ _ (joining.parsed_fit bytes c.requires c.reached.ensures c.scan-scanned.ensures.fills c.in-Ok.is).long)

pub run_tokens-outcome-requires : goal.run_tokens-outcome-requires
run_tokens-outcome-requires c =
    let bytes : Bytes c.args.table.now = λ i. omega (arith, c.type_inv.table i) in
    let fits = joining.parsed_fit bytes c.requires c.reached.ensures c.scan-scanned.ensures.fills c.in-Ok.is in
    record { ready = c.requires.checked.ready; tokens_fit = cut_fits fits }

pub returns-in-Err : goal.returns-in-Err
returns-in-Err c P =
    let bytes : Bytes c.args.table.now = λ i. omega (arith, c.type_inv.table i) in
    joining.stops_whole bytes P c.requires.checked.ready.held.grammar c.reached.ensures _ _ _
    c.scan-scanned.ensures.fills _ c.in-Err.is c.halted.ensures

pub returns-in-Ok : goal.returns-in-Ok
returns-in-Ok c P =
    let bytes : Bytes c.args.table.now = λ i. omega (arith, c.type_inv.table i) in
    joining.runs_whole bytes P c.requires.checked.ready.held.grammar c.reached.ensures _ _ _ c.scan-scanned.ensures.fills
    c.requires.rooms c.in-Ok.is _ c.run_tokens-outcome.ensures
