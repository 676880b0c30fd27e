-- `expand_in`: the parse refuses, or the last step is done on the rows made.
use mathlib.Core.Path.{sym}
use native.Mathlib.Omega.{arith}
use lib.Seq.{length-take-le}
use Rattle.std.proofs.lemmas.Result.{err_from_is_err_and}
use Rattle.decoding.proofs.Split.{Bytes}
use Rattle.handover.proofs.LastStep as last_step
use Rattle.handover.proofs.expand_in.Goals as goal

pub overflow_mul-end : goal.overflow_mul-end
overflow_mul-end c =
    let bytes : Bytes c.args.table.now = λ i. omega (arith, c.type_inv.table i) in
    omega (arith, (last_step.rows_lie _ bytes c.requires.parseable _ c.parse_passed-parsed.ensures c.in_ok-row.was).few)

pub slice_bounds-emit-end : goal.slice_bounds-emit-end
slice_bounds-emit-end c =
    let bytes : Bytes c.args.table.now = λ i. omega (arith, c.type_inv.table i) in
    (last_step.rows_lie _ bytes c.requires.parseable _ c.parse_passed-parsed.ensures c.in_ok-row.was).inside

pub slice_bounds-emit-end-2 : goal.slice_bounds-emit-end-2
slice_bounds-emit-end-2 c =
    let bytes : Bytes c.args.table.now = λ i. omega (arith, c.type_inv.table i) in
    sym (length-take-le _ _ (last_step.rows_lie _ bytes c.requires.parseable _ c.parse_passed-parsed.ensures c.in_ok-row.was).inside)

pub emit-requires : goal.emit-requires
emit-requires c =
    let bytes : Bytes c.args.table.now = λ i. omega (arith, c.type_inv.table i) in
    record {
      emittable = last_step.emittable _ bytes c.requires.parseable _ c.parse_passed-parsed.ensures c.in_ok-row.was;
      writable = c.requires.writable;
    }

pub returns-in_err-row : goal.returns-in_err-row
returns-in_err-row c =
    let bytes : Bytes c.args.table.now = λ i. omega (arith, c.type_inv.table i) in
    let p = err_from_is_err_and c.from_residual.result c.from_residual.ensures.1 in
    rw (p.1, p.2) (last_step.call_refuses _ bytes c.requires.parseable _ c.parse_passed-parsed.ensures _ _ _ c.in_err-row.was)

pub returns : goal.returns
returns c =
    let bytes : Bytes c.args.table.now = λ i. omega (arith, c.type_inv.table i) in
    last_step.emits _ bytes c.requires.parseable _ c.parse_passed-parsed.ensures c.in_ok-row.was c.emit.ensures
