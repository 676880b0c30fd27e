-- `check_call`: 9 before 11, then the signature's result.
use Rattle.std.proofs.lemmas.Result.{err_from_is_err_and}
use Prim.Native.Nat.{◌≤◌}
use mathlib.Core.Path.{◌≡◌, ap}
use lib.ListN.{length, take, drop}
use Rattle.bodies.specs.TemplateBytes.{templates_fault}
use Rattle.bodies.proofs.HeadLaws.{signature_short}
use Rattle.bodies.proofs.BodyLaws as laws
use native.Mathlib.Omega.{arith}
use Rattle.bodies.proofs.items.check_call.Goals as goal

pub returns-then-h-eq0 : goal.returns-then-h-eq0
returns-then-h-eq0 c = search laws.call_undefined

pub returns-then-arguments-signature : goal.returns-then-arguments-signature
returns-then-arguments-signature c = search laws.call_bare

pub open_params-top-requires : goal.open_params-top-requires
open_params-top-requires c =
    let short : length c.signature_at-signature.result.now ≤ 5
    = omega (arith, ap length c.signature_at-signature.ensures, signature_short c.args.table.now c.head_of-h.result) in
    omega (arith, short)

pub returns-in_err-fault_in : goal.returns-in_err-fault_in
returns-in_err-fault_in c =
    let p = err_from_is_err_and c.from_residual.result c.from_residual.ensures.1 in
    let fault : c.fault_in.result ≡ templates_fault c.args.known.outsides (take c.args.known.variables c.args.sorts.now) c.args.arguments.now
    (drop 1 c.signature_at-signature.result.now) = let a = c.args in
    cc (c.fault_in.ensures, c.open_params-top.ensures.loaded) in
    rw (p.1, p.2) (search (laws.call_unfit, fault, c.in_err-fault_in.was))

pub returns : goal.returns
returns c =
    let fault : c.fault_in.result ≡ templates_fault c.args.known.outsides (take c.args.known.variables c.args.sorts.now) c.args.arguments.now
    (drop 1 c.signature_at-signature.result.now) = let a = c.args in
    cc (c.fault_in.ensures, c.open_params-top.ensures.loaded) in
    search (laws.call_fit, fault, c.in_ok-fault_in.was)

pub fault_in-requires : goal.fault_in-requires
fault_in-requires c =
    let short : length c.signature_at-signature.result.now ≤ 5
    = omega (arith, ap length c.signature_at-signature.ensures, signature_short c.args.table.now c.head_of-h.result) in
    omega (arith, c.open_params-top.ensures.small, c.open_params-top.auto.stack)
