-- `check_into`: layout, then sorts, then first sets.
use mathlib.Core.Path.{◌≡◌, sym, ap, ◌∙◌}
use mathlib.Core.List.{List}
use Prim.Native.Nat.{ℕ}
use native.Mathlib.Omega.{arith}
use Rattle.std.specs.Prelude.{Some, Ok}
use Rattle.std.proofs.lemmas.Result.{err_from_is_err_and}
use Rattle.answers.specs.Checked.{verdict}
use Rattle.decoding.specs.Layout.{layout}
use Rattle.decoding.proofs.Split.{Bytes}
use Rattle.sorts.specs.ByBytes.{sorts_of}
use Rattle.checker.proofs.CheckLaws as laws
use Rattle.checker.proofs.check_into.Goals as goal

pub returns-in_err-check_layout : goal.returns-in_err-check_layout
returns-in_err-check_layout c =
    let p = err_from_is_err_and c.from_residual.result c.from_residual.ensures.1 in
    rw (p.1, p.2) (laws.into_layout _ _ (sym c.check_layout.ensures ∙ c.in_err-check_layout.was) _)

pub unwrap-requires : goal.unwrap-requires
unwrap-requires c =
    let bs : List ℕ = c.args.table.now in
    let bytes : Bytes bs = λ i. omega (arith, c.type_inv.table i) in
    let laid : verdict (layout bs) ≡ Ok tt = sym c.check_layout.ensures ∙ c.in_ok-check_layout.was in
    laws.no_text bs bytes laid c.check_sorts.ensures

pub returns-in_err-unwrap : goal.returns-in_err-unwrap
returns-in_err-unwrap c =
    let bs : List ℕ = c.args.table.now in
    let bytes : Bytes bs = λ i. omega (arith, c.type_inv.table i) in
    let laid : verdict (layout bs) ≡ Ok tt = sym c.check_layout.ensures ∙ c.in_ok-check_layout.was in
    let judged : sorts_of bs ≡ Some c.unwrap.result = sym c.check_sorts.ensures ∙ c.unwrap.ensures in
    let p = err_from_is_err_and c.from_residual-in_err-unwrap.result c.from_residual-in_err-unwrap.ensures.1 in
    rw (p.1, p.2) (laws.into_sorts bs bytes laid _ (judged ∙ ap Some c.in_err-unwrap.was) _)

pub build_index-m-requires : goal.build_index-m-requires
build_index-m-requires c =
    let bs : List ℕ = c.args.table.now in
    let bytes : Bytes bs = λ i. omega (arith, c.type_inv.table i) in
    let laid : verdict (layout bs) ≡ Ok tt = sym c.check_layout.ensures ∙ c.in_ok-check_layout.was in
    laws.few bs bytes laid

pub check_firsts-requires : goal.check_firsts-requires
check_firsts-requires c =
    let bs : List ℕ = c.args.table.now in
    let bytes : Bytes bs = λ i. omega (arith, c.type_inv.table i) in
    let laid : verdict (layout bs) ≡ Ok tt = sym c.check_layout.ensures ∙ c.in_ok-check_layout.was in
    laws.whole_index bs bytes laid c.build_index-m.ensures.index

pub returns : goal.returns
returns c =
    let bs : List ℕ = c.args.table.now in
    let bytes : Bytes bs = λ i. omega (arith, c.type_inv.table i) in
    let laid : verdict (layout bs) ≡ Ok tt = sym c.check_layout.ensures ∙ c.in_ok-check_layout.was in
    let judged : sorts_of bs ≡ Some c.unwrap.result = sym c.check_sorts.ensures ∙ c.unwrap.ensures in
    let sorted : sorts_of bs ≡ Some (Ok tt) = judged ∙ ap Some c.in_ok-unwrap.was in
    laws.into_firsts bs bytes laid sorted c.build_index-m.ensures.index c.check_firsts.ensures
