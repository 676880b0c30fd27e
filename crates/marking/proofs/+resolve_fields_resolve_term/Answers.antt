-- `resolve_term` and `resolve_fields`: the code of a row decides. A function is entered, its body walked, and the function c.
use mathlib.Core.Path.{refl, ◌∙◌}
use native.Mathlib.Omega.{arith}
use Rattle.marking.proofs.WalkLaws as laws
use Rattle.marking.proofs.+resolve_fields_resolve_term.Goals as goal

-- ------------------------------------------------------------------ a field list

pub resolve_fields-overflow_add-place : goal.resolve_fields-overflow_add-place
resolve_fields-overflow_add-place measure c = omega (arith, laws.fields_fit _ _ _ _ c.requires)

pub resolve_fields-returns-then-bound-eq0 : goal.resolve_fields-returns-then-bound-eq0
resolve_fields-returns-then-bound-eq0 measure c = laws.bare_walks c.put.ensures (laws.shallow_fields_marked _ _ _ _ _ c.if-bound-eq0.true)

pub resolve_fields-overflow_sub-deep : goal.resolve_fields-overflow_sub-deep
resolve_fields-overflow_sub-deep measure c = omega (arith, c.if-bound-eq0.false)

pub resolve_fields-returns-then-code-eq-FIELD_CONS : goal.resolve_fields-returns-then-code-eq-FIELD_CONS
resolve_fields-returns-then-code-eq-FIELD_CONS measure c =
    let read : laws.RowRead c.args.cells.now.now c.args.bound c.args.row c.column-code.result =
    record { some = c.if-bound-eq0.false; at = c.column-code.ensures } in
    let walk = c.resolve_term-first.ensures in
    let marked = laws.cons_marked read _ _ c.if-code-eq-FIELD_CONS.true c.column-part.ensures
    c.column-next.ensures walk.moved walk.kept in
    laws.both_walk c.put.ensures marked walk c.resolve_fields-rest.ensures c.join.ensures

pub resolve_fields-returns : goal.resolve_fields-returns
resolve_fields-returns measure c =
    let read : laws.RowRead c.args.cells.now.now c.args.bound c.args.row c.column-code.result =
    record { some = c.if-bound-eq0.false; at = c.column-code.ensures } in
    laws.bare_walks c.put.ensures (laws.nil_marked read _ _ c.if-code-eq-FIELD_CONS.false)

-- ------------------------------------------------------------------ a term

pub resolve_term-overflow_add-place : goal.resolve_term-overflow_add-place
resolve_term-overflow_add-place measure c = omega (arith, laws.term_fits _ _ _ _ c.requires)

pub resolve_term-returns-then-bound-eq0 : goal.resolve_term-returns-then-bound-eq0
resolve_term-returns-then-bound-eq0 measure c = laws.bare_walks c.put.ensures (laws.shallow_marked _ _ _ _ _ c.if-bound-eq0.true)

pub resolve_term-overflow_sub-deep : goal.resolve_term-overflow_sub-deep
resolve_term-overflow_sub-deep measure c = omega (arith, c.if-bound-eq0.false)

-- a variable

pub resolve_term-put-requires-in-32 : goal.resolve_term-put-requires-in-32
resolve_term-put-requires-in-32 measure c =
    laws.fits_as c.put.ensures.1 (laws.term_fits _ _ _ _ c.requires)

pub resolve_term-returns-in-32 : goal.resolve_term-returns-in-32
resolve_term-returns-in-32 measure c =
    let read : laws.RowRead c.args.cells.now.now c.args.bound c.args.row c.column-code.result =
    record { some = c.if-bound-eq0.false; at = c.column-code.ensures } in
    laws.variable_walks c.put.ensures c.args.cells.now.now _
    (laws.var_marked read _ _ c.in-32.is c.column-x.ensures)
    c.variable_mark-m.ensures c.held_by.ensures c.put-in-32.ensures

-- a function

pub resolve_term-resolve_term-held-requires : goal.resolve_term-resolve_term-held-requires
resolve_term-resolve_term-held-requires measure c =
    let read : laws.RowRead c.args.cells.now.now c.args.bound c.args.row c.column-code.result =
    record { some = c.if-bound-eq0.false; at = c.column-code.ensures } in (
      omega arith,
      laws.body_fits c.put.ensures _
          (laws.fun_marked read _ _ c.in-33.is c.column-x.ensures c.column-body.ensures c.enter-scope.ensures.stored)
          c.requires,
    )

pub resolve_term-put-requires-in-33 : goal.resolve_term-put-requires-in-33
resolve_term-put-requires-in-33 measure c =
    laws.fits_as (laws.walks_long c.resolve_term-held.ensures ∙ c.put.ensures.1)
    (laws.term_fits _ _ _ _ c.requires)

pub resolve_term-returns-in-33 : goal.resolve_term-returns-in-33
resolve_term-returns-in-33 measure c =
    let read : laws.RowRead c.args.cells.now.now c.args.bound c.args.row c.column-code.result =
    record { some = c.if-bound-eq0.false; at = c.column-code.ensures } in
    let marked = laws.fun_marked read _ _ c.in-33.is c.column-x.ensures
    c.column-body.ensures c.enter-scope.ensures.stored in
    laws.function_walks c.put.ensures _ marked c.enter-scope.ensures c.resolve_term-held.ensures c.leave.ensures
    c.binder_mark.ensures c.put-in-33.ensures

-- an application

pub resolve_term-resolve_term-first-requires : goal.resolve_term-resolve_term-first-requires
resolve_term-resolve_term-first-requires measure c =
    let read : laws.RowRead c.args.cells.now.now c.args.bound c.args.row c.column-code.result =
    record { some = c.if-bound-eq0.false; at = c.column-code.ensures } in (
      omega arith,
      laws.first_fits c.put.ensures _
          (laws.app_marked read _ _ c.in-34.is c.column-x.ensures refl refl refl)
          c.requires,
    )

pub resolve_term-returns-in-34 : goal.resolve_term-returns-in-34
resolve_term-returns-in-34 measure c =
    let read : laws.RowRead c.args.cells.now.now c.args.bound c.args.row c.column-code.result =
    record { some = c.if-bound-eq0.false; at = c.column-code.ensures } in
    let walk = c.resolve_term-first.ensures in
    let marked = laws.app_marked read _ _ c.in-34.is c.column-x.ensures c.column-next.ensures
    walk.moved walk.kept in
    laws.both_walk c.put.ensures marked walk c.resolve_term-second.ensures c.join.ensures

-- a record

pub resolve_term-resolve_fields-requires : goal.resolve_term-resolve_fields-requires
resolve_term-resolve_fields-requires measure c =
    let read : laws.RowRead c.args.cells.now.now c.args.bound c.args.row c.column-code.result =
    record { some = c.if-bound-eq0.false; at = c.column-code.ensures } in (
      omega arith,
      laws.over_fits c.put.ensures
          (laws.rcd_marked read _ _ c.in-35.is c.column-x.ensures)
          c.requires,
    )

pub resolve_term-returns-in-35 : goal.resolve_term-returns-in-35
resolve_term-returns-in-35 measure c =
    let read : laws.RowRead c.args.cells.now.now c.args.bound c.args.row c.column-code.result =
    record { some = c.if-bound-eq0.false; at = c.column-code.ensures } in
    laws.over_walks c.put.ensures (laws.rcd_marked read _ _ c.in-35.is c.column-x.ensures)
    c.resolve_fields.ensures

-- a selection

pub resolve_term-resolve_term-requires : goal.resolve_term-resolve_term-requires
resolve_term-resolve_term-requires measure c =
    let read : laws.RowRead c.args.cells.now.now c.args.bound c.args.row c.column-code.result =
    record { some = c.if-bound-eq0.false; at = c.column-code.ensures } in (
      omega arith,
      laws.over_fits c.put.ensures
          (laws.dot_marked read _ _ c.in-36.is c.column-x.ensures)
          c.requires,
    )

pub resolve_term-returns-in-36 : goal.resolve_term-returns-in-36
resolve_term-returns-in-36 measure c =
    let read : laws.RowRead c.args.cells.now.now c.args.bound c.args.row c.column-code.result =
    record { some = c.if-bound-eq0.false; at = c.column-code.ensures } in
    laws.over_walks c.put.ensures (laws.dot_marked read _ _ c.in-36.is c.column-x.ensures)
    c.resolve_term.ensures

-- any other

pub resolve_term-returns-in_default : goal.resolve_term-returns-in_default
resolve_term-returns-in_default measure c =
    let read : laws.RowRead c.args.cells.now.now c.args.bound c.args.row c.column-code.result =
    record { some = c.if-bound-eq0.false; at = c.column-code.ensures } in
    laws.bare_walks c.put.ensures (laws.num_marked read _ _ c.in_default.in_default-own.rest)

pub resolve_fields-put-requires : goal.resolve_fields-put-requires
resolve_fields-put-requires measure c = laws.fields_fit _ _ _ _ c.requires

pub resolve_fields-resolve_term-first-requires : goal.resolve_fields-resolve_term-first-requires
resolve_fields-resolve_term-first-requires measure c =
    let read : laws.RowRead c.args.cells.now.now c.args.bound c.args.row c.column-code.result =
    record { some = c.if-bound-eq0.false; at = c.column-code.ensures } in (
      omega arith,
      laws.first_fits c.put.ensures _
          (laws.cons_marked read _ _ c.if-code-eq-FIELD_CONS.true c.column-part.ensures refl refl refl)
          c.requires,
    )

pub resolve_fields-resolve_fields-rest-requires : goal.resolve_fields-resolve_fields-rest-requires
resolve_fields-resolve_fields-rest-requires measure c =
    let read : laws.RowRead c.args.cells.now.now c.args.bound c.args.row c.column-code.result =
    record { some = c.if-bound-eq0.false; at = c.column-code.ensures } in
    let walk = c.resolve_term-first.ensures in (
      omega arith,
      laws.second_fits c.put.ensures
          (laws.cons_marked read _ _ c.if-code-eq-FIELD_CONS.true c.column-part.ensures
          c.column-next.ensures walk.moved walk.kept)
          walk c.requires,
    )

pub resolve_term-put-requires : goal.resolve_term-put-requires
resolve_term-put-requires measure c = laws.term_fits _ _ _ _ c.requires

pub resolve_term-variable_mark-m-requires : goal.resolve_term-variable_mark-m-requires
resolve_term-variable_mark-m-requires measure c = c.requires.linked

pub resolve_term-enter-scope-requires : goal.resolve_term-enter-scope-requires
resolve_term-enter-scope-requires measure c =
    let fits = laws.term_fits _ _ _ _ c.requires in
    (c.requires.linked, omega (arith, fits.0, fits.1))

pub resolve_term-resolve_term-second-requires : goal.resolve_term-resolve_term-second-requires
resolve_term-resolve_term-second-requires measure c =
    let read : laws.RowRead c.args.cells.now.now c.args.bound c.args.row c.column-code.result =
    record { some = c.if-bound-eq0.false; at = c.column-code.ensures } in
    let walk = c.resolve_term-first.ensures in (
      omega arith,
      laws.second_fits c.put.ensures
          (laws.app_marked read _ _ c.in-34.is c.column-x.ensures
          c.column-next.ensures walk.moved walk.kept)
          walk c.requires,
    )
