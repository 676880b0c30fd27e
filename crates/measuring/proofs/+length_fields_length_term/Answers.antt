-- `length_term` and `length_fields`: a constructor's own bytes and those of its parts. The depth bound falls from a constructor to its parts.
use mathlib.Core.Logic.{inl, inr}
use native.Mathlib.Omega.{arith}
use Rattle.measuring.proofs.LengthLaws as laws
use Rattle.measuring.proofs.+length_fields_length_term.Goals as goal

pub length_fields-length_term-term-requires : goal.length_fields-length_term-term-requires
length_fields-length_term-term-requires t c = (
  omega arith,
  laws.cons_term c.requires c.if-bound-eq0.false c.column-code.ensures c.if-code-eq-FIELD_CONS.true
      c.column.ensures c.label_length-label.ensures
      c.column-part.ensures c.column-rest.ensures,
)

pub length_fields-length_fields-requires : goal.length_fields-length_fields-requires
length_fields-length_fields-requires t c = (
  omega arith,
  laws.cons_fields c.requires c.if-bound-eq0.false c.column-code.ensures c.if-code-eq-FIELD_CONS.true
      c.column.ensures c.label_length-label.ensures
      c.column-part.ensures c.column-rest.ensures c.length_term-term.ensures,
)

pub length_term-length_term-requires : goal.length_term-length_term-requires
length_term-length_term-requires t c = (
  omega arith,
  laws.fun_body c.requires c.if-bound-eq0.false c.column-code.ensures c.in-33.is
      c.column-last.ensures,
)

pub length_term-length_term-function-requires : goal.length_term-length_term-function-requires
length_term-length_term-function-requires t c = (
  omega arith,
  laws.app_first c.requires c.if-bound-eq0.false c.column-code.ensures c.in-34.is
      c.column-first.ensures c.column-last.ensures,
)

pub length_term-length_term-requires-in-34 : goal.length_term-length_term-requires-in-34
length_term-length_term-requires-in-34 t c = (
  omega arith,
  laws.app_last c.requires c.if-bound-eq0.false c.column-code.ensures c.in-34.is
      c.column-first.ensures c.column-last.ensures
      c.length_term-function.ensures,
)

pub length_term-length_fields-requires : goal.length_term-length_fields-requires
length_term-length_fields-requires t c = (
  omega arith,
  laws.rcd_fields c.requires c.if-bound-eq0.false c.column-code.ensures c.in-35.is
      c.column-first.ensures,
)

pub length_term-length_term-term-requires : goal.length_term-length_term-term-requires
length_term-length_term-term-requires t c = (
  omega arith,
  laws.dot_term c.requires c.if-bound-eq0.false c.column-code.ensures c.in-36.is
      c.column-first.ensures c.column-last.ensures,
)

pub length_fields-overflow_add-place : goal.length_fields-overflow_add-place
length_fields-overflow_add-place t c = search laws.fields_next

pub length_fields-returns-then-bound-eq0 : goal.length_fields-returns-then-bound-eq0
length_fields-returns-then-bound-eq0 t c = search laws.shallow_measured_fields

pub length_fields-overflow_add-result : goal.length_fields-overflow_add-result
length_fields-overflow_add-result t c = search laws.cons_label_small

pub length_fields-overflow_add-result-then-code-eq-FIELD_CONS : goal.length_fields-overflow_add-result-then-code-eq-FIELD_CONS
length_fields-overflow_add-result-then-code-eq-FIELD_CONS t c = search laws.cons_front_small

pub length_fields-overflow_add-result-then-code-eq-FIELD_CONS-2 : goal.length_fields-overflow_add-result-then-code-eq-FIELD_CONS-2
length_fields-overflow_add-result-then-code-eq-FIELD_CONS-2 t c = search laws.cons_small

pub length_fields-returns-then-code-eq-FIELD_CONS : goal.length_fields-returns-then-code-eq-FIELD_CONS
length_fields-returns-then-code-eq-FIELD_CONS t c = search laws.cons_measured

pub length_fields-returns : goal.length_fields-returns
length_fields-returns t c = search laws.nil_measured

pub length_term-overflow_add-place : goal.length_term-overflow_add-place
length_term-overflow_add-place t c = search laws.term_next

pub length_term-returns-then-bound-eq0 : goal.length_term-returns-then-bound-eq0
length_term-returns-then-bound-eq0 t c = search laws.shallow_measured

pub length_term-bounds-shown-here : goal.length_term-bounds-shown-here
length_term-bounds-shown-here t c = search laws.term_there

pub length_term-overflow_add-result : goal.length_term-overflow_add-result
length_term-overflow_add-result t c = search laws.var_small

pub length_term-bounds-shown-here-in-33 : goal.length_term-bounds-shown-here-in-33
length_term-bounds-shown-here-in-33 t c = search laws.term_there

pub length_term-overflow_add-result-in-33 : goal.length_term-overflow_add-result-in-33
length_term-overflow_add-result-in-33 t c = search laws.fun_front_small

pub length_term-overflow_add-result-in-33-2 : goal.length_term-overflow_add-result-in-33-2
length_term-overflow_add-result-in-33-2 t c = search laws.fun_small

pub length_term-overflow_add-result-in-34 : goal.length_term-overflow_add-result-in-34
length_term-overflow_add-result-in-34 t c = search laws.app_front_small

pub length_term-overflow_add-result-in-34-2 : goal.length_term-overflow_add-result-in-34-2
length_term-overflow_add-result-in-34-2 t c = search laws.app_small

pub length_term-overflow_add-result-in-35 : goal.length_term-overflow_add-result-in-35
length_term-overflow_add-result-in-35 t c = search laws.rcd_small

pub length_term-overflow_add-result-in-36 : goal.length_term-overflow_add-result-in-36
length_term-overflow_add-result-in-36 t c = search laws.dot_front_small

pub length_term-overflow_add-result-in-36-2 : goal.length_term-overflow_add-result-in-36-2
length_term-overflow_add-result-in-36-2 t c = search laws.dot_small

pub length_term-overflow_add-result-in_default : goal.length_term-overflow_add-result-in_default
length_term-overflow_add-result-in_default t c = search laws.num_small

pub length_term-returns-in-32 : goal.length_term-returns-in-32
length_term-returns-in-32 t c = search laws.var_measured

pub length_term-returns-in-33 : goal.length_term-returns-in-33
length_term-returns-in-33 t c = search laws.fun_measured

pub length_term-returns-in-34 : goal.length_term-returns-in-34
length_term-returns-in-34 t c = search laws.app_measured

pub length_term-returns-in-35 : goal.length_term-returns-in-35
length_term-returns-in-35 t c = search laws.rcd_measured

pub length_term-returns-in-36 : goal.length_term-returns-in-36
length_term-returns-in-36 t c = search laws.dot_measured

pub length_term-returns-in-37 : goal.length_term-returns-in-37
length_term-returns-in-37 t c = search (laws.zero_measured, inl)

pub length_term-returns-in-38 : goal.length_term-returns-in-38
length_term-returns-in-38 t c = search (laws.zero_measured, inr)

pub length_term-returns-in_default : goal.length_term-returns-in_default
length_term-returns-in_default t c = search laws.num_measured
