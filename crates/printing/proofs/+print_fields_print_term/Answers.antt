-- `print_term` and `print_fields`: what a constructor begins with, its parts and the parenthesis, each in what remains. The depth bound falls from a
-- constructor to its parts.
use native.Mathlib.Omega.{arith}
use Rattle.writer.proofs.Pieces.{next_written}
use Rattle.printing.proofs.PrintLaws as laws
use Rattle.printing.proofs.+print_fields_print_term.Goals as goal

-- ------------------------------------------------------------------ field lists

pub print_fields-print_term-requires : goal.print_fields-print_term-requires
print_fields-print_term-requires t c =
    let row = laws.fields_row c.requires c.if-bound-eq0.false c.column-code.ensures c.begin_fields-n.ensures in (
      omega arith,
      laws.cons_term_fits row c.if-code-eq-FIELD_CONS.true c.column-part.ensures c.column-rest.ensures,
    )

pub print_fields-write_byte-requires-then-code-eq-FIELD_CONS : goal.print_fields-write_byte-requires-then-code-eq-FIELD_CONS
print_fields-write_byte-requires-then-code-eq-FIELD_CONS t c =
    let row = laws.fields_row c.requires c.if-bound-eq0.false c.column-code.ensures c.begin_fields-n.ensures in
    laws.cons_space_fits row c.if-code-eq-FIELD_CONS.true c.column-part.ensures c.column-rest.ensures
    c.print_term.ensures

pub print_fields-print_fields-requires : goal.print_fields-print_fields-requires
print_fields-print_fields-requires t c =
    let row = laws.fields_row c.requires c.if-bound-eq0.false c.column-code.ensures c.begin_fields-n.ensures in (
      omega arith,
      laws.cons_fields_fit row c.if-code-eq-FIELD_CONS.true c.column-part.ensures c.column-rest.ensures
          c.print_term.ensures c.write_byte-then-code-eq-FIELD_CONS.ensures,
    )

pub print_fields-slice_bounds-write_byte-start-then-code-eq-FIELD_CONS-2 : goal.print_fields-slice_bounds-write_byte-start-then-code-eq-FIELD_CONS-2
print_fields-slice_bounds-write_byte-start-then-code-eq-FIELD_CONS-2 t c =
    let row = laws.fields_row c.requires c.if-bound-eq0.false c.column-code.ensures c.begin_fields-n.ensures in
    (laws.cons_closing row c.if-code-eq-FIELD_CONS.true c.column-part.ensures c.column-rest.ensures
    c.print_term.ensures c.write_byte-then-code-eq-FIELD_CONS.ensures c.print_fields.ensures).written.within

pub print_fields-overflow_add-end : goal.print_fields-overflow_add-end
print_fields-overflow_add-end t c =
    let row = laws.fields_row c.requires c.if-bound-eq0.false c.column-code.ensures c.begin_fields-n.ensures in
    laws.front_small c.requires c.well_formed.0.0
    (laws.cons_closing row c.if-code-eq-FIELD_CONS.true c.column-part.ensures c.column-rest.ensures
    c.print_term.ensures c.write_byte-then-code-eq-FIELD_CONS.ensures c.print_fields.ensures)

pub print_fields-write_byte-requires-then-code-eq-FIELD_CONS-2 : goal.print_fields-write_byte-requires-then-code-eq-FIELD_CONS-2
print_fields-write_byte-requires-then-code-eq-FIELD_CONS-2 t c =
    let row = laws.fields_row c.requires c.if-bound-eq0.false c.column-code.ensures c.begin_fields-n.ensures in
    laws.cons_close_fits row c.if-code-eq-FIELD_CONS.true c.column-part.ensures c.column-rest.ensures
    c.print_term.ensures c.write_byte-then-code-eq-FIELD_CONS.ensures c.print_fields.ensures

pub print_fields-returns-then-code-eq-FIELD_CONS : goal.print_fields-returns-then-code-eq-FIELD_CONS
print_fields-returns-then-code-eq-FIELD_CONS t c =
    let row = laws.fields_row c.requires c.if-bound-eq0.false c.column-code.ensures c.begin_fields-n.ensures in
    laws.cons_printed row c.if-code-eq-FIELD_CONS.true c.column-part.ensures c.column-rest.ensures
    c.print_term.ensures c.write_byte-then-code-eq-FIELD_CONS.ensures c.print_fields.ensures c.write_byte-then-code-eq-FIELD_CONS-2.ensures

pub print_fields-overflow_add-result-then-code-eq-FIELD_CONS : goal.print_fields-overflow_add-result-then-code-eq-FIELD_CONS
print_fields-overflow_add-result-then-code-eq-FIELD_CONS t c =
    let row = laws.fields_row c.requires c.if-bound-eq0.false c.column-code.ensures c.begin_fields-n.ensures in
    laws.length_small c.requires c.well_formed.0.0
    (laws.cons_printed row c.if-code-eq-FIELD_CONS.true c.column-part.ensures c.column-rest.ensures
    c.print_term.ensures c.write_byte-then-code-eq-FIELD_CONS.ensures c.print_fields.ensures c.write_byte-then-code-eq-FIELD_CONS-2.ensures)

pub print_fields-shape_of-out-then-code-eq-FIELD_CONS : goal.print_fields-shape_of-out-then-code-eq-FIELD_CONS
print_fields-shape_of-out-then-code-eq-FIELD_CONS t c =
    let row = laws.fields_row c.requires c.if-bound-eq0.false c.column-code.ensures c.begin_fields-n.ensures in
    laws.kept c.requires
    (laws.cons_printed row c.if-code-eq-FIELD_CONS.true c.column-part.ensures c.column-rest.ensures
    c.print_term.ensures c.write_byte-then-code-eq-FIELD_CONS.ensures c.print_fields.ensures c.write_byte-then-code-eq-FIELD_CONS-2.ensures)

pub print_fields-write_byte-requires-2 : goal.print_fields-write_byte-requires-2
print_fields-write_byte-requires-2 t c =
    let row = laws.fields_row c.requires c.if-bound-eq0.false c.column-code.ensures c.begin_fields-n.ensures in
    laws.nil_close_fits row c.if-code-eq-FIELD_CONS.false

pub print_fields-returns : goal.print_fields-returns
print_fields-returns t c =
    let row = laws.fields_row c.requires c.if-bound-eq0.false c.column-code.ensures c.begin_fields-n.ensures in
    laws.nil_printed row c.if-code-eq-FIELD_CONS.false c.write_byte-2.ensures

-- ------------------------------------------------------------------ terms

pub print_term-write_byte-requires-in_default : goal.print_term-write_byte-requires-in_default
print_term-write_byte-requires-in_default t c =
    let row = laws.term_row c.requires c.if-bound-eq0.false c.column-code.ensures c.column-first.ensures c.column-last.ensures c.begin_term-n.ensures in
    laws.bare_close_fits row c.in_default.in_default-own.rest

pub print_term-returns-in_default : goal.print_term-returns-in_default
print_term-returns-in_default t c =
    let row = laws.term_row c.requires c.if-bound-eq0.false c.column-code.ensures c.column-first.ensures c.column-last.ensures c.begin_term-n.ensures in
    laws.bare_printed row c.in_default.in_default-own.rest c.write_byte-in_default.ensures

-- a function

pub print_term-write_byte-requires-in-33 : goal.print_term-write_byte-requires-in-33
print_term-write_byte-requires-in-33 t c =
    let row = laws.term_row c.requires c.if-bound-eq0.false c.column-code.ensures c.column-first.ensures c.column-last.ensures c.begin_term-n.ensures in
    laws.fun_close_fits row c.in-33.is c.print_term.ensures

pub print_term-returns-in-33 : goal.print_term-returns-in-33
print_term-returns-in-33 t c =
    let row = laws.term_row c.requires c.if-bound-eq0.false c.column-code.ensures c.column-first.ensures c.column-last.ensures c.begin_term-n.ensures in
    laws.fun_printed row c.in-33.is c.print_term.ensures c.write_byte-in-33.ensures

pub print_term-overflow_add-result-in-33 : goal.print_term-overflow_add-result-in-33
print_term-overflow_add-result-in-33 t c =
    let row = laws.term_row c.requires c.if-bound-eq0.false c.column-code.ensures c.column-first.ensures c.column-last.ensures c.begin_term-n.ensures in
    laws.length_small c.requires c.well_formed.0.0
    (laws.fun_printed row c.in-33.is c.print_term.ensures c.write_byte-in-33.ensures)

-- a record

pub print_term-write_byte-requires-in-35 : goal.print_term-write_byte-requires-in-35
print_term-write_byte-requires-in-35 t c =
    let row = laws.term_row c.requires c.if-bound-eq0.false c.column-code.ensures c.column-first.ensures c.column-last.ensures c.begin_term-n.ensures in
    laws.rcd_close_fits row c.in-35.is c.print_fields.ensures

pub print_term-returns-in-35 : goal.print_term-returns-in-35
print_term-returns-in-35 t c =
    let row = laws.term_row c.requires c.if-bound-eq0.false c.column-code.ensures c.column-first.ensures c.column-last.ensures c.begin_term-n.ensures in
    laws.rcd_printed row c.in-35.is c.print_fields.ensures c.write_byte-in-35.ensures

pub print_term-overflow_add-result-in-35 : goal.print_term-overflow_add-result-in-35
print_term-overflow_add-result-in-35 t c =
    let row = laws.term_row c.requires c.if-bound-eq0.false c.column-code.ensures c.column-first.ensures c.column-last.ensures c.begin_term-n.ensures in
    laws.length_small c.requires c.well_formed.0.0
    (laws.rcd_printed row c.in-35.is c.print_fields.ensures c.write_byte-in-35.ensures)

pub print_term-print_term-requires-in-34 : goal.print_term-print_term-requires-in-34
print_term-print_term-requires-in-34 t c =
    let row = laws.term_row c.requires c.if-bound-eq0.false c.column-code.ensures c.column-first.ensures c.column-last.ensures c.begin_term-n.ensures in (
      omega arith,
      laws.app_first_fits row c.in-34.is,
    )

pub print_term-write_byte-requires-in-34 : goal.print_term-write_byte-requires-in-34
print_term-write_byte-requires-in-34 t c =
    let row = laws.term_row c.requires c.if-bound-eq0.false c.column-code.ensures c.column-first.ensures c.column-last.ensures c.begin_term-n.ensures in
    laws.app_space_fits row c.in-34.is c.print_term-in-34.ensures

pub print_term-overflow_add-next : goal.print_term-overflow_add-next
print_term-overflow_add-next t c =
    let row = laws.term_row c.requires c.if-bound-eq0.false c.column-code.ensures c.column-first.ensures c.column-last.ensures c.begin_term-n.ensures in
    laws.front_small c.requires c.well_formed.0.0
    (next_written (laws.app_second row c.in-34.is c.print_term-in-34.ensures) c.write_byte-in-34.ensures)

pub print_term-print_term-requires-in-34-2 : goal.print_term-print_term-requires-in-34-2
print_term-print_term-requires-in-34-2 t c =
    let row = laws.term_row c.requires c.if-bound-eq0.false c.column-code.ensures c.column-first.ensures c.column-last.ensures c.begin_term-n.ensures in (
      omega arith,
      laws.app_last_fits row c.in-34.is c.print_term-in-34.ensures c.write_byte-in-34.ensures,
    )

pub print_term-slice_bounds-write_byte-start-in-34-2 : goal.print_term-slice_bounds-write_byte-start-in-34-2
print_term-slice_bounds-write_byte-start-in-34-2 t c =
    let row = laws.term_row c.requires c.if-bound-eq0.false c.column-code.ensures c.column-first.ensures c.column-last.ensures c.begin_term-n.ensures in
    (laws.app_closing row c.in-34.is c.print_term-in-34.ensures c.write_byte-in-34.ensures
    c.print_term-in-34-2.ensures).written.within

pub print_term-slice_bounds-write_byte-count-in-34-2 : goal.print_term-slice_bounds-write_byte-count-in-34-2
print_term-slice_bounds-write_byte-count-in-34-2 t c =
    let row = laws.term_row c.requires c.if-bound-eq0.false c.column-code.ensures c.column-first.ensures c.column-last.ensures c.begin_term-n.ensures in
    (laws.app_closing row c.in-34.is c.print_term-in-34.ensures c.write_byte-in-34.ensures
    c.print_term-in-34-2.ensures).written.within

pub print_term-overflow_add-end-in-34 : goal.print_term-overflow_add-end-in-34
print_term-overflow_add-end-in-34 t c =
    let row = laws.term_row c.requires c.if-bound-eq0.false c.column-code.ensures c.column-first.ensures c.column-last.ensures c.begin_term-n.ensures in
    laws.front_small c.requires c.well_formed.0.0
    (laws.app_closing row c.in-34.is c.print_term-in-34.ensures c.write_byte-in-34.ensures
    c.print_term-in-34-2.ensures)

pub print_term-write_byte-requires-in-34-2 : goal.print_term-write_byte-requires-in-34-2
print_term-write_byte-requires-in-34-2 t c =
    let row = laws.term_row c.requires c.if-bound-eq0.false c.column-code.ensures c.column-first.ensures c.column-last.ensures c.begin_term-n.ensures in
    laws.app_close_fits row c.in-34.is c.print_term-in-34.ensures c.write_byte-in-34.ensures
    c.print_term-in-34-2.ensures

pub print_term-returns-in-34 : goal.print_term-returns-in-34
print_term-returns-in-34 t c =
    let row = laws.term_row c.requires c.if-bound-eq0.false c.column-code.ensures c.column-first.ensures c.column-last.ensures c.begin_term-n.ensures in
    laws.app_printed row c.in-34.is c.print_term-in-34.ensures c.write_byte-in-34.ensures
    c.print_term-in-34-2.ensures c.write_byte-in-34-2.ensures

pub print_term-overflow_add-result-in-34 : goal.print_term-overflow_add-result-in-34
print_term-overflow_add-result-in-34 t c =
    let row = laws.term_row c.requires c.if-bound-eq0.false c.column-code.ensures c.column-first.ensures c.column-last.ensures c.begin_term-n.ensures in
    laws.length_small c.requires c.well_formed.0.0
    (laws.app_printed row c.in-34.is c.print_term-in-34.ensures c.write_byte-in-34.ensures
    c.print_term-in-34-2.ensures c.write_byte-in-34-2.ensures)

pub print_term-shape_of-out-in-34 : goal.print_term-shape_of-out-in-34
print_term-shape_of-out-in-34 t c =
    let row = laws.term_row c.requires c.if-bound-eq0.false c.column-code.ensures c.column-first.ensures c.column-last.ensures c.begin_term-n.ensures in
    laws.kept c.requires
    (laws.app_printed row c.in-34.is c.print_term-in-34.ensures c.write_byte-in-34.ensures
    c.print_term-in-34-2.ensures c.write_byte-in-34-2.ensures)

pub print_term-print_term-requires-in-36 : goal.print_term-print_term-requires-in-36
print_term-print_term-requires-in-36 t c =
    let row = laws.term_row c.requires c.if-bound-eq0.false c.column-code.ensures c.column-first.ensures c.column-last.ensures c.begin_term-n.ensures in (
      omega arith,
      laws.dot_term_fits row c.in-36.is,
    )

pub print_term-write_byte-requires-in-36 : goal.print_term-write_byte-requires-in-36
print_term-write_byte-requires-in-36 t c =
    let row = laws.term_row c.requires c.if-bound-eq0.false c.column-code.ensures c.column-first.ensures c.column-last.ensures c.begin_term-n.ensures in
    laws.dot_space_fits row c.in-36.is c.print_term-in-36.ensures

pub print_term-overflow_add-next-in-36 : goal.print_term-overflow_add-next-in-36
print_term-overflow_add-next-in-36 t c =
    let row = laws.term_row c.requires c.if-bound-eq0.false c.column-code.ensures c.column-first.ensures c.column-last.ensures c.begin_term-n.ensures in
    laws.front_small c.requires c.well_formed.0.0
    (next_written (laws.dot_second row c.in-36.is c.print_term-in-36.ensures) c.write_byte-in-36.ensures)

pub print_term-write_label-requires : goal.print_term-write_label-requires
print_term-write_label-requires t c =
    let row = laws.term_row c.requires c.if-bound-eq0.false c.column-code.ensures c.column-first.ensures c.column-last.ensures c.begin_term-n.ensures in
    laws.dot_label_fits row c.in-36.is c.print_term-in-36.ensures c.write_byte-in-36.ensures

pub print_term-overflow_add-end-in-36 : goal.print_term-overflow_add-end-in-36
print_term-overflow_add-end-in-36 t c =
    let row = laws.term_row c.requires c.if-bound-eq0.false c.column-code.ensures c.column-first.ensures c.column-last.ensures c.begin_term-n.ensures in
    laws.front_small c.requires c.well_formed.0.0
    (laws.dot_closing row c.in-36.is c.print_term-in-36.ensures c.write_byte-in-36.ensures
    c.write_label.ensures)

pub print_term-write_byte-requires-in-36-2 : goal.print_term-write_byte-requires-in-36-2
print_term-write_byte-requires-in-36-2 t c =
    let row = laws.term_row c.requires c.if-bound-eq0.false c.column-code.ensures c.column-first.ensures c.column-last.ensures c.begin_term-n.ensures in
    laws.dot_close_fits row c.in-36.is c.print_term-in-36.ensures c.write_byte-in-36.ensures
    c.write_label.ensures

pub print_term-returns-in-36 : goal.print_term-returns-in-36
print_term-returns-in-36 t c =
    let row = laws.term_row c.requires c.if-bound-eq0.false c.column-code.ensures c.column-first.ensures c.column-last.ensures c.begin_term-n.ensures in
    laws.dot_printed row c.in-36.is c.print_term-in-36.ensures c.write_byte-in-36.ensures
    c.write_label.ensures c.write_byte-in-36-2.ensures

pub print_term-overflow_add-result-in-36 : goal.print_term-overflow_add-result-in-36
print_term-overflow_add-result-in-36 t c =
    let row = laws.term_row c.requires c.if-bound-eq0.false c.column-code.ensures c.column-first.ensures c.column-last.ensures c.begin_term-n.ensures in
    laws.length_small c.requires c.well_formed.0.0
    (laws.dot_printed row c.in-36.is c.print_term-in-36.ensures c.write_byte-in-36.ensures
    c.write_label.ensures c.write_byte-in-36-2.ensures)

pub print_term-shape_of-out-in-36 : goal.print_term-shape_of-out-in-36
print_term-shape_of-out-in-36 t c =
    let row = laws.term_row c.requires c.if-bound-eq0.false c.column-code.ensures c.column-first.ensures c.column-last.ensures c.begin_term-n.ensures in
    laws.kept c.requires
    (laws.dot_printed row c.in-36.is c.print_term-in-36.ensures c.write_byte-in-36.ensures
    c.write_label.ensures c.write_byte-in-36-2.ensures)

pub print_fields-begin_fields-n-requires : goal.print_fields-begin_fields-n-requires
print_fields-begin_fields-n-requires t c = search laws.begin_fields_fits

pub print_fields-overflow_add-place : goal.print_fields-overflow_add-place
print_fields-overflow_add-place t c = search laws.fields_next

pub print_fields-slice_bounds-write_byte-count : goal.print_fields-slice_bounds-write_byte-count
print_fields-slice_bounds-write_byte-count t c = omega arith

pub print_fields-slice_bounds-write_byte-start : goal.print_fields-slice_bounds-write_byte-start
print_fields-slice_bounds-write_byte-start t c = omega arith

pub print_fields-slice_bounds-write_byte-end : goal.print_fields-slice_bounds-write_byte-end
print_fields-slice_bounds-write_byte-end t c = omega arith

pub print_fields-write_byte-requires : goal.print_fields-write_byte-requires
print_fields-write_byte-requires t c = search laws.shallow_close_fits_fields

pub print_fields-overflow_add-result : goal.print_fields-overflow_add-result
print_fields-overflow_add-result t c = omega arith

pub print_fields-shape_of-out-then-bound-eq0 : goal.print_fields-shape_of-out-then-bound-eq0
print_fields-shape_of-out-then-bound-eq0 t c = omega arith

pub print_fields-returns-then-bound-eq0 : goal.print_fields-returns-then-bound-eq0
print_fields-returns-then-bound-eq0 t c = search laws.shallow_printed_fields

pub print_fields-overflow_sub-deep : goal.print_fields-overflow_sub-deep
print_fields-overflow_sub-deep t c = omega arith

pub print_fields-slice_bounds-print_term-count : goal.print_fields-slice_bounds-print_term-count
print_fields-slice_bounds-print_term-count t c = omega arith

pub print_fields-slice_bounds-print_term-start : goal.print_fields-slice_bounds-print_term-start
print_fields-slice_bounds-print_term-start t c = omega arith

pub print_fields-slice_bounds-print_term-end : goal.print_fields-slice_bounds-print_term-end
print_fields-slice_bounds-print_term-end t c = omega arith

pub print_fields-overflow_add-space : goal.print_fields-overflow_add-space
print_fields-overflow_add-space t c = omega arith

pub print_fields-slice_bounds-write_byte-count-then-code-eq-FIELD_CONS : goal.print_fields-slice_bounds-write_byte-count-then-code-eq-FIELD_CONS
print_fields-slice_bounds-write_byte-count-then-code-eq-FIELD_CONS t c = omega arith

pub print_fields-slice_bounds-write_byte-start-then-code-eq-FIELD_CONS : goal.print_fields-slice_bounds-write_byte-start-then-code-eq-FIELD_CONS
print_fields-slice_bounds-write_byte-start-then-code-eq-FIELD_CONS t c = omega arith

pub print_fields-slice_bounds-write_byte-end-then-code-eq-FIELD_CONS : goal.print_fields-slice_bounds-write_byte-end-then-code-eq-FIELD_CONS
print_fields-slice_bounds-write_byte-end-then-code-eq-FIELD_CONS t c = omega arith

pub print_fields-overflow_add-next : goal.print_fields-overflow_add-next
print_fields-overflow_add-next t c = omega arith

pub print_fields-slice_bounds-print_fields-count : goal.print_fields-slice_bounds-print_fields-count
print_fields-slice_bounds-print_fields-count t c = omega arith

pub print_fields-slice_bounds-print_fields-start : goal.print_fields-slice_bounds-print_fields-start
print_fields-slice_bounds-print_fields-start t c = omega arith

pub print_fields-slice_bounds-print_fields-end : goal.print_fields-slice_bounds-print_fields-end
print_fields-slice_bounds-print_fields-end t c = omega arith

pub print_fields-slice_bounds-write_byte-count-then-code-eq-FIELD_CONS-2 : goal.print_fields-slice_bounds-write_byte-count-then-code-eq-FIELD_CONS-2
print_fields-slice_bounds-write_byte-count-then-code-eq-FIELD_CONS-2 t c = omega arith

pub print_fields-slice_bounds-write_byte-end-then-code-eq-FIELD_CONS-2 : goal.print_fields-slice_bounds-write_byte-end-then-code-eq-FIELD_CONS-2
print_fields-slice_bounds-write_byte-end-then-code-eq-FIELD_CONS-2 t c = omega arith

pub print_fields-slice_bounds-write_byte-count-2 : goal.print_fields-slice_bounds-write_byte-count-2
print_fields-slice_bounds-write_byte-count-2 t c = omega arith

pub print_fields-slice_bounds-write_byte-start-2 : goal.print_fields-slice_bounds-write_byte-start-2
print_fields-slice_bounds-write_byte-start-2 t c = omega arith

pub print_fields-slice_bounds-write_byte-end-2 : goal.print_fields-slice_bounds-write_byte-end-2
print_fields-slice_bounds-write_byte-end-2 t c = omega arith

pub print_fields-overflow_add-result-2 : goal.print_fields-overflow_add-result-2
print_fields-overflow_add-result-2 t c = omega arith

pub print_fields-shape_of-out : goal.print_fields-shape_of-out
print_fields-shape_of-out t c = omega arith

pub print_term-begin_term-n-requires : goal.print_term-begin_term-n-requires
print_term-begin_term-n-requires t c = search laws.begin_fits

pub print_term-overflow_add-place : goal.print_term-overflow_add-place
print_term-overflow_add-place t c = search laws.term_next

pub print_term-slice_bounds-write_byte-count : goal.print_term-slice_bounds-write_byte-count
print_term-slice_bounds-write_byte-count t c = omega arith

pub print_term-slice_bounds-write_byte-start : goal.print_term-slice_bounds-write_byte-start
print_term-slice_bounds-write_byte-start t c = omega arith

pub print_term-slice_bounds-write_byte-end : goal.print_term-slice_bounds-write_byte-end
print_term-slice_bounds-write_byte-end t c = omega arith

pub print_term-write_byte-requires : goal.print_term-write_byte-requires
print_term-write_byte-requires t c = search laws.shallow_close_fits

pub print_term-overflow_add-result : goal.print_term-overflow_add-result
print_term-overflow_add-result t c = omega arith

pub print_term-shape_of-out-then-bound-eq0 : goal.print_term-shape_of-out-then-bound-eq0
print_term-shape_of-out-then-bound-eq0 t c = omega arith

pub print_term-returns-then-bound-eq0 : goal.print_term-returns-then-bound-eq0
print_term-returns-then-bound-eq0 t c = search laws.shallow_printed

pub print_term-overflow_sub-deep : goal.print_term-overflow_sub-deep
print_term-overflow_sub-deep t c = omega arith

pub print_term-slice_bounds-print_term-count : goal.print_term-slice_bounds-print_term-count
print_term-slice_bounds-print_term-count t c = omega arith

pub print_term-slice_bounds-print_term-start : goal.print_term-slice_bounds-print_term-start
print_term-slice_bounds-print_term-start t c = omega arith

pub print_term-slice_bounds-print_term-end : goal.print_term-slice_bounds-print_term-end
print_term-slice_bounds-print_term-end t c = omega arith

pub print_term-overflow_add-end : goal.print_term-overflow_add-end
print_term-overflow_add-end t c = omega arith

pub print_term-slice_bounds-write_byte-count-in-33 : goal.print_term-slice_bounds-write_byte-count-in-33
print_term-slice_bounds-write_byte-count-in-33 t c = omega arith

pub print_term-slice_bounds-write_byte-start-in-33 : goal.print_term-slice_bounds-write_byte-start-in-33
print_term-slice_bounds-write_byte-start-in-33 t c = omega arith

pub print_term-slice_bounds-write_byte-end-in-33 : goal.print_term-slice_bounds-write_byte-end-in-33
print_term-slice_bounds-write_byte-end-in-33 t c = omega arith

pub print_term-slice_bounds-print_term-count-in-34 : goal.print_term-slice_bounds-print_term-count-in-34
print_term-slice_bounds-print_term-count-in-34 t c = omega arith

pub print_term-slice_bounds-print_term-start-in-34 : goal.print_term-slice_bounds-print_term-start-in-34
print_term-slice_bounds-print_term-start-in-34 t c = omega arith

pub print_term-slice_bounds-print_term-end-in-34 : goal.print_term-slice_bounds-print_term-end-in-34
print_term-slice_bounds-print_term-end-in-34 t c = omega arith

pub print_term-overflow_add-space : goal.print_term-overflow_add-space
print_term-overflow_add-space t c = omega arith

pub print_term-slice_bounds-write_byte-count-in-34 : goal.print_term-slice_bounds-write_byte-count-in-34
print_term-slice_bounds-write_byte-count-in-34 t c = omega arith

pub print_term-slice_bounds-write_byte-start-in-34 : goal.print_term-slice_bounds-write_byte-start-in-34
print_term-slice_bounds-write_byte-start-in-34 t c = omega arith

pub print_term-slice_bounds-write_byte-end-in-34 : goal.print_term-slice_bounds-write_byte-end-in-34
print_term-slice_bounds-write_byte-end-in-34 t c = omega arith

pub print_term-slice_bounds-print_term-count-in-34-2 : goal.print_term-slice_bounds-print_term-count-in-34-2
print_term-slice_bounds-print_term-count-in-34-2 t c = omega arith

pub print_term-slice_bounds-print_term-start-in-34-2 : goal.print_term-slice_bounds-print_term-start-in-34-2
print_term-slice_bounds-print_term-start-in-34-2 t c = omega arith

pub print_term-slice_bounds-print_term-end-in-34-2 : goal.print_term-slice_bounds-print_term-end-in-34-2
print_term-slice_bounds-print_term-end-in-34-2 t c = omega arith

pub print_term-slice_bounds-write_byte-end-in-34-2 : goal.print_term-slice_bounds-write_byte-end-in-34-2
print_term-slice_bounds-write_byte-end-in-34-2 t c = omega arith

pub print_term-slice_bounds-print_fields-count : goal.print_term-slice_bounds-print_fields-count
print_term-slice_bounds-print_fields-count t c = omega arith

pub print_term-slice_bounds-print_fields-start : goal.print_term-slice_bounds-print_fields-start
print_term-slice_bounds-print_fields-start t c = omega arith

pub print_term-slice_bounds-print_fields-end : goal.print_term-slice_bounds-print_fields-end
print_term-slice_bounds-print_fields-end t c = omega arith

pub print_term-overflow_add-end-in-35 : goal.print_term-overflow_add-end-in-35
print_term-overflow_add-end-in-35 t c = omega arith

pub print_term-slice_bounds-write_byte-count-in-35 : goal.print_term-slice_bounds-write_byte-count-in-35
print_term-slice_bounds-write_byte-count-in-35 t c = omega arith

pub print_term-slice_bounds-write_byte-start-in-35 : goal.print_term-slice_bounds-write_byte-start-in-35
print_term-slice_bounds-write_byte-start-in-35 t c = omega arith

pub print_term-slice_bounds-write_byte-end-in-35 : goal.print_term-slice_bounds-write_byte-end-in-35
print_term-slice_bounds-write_byte-end-in-35 t c = omega arith

pub print_term-slice_bounds-print_term-count-in-36 : goal.print_term-slice_bounds-print_term-count-in-36
print_term-slice_bounds-print_term-count-in-36 t c = omega arith

pub print_term-slice_bounds-print_term-start-in-36 : goal.print_term-slice_bounds-print_term-start-in-36
print_term-slice_bounds-print_term-start-in-36 t c = omega arith

pub print_term-slice_bounds-print_term-end-in-36 : goal.print_term-slice_bounds-print_term-end-in-36
print_term-slice_bounds-print_term-end-in-36 t c = omega arith

pub print_term-overflow_add-space-in-36 : goal.print_term-overflow_add-space-in-36
print_term-overflow_add-space-in-36 t c = omega arith

pub print_term-slice_bounds-write_byte-count-in-36 : goal.print_term-slice_bounds-write_byte-count-in-36
print_term-slice_bounds-write_byte-count-in-36 t c = omega arith

pub print_term-slice_bounds-write_byte-start-in-36 : goal.print_term-slice_bounds-write_byte-start-in-36
print_term-slice_bounds-write_byte-start-in-36 t c = omega arith

pub print_term-slice_bounds-write_byte-end-in-36 : goal.print_term-slice_bounds-write_byte-end-in-36
print_term-slice_bounds-write_byte-end-in-36 t c = omega arith

pub print_term-slice_bounds-write_label-count : goal.print_term-slice_bounds-write_label-count
print_term-slice_bounds-write_label-count t c = omega arith

pub print_term-slice_bounds-write_label-start : goal.print_term-slice_bounds-write_label-start
print_term-slice_bounds-write_label-start t c = omega arith

pub print_term-slice_bounds-write_label-end : goal.print_term-slice_bounds-write_label-end
print_term-slice_bounds-write_label-end t c = omega arith

pub print_term-slice_bounds-write_byte-count-in-36-2 : goal.print_term-slice_bounds-write_byte-count-in-36-2
print_term-slice_bounds-write_byte-count-in-36-2 t c = omega arith

pub print_term-slice_bounds-write_byte-start-in-36-2 : goal.print_term-slice_bounds-write_byte-start-in-36-2
print_term-slice_bounds-write_byte-start-in-36-2 t c = omega arith

pub print_term-slice_bounds-write_byte-end-in-36-2 : goal.print_term-slice_bounds-write_byte-end-in-36-2
print_term-slice_bounds-write_byte-end-in-36-2 t c = omega arith

pub print_term-slice_bounds-write_byte-count-in_default : goal.print_term-slice_bounds-write_byte-count-in_default
print_term-slice_bounds-write_byte-count-in_default t c = omega arith

pub print_term-slice_bounds-write_byte-start-in_default : goal.print_term-slice_bounds-write_byte-start-in_default
print_term-slice_bounds-write_byte-start-in_default t c = omega arith

pub print_term-slice_bounds-write_byte-end-in_default : goal.print_term-slice_bounds-write_byte-end-in_default
print_term-slice_bounds-write_byte-end-in_default t c = omega arith

pub print_term-overflow_add-result-in_default : goal.print_term-overflow_add-result-in_default
print_term-overflow_add-result-in_default t c = omega arith

pub print_term-shape_of-out-in-33 : goal.print_term-shape_of-out-in-33
print_term-shape_of-out-in-33 t c = omega arith

pub print_term-shape_of-out-in-35 : goal.print_term-shape_of-out-in-35
print_term-shape_of-out-in-35 t c = omega arith

pub print_term-shape_of-out-in_default : goal.print_term-shape_of-out-in_default
print_term-shape_of-out-in_default t c = omega arith

pub print_term-print_term-requires : goal.print_term-print_term-requires
print_term-print_term-requires t c =
    let row = laws.term_row c.requires c.if-bound-eq0.false c.column-code.ensures c.column-first.ensures c.column-last.ensures c.begin_term-n.ensures in
    (omega arith, laws.fun_body_fits row c.in-33.is)

pub print_term-print_fields-requires : goal.print_term-print_fields-requires
print_term-print_fields-requires t c =
    let row = laws.term_row c.requires c.if-bound-eq0.false c.column-code.ensures c.column-first.ensures c.column-last.ensures c.begin_term-n.ensures in
    (omega arith, laws.rcd_fields_fit row c.in-35.is)
