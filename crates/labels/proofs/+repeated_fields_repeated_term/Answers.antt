-- `repeated_term` and `repeated_fields`: the code of a row decides, and the depth bound falls from a constructor to its parts.
use native.Mathlib.Omega.{arith}
use Rattle.labels.proofs.SearchLaws as laws
use Rattle.labels.proofs.+repeated_fields_repeated_term.Goals as goal

pub repeated_fields-repeated_term-found-requires : goal.repeated_fields-repeated_term-found-requires
repeated_fields-repeated_term-found-requires t c = (
  omega (arith, c.decreases, c.if-bound-eq0.false),
  laws.cons_searchable c.requires _ c.if-bound-eq0.false c.column-code.ensures c.if-code-eq-FIELD_CONS.true
      c.if-left-eq0.false c.column.ensures,
)

pub repeated_fields-returns-then-found : goal.repeated_fields-returns-then-found
repeated_fields-returns-then-found t c =
    laws.part_found c.requires _ c.if-bound-eq0.false c.column-code.ensures c.if-code-eq-FIELD_CONS.true
    c.if-left-eq0.false c.column.ensures c.repeated_term-found.ensures c.if-found.true

pub repeated_fields-repeated_fields-requires : goal.repeated_fields-repeated_fields-requires
repeated_fields-repeated_fields-requires t c = (
  omega (arith, c.decreases, c.if-bound-eq0.false),
  laws.cons_next c.requires _ c.if-bound-eq0.false c.column-code.ensures c.if-code-eq-FIELD_CONS.true
      c.if-left-eq0.false c.column.ensures c.repeated_term-found.ensures c.if-found.false c.column-then-code-eq-FIELD_CONS.ensures,
)

pub repeated_fields-returns-then-code-eq-FIELD_CONS : goal.repeated_fields-returns-then-code-eq-FIELD_CONS
repeated_fields-returns-then-code-eq-FIELD_CONS t c =
    laws.cons_searched c.requires _ c.if-bound-eq0.false c.column-code.ensures
    c.if-code-eq-FIELD_CONS.true c.if-left-eq0.false c.column.ensures c.repeated_term-found.ensures c.if-found.false
    c.column-then-code-eq-FIELD_CONS.ensures c.repeated_fields.ensures

pub repeated_term-repeated_term-requires : goal.repeated_term-repeated_term-requires
repeated_term-repeated_term-requires t c = (
  omega (arith, c.decreases, c.if-bound-eq0.false),
  laws.fun_searchable c.requires c.if-bound-eq0.false c.column-code.ensures c.in-33.is c.column.ensures,
)

pub repeated_term-returns-then-found : goal.repeated_term-returns-then-found
repeated_term-returns-then-found t c =
    laws.app_found c.requires c.if-bound-eq0.false c.column-code.ensures c.in-34.is
    c.column-first.ensures c.repeated_term-found.ensures c.if-found.true

pub repeated_term-repeated_term-requires-in-34 : goal.repeated_term-repeated_term-requires-in-34
repeated_term-repeated_term-requires-in-34 t c = (
  omega (arith, c.decreases, c.if-bound-eq0.false),
  laws.app_next c.requires c.if-bound-eq0.false c.column-code.ensures c.in-34.is c.column-first.ensures
      c.repeated_term-found.ensures c.if-found.false c.column-in-34.ensures,
)

pub repeated_term-returns-else-found : goal.repeated_term-returns-else-found
repeated_term-returns-else-found t c =
    laws.app_searched c.requires c.if-bound-eq0.false c.column-code.ensures c.in-34.is
    c.column-first.ensures c.repeated_term-found.ensures c.if-found.false c.column-in-34.ensures c.repeated_term-in-34.ensures

pub repeated_term-differing-left-requires : goal.repeated_term-differing-left-requires
repeated_term-differing-left-requires t c =
    laws.rcd_stampable c.requires c.if-bound-eq0.false c.column-code.ensures c.in-35.is
    c.column-first.ensures c.stamp_of.ensures

pub repeated_term-repeated_fields-requires : goal.repeated_term-repeated_fields-requires
repeated_term-repeated_fields-requires t c = (
  omega (arith, c.decreases, c.if-bound-eq0.false),
  laws.rcd_searchable c.requires c.if-bound-eq0.false c.column-code.ensures c.in-35.is
      c.column-first.ensures c.stamp_of.ensures c.differing-left.ensures,
)

pub repeated_fields-returns-then-bound-eq0 : goal.repeated_fields-returns-then-bound-eq0
repeated_fields-returns-then-bound-eq0 t c = search laws.shallow_fields

pub repeated_fields-returns-then-left-eq0 : goal.repeated_fields-returns-then-left-eq0
repeated_fields-returns-then-left-eq0 t c = search laws.cons_found

pub repeated_fields-returns : goal.repeated_fields-returns
repeated_fields-returns t c = search laws.nil_searched

pub repeated_term-returns-then-bound-eq0 : goal.repeated_term-returns-then-bound-eq0
repeated_term-returns-then-bound-eq0 t c = search laws.shallow

pub repeated_term-repeated_term-found-requires : goal.repeated_term-repeated_term-found-requires
repeated_term-repeated_term-found-requires t c = (omega arith, search laws.app_searchable)

pub repeated_term-repeated_term-requires-in-36 : goal.repeated_term-repeated_term-requires-in-36
repeated_term-repeated_term-requires-in-36 t c = (omega arith, search laws.dot_searchable)

pub repeated_term-returns-in-33 : goal.repeated_term-returns-in-33
repeated_term-returns-in-33 t c = search laws.fun_searched

pub repeated_term-returns-in-35 : goal.repeated_term-returns-in-35
repeated_term-returns-in-35 t c = search laws.rcd_searched

pub repeated_term-returns-in-36 : goal.repeated_term-returns-in-36
repeated_term-returns-in-36 t c = search laws.dot_searched

pub repeated_term-returns-in_default : goal.repeated_term-returns-in_default
repeated_term-returns-in_default t c = search laws.bare_searched
