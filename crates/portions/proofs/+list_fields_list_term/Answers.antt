-- `list_term` and `list_fields`: the code of a row decides, and the depth bound falls from a constructor to its parts.
use mathlib.Core.Logic.{inl, inr}
use native.Mathlib.Omega.{arith}
use Rattle.portions.proofs.ListLaws as laws
use Rattle.portions.proofs.+list_fields_list_term.Goals as goal

pub list_fields-list_term-behind-requires : goal.list_fields-list_term-behind-requires
list_fields-list_term-behind-requires t c = (
  omega (arith, c.decreases, c.if-bound-eq0.false),
  laws.cons_term c.requires c.if-bound-eq0.false c.column-code.ensures c.if-code-eq-FIELD_CONS.true
      c.column-part.ensures c.column-rest.ensures,
)

pub list_fields-list_fields-requires : goal.list_fields-list_fields-requires
list_fields-list_fields-requires t c = (
  omega (arith, c.decreases, c.if-bound-eq0.false),
  laws.cons_rest c.requires c.if-bound-eq0.false c.column-code.ensures c.if-code-eq-FIELD_CONS.true
      c.column-part.ensures c.column-rest.ensures (omega (arith, c.list_term-behind.ensures.end)),
)

pub list_term-list_term-requires : goal.list_term-list_term-requires
list_term-list_term-requires t c = (
  omega (arith, c.decreases, c.if-bound-eq0.false),
  laws.fun_fits c.requires c.if-bound-eq0.false c.column-code.ensures c.in-33.is c.column-last.ensures,
)

pub list_term-list_term-behind-requires : goal.list_term-list_term-behind-requires
list_term-list_term-behind-requires t c = (
  omega (arith, c.decreases, c.if-bound-eq0.false),
  laws.app_first c.requires c.if-bound-eq0.false c.column-code.ensures c.in-34.is
      c.column-first.ensures c.column-last.ensures,
)

pub list_term-list_term-requires-in-34 : goal.list_term-list_term-requires-in-34
list_term-list_term-requires-in-34 t c = (
  omega (arith, c.decreases, c.if-bound-eq0.false),
  laws.app_last c.requires c.if-bound-eq0.false c.column-code.ensures c.in-34.is
      c.column-first.ensures c.column-last.ensures (omega (arith, c.list_term-behind.ensures.end)),
)

pub list_term-list_fields-requires : goal.list_term-list_fields-requires
list_term-list_fields-requires t c = (
  omega (arith, c.decreases, c.if-bound-eq0.false),
  laws.rcd_fits c.requires c.if-bound-eq0.false c.column-code.ensures c.in-35.is c.column-first.ensures,
)

pub list_term-list_term-requires-in-36 : goal.list_term-list_term-requires-in-36
list_term-list_term-requires-in-36 t c = (
  omega (arith, c.decreases, c.if-bound-eq0.false),
  laws.dot_fits c.requires c.if-bound-eq0.false c.column-code.ensures c.in-36.is c.column-first.ensures,
)

pub list_fields-returns-then-bound-eq0 : goal.list_fields-returns-then-bound-eq0
list_fields-returns-then-bound-eq0 t c = search laws.shallow_wrote_fields

pub list_fields-returns-then-code-eq-FIELD_CONS : goal.list_fields-returns-then-code-eq-FIELD_CONS
list_fields-returns-then-code-eq-FIELD_CONS t c = search laws.cons_wrote

pub list_fields-returns : goal.list_fields-returns
list_fields-returns t c = search laws.nil_wrote

pub list_term-entry_at-requires : goal.list_term-entry_at-requires
list_term-entry_at-requires t c = search laws.shallow_fits

pub list_term-returns-then-bound-eq0 : goal.list_term-returns-then-bound-eq0
list_term-returns-then-bound-eq0 t c = search laws.shallow_wrote

pub list_term-entry_at-requires-in-37 : goal.list_term-entry_at-requires-in-37
list_term-entry_at-requires-in-37 t c = search (laws.zero-fits, inl)

pub list_term-entry_at-requires-in-38 : goal.list_term-entry_at-requires-in-38
list_term-entry_at-requires-in-38 t c = search (laws.zero-fits, inr)

pub list_term-entry_at-requires-in_default : goal.list_term-entry_at-requires-in_default
list_term-entry_at-requires-in_default t c = search laws.number_fits

pub list_term-returns-in-32 : goal.list_term-returns-in-32
list_term-returns-in-32 t c = search laws.var_wrote

pub list_term-returns-in-33 : goal.list_term-returns-in-33
list_term-returns-in-33 t c = search laws.fun_wrote

pub list_term-returns-in-34 : goal.list_term-returns-in-34
list_term-returns-in-34 t c = search laws.app_wrote

pub list_term-returns-in-35 : goal.list_term-returns-in-35
list_term-returns-in-35 t c = search laws.rcd_wrote

pub list_term-returns-in-36 : goal.list_term-returns-in-36
list_term-returns-in-36 t c = search laws.dot_wrote

pub list_term-returns-in-37 : goal.list_term-returns-in-37
list_term-returns-in-37 t c = search (laws.zero_wrote, inl)

pub list_term-returns-in-38 : goal.list_term-returns-in-38
list_term-returns-in-38 t c = search (laws.zero_wrote, inr)

pub list_term-returns-in_default : goal.list_term-returns-in_default
list_term-returns-in_default t c = search laws.number_wrote
