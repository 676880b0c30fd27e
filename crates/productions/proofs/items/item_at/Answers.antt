-- `item_at`: by the tag of the field at the offset.
use native.Mathlib.Omega.{arith}
use Rattle.grammar.proofs.LookupLaws.{field_lies}
use Rattle.productions.proofs.SymbolLaws as laws
use Rattle.productions.proofs.items.item_at.Goals as goal

pub returns-then-field-ne-ITEM_TAG : goal.returns-then-field-ne-ITEM_TAG
returns-then-field-ne-ITEM_TAG c = search laws.step_done

pub slice_bounds-symbol-count : goal.slice_bounds-symbol-count
slice_bounds-symbol-count c = omega (arith, field_lies _ _ c.field_at-field.ensures)

pub slice_bounds-symbol-start : goal.slice_bounds-symbol-start
slice_bounds-symbol-start c = omega (arith, field_lies _ _ c.field_at-field.ensures)

pub slice_bounds-symbol-end : goal.slice_bounds-symbol-end
slice_bounds-symbol-end c = omega (arith, field_lies _ _ c.field_at-field.ensures)

pub returns : goal.returns
returns c = search laws.step_past
