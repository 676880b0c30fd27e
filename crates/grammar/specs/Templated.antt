-- The templates of a table as written, in place of its results. The check of sorts answers this table (elaboration/proofs/SortTheorems); laws on bytes speak
-- of it, and nobody needs it to believe `expand`. What a text stands for is not told here: no table that the layout passes has one.
use Rattle.std.specs.Prelude.{List, map}
use Rattle.grammar.specs.Table.{Template, variable, Alternative, Definition}
use Rattle.grammar.specs.Written.{WrittenResult, template, text, WrittenAlternative, WrittenDefinition}

abbrev pub template_of : WrittenResult → Template
template_of (template t) = t
template_of (text n bs) = variable 0

abbrev pub with_template : WrittenAlternative → Alternative
with_template a = record { items = a.items; result = template_of a.result }

abbrev pub with_templates : WrittenDefinition → Definition
with_templates d = record { nonterminal = d.nonterminal; mode = d.mode; signature = d.signature; alternatives = map with_template d.alternatives }

-- blocks with a template for each result
abbrev pub templated : List (List WrittenDefinition) → List (List Definition)
templated bs = map (map with_templates) bs
