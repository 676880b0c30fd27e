-- A table as it is written. Document 02, C-14: an alternative's result is written as a template or as a text.
-- There are two tables. `Written` is what the bytes of a table are: they are its encoding, decoding gives it, and the check of sorts walks it. That check
-- elaborates it: what it answers is a `Table` (Table), with a template for each result. Normalizing, first sets and expansion speak of that one.
use Rattle.std.specs.Prelude.{ℕ, List, [], ◌∷◌}
use Rattle.grammar.specs.Table.{Template, variable, AlternativeOf, Alternative, DefinitionOf, Definition, TableOf}
use Rattle.grammar.specs.Values.{Field, field, template_then}

-- a result as written: a template, or a text that is read from a nonterminal
pub data WrittenResult : Type 0 where
  template : Template → WrittenResult
  text : ℕ → List ℕ → WrittenResult

-- what stands for a result where none is read
abbrev pub no_result : WrittenResult
no_result = template (variable 0)

-- the field of a result: 07 for a template, 09 for a text
abbrev pub result_field : WrittenResult → Field
result_field (template t) = field 7 (template_then t [])
result_field (text n bs) = field 9 (n ∷ bs)

abbrev pub WrittenAlternative : Type 0
WrittenAlternative = AlternativeOf WrittenResult

abbrev pub WrittenDefinition : Type 0
WrittenDefinition = DefinitionOf WrittenResult

abbrev pub Written : Type 0
Written = TableOf WrittenResult

-- a definition elaborated: with these alternatives in place of its own
abbrev pub with_alternatives : WrittenDefinition → List Alternative → Definition
with_alternatives d choices = record { nonterminal = d.nonterminal; mode = d.mode; signature = d.signature; alternatives = choices }
