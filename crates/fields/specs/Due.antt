-- Reading bytes in prefix form from the left: what stands at the front of a template, and how many templates the bytes must be.
-- These definitions mirror code: nobody needs them to believe `expand`.
use Rattle.std.specs.Prelude.{ℕ, Bool, true, false, ◌||◌, ltb}
use Rattle.grammar.specs.Sorts.{arity}
use Rattle.grammar.specs.SortTests.{is_constructor}
use Rattle.decoding.specs.Prefix.{ReadTemplates, is_name_tag, is_templates, is_template}

-- the bytes of a template before its arguments: a variable or a constructor is one byte, a name two; 0 for an unknown byte
unfoldable pub head_size : ℕ → ℕ
head_size b = elim (is_name_tag b) [ true ↦ 2 | false ↦ elim (ltb b 0x10 || is_constructor b) [ true ↦ 1 | false ↦ 0 ] ]

-- how many templates follow as its arguments
unfoldable pub arguments : ℕ → ℕ
arguments b = elim (is_constructor b) [ true ↦ arity b | false ↦ 0 ]

-- exactly one template, or whole templates, as many as there are
abbrev pub is_wholly : Bool → ReadTemplates → Bool
is_wholly true p = is_template p
is_wholly false p = is_templates p
