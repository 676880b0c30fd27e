-- What terminals take of their tokens' values; of a text's tokens, what an ide reads and what opens with them. Document 01, "Formula"; document 02, C-14:
-- "stands where ide fits its sort", "an ide that fits goes before it". For the kinds that a formula has, up to 64, all is as document 01 says (AsBefore).
use Rattle.std.specs.Prelude.{ℕ, Bool, true, false, not, ◌&&◌, ◌||◌, eqb, ltb}
use Rattle.kinds.specs.Kinds.{word_kind, no_kind, has_kind}
use Rattle.kinds.specs.TextKinds.{sort_of_kind, outside_kind}
use Rattle.grammar.specs.Sorts.{binder, label}
use Rattle.grammar.specs.SortTests.{fits}
use Rattle.grammar.specs.Table.{Terminal, keyword, ide, number, place}
use Rattle.terms.specs.Cells.{word_name, outside_name}
use Rattle.tokens.specs.declared.Token.{Token}
use Rattle.firsts.specs.Patterns.{opens_ide, opens_place}

-- a word read at a sort: a label is its spelling number, a Var or Binder a name
abbrev pub word_value : ℕ → ℕ → ℕ
word_value sort n = elim (eqb sort label) [ true ↦ n | false ↦ word_name n ]

-- what a terminal gives of its token's value
abbrev pub read_value : Terminal → ℕ → ℕ
read_value (keyword k) v = 0
read_value (ide s) v = word_value s v
read_value number v = v
read_value (place s) v = v

-- ------------------------------------------------------------------ tokens of a text

-- a kind that only a token of a text has
abbrev pub is_text_kind : ℕ → Bool
is_text_kind kind = ltb no_kind kind

abbrev pub is_outside_kind : ℕ → Bool
is_outside_kind kind = eqb kind outside_kind

-- a token of a text that an ide of sort B reads: a variable that fits, or an outside name, which is no Binder
unfoldable pub meets_ide : ℕ → ℕ → Bool
meets_ide kind B = (is_text_kind kind && not (is_outside_kind kind) && fits (sort_of_kind kind) B) || (is_outside_kind kind && not (eqb B binder))

-- a place takes a variable by its kind, and no other terminal reads one
abbrev pub meets : Terminal → Token → Bool
meets (keyword k) token = false
meets (ide B) token = meets_ide token.kind B
meets number token = false
meets (place s) token = false

-- what it gives at sort B: a variable its own number, an outside name that name, or its number at Label
unfoldable pub ide_value : ℕ → ℕ → ℕ → ℕ
ide_value kind B v = elim (is_outside_kind kind && not (eqb B label)) [ true ↦ outside_name v | false ↦ v ]

abbrev pub text_value : Terminal → Token → ℕ
text_value (keyword k) token = token.value
text_value (ide B) token = ide_value token.kind B token.value
text_value number token = token.value
text_value (place s) token = token.value

-- ------------------------------------------------------------------ what opens with a token

-- An alternative opens with the next token by its first set and by what reads a variable first in it: a token of a formula by the set, a text's word as any
-- word, a variable by an ide that it fits,
unfoldable pub is_opened : ℕ → ℕ → ℕ → Bool
is_opened kind first patterns =
    elim (is_text_kind kind) [
      | false ↦ has_kind first kind
      | true ↦ elim (is_outside_kind kind) [ true ↦ has_kind first word_kind | false ↦ opens_ide patterns (sort_of_kind kind) ]
    ]

-- or by a pattern place of its sort
unfoldable pub is_placed : ℕ → ℕ → Bool
is_placed kind patterns = is_text_kind kind && not (is_outside_kind kind) && opens_place patterns (sort_of_kind kind)
