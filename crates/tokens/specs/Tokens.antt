-- Tokens and what they stand for, with the limits of a formula. Document 01, "Formula".
use Rattle.std.specs.Prelude.{ℕ, ◌-◌, true, false, List, []}
use lib.{Dec.ltb, ListN.get_or}
use Rattle.tokens.specs.declared.Token.{Token}
use Rattle.kinds.specs.Kinds.{no_kind}
use Rattle.grammar.specs.Limits.{most}
use Rattle.grammar.specs.Table.{Lexicon}

-- a token by its kind, offset, size and value
abbrev pub token : ℕ → ℕ → ℕ → ℕ → Token
token kind at size value = record { kind = kind; at = at; size = size; value = value }

-- past the last token there is one of no kind
abbrev pub end_token : Token
end_token = token no_kind 0 0 0

-- the most tokens that a formula may have
abbrev pub most_tokens : ℕ
most_tokens = 4096

-- the most bytes that a formula may have
abbrev pub longest_formula : ℕ
longest_formula = 65535

-- what a spelling number stands for: below 64 that outside name, from 64 on that word
abbrev pub spelled : Lexicon → List (List ℕ) → ℕ → List ℕ
spelled lex words v = elim (ltb v most.outsides) [ true ↦ get_or lex.outsides v [] | false ↦ get_or words (v - most.outsides) [] ]
