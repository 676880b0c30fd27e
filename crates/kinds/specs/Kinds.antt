-- Sets of token kinds as 64-bit numbers: bit 0 a word, bit 1 a number, bit k + 2 keyword k.
-- Document 01, "Phrase table": a first set is what 01 calls the openings.
-- Joining and intersecting are `bit_or` and `bit_and` of lib.Bits, the count of kinds is `ones`, the lowest kind `count_trailing_zeros 64`.
use Rattle.std.specs.Prelude.{ℕ, ◌+◌, ◌/◌, ◌%◌, ◌^◌, Bool, true, false, eqb, ltb}

abbrev pub word_kind : ℕ
word_kind = 0

abbrev pub number_kind : ℕ
number_kind = 1

abbrev pub keyword_kind : ℕ → ℕ
keyword_kind k = k + 2

-- the kind of a symbol that is no keyword, and of the end of the formula: it is in no set
abbrev pub no_kind : ℕ
no_kind = 64

-- kind k is in the set m
unfoldable pub has_kind : ℕ → ℕ → Bool
has_kind m k = eqb (m / 2 ^ k % 2) 1

-- the set of one kind; empty for what is no kind
unfoldable pub only : ℕ → ℕ
only k = elim (ltb k 64) [ true ↦ 2 ^ k | false ↦ 0 ]
