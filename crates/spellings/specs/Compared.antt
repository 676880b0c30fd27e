-- Two runs of bytes, compared. Document 02, C-12: "compare eight bytes at a time as one 64-bit number, with the tail shorter than eight byte by byte", and
-- how many comparisons it takes: "none if the lengths differ, else all up to and with the first that fails".
use Rattle.std.specs.Prelude.{ℕ, zero, suc, ◌+◌, ◌/◌, true, false, List, [], ◌∷◌, eqb, length, drop}
use Rattle.spellings.specs.Bytes.{same}
use Rattle.spellings.specs.Eights.{eight_at}
use Rattle.spellings.specs.declared.Comparison.{Comparison}

-- what is compared from an index on, each by one comparison: so many times eight bytes, and then the bytes left
unfoldable pub pieces_from : ℕ → List ℕ → ℕ → List ℕ
pieces_from zero s i = drop i s
pieces_from (suc eights) s i = eight_at s i ∷ pieces_from eights s (i + 8)

-- as many eights as there are, so that the bytes left are fewer than eight
abbrev pub pieces : List ℕ → List ℕ
pieces s = pieces_from (length s / 8) s 0

-- all comparisons up to and with the first that fails
unfoldable pub comparisons : List ℕ → List ℕ → ℕ
comparisons [] [] = 0
comparisons [] (b ∷ bs) = 0
comparisons (a ∷ as') [] = 0
comparisons (a ∷ as') (b ∷ bs) = elim (eqb a b) [ true ↦ suc (comparisons as' bs) | false ↦ 1 ]

-- none if the lengths differ
unfoldable pub comparisons_of : List ℕ → List ℕ → ℕ
comparisons_of as' bs = elim (eqb (length as') (length bs)) [ true ↦ comparisons (pieces as') (pieces bs) | false ↦ 0 ]

-- whether two runs of bytes are equal, and how many comparisons it takes
abbrev pub compared : List ℕ → List ℕ → Comparison
compared as' bs = record { equal = same as' bs; count = comparisons_of as' bs }
