-- The spellings of keywords that count: one that is not among some kinds keeps its number and has no spelling, and no token is spelled so. Document
-- 02, C-13: "Other spellings are ordinary words, or symbols that meet nothing."
use Rattle.std.specs.Prelude.{ℕ, suc, true, false, List, [], ◌∷◌}
use Rattle.kinds.specs.Kinds.{keyword_kind, has_kind}

-- those from keyword k on
unfoldable pub spellings_kept : ℕ → ℕ → List (List ℕ) → List (List ℕ)
spellings_kept kinds k [] = []
spellings_kept kinds k (s ∷ ss) = elim (has_kind kinds (keyword_kind k)) [ true ↦ s | false ↦ [] ] ∷ spellings_kept kinds (suc k) ss
