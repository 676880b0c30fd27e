-- How the code enters spellings, keywords among them. These definitions mirror code: nobody needs them to believe `expand`.
use Rattle.std.specs.Prelude.{ℕ, Bool, true, false, List}
use Rattle.kinds.specs.Kinds.{keyword_kind, has_kind}
use Rattle.keywords.specs.KeptSpellings.{spellings_kept}

-- every spelling, or those of keywords that count
abbrev pub kept_if : Bool → ℕ → ℕ → List (List ℕ) → List (List ℕ)
kept_if true kinds k ss = ss
kept_if false kinds k ss = spellings_kept kinds k ss

-- the bytes of a spelling that are kept
abbrev pub kept_size : Bool → ℕ → ℕ → ℕ → ℕ
kept_size true kinds k size = size
kept_size false kinds k size = elim (has_kind kinds (keyword_kind k)) [ true ↦ size | false ↦ 0 ]
