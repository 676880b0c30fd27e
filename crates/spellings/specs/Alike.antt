-- Where two runs of bytes agree, and where they first differ, byte by byte: nothing here knows of eights. Document 02, C-12: "the first that fails".
use Rattle.std.specs.Prelude.{ℕ, ◌<◌, ◌≡◌, List, length, get_or}

-- every member of the list is a byte; a place past the end has the byte 0
abbrev pub Bytes : List ℕ → Type 0
Bytes s = (place : ℕ) → get_or s place 0 < 256

-- the first `count` members of two lists agree
pub record Alike (left right : List ℕ) (count : ℕ) : Type 0 where
  pub agree : (place : ℕ) → place < count → get_or left place 0 ≡ get_or right place 0

-- two runs of one length differ at a place, and at none before it
pub record FirstDifference (left right : List ℕ) (place : ℕ) : Type 0 where
  pub long : length left ≡ length right
  pub within : place < length left
  pub before : Alike left right place
  pub differs : get_or left place 0 ≡ get_or right place 0 → ⊥
