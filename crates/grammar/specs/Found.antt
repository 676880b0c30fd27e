-- Where a spelling stands in a list of spellings.
use Rattle.std.specs.Prelude.{ℕ, Some, None, Option}
use mathlib.Core.{Bool.true, Bool.false, List.List}
use lib.{Dec.ltb, ListN.length}
use Rattle.spellings.specs.Bytes.{index_of}

-- where a spelling stands first in a list, if it is there
unfoldable pub found_in : List ℕ → List (List ℕ) → Option ℕ
found_in s spellings =
    elim (ltb (index_of s spellings) (length spellings)) [ true ↦ Some (index_of s spellings) | false ↦ None ]
