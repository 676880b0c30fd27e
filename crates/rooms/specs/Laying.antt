-- Rooms of programs that are laid out part by part. Nobody needs this to believe `expand`.
use Rattle.std.specs.Prelude.{ℕ, ◌+◌, min, ◌≡◌, List, ◌++◌, length, take, drop}

-- where a part ends that is laid behind the first `at` bytes of a room: it is cut where the room ends
unfoldable pub laid_end : List ℕ → ℕ → List ℕ → ℕ
laid_end room at part = min (length room) (at + length part)

-- the room with the part in it: what is behind the part stays
unfoldable pub laid : List ℕ → ℕ → List ℕ → List ℕ
laid room at part = take (laid_end room at part) (take at room ++ part) ++ drop (laid_end room at part) room

-- a part was laid behind the first `at` bytes of a room: the answer is where it ends
pub record Lays (room : List ℕ) (at : ℕ) (part : List ℕ) (r : ℕ) (room' : List ℕ) : Type 0 where
  pub end : r ≡ laid_end room at part
  pub put : room' ≡ laid room at part
