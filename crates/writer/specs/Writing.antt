-- Writing at the front of what remains of a buffer. This mirrors code: nobody needs it to believe `expand`.
use Rattle.std.specs.Prelude.{ℕ, ◌≤◌, ◌≡◌, List, ◌++◌, length, drop}

-- a text is not longer than what was lent
pub record Fits (text out : List ℕ) : Type 0 where
  pub room : length text ≤ length out

-- A text stands at the front of what was lent, and what lies behind it is as it was; the answer is its length.
pub record Written (text out : List ℕ) (r : ℕ) (out' : List ℕ) : Type 0 where
  pub counted : r ≡ length text
  pub placed : out' ≡ text ++ drop (length text) out
  -- what follows goes on behind it
  pub within : r ≤ length out'
