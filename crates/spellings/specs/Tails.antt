-- What is left to compare behind eights that agree. This definition mirrors code: nobody needs it to believe `compared`.
use Rattle.std.specs.Prelude.{ℕ, ◌*◌, ◌/◌, ◌≡◌, List, length}
use Rattle.spellings.specs.Alike.{Alike}

-- two runs of one length agree up to their tail, behind all whole eights
pub record TailLeft (left right : List ℕ) (tail : ℕ) : Type 0 where
  pub long : length left ≡ length right
  pub behind : tail ≡ length left / 8 * 8
  pub before : Alike left right tail
