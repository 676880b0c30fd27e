-- What the check of a table answers and leaves in the room that is lent. The room mirrors code: nobody needs it to believe `expand`.
use Rattle.std.specs.Prelude.{ℕ, ◌≡◌, List, Ok}
use Rattle.answers.specs.Refusals.{Verdict}
use Rattle.answers.specs.Checked.{Checked, ok, bad, ◌>>=◌}
use Rattle.decoding.specs.Decode.{decode}
use Rattle.decoding.specs.Within.{Each}
use Rattle.elaboration.specs.CheckSequence.{check_sorts}
use Rattle.productions.specs.Index.{Whole, places_of}
use Rattle.productions.specs.Room.{overwritten}
use Rattle.firsts.specs.Room.{table_room}
use Rattle.checker.specs.Check.{check}

abbrev pub room_if_passed : {A : Type 0} → Checked A → List ℕ → List ℕ → List ℕ
room_if_passed (ok a) bs room = overwritten (table_room bs) room
room_if_passed (bad r) bs room = room

-- the room of a table over what was there, where layout and sorts are right; else what was there
unfoldable pub room_after : List ℕ → List ℕ → List ℕ
room_after bs room = room_if_passed (decode bs >>= λ t. check_sorts t) bs room

-- the verdict, the whole room, and that each start in it is that of a whole alternative of a table that passes
pub record CheckedInto (bs room₀ room : List ℕ) (r : Verdict) : Type 0 where
  pub answer : r ≡ check bs
  pub held : room ≡ room_after bs room₀
  pub whole : r ≡ Ok tt → Each (Whole bs) (places_of bs)
