-- What the code that runs calls asks and answers. These definitions mirror code: nobody needs them to believe `expand`.
use Rattle.std.specs.Prelude.{ℕ, ◌+◌, ◌*◌, ◌≤◌, List, length}
use Rattle.expansion.specs.Run.{Result}
use Rattle.choices.specs.Chosen.{RemembersFor}
use Rattle.frames.specs.Frames.{frame_size, Standing}
use Rattle.turns.specs.declared.Advance.{Advance}
use Rattle.turns.specs.declared.Resumption.{Resumption}
use Rattle.turns.specs.Turns.{Goes}
use Rattle.steps.specs.Source.{Source}
use Rattle.calls.specs.Lent.{reading, Lent}

-- what is left of the calls that stand in a room of frames gives R
abbrev pub StandsAt : Source → (tokens cells frames : List ℕ) → Resumption → Result ℕ → Type 0
StandsAt S tokens cells frames from R = Standing (reading S tokens cells) S frames from.level from.state cells R

-- what is lent, and where an expansion stands in a room of frames
pub record MayStand (S : Source) (room memory tokens cells stack frames : List ℕ) (from : Resumption) : Type 0 where
  pub lent : Lent S room tokens stack
  pub remembers : RemembersFor S.patterns S.bytes memory
  pub result : Result ℕ
  pub standing : StandsAt S tokens cells frames from result

-- the same, in a room that has one level more
pub record MayGo (S : Source) (room memory tokens cells stack frames : List ℕ) (from : Resumption) : Type 0 where
  pub stands : MayStand S room memory tokens cells stack frames from
  pub next_fits : (from.level + 2) * frame_size ≤ length frames

-- Whatever what is left of the calls gave, they have ended with it, or what is left of them, in a room that was too short, still gives it. The
-- choices that are remembered are still the table's.
pub record Continues (S : Source) (tokens cells frames : List ℕ) (from : Resumption) (progress : Advance) (cells' frames' memory' : List ℕ) : Type 0 where
  pub goes : (R : Result ℕ) → StandsAt S tokens cells frames from R → Goes (reading S tokens cells) S R frames' cells' progress
  pub remembers : RemembersFor S.patterns S.bytes memory'
