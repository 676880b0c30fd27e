-- What the code that runs the root's call asks. These definitions mirror code: nobody needs them to believe `expand`.
use Rattle.std.specs.Prelude.{ℕ, ◌+◌, ◌<◌, ◌≤◌, ◌≡◌, List, [], length, Ok, Err}
use Rattle.answers.specs.declared.Refusal.{Refusal}
use Rattle.answers.specs.Refusals.{refusal}
use Rattle.expansion.specs.declared.State.{State}
use Rattle.expansion.specs.Outcome.{Outcome}
use Rattle.expansion.specs.Run.{Result, done, halt}
use Rattle.expansion.specs.Outcomes.{ran}
use Rattle.expansion.specs.Expansion.{Input, run_call, run}
use Rattle.choices.specs.Chosen.{RemembersFor}
use Rattle.steps.specs.declared.Activation.{Activation}
use Rattle.steps.specs.Source.{Source, GoesOn}
use Rattle.steps.specs.Steps.{body, weight, most_weight}
use Rattle.frames.specs.Frames.{most_waiting, all_frames, ahead, CallFits}
use Rattle.turns.specs.declared.Resumption.{Resumption}
use Rattle.calls.specs.Lent.{reading, Lent}
use Rattle.calls.specs.Calls.{StandsAt, MayStand}

-- the items of the root's production from an offset on, and its result: as many more calls may be open as may wait
abbrev pub root_items : Input → Source → ℕ → State → List ℕ → Result ℕ
root_items I S start s cells = body (run_call most_waiting I) S start I [] s cells

-- the root's call is entered: a production goes on at its offset, its activation fits a frame, and the counters leave room for its items
pub record RootEntered (S : Source) (call : Activation) (s : State) : Type 0 where
  pub goes_on : GoesOn S call.next
  pub call_fits : CallFits call
  pub no_variables : call.count ≡ 0
  pub light : weight s + ahead S call.next ≤ most_weight

-- what is lent, and the root's call is entered
pub record MayBeginRoot (S : Source) (room memory tokens stack : List ℕ) (call : Activation) (s : State) : Type 0 where
  pub lent : Lent S room tokens stack
  pub remembers : RemembersFor S.patterns S.bytes memory
  pub entered : RootEntered S call s

-- an expansion stands in a room that is not for all calls, and may have no level more
pub record MayGoOn (S : Source) (room memory tokens cells stack frames : List ℕ) (from : Resumption) : Type 0 where
  pub stands : MayStand S room memory tokens cells stack frames from
  pub frames_short : length frames < all_frames

-- whatever what is left of the calls gave, they end with it
pub record Ends (S : Source) (tokens cells frames : List ℕ) (from : Resumption) (outcome : Outcome) (cells' : List ℕ) : Type 0 where
  pub ends : (R : Result ℕ) → StandsAt S tokens cells frames from R → ran outcome cells' ≡ R

-- document 01's number and values of an outcome and of a result: those of its refusal, else none
abbrev pub numbered_outcome : Outcome → Refusal
numbered_outcome (Ok (v, s)) = refusal 0 0 0 0
numbered_outcome (Err r) = r

abbrev pub numbered_run : Result ℕ → Refusal
numbered_run (done v s cells) = refusal 0 0 0 0
numbered_run (halt r cells) = r

-- the run from the root gives this outcome and these cells, and its number and values are those of the definition
pub record Expands (S : Source) (tokens : List ℕ) (root : ℕ) (cells : List ℕ) (outcome : Outcome) (cells' : List ℕ) : Type 0 where
  pub result_is : ran outcome cells' ≡ run (reading S tokens cells) root cells
  pub numbered_is : numbered_outcome outcome ≡ numbered_run (run (reading S tokens cells) root cells)
