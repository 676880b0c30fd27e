-- One turn of an expansion. The call that goes on is kept apart from its frame: its variables in an array, and a cursor. These definitions
-- mirror code: nobody needs them to believe `expand`.
use Rattle.std.specs.Prelude.{ℕ, ◌+◌, ◌-◌, ◌*◌, ◌<◌, ◌≤◌, ◌≡◌, List, [], ◌∷◌, ◌++◌, length}
use Rattle.grammar.specs.Limits.{most}
use Rattle.expansion.specs.declared.State.{State}
use Rattle.expansion.specs.Run.{Result, after}
use Rattle.expansion.specs.Outcomes.{ran}
use Rattle.expansion.specs.Expansion.{Input, run_call}
use Rattle.templates.specs.Built.{Holds, with_value}
use Rattle.steps.specs.Source.{Source, GoesOn}
use Rattle.steps.specs.Steps.{body, weight, most_weight, Onward}
use Rattle.frames.specs.Frames.{frame_size, activation_in, all_frames, most_waiting, LevelFits, CallFits, Storable, Saved, Loaded, Frame, resume, ahead, owed}
use Rattle.frames.specs.Frames.{Stacked, Standing}
use Rattle.turns.specs.declared.Resumption.{Resumption}
use Rattle.steps.specs.declared.Activation.{Activation}
use Rattle.steps.specs.declared.Cursor.{Cursor}
use Rattle.turns.specs.declared.Advance.{Advance}
use Rattle.turns.specs.declared.Advance.TheVariants.{Ended, Paused}
use Rattle.expansion.specs.Limits.{most_calls}

-- ------------------------------------------------------------------ cursors

-- the cursor of the call that stands at a level of the room
abbrev pub cursor_at : List ℕ → Resumption → Cursor
cursor_at frames from = record { call = activation_in frames from.level; level = from.level; state = from.state }

-- the activation of a call that goes on at an offset
abbrev pub going_on : Activation → ℕ → Activation
going_on call next = record { production = call.production; began = call.began; count = call.count; next = next }

-- the cursor of a call that has one variable more and goes on at an offset
abbrev pub moved : Cursor → ℕ → State → Cursor
moved c next t =
    record {
      call = record { production = c.call.production; began = c.call.began; count = c.call.count + 1; next = next };
      level = c.level;
      state = t;
    }

-- the cursor of a call that is entered one level higher
abbrev pub entered_at : Cursor → Activation → State → Cursor
entered_at c callee t = record { call = callee; level = c.level + 1; state = t }

-- where the call of a cursor goes on from its frame
abbrev pub resumption : Cursor → Resumption
resumption c = record { level = c.level; state = c.state }

-- the call at a level, read back
pub record Resumes (frames : List ℕ) (from : Resumption) (vars : List ℕ) (c : Cursor) : Type 0 where
  pub loaded : Loaded frames from.level vars
  pub cursor_is : c ≡ cursor_at frames from

-- a value is one more variable
pub record Values (vars : List ℕ) (c : Cursor) (x next : ℕ) (t : State) (vars' : List ℕ) (d : Cursor) : Type 0 where
  pub vars_are : vars' ≡ with_value vars c.call.count x
  pub cursor_is : d ≡ moved c next t

-- a value goes to the call at a level
pub record Returns (frames : List ℕ) (level x : ℕ) (t : State) (vars' : List ℕ) (d : Cursor) : Type 0 where
  pub vars : List ℕ
  pub waiting : Cursor
  pub resumes : Resumes frames (record { level = level; state = t }) vars waiting
  pub values : Values vars waiting x waiting.call.next t vars' d

-- a call can be saved at a level
pub record Savable (frames : List ℕ) (level : ℕ) (call : Activation) : Type 0 where
  pub fits : LevelFits frames level
  pub storable : Storable call

-- the call that calls is saved, and the one that is entered has its arguments
pub record Pushes (frames vars args : List ℕ) (c : Cursor) (next : ℕ) (callee : Activation) (t : State) (frames' vars' : List ℕ) (d : Cursor) : Type 0 where
  pub saved : Saved frames frames' c.level vars (going_on c.call next)
  pub vars_are : vars' ≡ args
  pub cursor_is : d ≡ entered_at c callee t

-- the call that goes on is saved
pub record Pauses (frames vars : List ℕ) (c : Cursor) (frames' : List ℕ) (p : Advance) : Type 0 where
  pub saved : Saved frames frames' c.level vars c.call
  pub paused : p ≡ Paused (resumption c)

-- a call that waits counts for more than the bytes that are left, and a call that may still be begun for more than both
abbrev pub waiting_weight : ℕ
waiting_weight = most.bytes + 1

abbrev pub call_weight : ℕ
call_weight = 2 * waiting_weight

-- Calls left, then calls that wait, then bytes left: what falls with each turn.
abbrev pub left : Source → Cursor → ℕ
left S c = call_weight * (most_calls - c.state.calls) + waiting_weight * c.level + ahead S c.call.next

-- ------------------------------------------------------------------ where an expansion stands

-- what is left of the call that goes on, and of the calls that wait, gives R
pub record Going (I : Input) (S : Source) (frames vars : List ℕ) (c : Cursor) (cells : List ℕ) (R : Result ℕ) : Type 0 where
  pub goes_on : GoesOn S c.call.next
  pub call_fits : CallFits c.call
  pub counted : c.call.count ≤ length S.bytes + c.call.next
  pub waiting : List Frame
  pub many : length waiting ≡ c.level
  pub fits : LevelFits frames c.level
  pub stacked : Stacked S frames waiting
  pub light : weight c.state + ahead S c.call.next + owed S waiting ≤ most_weight
  pub M : List ℕ
  pub holds : Holds vars c.call.count M
  pub rest : resume I S waiting (body (run_call (most_waiting - c.level) I) S c.call.next I M c.state cells) ≡ R

-- the same, where its item is a call with arguments in an array, and the room has one level more
pub record Calling (I : Input) (S : Source) (frames vars : List ℕ) (c : Cursor) (args : List ℕ) (callee given' next : ℕ) (t : State) (cells : List ℕ)
    (R : Result ℕ) : Type 0 where
  pub onward : Onward S c.call.next next c.state t
  pub few_given : given' ≤ length S.bytes
  pub call_fits : CallFits c.call
  pub counted : c.call.count ≤ length S.bytes + c.call.next
  pub waiting : List Frame
  pub many : length waiting ≡ c.level
  pub few : c.level ≤ most_waiting
  pub spare : (c.level + 2) * frame_size ≤ length frames
  pub stacked : Stacked S frames waiting
  pub light : weight c.state + ahead S c.call.next + owed S waiting ≤ most_weight
  pub M : List ℕ
  pub holds : Holds vars c.call.count M
  pub vs : List ℕ
  pub given : Holds args given' vs
  pub rest :
      resume I S waiting
      (after (run_call (most_waiting - c.level) I callee vs t cells) (λ x. body (run_call (most_waiting - c.level) I) S next I (M ++ (x ∷ []))))
      ≡ R

-- ------------------------------------------------------------------ how a turn ends

-- it ended with R, or the room was too short and it stands where R is still to be had
abbrev pub Goes : Input → Source → Result ℕ → List ℕ → List ℕ → Advance → Type 0
Goes I S R frames cells (Ended o) = ran o cells ≡ R
Goes I S R frames cells (Paused from) = Standing I S frames from.level from.state cells R × (length frames < all_frames)

-- a call goes on in a room that has one level more
abbrev pub TurnStands : Input → Source → Result ℕ → List ℕ → List ℕ → List ℕ → Cursor → Type 0
TurnStands I S R frames vars cells c = Going I S frames vars c cells R × ((c.level + 2) * frame_size ≤ length frames)

-- and less is left
pub record Turns (I : Input) (S : Source) (most : ℕ) (R : Result ℕ) (frames vars cells : List ℕ) (c : Cursor) : Type 0 where
  pub stands : TurnStands I S R frames vars cells c
  pub less : left S c < most
