-- The calls that wait in a room. Each has the values of its variables and its activation. These definitions mirror code: nobody needs
-- them to believe `expand`.
use Rattle.std.specs.Prelude.{ℕ, ◌+◌, ◌-◌, ◌*◌, ◌^◌, ◌<◌, ◌≤◌, ◌≡◌, List, [], ◌∷◌, ◌++◌, length, get_or, drop}
use Rattle.grammar.specs.Variables.{most_variables}
use Rattle.expansion.specs.declared.State.{State}
use Rattle.expansion.specs.Run.{Result, after}
use Rattle.expansion.specs.Limits.{most_open}
use Rattle.expansion.specs.Expansion.{Input, run_call}
use Rattle.steps.specs.Source.{Source, GoesOn}
use Rattle.steps.specs.Steps.{body, weight, most_weight}
use Rattle.steps.specs.declared.Activation.{Activation}

-- the numbers of a frame: the values of the variables, then the activation
abbrev pub frame_size : ℕ
frame_size = most_variables + 4

-- the activation that stands at a level of a room
abbrev pub activation_in : List ℕ → ℕ → Activation
activation_in frames level =
    record {
      production = get_or frames (level * frame_size + most_variables) 0;
      began = get_or frames (level * frame_size + (most_variables + 1)) 0;
      count = get_or frames (level * frame_size + (most_variables + 2)) 0;
      next = get_or frames (level * frame_size + (most_variables + 3)) 0;
    }

-- the numbers of a room for all calls that may be open
abbrev pub all_frames : ℕ
all_frames = (most_open + 1) * frame_size

-- as many calls as may wait: one less than may be open
abbrev pub most_waiting : ℕ
most_waiting = most_open - 1

-- a level of the room
pub record LevelFits (frames : List ℕ) (level : ℕ) : Type 0 where
  pub few : level ≤ most_waiting
  pub inside : level * frame_size + frame_size ≤ length frames

-- the place of a call's production and the token at which it began fit numbers of a room
pub record CallFits (call : Activation) : Type 0 where
  pub production_small : call.production < 2 ^ 32
  pub began_small : call.began < 2 ^ 32

-- so do all numbers of its activation
pub record Storable (call : Activation) : Type 0 where
  pub call_fits : CallFits call
  pub count_small : call.count < 2 ^ 32
  pub next_small : call.next < 2 ^ 32

-- one more stands above `level` others; all other numbers of the room stay
pub record Saved (old new : List ℕ) (level : ℕ) (vars : List ℕ) (call : Activation) : Type 0 where
  pub long : length new ≡ length old
  pub same : (i : ℕ) → i < level * frame_size → get_or new i 0 ≡ get_or old i 0
  pub values : (i : ℕ) → i < most_variables → get_or new (level * frame_size + i) 0 ≡ get_or vars i 0
  pub call_is : activation_in new level ≡ call
  pub above : (i : ℕ) → level * frame_size + frame_size ≤ i → get_or new i 0 ≡ get_or old i 0

-- a room with another at its front
abbrev pub with_front : List ℕ → List ℕ → List ℕ
with_front frames short = short ++ drop (length short) frames

-- its variables, read back
pub record Loaded (frames : List ℕ) (level : ℕ) (vars : List ℕ) : Type 0 where
  pub long : length vars ≡ most_variables
  pub values : (i : ℕ) → i < most_variables → get_or vars i 0 ≡ get_or frames (level * frame_size + i) 0

-- ------------------------------------------------------------------ the calls that wait

-- a call that waits: its activation, and the values of its variables
pub record Frame : Type 0 where
  pub call : Activation
  pub values : List ℕ

-- what the calls that wait, the innermost first, make of what the call above them gives
unfoldable pub resume : Input → Source → List Frame → Result ℕ → Result ℕ
resume I S [] r = r
resume I S (f ∷ fs) r =
    resume I S fs (after r (λ x. body (run_call (most_waiting - length fs) I) S f.call.next I (f.values ++ (x ∷ []))))

-- the bytes from an offset of the source on
abbrev pub ahead : Source → ℕ → ℕ
ahead S at = length S.bytes - at

-- those of the productions that they go on with
unfoldable pub owed : Source → List Frame → ℕ
owed S [] = 0
owed S (f ∷ fs) = ahead S f.call.next + owed S fs

-- a call stands at a level of the room
pub record Waits (S : Source) (frames : List ℕ) (level : ℕ) (f : Frame) : Type 0 where
  pub call_is : activation_in frames level ≡ f.call
  pub call_fits : CallFits f.call
  pub counted : f.call.count ≡ length f.values
  pub held : (i : ℕ) → i < most_variables → i < length f.values → get_or frames (level * frame_size + i) 0 ≡ get_or f.values i 0
  pub goes_on : GoesOn S f.call.next

pub data Stacked (S : Source) (frames : List ℕ) : List Frame → Type 0 where
  stacked_none : Stacked S frames []
  stacked_one : {f : Frame} {fs : List Frame} → Waits S frames (length fs) f → length f.values < length S.bytes + f.call.next
      → Stacked S frames fs
      → Stacked S frames (f ∷ fs)

-- ------------------------------------------------------------------ where an expansion stands

-- `level` calls wait below the one that goes on; all stand in the room, and what is left of them gives R
pub record Standing (I : Input) (S : Source) (frames : List ℕ) (level : ℕ) (here : State) (cells : List ℕ) (R : Result ℕ) : Type 0 where
  pub fits : LevelFits frames level
  pub current : Frame
  pub waiting : List Frame
  pub many : length waiting ≡ level
  pub on_top : Waits S frames level current
  pub counted : length current.values ≤ length S.bytes + current.call.next
  pub stacked : Stacked S frames waiting
  pub light : weight here + ahead S current.call.next + owed S waiting ≤ most_weight
  pub rest : resume I S waiting (body (run_call (most_waiting - level) I) S current.call.next I current.values here cells) ≡ R
