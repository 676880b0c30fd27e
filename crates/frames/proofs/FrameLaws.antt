-- Laws of the calls that wait: how they stand in a room, and what they make of the value of the call above them.
use Prim.Native.Nat.{ℕ, ◌+◌, ◌*◌, ◌<◌}
use mathlib.Core.Path.{◌≡◌, refl, sym, ap, ◌∙◌, subst}
use mathlib.Core.List.{List, [], ◌∷◌}
use native.Mathlib.Omega.{arith}
use lib.ListN.{length, get_or}
use Rattle.answers.specs.declared.Refusal.{Refusal}
use Rattle.expansion.specs.declared.State.{State}
use Rattle.expansion.specs.Run.{Result, halt}
use Rattle.expansion.specs.Expansion.{Input}
use Rattle.templates.specs.Built.{Holds}
use Rattle.steps.specs.Source.{Source, GoesOn}
use Rattle.steps.specs.declared.Activation.{Activation}
use Rattle.frames.specs.Frames.{frame_size, activation_in, LevelFits, CallFits, Saved, Loaded, Frame, resume, Waits}
use Rattle.frames.specs.Frames.{Stacked, stacked_none, stacked_one, Standing}

-- ------------------------------------------------------------------ the calls that wait

-- Calls that wait pass a refusal on.
pub resume_halt : (input : Input) (S : Source) (fs : List Frame) (refusal : Refusal) (cells : List ℕ)
    → resume input S fs (halt refusal cells) ≡ halt refusal cells
unfolding resume
resume_halt input S [] refusal cells = refl
resume_halt input S (f ∷ fs) refusal cells = resume_halt input S fs refusal cells

-- the activation at a level, in a room that is the same there
activation_same : (old new : List ℕ) (level : ℕ)
    → ((place : ℕ) → place < level * frame_size + frame_size → get_or new place 0 ≡ get_or old place 0)
    → activation_in new level ≡ activation_in old level
activation_same old new level h =
    rw (
      h (level * frame_size + 16) (omega arith),
      h (level * frame_size + 17) (omega arith),
      h (level * frame_size + 18) (omega arith),
      h (level * frame_size + 19) (omega arith),
    )

waits_same : {S : Source} {old new : List ℕ} {level : ℕ} {frame : Frame} → Waits S old level frame
    → ((place : ℕ) → place < level * frame_size + frame_size → get_or new place 0 ≡ get_or old place 0)
    → Waits S new level frame
waits_same {old = old} {new = new} {level = level} w h =
    record {
      call_is = activation_same old new level h ∙ w.call_is;
      call_fits = w.call_fits;
      counted = w.counted;
      held = λ i a b. h (level * frame_size + i) (omega arith) ∙ w.held i a b;
      goes_on = w.goes_on;
    }

-- what stands above them changes nothing
pub stacked_same : {S : Source} {old new : List ℕ} {fs : List Frame} → ((place : ℕ) → place < length fs * frame_size → get_or new place 0 ≡ get_or old place 0)
    → Stacked S old fs → Stacked S new fs
stacked_same h stacked_none = stacked_none
stacked_same h (stacked_one w few s) = stacked_one (waits_same w (λ i l. h i (omega arith))) few (stacked_same (λ i l. h i (omega arith)) s)

-- what the room has of a call that waits there, as its frame has it
module _ {S : Source} {frames : List ℕ} {level : ℕ} {frame : Frame} (waits : Waits S frames level frame) where
  -- Where it goes on.
  pub waits_next : (activation_in frames level).next ≡ frame.call.next
  waits_next = ap (λ (a : Activation). a.next) waits.call_is

  -- How many variables it has.
  pub waits_count : (activation_in frames level).count ≡ frame.call.count
  waits_count = ap (λ (a : Activation). a.count) waits.call_is

  -- Its activation fits.
  pub waits_fits : CallFits (activation_in frames level)
  waits_fits = subst CallFits (sym waits.call_is) waits.call_fits

-- a call that is saved
pub waits_saved : {S : Source} {old new vars : List ℕ} {level : ℕ} {call : Activation} {values : List ℕ} → Saved old new level vars call
    → CallFits call
    → Holds vars call.count values
    → GoesOn S call.next
    → Waits S new level (record { call = call; values = values })
waits_saved v fits g there =
    record {
      call_is = v.call_is;
      call_fits = fits;
      counted = sym g.count;
      held = λ i a b. v.values i a ∙ g.same i a (omega (arith, g.count));
      goes_on = there;
    }

-- one more waits
pub stacked_more : {S : Source} {old new vars : List ℕ} {level : ℕ} {call : Activation} {values : List ℕ} {fs : List Frame} → length fs ≡ level
    → Saved old new level vars call
    → CallFits call
    → Holds vars call.count values
    → GoesOn S call.next
    → call.count < length S.bytes + call.next
    → Stacked S old fs
    → Stacked S new (record { call = call; values = values } ∷ fs)
stacked_more {call = call} {values = values} {fs = fs} e v fits g there few s =
    stacked_one {f = record { call = call; values = values }} {fs = fs} (rw e (waits_saved v fits g there))
    (omega (arith, g.count))
    (stacked_same (λ i l. v.same i (omega arith)) s)

-- the variables of the innermost, read back
pub waits_holds : {S : Source} {frames vars : List ℕ} {level : ℕ} {frame : Frame} → Waits S frames level frame → Loaded frames level vars
    → Holds vars (activation_in frames level).count frame.values
waits_holds w l =
    record {
      long = l.long;
      count = sym (waits_count w ∙ w.counted);
      same = λ i a b. l.values i a ∙ w.held i a (omega (arith, waits_count w, w.counted));
    }

-- ------------------------------------------------------------------ where an expansion stands

-- the same in another room, as far as the calls stand
pub standing_same : {input : Input} {S : Source} {old new : List ℕ} {level : ℕ} {here : State} {cells : List ℕ} {result : Result ℕ} → LevelFits new level
    → ((place : ℕ) → place < level * frame_size + frame_size → get_or new place 0 ≡ get_or old place 0)
    → Standing input S old level here cells result
    → Standing input S new level here cells result
standing_same f h s =
    record {
      fits = f;
      current = s.current;
      waiting = s.waiting;
      many = s.many;
      on_top = waits_same s.on_top h;
      counted = s.counted;
      stacked = stacked_same (λ i l. h i (omega (arith, s.many))) s.stacked;
      light = s.light;
      rest = s.rest;
    }
