-- Laws of the root's call and of the whole formula.
use Rattle.std.specs.Prelude.{Ok, Err}
use Prim.Native.Nat.{ℕ, ◌-◌, ◌*◌, ◌<◌, ◌≤◌}
use mathlib.Core.Path.{◌≡◌, refl, sym, ap, ◌∙◌, subst}
use mathlib.Core.Bool.{Bool, true, false}
use mathlib.Core.List.{List, []}
use native.Mathlib.Omega.{arith}
use lib.Dec.{ltb}
use lib.ListN.{length, replicate, drop, get_or-append}
use borrow.Author.Tests.{lt-ltb, le-ltb}
use Rattle.answers.specs.declared.Refusal.{Refusal}
use Rattle.answers.specs.Refusals.{refusal}
use Rattle.expansion.specs.declared.State.{State}
use Rattle.expansion.specs.Outcome.{Outcome}
use Rattle.expansion.specs.Run.{Result, done, halt, after}
use Rattle.expansion.specs.Outcomes.{ran}
use Rattle.expansion.specs.Expansion.{Input, run_call, initial_state, ended, run}
use Rattle.expansion.specs.Limits.{most_open}
use Rattle.templates.specs.Built.{Holds}
use Rattle.steps.specs.declared.Activation.{Activation}
use Rattle.steps.specs.Steps.{body}
use Rattle.frames.specs.Frames.{frame_size, all_frames, LevelFits, Saved, with_front, resume, owed, stacked_none, Standing}
use Rattle.frames.proofs.FrameLaws.{waits_saved, standing_same}
use Rattle.turns.specs.Begun.{Begun}
use Rattle.turns.specs.declared.Resumption.{Resumption}
use Rattle.turns.specs.declared.Advance.{Advance}
use Rattle.turns.specs.declared.Advance.TheVariants.{Ended, Paused}
use Rattle.steps.specs.Source.{Source}
use Rattle.calls.specs.Lent.{reading}
use Rattle.calls.specs.Calls.{StandsAt, MayStand, MayGo, Continues}
use Rattle.turns.specs.Begins.{Begins, CallBegunAt, CallEntered, chosen_call, EntersChosen, Starts}
use Rattle.turns.specs.Turns.{Goes}
use Rattle.expander.specs.Roots.{root_items, RootEntered, MayGoOn, Ends, numbered_outcome, numbered_run, Expands}
use Rattle.turns.proofs.BeginLaws.{entry_weight}
use Rattle.grammar.specs.Limits.{most}

-- No variables.
pub holds_none : Holds (replicate 16 0) 0 []
holds_none = record { long = refl; count = refl; same = λ i a b. absurd (omega arith) }

-- The root's call is entered, with room for its items.
pub root_entered : (input : Input) {S : Source} (root : ℕ) {call : Activation} {next : State} → CallBegunAt S most_open initial_state call next
    → call ≡ chosen_call input S root 0 initial_state
    → length S.bytes ≤ most.bytes
    → RootEntered S call next
root_entered input root e chosen h =
    record {
      goes_on = e.goes_on;
      call_fits =
          record { production_small = omega (arith, e.placed); began_small = omega (arith, ap (λ (a : Activation). a.began) chosen) };
      no_variables = ap (λ (a : Activation). a.count) chosen;
      light = omega (arith, entry_weight e h);
    }

-- It is saved at the lowest level.
pub standing_root : {input : Input} {S : Source} {call : Activation} {state : State} → RootEntered S call state → (cells : List ℕ)
    {old frames : List ℕ}
    → LevelFits frames 0 → Saved old frames 0 (replicate 16 0) call
    → Standing input S frames 0 state cells (root_items input S call.next state cells)
unfolding resume owed
standing_root {call = call} t cells fits saved =
    record {
      fits = fits;
      current = record { call = call; values = [] };
      waiting = [];
      many = refl;
      on_top = waits_saved saved t.call_fits (rw t.no_variables holds_none) t.goes_on;
      counted = omega arith;
      stacked = stacked_none;
      light = omega (arith, t.light);
      rest = refl;
    }

-- The calls that stand in a room stand in a longer one that has the same at its front.
pub standing_copied : {input : Input} {S : Source} {short frames : List ℕ} {level : ℕ} {here : State} {cells : List ℕ} {result : Result ℕ}
    → length short ≤ length frames → (old : List ℕ) → frames ≡ with_front old short
    → Standing input S short level here cells result
    → Standing input S frames level here cells result
standing_copied {short = short} fit old e s =
    standing_same (record { few = s.fits.few; inside = omega (arith, s.fits.inside) })
    (λ i l. rw e (get_or-append short (drop (length short) old) 0 i (omega (arith, s.fits.inside)))) s

-- a room copied into a longer one, for `many` calls
pub record Copied (short frames : List ℕ) : Type 0 where
  -- what the longer one held
  pub old : List ℕ
  -- it has the same at its front
  pub front : frames ≡ with_front old short
  -- how many calls it is for
  pub many : ℕ
  -- it is as long as they need
  pub long : length frames ≡ many * frame_size
  -- the other is shorter
  pub less : length short < many * frame_size

-- The calls that stand in the shorter room go on in the longer one, which has a level more.
pub may_go : {S : Source} {room memory tokens cells stack short frames : List ℕ} {from : Resumption} → MayGoOn S room memory tokens cells stack short from
    → Copied short frames → MayGo S room memory tokens cells stack frames from
may_go may c =
    let on = may.stands in
    record {
      stands =
          record {
            lent = on.lent;
            remembers = on.remembers;
            result = on.result;
            standing = standing_copied (omega (arith, c.long, c.less)) c.old c.front on.standing;
          };
      next_fits = omega (arith, on.standing.fits.inside, c.long, c.less);
    }

-- What they end with there, they end with.
pub ends_copied : {S : Source} {tokens cells short frames : List ℕ} {from : Resumption} {outcome : Outcome} {cells' : List ℕ} → Copied short frames
    → Ends S tokens cells frames from outcome cells' → Ends S tokens cells short from outcome cells'
ends_copied c e = record { ends = λ R s. e.ends R (standing_copied (omega (arith, c.long, c.less)) c.old c.front s) }

-- how far a loop went
module _ {S : Source} {tokens cells frames : List ℕ} {from : Resumption} {advance : Advance} {cells' frames' memory' : List ℕ}
    (continues : Continues S tokens cells frames from advance cells' frames' memory') where
  -- It ended.
  pub ends-here : {outcome : Outcome} → advance ≡ Ended outcome → Ends S tokens cells frames from outcome cells'
  ends-here e = record { ends = λ R s. subst (Goes (reading S tokens cells) S R frames' cells') e (continues.goes R s) }

  -- It paused, with as many cells.
  module _ {later : Resumption} (paused : advance ≡ Paused later) (same : length cells' ≡ length cells) where
    paused_at : (R : Result ℕ) → StandsAt S tokens cells frames from R
        → Standing (reading S tokens cells) S frames' later.level later.state cells' R × (length frames' < all_frames)
    paused_at R s = subst (Goes (reading S tokens cells) S R frames' cells') paused (continues.goes R s)

    stands_later : (R : Result ℕ) → StandsAt S tokens cells frames from R → StandsAt S tokens cells' frames' later R
    stands_later R s = rw same (paused_at R s).0

    -- It goes on in a longer room.
    pub may_go_on : {room memory stack stack' : List ℕ} → MayStand S room memory tokens cells stack frames from → length stack' ≡ length stack
        → MayGoOn S room memory' tokens cells' stack' frames' later
    may_go_on may kept =
        let lent = may.lent in
        record {
          stands =
              record {
                lent = record { ready = lent.ready; tokens_fit = lent.tokens_fit; stack_long = omega (arith, lent.stack_long) };
                remembers = continues.remembers;
                result = may.result;
                standing = stands_later may.result may.standing;
              };
          frames_short = (paused_at may.result may.standing).1;
        }

    -- What it ends with there, it ends with.
    pub ends_later : {outcome : Outcome} {cells'' : List ℕ} → Ends S tokens cells' frames' later outcome cells''
        → Ends S tokens cells frames from outcome cells''
    ends_later e = record { ends = λ R s. e.ends R (stands_later R s) }

-- how a call went on
module _ {input : Input} {S : Source} {depth nonterminal given : ℕ} {state : State} {begun : Begun} {memory : List ℕ}
    (starts : Starts input S depth nonterminal given state begun memory) where
  -- How it began, by what it answered.
  pub begins_as : {begun' : Begun} → begun ≡ begun' → Begins input S depth nonterminal state begun'
  begins_as e = subst (Begins input S depth nonterminal state) e starts.begins

  -- Where it is entered.
  pub entry_of : {call : Activation} {next : State} → begun ≡ Ok (call, next) → CallBegunAt S depth state call next
  entry_of e = subst (CallEntered S depth state) e starts.enters

  -- It is the production that is chosen.
  pub chosen_of : {call : Activation} {next : State} → begun ≡ Ok (call, next) → call ≡ chosen_call input S nonterminal given state
  chosen_of e = subst (EntersChosen input S nonterminal given state) e starts.entered_chosen

  -- What it gives there it gives.
  pub call_of : {call : Activation} {next : State} → begun ≡ Ok (call, next) → (cells : List ℕ) {result : Result ℕ}
      → result ≡ body (run_call (depth - 1) input) S call.next input [] next cells
      → result ≡ run_call depth input nonterminal [] state cells
  call_of e cells same = same ∙ begins_as e [] cells

-- ------------------------------------------------------------------ the whole formula

module _ (input : Input) (cells : List ℕ) (many : ℕ) (count : length input.tokens ≡ many) (outcome : Outcome) where
  -- A refusal stays one.
  pub ended_halted : {cause : Refusal} → outcome ≡ Err cause → halt cause cells ≡ after (ran outcome cells) (ended input)
  ended_halted e = rw e

  ended_by : {row : ℕ} {state : State} → outcome ≡ Ok (row, state) → (test : Bool) → ltb state.at many ≡ test
      → (elim test [ true ↦ halt (refusal 18 state.at 0 0) cells | false ↦ done row state cells ]) ≡ after (ran outcome cells) (ended input)
  ended_by {row} {state} e test f =
      ap (λ (x : Bool). elim x [ true ↦ halt (refusal 18 state.at 0 0) cells | false ↦ done row state cells ])
      (sym f ∙ ap (λ (k : ℕ). ltb state.at k) (sym count))
      ∙ ap (λ (x : Outcome). after (ran x cells) (ended input)) (sym e)

  -- A token is left over: refusal 18.
  pub ended_left : {row : ℕ} {state : State} → outcome ≡ Ok (row, state) → state.at < many → {cause : Refusal} → cause ≡ refusal 18 state.at 0 0
      → halt cause cells ≡ after (ran outcome cells) (ended input)
  ended_left {row} {state} e h er = rw er (ended_by e true (lt-ltb state.at many h))

  -- None is left over.
  pub ended_done : {row : ℕ} {state : State} → outcome ≡ Ok (row, state) → many ≤ state.at → done row state cells ≡ after (ran outcome cells) (ended input)
  ended_done {row} {state} e h = ended_by e false (le-ltb state.at many h)

-- A run is a call of the root that leaves no token over.
pub run_is : (input : Input) (root : ℕ) (cells : List ℕ) {result : Result ℕ} → result ≡ run_call most_open input root [] initial_state cells
    → after result (ended input) ≡ run input root cells
unfolding run
run_is input root cells e = rw e

-- The number and values of an outcome are those of what it stands for.
pub numbered_ran : (outcome : Outcome) (cells : List ℕ) → numbered_outcome outcome ≡ numbered_run (ran outcome cells)
numbered_ran (Ok (row, state)) cells = refl
numbered_ran (Err cause) cells = refl

-- So the run is answered with its number and values.
pub expands : {S : Source} {tokens : List ℕ} {root : ℕ} (cells : List ℕ) {outcome : Outcome} {cells' : List ℕ}
    → ran outcome cells' ≡ run (reading S tokens cells) root cells → Expands S tokens root cells outcome cells'
expands cells {outcome} {cells'} e = record { result_is = e; numbered_is = numbered_ran outcome cells' ∙ ap numbered_run e }
