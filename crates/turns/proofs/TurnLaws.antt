-- Laws of one turn: what is left of the call that goes on, and of the calls that wait, gives what the whole gives.
use Rattle.std.specs.Prelude.{Ok, Err}
use Prim.Native.Nat.{ℕ, ◌+◌, ◌-◌, ◌*◌, ◌^◌, ◌<◌, ◌≤◌}
use mathlib.Core.Path.{◌≡◌, refl, sym, ap, ◌∙◌, subst}
use mathlib.Core.List.{List, [], ◌∷◌, ◌++◌}
use native.Mathlib.Omega.{arith}
use lib.ListN.{length}
use Rattle.answers.specs.declared.Refusal.{Refusal}
use Rattle.grammar.specs.Table.{Item}
use Rattle.expansion.specs.declared.State.{State}
use Rattle.expansion.specs.Outcome.{Outcome}
use Rattle.expansion.specs.Run.{Result, done, halt, Run, after}
use Rattle.expansion.specs.Outcomes.{ran}
use Rattle.expansion.specs.Expansion.{Input, build, run_items, run_call}
use Rattle.templates.specs.Built.{Holds}
use Rattle.templates.proofs.VariableLaws.{holds_more}
use Rattle.choices.specs.Chosen.{RemembersFor}
use Rattle.steps.specs.declared.ItemStep.{ItemStep}
use Rattle.steps.specs.declared.ItemStep.TheVariants.{Finished, Stopped, Taken, Opened}
use Rattle.steps.specs.Source.{Source, alternative_at}
use Rattle.steps.specs.Steps.{body, weight, Steps, Onward, Advances, Stays}
use Rattle.frames.specs.Frames.{frame_size, most_waiting, LevelFits, CallFits, Saved, Frame, resume, ahead, owed, Waits, Stacked}
use Rattle.frames.specs.Frames.{stacked_none, stacked_one, Standing}
use Rattle.frames.proofs.FrameLaws.{resume_halt, stacked_same, stacked_more, waits_next, waits_count, waits_fits, waits_saved, waits_holds}
use Rattle.turns.specs.Begun.{Begun}
use Rattle.turns.specs.declared.Resumption.{Resumption}
use Rattle.steps.specs.declared.Activation.{Activation}
use Rattle.steps.specs.declared.Cursor.{Cursor}
use Rattle.turns.specs.declared.Advance.{Advance}
use Rattle.turns.specs.Begins.{Begins, CallBegunAt, CallEntered, chosen_call, EntersChosen, Starts}
use Rattle.turns.specs.Turns.{cursor_at, going_on, moved, entered_at, Resumes, Values, Returns, Savable, Pushes, Pauses, call_weight, left}
use Rattle.turns.specs.Turns.{Going, Calling}
use Rattle.turns.specs.Turns.{Goes, TurnStands, Turns}
use Rattle.turns.proofs.BeginLaws.{positive, entry_weight}
use Rattle.grammar.specs.Limits.{most}
use Rattle.expansion.specs.Limits.{most_calls}

-- The call at a level of the room is loaded.
pub going_resumed : {input : Input} {S : Source} {frames : List ℕ} {from : Resumption} {cells : List ℕ} {result : Result ℕ}
    → Standing input S frames from.level from.state cells result
    → {vars : List ℕ} {cursor : Cursor}
    → Resumes frames from vars cursor
    → Going input S frames vars cursor cells result
going_resumed {input} {S} {frames} {from} {cells} {result} s {vars} r =
    let w = s.on_top in
    let e = waits_next w in
    rw r.cursor_is
    (record {
      goes_on = rw e w.goes_on;
      call_fits = waits_fits w;
      counted = omega (arith, e, waits_count w, w.counted, s.counted);
      waiting = s.waiting;
      many = s.many;
      fits = s.fits;
      stacked = s.stacked;
      light = omega (arith, s.light, e);
      M = s.current.values;
      holds = waits_holds w r.loaded;
      rest =
          rw e s.rest;
    })

-- another count of variables and another offset change nothing of what a call began with
same_call : {call : Activation} → CallFits call → {count next : ℕ}
    → CallFits (record { production = call.production; began = call.began; count = count; next = next })
same_call f = record { production_small = f.production_small; began_small = f.began_small }

-- an item takes no more than it leaves behind
onward_light : {S : Source} {at next : ℕ} {state state' : State} → Onward S at next state state' → (more : ℕ) {most : ℕ}
    → weight state + ahead S at + more ≤ most
    → weight state' + ahead S next + more ≤ most
onward_light o more h = omega (arith, h, o.stands.less, o.stands.goes_on.inside, o.counted, o.called)

light_below : {wt wh : ℕ} (heavy over lighter over' : ℕ) {most : ℕ} → wt ≡ wh → over ≡ lighter + over' → wh + heavy + over ≤ most → wt + lighter + over' ≤ most
light_below heavy over lighter over' e f h = omega arith

-- What the item at a cursor does, and how far it goes.
pub record Stepped (input : Input) (S : Source) (vars : List ℕ) (cursor : Cursor) (cells : List ℕ) (step : ItemStep) (args cells' : List ℕ) : Type 0 where
  -- under any values of the variables it does what the definition does
  pub does : (values : List ℕ) → Holds vars cursor.call.count values → Steps S cursor.call.next input values cursor.state cells step args cells'
  -- the next offset, if there is one, is behind it and inside the table
  pub advances : Advances S cursor.call.next cursor.state step

-- No item stands at a cursor, and what the result of the alternative gives.
pub record Resulting (input : Input) (S : Source) (vars : List ℕ) (cursor : Cursor) (cells : List ℕ) (outcome : Outcome) (cells' : List ℕ) : Type 0 where
  -- the items are done
  pub no_item : (alternative_at S cursor.call.next).items ≡ []
  -- under any values of the variables it gives what the result's template gives
  pub gives : (values : List ℕ) → Holds vars cursor.call.count values
      → ran outcome cells' ≡ build (alternative_at S cursor.call.next).result input values cursor.state cells
  -- it takes no token, draws no fresh name and begins no call
  pub stays : Stays cursor.state outcome

module _ {input : Input} {S : Source} {frames vars : List ℕ} {cursor : Cursor} {cells : List ℕ} {result : Result ℕ}
    (going : Going input S frames vars cursor cells result) where
  abbrev callee : ℕ → List ℕ → Run ℕ
  callee = run_call (most_waiting - cursor.level) input

  abbrev now_left : Result ℕ
  now_left = body callee S cursor.call.next input going.M cursor.state cells

  -- The counters are small.
  pub going_bounds : (cursor.state.at < 2 ^ 32) × (cursor.state.fresh < 2 ^ 31)
  going_bounds = (omega (arith, going.light), omega (arith, going.light))

  -- A room that is too short: the call that goes on is saved too.
  pub going_paused : {frames' : List ℕ} → Saved frames frames' cursor.level vars cursor.call → length frames' ≡ length frames
      → Standing input S frames' cursor.level cursor.state cells result
  going_paused saved long =
      record {
        fits = record { few = going.fits.few; inside = omega (arith, going.fits.inside, long) };
        current = record { call = cursor.call; values = going.M };
        waiting = going.waiting;
        many = going.many;
        on_top = waits_saved saved going.call_fits going.holds going.goes_on;
        counted = omega (arith, going.counted, going.holds.count);
        stacked = stacked_same (λ i l. saved.same i (omega (arith, going.many))) going.stacked;
        light = going.light;
        rest = going.rest;
      }

  -- a result in place of what is left
  instead : {outcome : Result ℕ} → outcome ≡ now_left → resume input S going.waiting outcome ≡ result
  instead e = ap (resume input S going.waiting) e ∙ going.rest

  halted : {refusal : Refusal} {cs : List ℕ} → halt refusal cs ≡ now_left → halt refusal cs ≡ result
  halted {refusal} {cs} e = sym (resume_halt input S going.waiting refusal cs) ∙ instead e

  -- ---------------------------------------------------------------- the item that stands at the cursor

  module _ {step : ItemStep} {args cells' : List ℕ} (stepped : Stepped input S vars cursor cells step args cells') where
    steps : {item_step : ItemStep} → step ≡ item_step → Steps S cursor.call.next input going.M cursor.state cells item_step args cells'
    steps e = rw e at (stepped.does going.M going.holds)

    -- The item refuses.
    pub step_stopped : {refusal : Refusal} → step ≡ Stopped refusal → halt refusal cells' ≡ result
    step_stopped e = halted (sym (steps e callee))

    -- No item is left.
    pub step-none : step ≡ Finished → (alternative_at S cursor.call.next).items ≡ []
    step-none e = subst (Advances S cursor.call.next cursor.state) e stepped.advances

    -- The cells are as they were.
    pub step_finished : step ≡ Finished → Going input S frames vars cursor cells' result
    step_finished e = rw (steps e) going

    -- The item gives a value.
    module _ {made_value next : ℕ} {state' : State} (equal : step ≡ Taken made_value next state') where
      taken_onward : Onward S cursor.call.next next cursor.state state'
      taken_onward = subst (Advances S cursor.call.next cursor.state) equal stepped.advances

      -- It has few variables.
      pub taken_few : cursor.call.count ≤ length S.bytes + length S.bytes
      taken_few = omega (arith, going.counted, taken_onward.stands.less, taken_onward.stands.goes_on.inside)

      -- The value is its next variable, and it goes on behind the item.
      pub step_taken : {vars' : List ℕ} {other : Cursor} → Values vars cursor made_value next state' vars' other
          → (cursor.level + 2) * frame_size ≤ length frames
          → Turns input S (left S cursor) result frames vars' cells' other
      step_taken {vars'} v spare =
          let o = taken_onward in
          rw v.cursor_is
          (record {
            stands = (
              record {
                goes_on = o.stands.goes_on;
                call_fits = same_call going.call_fits;
                counted = omega (arith, going.counted, o.stands.less);
                waiting = going.waiting;
                many = going.many;
                fits = going.fits;
                stacked = going.stacked;
                light = onward_light o (owed S going.waiting) going.light;
                M = going.M ++ (made_value ∷ []);
                holds = holds_more made_value v.vars_are going.M going.holds;
                rest = instead (sym ((steps equal).rest callee));
              },
              spare,
            );
            less = omega (arith, o.stands.less, o.stands.goes_on.inside, o.called);
          })

    -- The item calls.
    pub step_opened : {nonterminal given next : ℕ} {state' : State} → step ≡ Opened nonterminal given next state'
        → (cursor.level + 2) * frame_size ≤ length frames
        → Calling input S frames vars cursor args nonterminal given next state' cells' result
    step_opened e spare =
        let q = steps e in
        let a : Onward _ _ _ _ _ × (_ ≤ _) = subst (Advances S cursor.call.next cursor.state) e stepped.advances in
        record {
          onward = a.0;
          few_given = a.1;
          call_fits = going.call_fits;
          counted = going.counted;
          waiting = going.waiting;
          many = going.many;
          few = going.fits.few;
          spare = spare;
          stacked = going.stacked;
          light = going.light;
          M = going.M;
          holds = going.holds;
          vs = q.values;
          given = q.holds;
          rest = instead (sym (q.rest callee));
        }

  -- ---------------------------------------------------------------- the result of the call

  module _ {outcome : Outcome} {cells' : List ℕ} (resulting : Resulting input S vars cursor cells outcome cells') where
    gives_all : ran outcome cells' ≡ now_left
    unfolding body run_items
    gives_all =
        resulting.gives going.M going.holds
        ∙ ap
        (λ (is : List Item).
        after (run_items callee input is going.M cursor.state cells) (λ M. build (alternative_at S cursor.call.next).result input M))
        (sym resulting.no_item)

    given_by : {other : Outcome} → outcome ≡ other → ran other cells' ≡ now_left
    given_by e = rw e at gives_all

    -- It refuses.
    pub closed_halted : {refusal : Refusal} → outcome ≡ Err refusal → ran outcome cells' ≡ result
    closed_halted e = rw e (halted (given_by e))

    module _ {made_value : ℕ} {next : State} (equal : outcome ≡ Ok (made_value, next)) where
      -- No call waits.
      pub closed_root : cursor.level ≡ 0 → done made_value next cells' ≡ result
      unfolding resume
      closed_root z = by going.waiting refl
        where
          by : (fs : List Frame) → going.waiting ≡ fs → done made_value next cells' ≡ result
          by [] ef = rw ef at (instead (given_by equal))
          by (f ∷ fs) ef = absurd (omega (arith, going.many, ap length ef))

      -- The innermost of those that wait goes on.
      module _ (below : cursor.level ≡ 0 → ⊥) where
        abbrev from : Resumption
        from = record { level = cursor.level - 1; state = next }

        -- Its frame stands in the room.
        pub below_fits : LevelFits frames from.level
        below_fits = record { few = omega (arith, going.fits.few); inside = omega (arith, going.fits.inside) }

        unmoved : (next.at ≡ cursor.state.at) × (next.fresh ≡ cursor.state.fresh) × (next.calls ≡ cursor.state.calls)
        unmoved = subst (Stays cursor.state) equal resulting.stays

        top_frame : (frame : Frame) × (fs : List Frame) × (going.waiting ≡ frame ∷ fs) × (length fs ≡ from.level)
            × Waits S frames from.level frame × Stacked S frames fs
            × (length frame.values < length S.bytes + frame.call.next)
        top_frame = by going.waiting refl going.stacked
          where
            by : (ws : List Frame) → going.waiting ≡ ws → Stacked S frames ws
                → (frame : Frame) × (fs : List Frame) × (going.waiting ≡ frame ∷ fs) × (length fs ≡ from.level)
                × Waits S frames from.level frame × Stacked S frames fs
                × (length frame.values < length S.bytes + frame.call.next)
            by [] ef stacked_none = absurd (below (sym going.many ∙ ap length ef))
            by (f ∷ fs) ef (stacked_one w few st) =
                let l : length fs ≡ from.level = omega (arith, going.many, ap length ef) in
                (f, fs, ef, l, rw l at w, st, few)

        weight_same : weight next ≡ weight cursor.state
        weight_same = omega (arith, unmoved.0, unmoved.1, unmoved.2)

        module _ {vars₁ : List ℕ} {other : Cursor} (resumes : Resumes frames from vars₁ other) where
          abbrev at_top : Cursor
          at_top = cursor_at frames from

          at_few : at_top.call.count < length S.bytes + at_top.call.next
          at_few = omega (arith, waits_next top_frame.4, waits_count top_frame.4, top_frame.4.counted, top_frame.6)

          closed_going : {vars₂ : List ℕ}
              → ((values : List ℕ) → Holds vars₁ at_top.call.count values → Holds vars₂ (at_top.call.count + 1) (values ++ (made_value ∷ [])))
              → Going input S frames vars₂ (moved at_top at_top.call.next next) cells' result
          unfolding resume owed
          closed_going put =
              let f = top_frame.0 in
              let fs = top_frame.1 in
              let w = top_frame.4 in
              record {
                goes_on = rw (waits_next w) w.goes_on;
                call_fits = same_call (waits_fits w);
                counted = omega (arith, at_few);
                waiting = fs;
                many = top_frame.3;
                fits = below_fits;
                stacked = top_frame.5;
                light =
                    light_below (ahead S cursor.call.next) (owed S going.waiting) (ahead S at_top.call.next) (owed S fs) weight_same
                    (ap (owed S) top_frame.2 ∙ ap (λ (a : ℕ). ahead S a + owed S fs) (sym (waits_next w))) going.light;
                M = f.values ++ (made_value ∷ []);
                holds = put f.values (waits_holds w resumes.loaded);
                rest =
                    rw (waits_next w, sym top_frame.3) (rw top_frame.2 at (instead (given_by equal)));
              }

        -- The value is its next variable, and it goes on where it waited.
        pub closed_on : {vars₂ : List ℕ} {other : Cursor} → Returns frames (cursor.level - 1) made_value next vars₂ other → length S.bytes ≤ most.bytes
            → Turns input S (left S cursor) result frames vars₂ cells' other
        closed_on r small =
            let v = r.resumes.cursor_is in
            rw (r.values.cursor_is, v)
            (record {
              stands = (
                closed_going r.resumes (holds_more made_value (rw v at r.values.vars_are)),
                omega (arith, going.fits.inside),
              );
              less =
                  let p : 0 < cursor.level = positive cursor.level below in
                  omega (arith, unmoved.2);
            })

-- ------------------------------------------------------------------ a call that is begun

module _ {input : Input} {S : Source} {frames vars : List ℕ} {cursor : Cursor} {args : List ℕ} {callee' given next : ℕ} {state' : State} {cells : List ℕ}
    {result : Result ℕ} (calling : Calling input S frames vars cursor args callee' given next state' cells result) where
  abbrev depth : ℕ
  depth = most_waiting - cursor.level

  -- The call that calls can be saved.
  pub calling_savable : length S.bytes ≤ most.bytes → Savable frames cursor.level (going_on cursor.call next)
  calling_savable small =
      let o = calling.onward in
      record {
        fits = record { few = calling.few; inside = omega (arith, calling.spare) };
        storable =
            record {
              call_fits = same_call calling.call_fits;
              count_small = omega (arith, calling.counted, o.stands.less, o.stands.goes_on.inside);
              next_small = omega (arith, o.stands.goes_on.inside);
            };
      }

  module _ {begun : Begun} {memory : List ℕ} (starts : Starts input S depth callee' given state' begun memory) where
    begun_as : {other : Begun} → begun ≡ other → Begins input S depth callee' state' other
    begun_as e = subst (Begins input S depth callee' state') e starts.begins

    -- It refuses.
    pub opened_refused : {refusal : Refusal} → begun ≡ Err refusal → halt refusal cells ≡ result
    opened_refused {refusal} e =
        sym (resume_halt input S calling.waiting refusal cells)
        ∙ rw (sym (begun_as e calling.vs cells)) at calling.rest

    -- It is entered, and the call that called waits.
    module _ {call : Activation} {further : State} (equal : begun ≡ Ok (call, further)) where
      -- A production goes on where it is entered.
      opened_entry : CallBegunAt S depth state' call further
      opened_entry = subst (CallEntered S depth state') equal starts.enters

      -- It is the production that is chosen.
      opened_chosen : call ≡ chosen_call input S callee' given state'
      opened_chosen = subst (EntersChosen input S callee' given state') equal starts.entered_chosen

      module _ {frames' vars' : List ℕ} {other : Cursor} (pushes : Pushes frames vars args cursor next call further frames' vars' other)
          (long : length frames' ≡ length frames) (small : length S.bytes ≤ most.bytes) where
        going_at : Going input S frames' args (entered_at cursor call further) cells result
        unfolding resume owed
        going_at =
            let o = calling.onward in
            let light = onward_light o (owed S calling.waiting) calling.light in
            let count_is : call.count ≡ given = ap (λ (a : Activation). a.count) opened_chosen in
            record {
              goes_on = opened_entry.goes_on;
              call_fits =
                  record {
                    production_small = omega (arith, opened_entry.placed);
                    began_small = omega (arith, light, ap (λ (a : Activation). a.began) opened_chosen);
                  };
              counted = omega (arith, calling.few_given);
              waiting = record { call = going_on cursor.call next; values = calling.M } ∷ calling.waiting;
              many = omega (arith, calling.many);
              fits = record { few = omega (arith, opened_entry.may_open); inside = omega (arith, calling.spare, long) };
              stacked = stacked_more calling.many pushes.saved (same_call calling.call_fits) calling.holds o.stands.goes_on
                  (omega (arith, calling.counted, o.stands.less)) calling.stacked;
              light = omega (arith, light, entry_weight opened_entry small);
              M = calling.vs;
              holds = rw count_is calling.given;
              rest =
                  let z : most_waiting - (cursor.level + 1) ≡ most_waiting - cursor.level - 1 = omega arith in
                  rw (calling.many, z, begun_as equal calling.vs cells) calling.rest;
            }

        -- What is left of it, and of the calls that wait, gives what was to be given.
        pub opened_going : Going input S frames' vars' other cells result
        opened_going = rw (pushes.vars_are, pushes.cursor_is) going_at

        -- It can be saved.
        pub opened_savable : Savable frames' other.level other.call
        opened_savable =
            let g = opened_going in
            record {
              fits = g.fits;
              storable =
                  record {
                    call_fits = g.call_fits;
                    count_small = omega (arith, g.counted, g.goes_on.inside);
                    next_small = omega (arith, g.goes_on.inside);
                  };
            }

        -- The call that is entered goes on.
        pub opened_on : (cursor.level + 3) * frame_size ≤ length frames' → Turns input S (left S cursor) result frames' vars' cells other
        opened_on spare =
            rw (pushes.vars_are, pushes.cursor_is)
            (record {
              stands = (going_at, omega (arith, spare));
              less =
                  omega (
                    arith,
                    small,
                    opened_entry.may_call,
                    ap (λ (q : State). call_weight * (most_calls - q.calls)) opened_entry.begun,
                    calling.onward.called,
                  );
            })

        -- The room is too short: it is saved too.
        pub opened_paused : {frames'' : List ℕ} {advance : Advance} → Pauses frames' vars' other frames'' advance → length frames'' ≡ length frames'
            → length frames' < (cursor.level + 3) * frame_size
            → Goes input S result frames'' cells advance
        opened_paused q long' full =
            let g = opened_going in
            let l : other.level ≡ cursor.level + 1 = ap (λ (x : Cursor). x.level) pushes.cursor_is in
            rw q.paused ((going_paused g q.saved long', omega (arith, g.fits.few)))

-- ------------------------------------------------------------------ the loop over the turns

-- where the loop stands
pub record Place : Type 0 where
  -- the cells
  pub cells : List ℕ
  -- the stack of the templates
  pub stack : List ℕ
  -- the frames of the calls that wait
  pub frames : List ℕ
  -- the variables of the call that goes on
  pub vars : List ℕ
  -- where that call stands
  pub cursor : Cursor

-- what is left at a place gives R
abbrev pub Stood : Input → Source → Result ℕ → Place → Type 0
Stood I S R p = TurnStands I S R p.frames p.vars p.cells p.cursor

-- Rooms are as long as they were, choices are remembered, and what gave R at the first place still gives it.
pub record Turning (input : Input) (S : Source) (place other : Place) (memory : List ℕ) : Type 0 where
  -- the cells are as many
  pub cells_long : length other.cells ≡ length place.cells
  -- the stack keeps its length
  pub stack_long : length other.stack ≡ length place.stack
  -- the room of frames keeps its length
  pub frames_long : length other.frames ≡ length place.frames
  -- the choices remembered are the table's
  pub remembers : RemembersFor S.patterns S.bytes memory
  -- what gave `result` at the first place gives it here
  pub stands : (result : Result ℕ) → Stood input S result place → Stood input S result other

-- The loop begins.
pub turning_start : {input : Input} {S : Source} (place : Place) {memory : List ℕ} → RemembersFor S.patterns S.bytes memory → Turning input S place place memory
turning_start place m = record { cells_long = refl; stack_long = refl; frames_long = refl; remembers = m; stands = λ R s. s }

-- What the room of frames says gives what the first place says.
pub turned_start : {input : Input} {S : Source} {frames : List ℕ} {from : Resumption} {cells : List ℕ} {result : Result ℕ}
    → Standing input S frames from.level from.state cells result
    → {vars : List ℕ} {cursor : Cursor}
    → Resumes frames from vars cursor
    → (from.level + 2) * frame_size ≤ length frames
    → TurnStands input S result frames vars cells cursor
turned_start s r spare = (going_resumed s r, omega (arith, spare, ap (λ (c : Cursor). c.level) r.cursor_is))

-- One turn more.
pub turning_next : {input : Input} {S : Source} {place other : Place} {memory : List ℕ} → Turning input S place other memory
    → (next : Place) {memory' : List ℕ} → length next.cells ≡ length other.cells
    → length next.stack ≡ length other.stack
    → length next.frames ≡ length other.frames
    → RemembersFor S.patterns S.bytes memory'
    → ((result : Result ℕ) → Stood input S result place → Stood input S result next)
    → Turning input S place next memory'
turning_next w next ec es ef m stands =
    record {
      cells_long = ec ∙ w.cells_long;
      stack_long = es ∙ w.stack_long;
      frames_long = ef ∙ w.frames_long;
      remembers = m;
      stands = stands;
    }
