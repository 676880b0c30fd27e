-- `items`: a loop over the turns. What is left of the calls that are open gives what the whole gives. The measure is the number of calls
-- left, under it the calls that wait, and under them the bytes left.
use Prim.Native.Nat.{ℕ, ◌-◌, ◌≤◌}
use mathlib.Core.Path.{◌≡◌, refl, sym, ap, ◌∙◌}
use mathlib.Core.List.{List}
use native.Mathlib.Omega.{arith}
use lib.ListN.{length}
use Rattle.expansion.specs.declared.State.{State}
use Rattle.expansion.specs.Run.{Result}
use Rattle.expansion.specs.Expansion.{Input}
use Rattle.terms.specs.Cells.{rows_lent}
use Rattle.templates.specs.Built.{RoomsFit}
use Rattle.templates.proofs.VariableLaws.{rooms_fit}
use Rattle.grammar.specs.Table.{Item}
use Rattle.steps.specs.Source.{Source, source_of}
use Rattle.steps.specs.Steps.{MayFinish}
use Rattle.frames.specs.Frames.{most_waiting}
use Rattle.calls.specs.Lent.{reading, Lent}
use Rattle.calls.specs.Calls.{StandsAt, MayGo}
use Rattle.turns.specs.Begins.{Starts}
use Rattle.turns.specs.Turns.{left, Going, Calling, Turns}
use Rattle.turns.proofs.TurnLaws as laws
use Rattle.grammar.specs.Limits.{most}
use Rattle.calls.proofs.items.Invariants.{MayTurn}
use Rattle.calls.proofs.items.Goals as goal
use Rattle.calls.proofs.items.Lts as lts
use Rattle.calls.proofs.items.Tie as tie
use Rattle.calls.proofs.items.Reads as reads

-- the places of the code that the helpers below speak of

abbrev AfterBegin : Type 0
AfterBegin = lts.After-begin tie.the-claims reads.Pre reads.Post goal.the-invariant-loop-cells goal.the-decreases-loop-cells

abbrev AfterEntered : Type 0
AfterEntered = lts.After-entered tie.the-claims reads.Pre reads.Post goal.the-invariant-loop-cells goal.the-decreases-loop-cells

abbrev AfterFinish : Type 0
AfterFinish = lts.After-finish tie.the-claims reads.Pre reads.Post goal.the-invariant-loop-cells goal.the-decreases-loop-cells

abbrev AfterItemStep : Type 0
AfterItemStep = lts.After-item_step tie.the-claims reads.Pre reads.Post goal.the-invariant-loop-cells goal.the-decreases-loop-cells

abbrev AfterPaused : Type 0
AfterPaused = lts.After-paused tie.the-claims reads.Pre reads.Post goal.the-invariant-loop-cells goal.the-decreases-loop-cells

abbrev AfterReturned : Type 0
AfterReturned = lts.After-returned tie.the-claims reads.Pre reads.Post goal.the-invariant-loop-cells goal.the-decreases-loop-cells

abbrev AfterRowsOf : Type 0
AfterRowsOf = lts.After-rows_of tie.the-claims reads.Pre reads.Post goal.the-invariant-loop-cells goal.the-decreases-loop-cells

abbrev AfterValued : Type 0
AfterValued = lts.After-valued tie.the-claims reads.Pre reads.Post goal.the-invariant-loop-cells goal.the-decreases-loop-cells

abbrev AtLoop : Type 0
AtLoop = lts.At-loop tie.the-claims reads.Pre reads.Post goal.the-invariant-loop-cells goal.the-decreases-loop-cells

abbrev Else1 : Type 0
Else1 = lts.Else1 tie.the-claims reads.Pre reads.Post goal.the-invariant-loop-cells goal.the-decreases-loop-cells

abbrev Else2 : Type 0
Else2 = lts.Else2 tie.the-claims reads.Pre reads.Post goal.the-invariant-loop-cells goal.the-decreases-loop-cells

abbrev PastAfterEnumTold : Type 0
PastAfterEnumTold = lts.Past-After-enum_told tie.the-claims reads.Pre reads.Post goal.the-invariant-loop-cells goal.the-decreases-loop-cells

abbrev PastAfterEnumToldAt4 : Type 0
PastAfterEnumToldAt4 = lts.Past-After-enum_told_at4 tie.the-claims reads.Pre reads.Post goal.the-invariant-loop-cells goal.the-decreases-loop-cells

abbrev PastAfterT : Type 0
PastAfterT = lts.Past-After-t tie.the-claims reads.Pre reads.Post goal.the-invariant-loop-cells goal.the-decreases-loop-cells

abbrev PastAfterKnownTold : Type 0
PastAfterKnownTold = lts.Past-After-known_told tie.the-claims reads.Pre reads.Post goal.the-invariant-loop-cells goal.the-decreases-loop-cells

abbrev PastAfterKnownTold2 : Type 0
PastAfterKnownTold2 = lts.Past-After-known_told2 tie.the-claims reads.Pre reads.Post goal.the-invariant-loop-cells goal.the-decreases-loop-cells

abbrev PastAfterKnownTold3 : Type 0
PastAfterKnownTold3 = lts.Past-After-known_told3 tie.the-claims reads.Pre reads.Post goal.the-invariant-loop-cells goal.the-decreases-loop-cells

abbrev PastAfterR : Type 0
PastAfterR = lts.Past-After-r tie.the-claims reads.Pre reads.Post goal.the-invariant-loop-cells goal.the-decreases-loop-cells

abbrev PastAfterU : Type 0
PastAfterU = lts.Past-After-u tie.the-claims reads.Pre reads.Post goal.the-invariant-loop-cells goal.the-decreases-loop-cells

abbrev Start : Type 0
Start = lts.Start tie.the-claims reads.Pre reads.Post goal.the-invariant-loop-cells goal.the-decreases-loop-cells

abbrev Then2 : Type 0
Then2 = lts.Then2 tie.the-claims reads.Pre reads.Post goal.the-invariant-loop-cells goal.the-decreases-loop-cells

-- at the loop
module _ (point : AtLoop) where
  abbrev counted : AfterRowsOf
  counted = point.before.before.before

  abbrev entry : Start
  entry = counted.before.before.before.before.before.before.before

  -- the place where the loop began, and the place where it stands
  abbrev first : laws.Place
  first =
      record {
        cells = entry.args.cells.now;
        stack = entry.args.stack.now;
        frames = entry.args.frames.now;
        vars = point.resumed-c.new.vars;
        cursor = point.resumed-c.result;
      }

  abbrev here : laws.Place
  here = record {
    cells = point.loop-cells.cells;
    stack = point.loop-cells.stack;
    frames = point.loop-cells.frames;
    vars = point.loop-cells.vars;
    cursor = point.loop-cells.c;
  }

  -- a source of what is lent
  abbrev source_with : (List Item → ℕ) → Source
  source_with patterns = source_of entry.args.table.now entry.args.texts.now patterns

  abbrev Asked : (List Item → ℕ) → Type 0
  Asked patterns = MayTurn (source_with patterns) entry.args.room.now entry.args.memory.now entry.args.tokens.now first

  begins : {patterns : List Item → ℕ} {result : Result ℕ}
      → StandsAt (source_with patterns) entry.args.tokens.now entry.args.cells.now entry.args.frames.now entry.args.from result
      → laws.Stood (reading (source_with patterns) entry.args.tokens.now entry.args.cells.now) (source_with patterns) result first
  begins s = laws.turned_start s point.resumed-c.ensures entry.requires.holds.next_fits

  -- one that the promise is asked for, and the one that is lent
  asked : {patterns : List Item → ℕ}
      → MayGo (source_with patterns) entry.args.room.now entry.args.memory.now entry.args.tokens.now entry.args.cells.now
      entry.args.stack.now entry.args.frames.now entry.args.from
      → Asked patterns
  asked may =
      let on = may.stands in
      record { ready = on.lent.ready; remembers = on.remembers; result = on.result; stood = begins on.standing }

  some : Asked entry.requires.patterns
  some = asked entry.requires.holds

  -- what is lent besides
  abbrev lent : Lent (source_with entry.requires.patterns) entry.args.room.now entry.args.tokens.now entry.args.stack.now
  lent = entry.requires.holds.stands.lent

  module _ {patterns : List Item → ℕ} (may : Asked patterns) where
    abbrev table : Source
    table = source_with patterns

    abbrev input : Input
    input = reading table entry.args.tokens.now entry.args.cells.now

    -- so many rows there are
    rows_are : input.rows ≡ counted.rows_of-rows.result
    rows_are = sym counted.rows_of-rows.ensures

    inv : laws.Turning input table first here point.loop-cells.memory
    inv = point.loop-cells.invariant patterns may

    sure : laws.Stood input table may.result here
    sure = inv.stands may.result may.stood

    small : length table.bytes ≤ most.bytes
    small = may.ready.held.grammar.small

    -- all rows of cells as many as they were
    all_rows : (cells : List ℕ) → length cells ≡ length here.cells → counted.rows_of-rows.result ≡ rows_lent (length cells)
    all_rows cells ec = counted.rows_of-rows.ensures ∙ ap rows_lent (sym (ec ∙ inv.cells_long))

    -- the rooms of a template, with cells and a stack as long as they were
    rooms : {cells stack : List ℕ} → length cells ≡ length here.cells → length stack ≡ length here.stack
        → RoomsFit table.bytes counted.rows_of-rows.result cells stack
    rooms {cells} ec es = rooms_fit small (omega (arith, es, inv.stack_long, lent.stack_long)) (all_rows cells ec)

-- after a step
module _ (point : AfterItemStep) where
  abbrev place : AtLoop
  place = point.before.before.before.before.before

  abbrev cells' : List ℕ
  cells' = point.item_step-step.new.cells

  abbrev stack' : List ℕ
  stack' = point.item_step-step.new.stack

  abbrev args' : List ℕ
  args' = point.item_step-step.new.out

  cells_same : length cells' ≡ length (here place).cells
  cells_same = point.item_step-step.auto.cells

  stack_same : length stack' ≡ length (here place).stack
  stack_same = point.item_step-step.auto.stack

  stepped : {patterns : List Item → ℕ} (may : Asked place patterns)
      → laws.Stepped (input place may) (table place may) (here place).vars (here place).cursor (here place).cells point.item_step-step.result args' cells'
  stepped may =
      let done = point.item_step-step.ensures _ _ (sure place may).0.goes_on in
      record {
        does = λ M h. done.does (input place may) M (record { tokens_are = refl; rows_are = rows_are place may }) h;
        advances = done.advances;
      }

-- the items have ended
module _ (point : PastAfterEnumTold) where
  abbrev n-step : AfterItemStep
  n-step = point.before.before.before.before.before

  finishing : {patterns : List Item → ℕ} (may : Asked (place n-step) patterns)
      → MayFinish (table (place n-step) may) (counted (place n-step)).rows_of-rows.result (here (place n-step)).cursor (cells' n-step) (stack' n-step)
  finishing may =
      let l = place n-step in
      record {
        goes_on = (sure l may).0.goes_on;
        no_item = laws.step-none (sure l may).0 (stepped n-step may) point.in-Finished.is;
        rooms = rooms l may (cells_same n-step) (stack_same n-step);
        all_rows = all_rows l may (cells' n-step) (cells_same n-step);
      }

-- after the result of a call
module _ (point : AfterFinish) where
  abbrev told : PastAfterEnumTold
  told = point.before.before.before.before

  abbrev f-step : AfterItemStep
  f-step = told.before.before.before.before.before

  abbrev f-place : AtLoop
  f-place = place f-step

  abbrev f_last : List ℕ
  f_last = point.finish-outcome.new.cells

  may_finish : {patterns : List Item → ℕ} (may : Asked f-place patterns)
      → MayFinish (table f-place may) (counted f-place).rows_of-rows.result (here f-place).cursor (cells' f-step) (stack' f-step)
  may_finish may = finishing told may

  going : {patterns : List Item → ℕ} (may : Asked f-place patterns) {result : Result ℕ}
      → laws.Stood (input f-place may) (table f-place may) result (first f-place)
      → Going (input f-place may) (table f-place may) (here f-place).frames (here f-place).vars (here f-place).cursor (cells' f-step) result
  going may {result} s = laws.step_finished ((inv f-place may).stands result s).0 (stepped f-step may) told.in-Finished.is

  resulting : {patterns : List Item → ℕ} (may : Asked f-place patterns)
      → laws.Resulting (input f-place may) (table f-place may) (here f-place).vars (here f-place).cursor (cells' f-step) point.finish-outcome.result f_last
  resulting may =
      let done = point.finish-outcome.ensures _ (may_finish may) in
      record {
        no_item = (may_finish may).no_item;
        gives = λ M h. done.gives (input f-place may) M (rows_are f-place may) h;
        stays = done.stays;
      }

  f_cells : length f_last ≡ length (here f-place).cells
  f_cells = point.finish-outcome.auto.cells ∙ cells_same f-step

  f_stack : length point.finish-outcome.new.stack ≡ length (here f-place).stack
  f_stack = point.finish-outcome.auto.stack ∙ stack_same f-step

abbrev refused-by : PastAfterEnumToldAt4 → AfterFinish
refused-by t = t.before.before.before.before.before

abbrev given_by : PastAfterT → AfterFinish
given_by t = t.before.before.before.before.before

-- after the call that waits goes on
module _ (point : AfterReturned) where
  abbrev waited : Else1
  waited = point.before.before

  abbrev valued-at : PastAfterT
  valued-at = waited.before

  abbrev r-place : AtLoop
  r-place = f-place (given_by valued-at)

  leaves : {patterns : List Item → ℕ} (may : Asked r-place patterns) {result : Result ℕ}
      → laws.Stood (input r-place may) (table r-place may) result (first r-place)
      → Turns (input r-place may) (table r-place may) (left (table r-place may) (here r-place).cursor) result (here r-place).frames
      point.returned-c.new.vars (f_last (given_by valued-at)) point.returned-c.result
  leaves may s =
      let f = given_by valued-at in
      laws.closed_on (going f may s) (resulting f may) valued-at.in-Ok.is waited.if-level-eq0.false point.returned-c.ensures (small r-place may)

-- after a call is begun
module _ (point : AfterBegin) where
  abbrev opened : PastAfterKnownTold3
  opened = point.before.before

  abbrev b-step : AfterItemStep
  b-step = opened.before.before.before.before.before

  abbrev b-place : AtLoop
  b-place = place b-step

  -- the nonterminal that is called, its arguments, the offset behind the item, and the state
  abbrev callee : ℕ
  callee = opened.in-Opened.callee

  abbrev given : ℕ
  given = opened.in-Opened.given

  abbrev next : ℕ
  next = opened.in-Opened.next

  abbrev state : State
  state = opened.in-Opened.t

  calls : {patterns : List Item → ℕ} (may : Asked b-place patterns) {result : Result ℕ}
      → laws.Stood (input b-place may) (table b-place may) result (first b-place)
      → Calling (input b-place may) (table b-place may) (here b-place).frames (here b-place).vars (here b-place).cursor (args' b-step) callee given next
      state (cells' b-step) result
  calls may {result} s =
      let g = (inv b-place may).stands result s in
      laws.step_opened g.0 (stepped b-step may) opened.in-Opened.is g.1

  starts : {patterns : List Item → ℕ} (may : Asked b-place patterns)
      → Starts (input b-place may) (table b-place may) (most_waiting - (here b-place).cursor.level) callee given state point.begin-begun.result
      point.begin-begun.new.memory
  starts may = point.begin-begun.ensures.starts _ _ may.ready (inv b-place may).remembers

-- after a call is entered
module _ (point : AfterEntered) where
  abbrev entered_at : PastAfterU
  entered_at = point.before.before.before.before

  abbrev e-begin : AfterBegin
  e-begin = entered_at.before

  abbrev e-place : AtLoop
  e-place = b-place e-begin

  e_frames : length point.entered-c.new.frames ≡ length (here e-place).frames
  e_frames = point.entered-c.auto.frames

abbrev enters_on : Else2 → AfterEntered
enters_on t = t.before.before.before

abbrev pauses-at : Then2 → AfterEntered
pauses-at t = t.before.before.before

-- the call that is entered goes on
module _ (point : Else2) where
  abbrev t-entered : AfterEntered
  t-entered = enters_on point

  abbrev t-place : AtLoop
  t-place = e-place t-entered

  enters : {patterns : List Item → ℕ} (may : Asked t-place patterns) {result : Result ℕ}
      → laws.Stood (input t-place may) (table t-place may) result (first t-place)
      → Turns (input t-place may) (table t-place may) (left (table t-place may) (here t-place).cursor) result t-entered.entered-c.new.frames
      t-entered.entered-c.new.vars (cells' (b-step (e-begin t-entered))) t-entered.entered-c.result
  enters may s =
      let b = e-begin t-entered in
      laws.opened_on (calls b may s) (starts b may) (entered_at t-entered).in-Ok-begun.is t-entered.entered-c.ensures (e_frames t-entered)
      (small t-place may) point.if-frames-level.false

pub loop-cells-init : goal.loop-cells-init
loop-cells-init c = λ patterns may. laws.turning_start _ may.remembers

pub item_step-step-requires : goal.item_step-step-requires
item_step-step-requires c =
    let l = c.before.before.before.before.before in
    let bounds = laws.going_bounds (sure l (some l)).0 in
    record {
      texts = _;
      patterns = _;
      holds =
          record {
            goes_on = (sure l (some l)).0.goes_on;
            may_read = record { may_take = record { tokens_fit = (lent l).tokens_fit; token_small = bounds.0 }; fresh_small = bounds.1 };
            rooms = rooms l (some l) refl refl;
          };
    }

pub finish-outcome-requires : goal.finish-outcome-requires
finish-outcome-requires c = let told_place = c.before.before.before.before in record
    { patterns = _; holds = finishing told_place (some (place (n-step told_place))) }

pub returns-in_default : goal.returns-in_default
returns-in_default c =
    let f = refused-by c.before in
    λ patterns asks.
    let may = asked (f-place f) asks in
    record {
      goes = λ R s. laws.closed_halted (going f may (begins (f-place f) s)) (resulting f may) c.in_default.is;
      remembers = (inv (f-place f) may).remembers;
    }

pub returns-then-level-eq0 : goal.returns-then-level-eq0
returns-then-level-eq0 c =
    let o = c.before.before in
    let f = given_by o in
    λ patterns asks.
    let may = asked (f-place f) asks in
    record {
      goes = λ R s. rw o.in-Ok.is (laws.closed_root (going f may (begins (f-place f) s)) (resulting f may) o.in-Ok.is c.if-level-eq0.true);
      remembers = (inv (f-place f) may).remembers;
    }

pub returned-c-requires : goal.returned-c-requires
returned-c-requires c =
    let else_place = c.before.before in
    let o = c.before.before.before in
    let f = given_by o in
    let may = some (f-place f) in
    laws.below_fits (going f may may.stood) (resulting f may) o.in-Ok.is else_place.if-level-eq0.false

pub loop-cells-smaller-in-Finished : goal.loop-cells-smaller-in-Finished
loop-cells-smaller-in-Finished c = let may = some (r-place c.before) in (leaves c.before may may.stood).less

pub loop-cells-preserved-in-Finished : goal.loop-cells-preserved-in-Finished
loop-cells-preserved-in-Finished c =
    let f = given_by (valued-at c.before) in
    λ patterns may.
    let w = inv (r-place c.before) may in
    laws.turning_next w _ (f_cells f) (f_stack f) refl w.remembers (λ R s. (leaves c.before may s).stands)

abbrev stopped_by : PastAfterKnownTold → AfterItemStep
stopped_by s = s.before.before.before.before.before

pub returns-in-Stopped : goal.returns-in-Stopped
returns-in-Stopped c =
    let p = stopped_by c.before in
    λ patterns asks.
    let may = asked (place p) asks in
    let w = inv (place p) may in
    record {
      goes = λ R s. laws.step_stopped (w.stands R (begins (place p) s)).0 (stepped p may) c.in-Stopped.is;
      remembers = w.remembers;
    }

abbrev taken-by : PastAfterKnownTold2 → AfterItemStep
taken-by s = s.before.before.before.before.before

pub valued-c-requires : goal.valued-c-requires
valued-c-requires c =
    let s = c.before.before in
    let p = taken-by s in
    let may = some (place p) in
    omega (arith, laws.taken_few (sure (place p) may).0 (stepped p may) s.in-Taken.is, small (place p) may)

-- after a value
module _ (point : AfterValued) where
  abbrev taken : PastAfterKnownTold2
  taken = point.before.before

  abbrev v-place : AtLoop
  v-place = place (taken-by taken)

  moves : {patterns : List Item → ℕ} (may : Asked v-place patterns) {result : Result ℕ}
      → laws.Stood (input v-place may) (table v-place may) result (first v-place)
      → Turns (input v-place may) (table v-place may) (left (table v-place may) (here v-place).cursor) result (here v-place).frames
      point.valued-c.new.vars (cells' (taken-by taken)) point.valued-c.result
  moves may {result} s =
      let g = (inv v-place may).stands result s in
      laws.step_taken g.0 (stepped (taken-by taken) may) taken.in-Taken.is point.valued-c.ensures g.1

pub loop-cells-smaller-in-Taken : goal.loop-cells-smaller-in-Taken
loop-cells-smaller-in-Taken c = let may = some (v-place c.before) in (moves c.before may may.stood).less

pub loop-cells-preserved-in-Taken : goal.loop-cells-preserved-in-Taken
loop-cells-preserved-in-Taken c =
    let p = taken-by (taken c.before) in
    λ patterns may.
    let w = inv (place p) may in
    laws.turning_next w _ (cells_same p) (stack_same p) refl w.remembers (λ R s. (moves c.before may s).stands)

abbrev opened-by : PastAfterKnownTold3 → AtLoop
opened-by s = place s.before.before.before.before.before

pub overflow_sub-level-in-Opened : goal.overflow_sub-level-in-Opened
overflow_sub-level-in-Opened c = let l = opened-by c.before.before in omega (arith, (sure l (some l)).0.fits.few)

pub begin-begun-requires : goal.begin-begun-requires
begin-begun-requires c =
    let l = opened-by c.before.before in
    let may = some l in
    record {
      may_choose = record { patterns = _; bs = _; held = may.ready.held; remembers = (inv l may).remembers };
      tokens_fit = (lent l).tokens_fit;
    }

abbrev refuses-by : PastAfterR → AfterBegin
refuses-by t = t.before

pub returns-in-Err : goal.returns-in-Err
returns-in-Err c =
    let b = refuses-by c.before in
    λ patterns asks.
    let may = asked (b-place b) asks in
    record {
      goes = λ R s. laws.opened_refused (calls b may (begins (b-place b) s)) (starts b may) c.in-Err.is;
      remembers = (starts b may).remembers;
    }

pub entered-c-requires : goal.entered-c-requires
entered-c-requires c =
    let b = c.before.before.before.before.before in
    let may = some (b-place b) in
    laws.calling_savable (calls b may may.stood) (small (b-place b) may)

pub overflow_add-level : goal.overflow_add-level
overflow_add-level c = let l = e-place c.before.before.before in omega (arith, (sure l (some l)).0.fits.few)

pub overflow_mul-level : goal.overflow_mul-level
overflow_mul-level c = let l = e-place c.before.before.before in omega (arith, (sure l (some l)).0.fits.few)

pub paused-requires : goal.paused-requires
paused-requires c =
    let e = pauses-at c.before.before.before in
    let b = e-begin e in
    let may = some (b-place b) in
    laws.opened_savable (calls b may may.stood) (starts b may) (entered_at e).in-Ok-begun.is e.entered-c.ensures (e_frames e) (small (b-place b) may)

-- after the call that is entered is saved too
module _ (point : AfterPaused) where
  abbrev full : Then2
  full = point.before.before.before

  abbrev q-entered : AfterEntered
  q-entered = pauses-at full

  abbrev q-begin : AfterBegin
  q-begin = e-begin q-entered

pub returns-then-frames-level : goal.returns-then-frames-level
returns-then-frames-level c =
    let q = c.before.before.before in
    let e = q-entered q in
    let b = q-begin q in
    λ patterns asks.
    let may = asked (b-place b) asks in
    record {
      goes =
          λ R s.
          laws.opened_paused (calls b may (begins (b-place b) s)) (starts b may) (entered_at e).in-Ok-begun.is e.entered-c.ensures (e_frames e)
          (small (b-place b) may) q.paused.ensures q.paused.auto.frames (full q).if-frames-level.true;
      remembers = (starts b may).remembers;
    }

pub loop-cells-smaller : goal.loop-cells-smaller
loop-cells-smaller c = let may = some (t-place c.before) in (enters c.before may may.stood).less

pub loop-cells-preserved : goal.loop-cells-preserved
loop-cells-preserved c =
    let e = t-entered c.before in
    let p = b-step (e-begin e) in
    λ patterns may.
    laws.turning_next (inv (t-place c.before) may) _ (cells_same p) (stack_same p) (e_frames e) (starts (e-begin e) may).remembers
    (λ R s. (enters c.before may s).stands)
