-- Laws of what stands in front of a template, and of the loop that evaluates a constructor's template with an explicit stack.
use Rattle.std.specs.Prelude.{Some, None}
use Prim.Native.Nat.{ℕ, ◌+◌, ◌-◌, ◌*◌, ◌/◌, ◌%◌, ◌<◌, ◌≤◌}
use mathlib.Core.Path.{◌≡◌, refl, sym, ap, ◌∙◌, subst}
use mathlib.Core.List.{List, [], ◌∷◌}
use native.Mathlib.Omega.{arith}
use lib.Dec.{eqb}
use lib.ListN.{length, get_or, take, drop, set, length-set, length-append}
use lib.Seq.{sets}
use Rattle.grammar.specs.Sorts.{arity}
use Rattle.grammar.specs.Table.{Template, Templates, none, more}
use Rattle.terms.specs.Cells.{columns, row_numbers}
use Rattle.decoding.specs.Prefix.{parsed, templates_of, name_by}
use Rattle.decoding.specs.Within.{count}
use Rattle.expansion.specs.declared.State.{State}
use Rattle.templates.specs.declared.Making.{Making}
use Rattle.templates.specs.declared.Head.{Head}
use Rattle.templates.specs.declared.Head.TheVariants.{Leaf, Node}
use Rattle.expansion.specs.Run.{Result, done}
use Rattle.expansion.specs.Expansion.{Input, cell, build}
use Rattle.templates.specs.Built.{Holds, with_made, Ahead, template_at, others_at, built, Builds}
use Rattle.templates.specs.Heads.{join, HeadValue, Past, Takes, Heads}
use Rattle.expansion.proofs.CellLaws.{cell_row, cell_none}
use Rattle.templates.proofs.TemplateLaws.{template_is, others_are, ahead_inside, makes, variable_built, behind_variable, at_name, behind_name}
use Rattle.templates.proofs.StackLaws.{Pending, fed, waits, opened, going, resume, resume_halt, takes_value, waits_for, makes_cell, going_make}
use Rattle.templates.proofs.StackLaws.{lefts, Filling, took_are, place, place_none, image_length, Stands}
use Rattle.templates.proofs.StackLaws.{stands_top, stands_number, stands_given, stands_fed, stands_opened, stands_closed, stands_start}

-- ------------------------------------------------------------------ what stands in front

-- a byte from 0x20 on begins a constructor
pub node_head : {bytes : List ℕ} {at : ℕ} (ahead : Ahead bytes at) {byte : ℕ} → byte ≡ get_or bytes at 0 → 32 ≤ byte → byte < 256 → Takes bytes at byte
node_head {bytes} {at} ahead {byte} eb h small =
    let m = makes bytes at ahead eb h in
    let t = took_are m.takes in
    record {
      own = m.own;
      is = template_is bytes at ahead ∙ m.is;
      many = t.0;
      small = small;
      inside = ahead_inside bytes at ahead;
      read = m.read ∙ ap parsed (t.1 ∙ ap (join m.own) (sym (others_are bytes at ahead)));
    }

-- a variable, or an outside name
pub variable_head : {bytes : List ℕ} {at : ℕ} (ahead : Ahead bytes at) {byte : ℕ} → byte ≡ get_or bytes at 0 → byte < 16
    → {env : List ℕ} {variables made_value : ℕ} → ((values : List ℕ) → Holds env variables values → made_value ≡ get_or values byte 0)
    → ((values : List ℕ) → Holds env variables values → HeadValue bytes at values (Leaf made_value (at + 1))) × Past bytes at (at + 1)
variable_head {bytes} {at} ahead eb h {env} {variables} {made_value} f =
    let q = behind_variable bytes at ahead eb h made_value 0 in (
      λ M g I s cells. sym (variable_built bytes at ahead eb h env variables made_value f I.rows s.made cells I s M refl g),
      record { less = q.0; inside = q.1; read = q.2 },
    )

-- a byte 0x10 to 0x1f and the next one are a name
pub name_head : {bytes : List ℕ} {at : ℕ} (ahead : Ahead bytes at) {byte : ℕ} → byte ≡ get_or bytes at 0 → 16 ≤ byte → byte < 32 → {number : ℕ}
    → number ≡ get_or bytes (at + 1) 0 → {made_value : ℕ}
    → ((input : Input) (values : List ℕ) (state : State) (cells : List ℕ) → build (name_by (eqb byte 0x10) number) input values state cells
    ≡ done made_value state cells) → {env : List ℕ} {variables : ℕ}
    → ((values : List ℕ) → Holds env variables values → HeadValue bytes at values (Leaf made_value (at + 2))) × Past bytes at (at + 2)
name_head {bytes} {at} ahead eb low high en {made_value} f =
    let q = behind_name bytes at ahead eb low high en made_value 0 in (
      λ M g I s cells. cc (at_name bytes at ahead eb low high en, f I M s cells),
      record { less = q.0; inside = q.1; read = q.2 },
    )

-- ------------------------------------------------------------------ the arguments of a constructor, in the stack

-- ------------------------------------------------------------------ the loop

-- what the loop starts from, and where it stands
pub record Whole : Type 0 where
  -- the bytes of the template
  pub v : List ℕ
  -- where it begins
  pub from : ℕ
  -- the variables' values
  pub env : List ℕ
  -- how many there are, how many rows there may be, and how many were made before
  pub m : Making
  -- the cells before
  pub cells : List ℕ
  -- the size of the stack
  pub size : ℕ

-- where the loop stands
pub record Turn : Type 0 where
  -- the cells now
  pub cells : List ℕ
  -- the stack
  pub stack : List ℕ
  -- the offset of the next template
  pub at : ℕ
  -- how many rows are made
  pub made : ℕ
  -- where the arguments of the innermost constructor begin in the stack
  pub pos : ℕ
  -- the first place above them
  pub top : ℕ

-- under any input, state and values of the variables, what is left gives what the whole template gives
abbrev Same : Whole → (Input → State → List ℕ → Result ℕ) → Type 0
Same W r =
    (I : Input) (s : State) (M : List ℕ) → I.rows ≡ W.m.rows → Holds W.env W.m.count M
    → r I s M ≡ build (template_at W.v W.from) I M (with_made s W.m.made) W.cells

-- what is left, with the constructors that are open, gives what the whole template gives
pub record Building (whole : Whole) (turn : Turn) : Type 0 where
  -- the cells are as many as before
  pub as_long : length turn.cells ≡ length whole.cells
  -- the stack keeps its size
  pub stack_long : length turn.stack ≡ whole.size
  -- the stack has room for as many numbers as the template has bytes
  pub wide : length whole.v ≤ whole.size
  -- the numbers on the stack are no more than the bytes passed
  pub past : turn.top + whole.from ≤ turn.at
  -- the offset is not past the bytes
  pub inside : turn.at ≤ length whole.v
  -- the innermost constructor that is open
  pub inner : Pending
  -- those around it, from the inside
  pub around : List Pending
  -- they stand in the stack
  pub stands : Stands turn.stack turn.pos turn.top inner around
  -- the arguments given and left are as many as the innermost one takes
  pub many : count inner.left + length inner.given ≡ arity inner.code
  -- its code is a byte
  pub small : inner.code < 256
  -- each of those around it wants the value of the one inside it and what is left to it
  pub filling : Filling around
  -- the templates left to all of them, then those behind, are read at the offset
  pub read : templates_of (drop turn.at whole.v) ≡ parsed (join inner.left (lefts around (others_at whole.v whole.from)))
  -- what is left of all of them gives what the whole template gives
  pub rest : Same whole (λ I s M. resume I M around (going I M inner (with_made s turn.made) turn.cells))

-- where the loop stands, and how many arguments the innermost constructor takes
pub record Looping (whole : Whole) (turn : Turn) (needed : ℕ) : Type 0 where
  -- where it stands
  pub building : Building whole turn
  -- the innermost constructor takes so many
  pub needed_is : needed ≡ arity building.inner.code

-- the outermost constructor is open
pub building_start : {bytes : List ℕ} {from code : ℕ} (takes : Takes bytes from code) (env : List ℕ) (m : Making) (cells stack : List ℕ)
    {packed_head needed : ℕ} → length bytes ≤ length stack
    → packed_head ≡ code + 256 * 0
    → needed ≡ arity code
    → Looping
    (record { v = bytes; from = from; env = env; m = m; cells = cells; size = length (set stack 0 packed_head) })
    (record { cells = cells; stack = set stack 0 packed_head; at = from + 1; made = m.made; pos = 1; top = 1 })
    needed
unfolding lefts Filling resume
building_start {bytes} {from} {code} takes env m cells stack {packed_head} {needed} h ew en =
    record {
      building = record {
        as_long = refl;
        stack_long = refl;
        wide = omega (arith, length-set stack 0 packed_head);
        past = omega arith;
        inside = omega (arith, takes.inside);
        inner = opened code takes.own;
        around = [];
        stands = stands_start stack (omega (arith, takes.inside)) ew takes.own;
        many = omega (arith, takes.many);
        small = takes.small;
        filling = tt;
        read = takes.read;
        rest =
            λ I s M e g.
            cc (going_make I M code takes.own (with_made s m.made) cells, takes.is);
      };
      needed_is = en;
    }

-- templates of which some are left
pub some_left : (ts : Templates) → 0 < count ts → (template : Template) × (us : Templates) × (ts ≡ more template us)
unfolding count
some_left none h = absurd (omega arith)
some_left (more t us) h = (t, us, refl)

-- templates of which none is
pub none_left : (ts : Templates) → count ts ≡ 0 → ts ≡ none
unfolding count
none_left none h = refl
none_left (more t us) h = absurd (omega arith)

-- the innermost one has its place in the stack
pub building_pos : {whole : Whole} {turn : Turn} → Building whole turn → (0 < turn.pos) × (turn.pos ≤ turn.top) × (turn.top ≤ whole.size)
unfolding place
building_pos c =
    let t = stands_top c.stands in
    (omega (arith, c.stands.pos_is), omega (arith, t), omega (arith, c.stands.fits, c.stack_long))

-- the number of the innermost constructor is read, with its code
pub record Looked {whole : Whole} {turn : Turn} (building : Building whole turn) (packed_head code : ℕ) : Type 0 where
  -- the number read is the one below the arguments
  pub number : packed_head ≡ get_or turn.stack (turn.pos - 1) 0
  -- its low byte is the code
  pub code_is : code ≡ packed_head % 256

module _ {whole : Whole} {turn : Turn} {building : Building whole turn} {packed_head code : ℕ} (looked : Looked building packed_head code) where
  number_is : packed_head ≡ building.inner.code + 256 * place building.around
  number_is = looked.number ∙ stands_number building.stands

  its_code : code ≡ building.inner.code
  its_code = omega (arith, number_is, looked.code_is, building.small)

  its_place : packed_head / 256 ≡ place building.around
  its_place = omega (arith, number_is, building.small)

  -- the loop goes on with a constructor whose code is read
  pub looping_read : {needed : ℕ} → needed ≡ arity code → Looping whole turn needed
  looping_read e = record { building = building; needed_is = e ∙ ap arity its_code }

module _ {whole : Whole} {turn : Turn} {needed : ℕ} (looping : Looping whole turn needed) where
  abbrev c : Building whole turn
  c = looping.building

  n-is : needed ≡ count c.inner.left + length c.inner.given
  n-is = looping.needed_is ∙ sym c.many

  -- a template is left to it
  module _ (less : turn.top - turn.pos < needed) where
    -- the next template of the innermost constructor, and those left to it behind
    pub next-left : (template : Template) × (us : Templates) × (c.inner.left ≡ more template us)
    next-left = some_left c.inner.left (omega (arith, n-is, stands_top c.stands))

    -- it is read at the offset
    pub next_read : templates_of (drop turn.at whole.v)
        ≡ parsed (more next-left.0 (join next-left.1 (lefts c.around (others_at whole.v whole.from))))
    unfolding join
    next_read = cc (c.read, next-left.2)

    -- a template stands ahead
    abbrev pub building_ahead : Ahead whole.v turn.at
    building_ahead =
        record {
          template = next-left.0;
          others = join next-left.1 (lefts c.around (others_at whole.v whole.from));
          read = next_read;
        }

    one_counted : count next-left.1 + length c.inner.given + 1 ≡ arity c.inner.code
    unfolding count
    one_counted = omega (arith, c.many, ap count next-left.2)

    -- the stack has room for one more
    pub building_inside : turn.top < length turn.stack
    building_inside = omega (arith, c.past, c.wide, c.stack_long, ahead_inside whole.v turn.at building_ahead)

    -- it waits for the value of that template
    abbrev later : List Pending
    later = waits c.inner next-left.1 ∷ c.around

    waiting : Same whole (λ I s M. resume I M later (build (template_at whole.v turn.at) I M (with_made s turn.made) turn.cells))
    waiting I s M e g =
        cc (
          template_is whole.v turn.at building_ahead,
          waits_for I M c.inner (with_made s turn.made) turn.cells c.around next-left.2,
          c.rest I s M e g,
        )

    -- it begins with a value
    pub building_leaf : (head : Head) {made_value next : ℕ} → head ≡ Leaf made_value next
        → ((values : List ℕ) → Holds whole.env whole.m.count values → HeadValue whole.v turn.at values head)
        → Heads whole.v turn.at head
        → Looping whole
        (record { cells = turn.cells; stack = set turn.stack turn.top made_value; at = next; made = turn.made; pos = turn.pos; top = turn.top + 1 })
        needed
    building_leaf head {made_value} {next} er l hd =
        let q : Past whole.v turn.at next = subst (Heads whole.v turn.at) er hd in
        record {
          building = record {
            as_long = c.as_long;
            stack_long = length-set turn.stack turn.top made_value ∙ c.stack_long;
            wide = c.wide;
            past = omega (arith, c.past, q.less);
            inside = q.inside;
            inner = fed c.inner made_value next-left.1;
            around = c.around;
            stands = stands_fed c.stands building_inside made_value next-left.1;
            many = simp length-append (omega (arith, one_counted));
            small = c.small;
            filling = c.filling;
            read = q.read ∙ ap parsed (others_are whole.v turn.at building_ahead);
            rest =
                λ I s M e g.
                sym (takes_value I M (waits c.inner next-left.1) (with_made s turn.made) turn.cells c.around made_value)
                ∙ ap (resume I M later) (sym (subst (HeadValue whole.v turn.at M) er (l M g) I (with_made s turn.made) turn.cells))
                ∙ waiting I s M e g;
          };
          needed_is = looping.needed_is;
        }

    -- it is a constructor
    pub building_node : (head : Head) {byte : ℕ} → head ≡ Node byte → Heads whole.v turn.at head → {packed_head' : ℕ}
        → packed_head' ≡ byte + 256 * turn.pos
        → {needed' : ℕ}
        → needed' ≡ arity byte
        → Looping whole
        (record {
          cells = turn.cells;
          stack = set turn.stack turn.top packed_head';
          at = turn.at + 1;
          made = turn.made;
          pos = turn.top + 1;
          top = turn.top + 1;
        })
        needed'
    unfolding lefts Filling
    building_node head {byte} er hd {packed_head'} ew' en =
        let q : Takes whole.v turn.at byte = subst (Heads whole.v turn.at) er hd in
        record {
          building = record {
            as_long = c.as_long;
            stack_long = length-set turn.stack turn.top packed_head' ∙ c.stack_long;
            wide = c.wide;
            past = omega (arith, c.past);
            inside = omega (arith, q.inside);
            inner = opened byte q.own;
            around = later;
            stands = stands_opened c.stands building_inside ew' next-left.1 q.own;
            many = omega (arith, q.many);
            small = q.small;
            filling = (one_counted, c.small, c.filling);
            read = cc (q.read, others_are whole.v turn.at building_ahead);
            rest =
                λ I s M e g.
                cc (going_make I M byte q.own (with_made s turn.made) turn.cells, q.is, waiting I s M e g);
          };
          needed_is = en;
        }

  -- none is left to it
  module _ (stop : needed ≤ turn.top - turn.pos) where
    inner_none : c.inner.left ≡ none
    inner_none = none_left c.inner.left (omega (arith, n-is, stands_top c.stands))

    given_is : take needed (drop turn.pos turn.stack) ≡ c.inner.given
    given_is =
        let z : needed ≡ turn.top - turn.pos = omega (arith, n-is, stands_top c.stands) in
        cc (stands_given c.stands)

    -- the arguments stand within the stack
    pub building_fits : turn.pos + needed ≤ length turn.stack
    building_fits = omega (arith, n-is, stands_top c.stands, c.stands.fits)

    -- the cell of those given
    cell_goes : Same whole (λ I s M. resume I M c.around (cell I c.inner.code c.inner.given (with_made s turn.made) turn.cells))
    cell_goes I s M e g =
        cc (makes_cell I M c.inner (with_made s turn.made) turn.cells inner_none, c.rest I s M e g)

    -- no row is left: refusal 21
    pub building_full : whole.m.rows ≤ turn.made → Same whole (λ I s M. built s None turn.cells)
    building_full h I s M e g =
        sym (resume_halt I M c.around _ turn.cells)
        ∙ cc (cell_none I c.inner.code c.inner.given (with_made s turn.made) turn.cells (omega (arith, e)), cell_goes I s M e g)

-- its row is made
pub record Closing (whole : Whole) (turn : Turn) (code needed out : ℕ) (cells : List ℕ) : Type 0 where
  -- where the loop stands
  pub looping : Looping whole turn needed
  -- the number of the constructor that is closed
  pub w : ℕ
  -- it is read
  pub looked : Looked looping.building w code
  -- it has all its arguments
  pub stop : needed ≤ turn.top - turn.pos
  -- there is a row for it
  pub row : turn.made < whole.m.rows
  -- the row is stored with the arguments on the stack
  pub stored : cells ≡ sets turn.cells (turn.made * columns) (row_numbers code (take needed (drop turn.pos turn.stack)))
  -- the cells are as many
  pub same : length cells ≡ length turn.cells
  -- where the arguments of the one around it begin
  pub out_is : out ≡ w / 256

-- the same, where its number is read below its arguments
pub closing_of : {whole : Whole} {turn : Turn} {needed out : ℕ} {cells : List ℕ} → Looping whole turn needed → needed ≤ turn.top - turn.pos
    → turn.made < whole.m.rows
    → cells ≡ sets turn.cells (turn.made * columns) (row_numbers (get_or turn.stack (turn.pos - 1) 0 % 256) (take needed (drop turn.pos turn.stack)))
    → length cells ≡ length turn.cells
    → out ≡ get_or turn.stack (turn.pos - 1) 0 / 256
    → Closing whole turn (get_or turn.stack (turn.pos - 1) 0 % 256) needed out cells
closing_of looping stop row stored same out_is =
    record {
      looping = looping;
      w = _;
      looked = record { number = refl; code_is = refl };
      stop = stop;
      row = row;
      stored = stored;
      same = same;
      out_is = out_is;
    }

module _ {whole : Whole} {turn : Turn} {code needed out : ℕ} {cells : List ℕ} (closing : Closing whole turn code needed out cells) where
  abbrev b : Building whole turn
  b = closing.looping.building

  out_place : out ≡ place b.around
  out_place = closing.out_is ∙ its_place closing.looked

  made_is : Same whole (λ I s M. resume I M b.around (done turn.made (with_made s (turn.made + 1)) cells))
  made_is I s M e g =
      cc (
        closing.stored,
        its_code closing.looked,
        given_is closing.looping closing.stop,
        cell_row I b.inner.code b.inner.given (with_made s turn.made) turn.cells (omega (arith, e, closing.row)),
        cell_goes closing.looping closing.stop I s M e g,
      )

  read_on : templates_of (drop turn.at whole.v) ≡ parsed (lefts b.around (others_at whole.v whole.from))
  unfolding join
  read_on = cc (b.read, inner_none closing.looping closing.stop)

  closing_long : length cells ≡ length whole.cells
  closing_long = closing.same ∙ b.as_long

  -- it was the outermost
  module _ (e0 : out ≡ 0) where
    alone : b.around ≡ []
    alone = place_none b.around (sym out_place ∙ e0)

    made_alone : Same whole (λ I s M. done turn.made (with_made s (turn.made + 1)) cells)
    unfolding resume
    made_alone I s M e g = cc (alone, made_is I s M e g)

    read_alone : templates_of (drop turn.at whole.v) ≡ parsed (others_at whole.v whole.from)
    unfolding lefts
    read_alone = cc (read_on, alone)

    -- the outermost constructor is made
    pub closing_made : Builds whole.v whole.from whole.env whole.m whole.cells (Some (turn.made, turn.at, turn.made + 1)) cells
    closing_made =
        record {
          evaluates = made_alone;
          behind = (omega (arith, b.past, stands_top b.stands, (building_pos b).0), b.inside, read_alone);
        }

  -- it is an argument of the one around it
  abbrev pub closed : Turn
  closed = record { cells = cells; stack = set turn.stack (turn.pos - 1) turn.made; at = turn.at; made = turn.made + 1; pos = out; top = turn.pos }

  -- an inner one is made: it is an argument of the one around it
  pub closing_next : (out ≡ 0 → ⊥) → (out < turn.pos) × Building whole closed
  unfolding lefts Filling place
  closing_next ne = by b.around refl
    where
      by : (ps : List Pending) → b.around ≡ ps → (out < turn.pos) × Building whole closed
      by [] e = absurd (ne (out_place ∙ ap place e))
      by (q ∷ qs) e =
          let st : Stands turn.stack turn.pos turn.top b.inner (q ∷ qs) = subst (Stands turn.stack turn.pos turn.top b.inner) e
          b.stands in
          let fl : Filling (q ∷ qs) = subst Filling e b.filling in
          let ae : place (q ∷ qs) ≡ out = sym (out_place ∙ ap place e) in (
            omega (arith, ae, image_length q qs, st.pos_is),
            record {
              as_long = closing_long;
              stack_long = length-set turn.stack (turn.pos - 1) turn.made ∙ b.stack_long;
              wide = b.wide;
              past = omega (arith, b.past, stands_top b.stands);
              inside = b.inside;
              inner = fed q turn.made q.left;
              around = qs;
              stands =
                  rw (← ae) (stands_closed st turn.made);
              many = simp length-append (omega (arith, fl.0));
              small = fl.1;
              filling = fl.2;
              read = cc (read_on, e);
              rest =
                  λ I s M ei g.
                  cc (takes_value I M q (with_made s (turn.made + 1)) cells qs turn.made, e, made_is I s M ei g);
            },
          )

-- ------------------------------------------------------------------ the template, by its head

-- a template with no argument is built at once
pub leaf_built : (bytes : List ℕ) (at : ℕ) {env : List ℕ} (m : Making) {made_value next : ℕ} (head : Head) → head ≡ Leaf made_value next
    → ((values : List ℕ) → Holds env m.count values → HeadValue bytes at values head)
    → Heads bytes at head
    → (cells : List ℕ)
    → Builds bytes at env m cells (Some (made_value, next, m.made)) cells
leaf_built bytes at m {next = next} head e l h cells =
    let q : Past bytes at next = subst (Heads bytes at) e h in
    record {
      evaluates = λ I s M ei g. sym (subst (HeadValue bytes at M) e (l M g) I (with_made s m.made) cells);
      behind = (q.less, q.inside, q.read);
    }
