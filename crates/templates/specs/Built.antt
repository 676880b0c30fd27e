-- What the code that evaluates templates works on and answers: the values of the variables in an array, templates as bytes in
-- prefix form, and rows. These definitions mirror code: nobody needs them to believe `expand`.
use Rattle.std.specs.Prelude.{ℕ, ◌*◌, ◌<◌, ◌≤◌, ◌≡◌, true, false, List, ltb, length, get_or, drop, set, Some, None}
use Rattle.grammar.specs.Variables.{most_variables}
use Rattle.answers.specs.declared.Refusal.{Refusal}
use Rattle.answers.specs.Refusals.{refusal}
use Rattle.terms.specs.Cells.{columns, most_cells}
use Rattle.grammar.specs.Limits.{most}
use Rattle.grammar.specs.Table.{Template, Templates, none, more}
use Rattle.decoding.specs.Prefix.{parsed, templates_of, is_templates, found, head_template}
use Rattle.expansion.specs.declared.State.{State}
use Rattle.templates.specs.declared.Making.{Making}
use Rattle.templates.specs.Given.{Built}
use Rattle.templates.specs.Given.{Arguments}
use Rattle.expansion.specs.Run.{Result, done, halt}
use Rattle.expansion.specs.Expansion.{Input, build, build_all}

-- ------------------------------------------------------------------ rows and variables

-- the rows lie in the cells
pub record RowsFit (rows : ℕ) (cells : List ℕ) : Type 0 where
  pub few : rows ≤ most_cells
  pub rows_long : rows * columns ≤ length cells

-- so they do, the bytes of a field are no more than those of a table, and the stack is as long as they are
pub record RoomsFit (v : List ℕ) (rows : ℕ) (cells stack : List ℕ) : Type 0 where
  pub small : length v ≤ most.bytes
  pub stack_long : length v ≤ length stack
  pub rows_fit : RowsFit rows cells

-- the first 16 of k values M stand in an array of 16: no template names a further variable
pub record Holds (env : List ℕ) (k : ℕ) (M : List ℕ) : Type 0 where
  pub long : length env ≡ most_variables
  pub count : length M ≡ k
  pub same : (i : ℕ) → i < most_variables → i < k → get_or env i 0 ≡ get_or M i 0

-- an array of 16 with a value at place k, if it has that place
unfoldable pub with_value : List ℕ → ℕ → ℕ → List ℕ
with_value env k v = elim (ltb k most_variables) [ true ↦ set env k v | false ↦ env ]

-- the state with another number of cells made
abbrev pub with_made : State → ℕ → State
with_made s made = record { at = s.at; fresh = s.fresh; calls = s.calls; made = made }

-- ------------------------------------------------------------------ one template

-- from an offset on the bytes are templates, one at least
pub record Ahead (v : List ℕ) (at : ℕ) : Type 0 where
  pub template : Template
  pub others : Templates
  pub read : templates_of (drop at v) ≡ parsed (more template others)

-- the template at an offset, and those behind it
abbrev pub template_at : List ℕ → ℕ → Template
template_at v at = head_template (found (templates_of (drop at v)))

abbrev pub others_of : Templates → Templates
others_of none = none
others_of (more t ts) = ts

abbrev pub others_at : List ℕ → ℕ → Templates
others_at v at = others_of (found (templates_of (drop at v)))

-- document 01's number and values of an answer: 21 with the index of the next token where no row is left, else none
abbrev pub numbered_built : State → Built → Refusal
numbered_built s (Some (v, after, made)) = refusal 0 0 0 0
numbered_built s None = refusal 21 s.at 0 0

-- an answer: the value and the cells made, or no row is left
abbrev pub built : State → Built → List ℕ → Result ℕ
built s (Some (v, after, made)) cells = done v (with_made s made) cells
built s None cells = halt (numbered_built s None) cells

-- the answer, with the cells as they then are, is what the template at an offset gives under values of variables in an array
abbrev pub Evaluates : List ℕ → ℕ → List ℕ → Making → List ℕ → Built → List ℕ → Type 0
Evaluates v at env m cells r cells' =
    (I : Input) (s : State) (M : List ℕ) → I.rows ≡ m.rows → Holds env m.count M
    → built s r cells' ≡ build (template_at v at) I M (with_made s m.made) cells

-- the offset that is answered lies behind the template
abbrev pub Behind : List ℕ → ℕ → Built → Type 0
Behind v at (Some (x, after, made)) = (at < after) × (after ≤ length v) × (templates_of (drop after v) ≡ parsed (others_at v at))
Behind v at None = Unit {0}

-- what the evaluation of the template at an offset asks
pub record MayBuild (v : List ℕ) (at : ℕ) (m : Making) (cells stack : List ℕ) : Type 0 where
  pub ahead : Ahead v at
  pub fits : RoomsFit v m.rows cells stack

-- and what it promises
pub record Builds (v : List ℕ) (at : ℕ) (env : List ℕ) (m : Making) (cells : List ℕ) (r : Built) (cells' : List ℕ) : Type 0 where
  pub evaluates : Evaluates v at env m cells r cells'
  pub behind : Behind v at r

-- ------------------------------------------------------------------ a call's arguments

-- document 01's number and values of an answer, as above
abbrev pub numbered_arguments : State → Arguments → Refusal
numbered_arguments s (Some (k, made)) = refusal 0 0 0 0
numbered_arguments s None = refusal 21 s.at 0 0

-- the values are listed in an array
pub record ListedIn (s : State) (k made : ℕ) (env cells : List ℕ) (r : Result (List ℕ)) : Type 0 where
  pub values : List ℕ
  pub gives : r ≡ done values (with_made s made) cells
  pub holds : Holds env k values

-- an answer: they are, or no row is left
abbrev pub Lists : State → Arguments → List ℕ → List ℕ → Result (List ℕ) → Type 0
Lists s (Some (k, made)) env cells r = ListedIn s k made env cells r
Lists s None env cells r = r ≡ halt (numbered_arguments s None) cells

-- what stands behind them in the array stays
abbrev pub KeptBehind : List ℕ → Arguments → List ℕ → Type 0
KeptBehind env (Some (k, made)) env' = (i : ℕ) → k ≤ i → get_or env' i 0 ≡ get_or env i 0
KeptBehind env None env' = Unit {0}

-- how many there are
abbrev pub Few : ℕ → Arguments → Type 0
Few most (Some (k, made)) = k ≤ most
Few most None = Unit {0}

-- what the evaluation of the templates from an offset on asks
pub record MayList (v : List ℕ) (start : ℕ) (m : Making) (cells stack : List ℕ) : Type 0 where
  pub whole : is_templates (templates_of (drop start v)) ≡ true
  pub fits : RoomsFit v m.rows cells stack

-- and what it promises
pub record ListsAll (v : List ℕ) (start : ℕ) (env : List ℕ) (m : Making) (out cells : List ℕ) (r : Arguments) (out' cells' : List ℕ) : Type 0 where
  pub lists :
      (I : Input) (s : State) (M : List ℕ) → I.rows ≡ m.rows → Holds env m.count M
      → Lists s r out' cells' (build_all (found (templates_of (drop start v))) I M (with_made s m.made) cells)
  pub few : Few (length v) r
  pub kept : KeptBehind out r out'
