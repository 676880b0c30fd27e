-- The term that an accepted expansion shows lies in the rows that it made: read from these rows alone, it is the same. Each of them has the
-- code of a constructor.
use Prim.Native.Nat.{ℕ, ◌*◌, ◌≤◌, ◌<◌}
use mathlib.Core.Path.{◌≡◌, refl, sym, subst, ◌∙◌}
use mathlib.Core.Bool.{Bool, true, false}
use mathlib.Core.List.{List, []}
use native.Mathlib.Omega.{arith}
use lib.Dec.{ltb}
use lib.ListN.{length, take}
use lib.Seq.{get_or-take}
use Rattle.answers.specs.Refusals.{refusal}
use Rattle.terms.specs.Cells.{columns, column}
use Rattle.grammar.specs.Sorts as Sorts
use Rattle.productions.specs.Normal.{Production}
use Rattle.terms.specs.Rows.{term_at}
use Rattle.expansion.specs.declared.State.{State}
use Rattle.expansion.specs.Run.{done, halt}
use Rattle.expansion.specs.Expansion.{initial_state, run_call, ended, run}
use Rattle.expansion.specs.Limits.{most_open}
use Rattle.expansion.specs.Figure3.{Value, term}
use Rattle.expansion.specs.Figure3 as Figure3
use Rattle.expansion.specs.Parsing.{input}
use Rattle.expansion.specs.ValueSorts.{Typed, typed_term}
use Rattle.expansion.proofs.Shows.{IsCode, Shows, shows_term}
use Rattle.soundness.proofs.Setting.{Setting, no_arguments}
use Rattle.expansion.proofs.Endings.{Ends, ends_after}
use Rattle.soundness.proofs.Typing.{items_typed, body_of, taken_of}
use Rattle.soundness.proofs.Sound.{Any, Root, root_called}

module _ {g : List Production} (setting : Setting g) where
  -- what is left after the value `row`: no more rows than there are, as many numbers as before, constructors in the rows made, and the term
  pub record Leaves (cells : List ℕ) (row : ℕ) (state : State) (cells' : List ℕ) : Type 0 where
    -- no more rows are made than there are
    pub few : state.made ≤ setting.rows
    -- the cells are as many
    pub as_many : length cells' ≡ length cells
    -- each row made has the code of a constructor
    pub coded : (other : ℕ) → other < state.made → IsCode (column cells' other 0)
    -- the term's row is made
    pub below : row < state.made
    -- the rows made are all that the term reads
    pub same : term_at state.made setting.spell (take (state.made * columns) cells') row ≡ term_at state.made setting.spell cells' row

  term_rows : {cells' : List ℕ} {row made : ℕ} (value : Value) → Typed value Sorts.term → Shows setting.spell made cells' row value
      → (row < made) × (term_at made setting.spell (take (made * columns) cells') row ≡ term_at made setting.spell cells' row)
  term_rows {cells'} {row} {made} (term t) typed_term (shows_term h) = (
    h.below,
    h.read (take (made * columns) cells') (record { same = λ j b. get_or-take (made * columns) cells' j 0 b }) made h.below
        ∙ sym (h.read cells' (record { same = λ j b. refl }) made h.below),
  )
  term_rows Figure3.unit x _ = elim x [ ]
  term_rows (Figure3.var _) x _ = elim x [ ]
  term_rows (Figure3.binder _) x _ = elim x [ ]
  term_rows (Figure3.label _) x _ = elim x [ ]
  term_rows (Figure3.num _) x _ = elim x [ ]
  term_rows (Figure3.fields _) x _ = elim x [ ]

  root_leaves : {cells : List ℕ} {row : ℕ} {state' : State} {cells' : List ℕ} → Root setting cells row state' cells' → Leaves cells row state' cells'
  root_leaves c =
      let sorted = items_typed setting.fit c.derived (no_arguments setting) (body_of setting.fit (taken_of c.taken) setting.defined)
      c.given in
      let rows = term_rows c.value (subst (Typed c.value) setting.of_term sorted) c.shows in
      record {
        few = c.kept.fits;
        as_many = c.grown.as_many;
        coded = λ other below. c.grown.coded other (omega arith) below;
        below = rows.0;
        same = rows.1;
      }

  ended_leaves : (cells : List ℕ) (row : ℕ) (state' : State) (cells' : List ℕ) → Root setting cells row state' cells'
      → Ends (Leaves cells) (Any setting) (ended (input g setting.tokens setting.rows) row state' cells')
  ended_leaves cells row state' cells' c = go (ltb state'.at (length setting.tokens))
    where
      go : (test : Bool) → Ends (Leaves cells) (Any setting) (elim test [ true ↦ halt (refusal 18 state'.at 0 0) cells' | false ↦ done row state' cells' ])
      go true = tt
      go false = root_leaves c

  -- An accepted expansion leaves its term in the rows made.
  pub run_leaves_rows : (cells : List ℕ) → setting.rows * columns ≤ length cells → {row : ℕ} {state : State} {cells' : List ℕ}
      → run (input g setting.tokens setting.rows) setting.root cells ≡ done row state cells' → Leaves cells row state cells'
  unfolding run
  run_leaves_rows cells room e =
      rw e at (ends_after (Root setting cells) (Any setting) (Leaves cells) (Any setting)
      (run_call most_open (input g setting.tokens setting.rows) setting.root [] initial_state cells) (ended (input g setting.tokens setting.rows))
      (root_called setting cells room)
      (ended_leaves cells) (λ r u. u))
