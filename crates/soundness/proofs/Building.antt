-- Templates: beside what Figure 3 gives, the cells made show it, or there is no row left.
use Prim.Native.Nat.{ℕ, ◌+◌, ◌*◌, ◌≤◌}
use mathlib.Core.Path.{◌≡◌, refl}
use mathlib.Core.List.{List, ◌∷◌}
use native.Mathlib.Omega.{arith}
use lib.ListN.{length}
use Rattle.grammar.specs.Table.{Template, Templates, none, more}
use Rattle.grammar.specs.Table as Table
use Rattle.terms.specs.Cells.{name_base, columns}
use Rattle.judgements.specs.Judgements.{Sorted, Fill, fill_none, fill_more}
use Rattle.judgements.specs.Judgements as Judgements
use Rattle.expansion.specs.declared.State.{State}
use Rattle.expansion.specs.Expansion.{Input, cell, build, build_all}
use Rattle.expansion.specs.Figure3.{Value, Constructs, Gives, by_variable, by_global, by_label, by_constructor, by_unit, GiveAll, give_none, give_more}
use Rattle.expansion.specs.Costs.{rows_of, rows_of_all}
use Rattle.expansion.proofs.CellLaws.{cell_by}
use Rattle.expansion.proofs.Endings.{Ends, ends_after, ends_map, Made, Full, nothing_made, made_trans, full_more}
use Rattle.expansion.proofs.Shows.{IsCode, Shows, shows_var, shows_label, shows_unit, ShowAll, show_none, show_more, shows_later, all_later}
use Rattle.expansion.proofs.Shows.{shows_bound, row_grown, row_shows, outside_named}

module _ (spell : ℕ → List ℕ) (rows : ℕ) where
  -- a template is built as its value
  abbrev pub Built : ℕ → State → List ℕ → Value → ℕ → State → List ℕ → Type 0
  Built n s cells v x s' cells' = Made rows n s cells s' cells' × Shows spell s'.made cells' x v

  -- templates are built as their values
  abbrev pub BuiltAll : ℕ → State → List ℕ → List Value → List ℕ → State → List ℕ → Type 0
  BuiltAll n s cells vs xs s' cells' = Made rows n s cells s' cells' × ShowAll spell s'.made cells' xs vs

  -- what reads so many rows
  module _ (lent : Input) (rows_are : lent.rows ≡ rows) where
    cell_ends : {code : ℕ} {xs : List ℕ} {vs : List Value} {value : Value} (state : State) (cells : List ℕ) → rows * columns ≤ length cells
        → IsCode code → Constructs code vs value → ShowAll spell state.made cells xs vs
        → Ends (Built 1 state cells value) (Full rows (state.made + 1)) (cell lent code xs state cells)
    cell_ends {code} {xs} {vs} {value} state cells room is_code k a =
        cell_by lent code xs state cells (Ends (Built 1 state cells value) (Full rows (state.made + 1)))
        (λ numbers row l. (
          record {
            grown = row_grown state.made cells row (omega (arith, rows_are)) is_code;
            at_kept = refl;
            fresh_kept = refl;
            calls_kept = refl;
            made_is = refl;
            fits = omega (arith, rows_are);
          },
          row_shows spell state.made cells numbers (omega (arith, rows_are)) row k a,
        ))
        (λ l. record { is_21 = refl; beyond = omega (arith, rows_are) })

    mutual
      unfolding build build_all rows_of rows_of_all

      -- a template that gives a value is built as it, or no row is left
      pub build_ends : {outsides : ℕ} {L : List ℕ} {A : ℕ} {M : List Value} (template : Template) {value : Value} {xs : List ℕ} (state : State) (cells : List ℕ)
          → Gives spell M template value → Sorted outsides L template A → outsides ≤ name_base → rows * columns ≤ length cells → state.made ≤ rows
          → ShowAll spell state.made cells xs M
          → Ends (Built (rows_of template) state cells value) (Full rows (state.made + rows_of template)) (build template lent xs state cells)
      build_ends (Table.variable i) state cells (by_variable b) w small room fit a = (nothing_made state cells fit, shows_bound a b)
      build_ends (Table.outside_var n) state cells by_global (Judgements.by_global l) small room fit a =
          (nothing_made state cells fit, shows_var (outside_named spell n (omega arith)))
      build_ends (Table.outside_label n) state cells by_label w small room fit a = (nothing_made state cells fit, shows_label)
      build_ends Table.unit state cells by_unit w small room fit a = (nothing_made state cells fit, shows_unit)
      build_ends (Table.make c ts) {value = value} {xs = xs} state cells (by_constructor {vs = vs} g k) (Judgements.by_constructor lo hi w) small room fit a =
          let n : ℕ = rows_of_all ts in
          ends_after (BuiltAll n state cells vs) (Full rows (state.made + n)) (Built (n + 1) state cells value)
          (Full rows (state.made + (n + 1)))
          (build_all ts lent xs state cells) (λ ys. cell lent c ys)
          (build_all_ends ts state cells g w small room fit a)
          (λ ys s₁ c₁ b.
          ends_map (Built 1 s₁ c₁ value) (Full rows (s₁.made + 1)) (Built (n + 1) state cells value) (Full rows (state.made + (n + 1)))
          (cell lent c ys s₁ c₁)
          (cell_ends s₁ c₁ (rw b.0.grown.as_many room) (lo, hi) k b.1)
          (λ x s₂ c₂ d. (made_trans b.0 d.0, d.1))
          (full_more (omega (arith, b.0.made_is))))
          (full_more (omega arith))

      -- so are templates
      pub build_all_ends : {outsides : ℕ} {L : List ℕ} {Bs : List ℕ} {M : List Value} (ts : Templates) {vs : List Value} {xs : List ℕ} (state : State)
          (cells : List ℕ)
          → GiveAll spell M ts vs → Fill outsides L ts Bs → outsides ≤ name_base → rows * columns ≤ length cells → state.made ≤ rows
          → ShowAll spell state.made cells xs M
          → Ends (BuiltAll (rows_of_all ts) state cells vs) (Full rows (state.made + rows_of_all ts)) (build_all ts lent xs state cells)
      build_all_ends none state cells give_none fill_none small room fit a = (nothing_made state cells fit, show_none)
      build_all_ends (more t ts) {xs = xs} state cells (give_more {v = v} {vs = vs} g gs) (fill_more w f ws) small room fit a =
          let m : ℕ = rows_of t in
          let n : ℕ = rows_of_all ts in
          ends_after (Built m state cells v) (Full rows (state.made + m)) (BuiltAll (m + n) state cells (v ∷ vs))
          (Full rows (state.made + (m + n)))
          (build t lent xs state cells) _
          (build_ends t state cells g w small room fit a)
          (λ x s₁ c₁ b.
          ends_after (BuiltAll n s₁ c₁ vs) (Full rows (s₁.made + n)) (BuiltAll (m + n) state cells (v ∷ vs))
          (Full rows (state.made + (m + n)))
          (build_all ts lent xs s₁ c₁) _
          (build_all_ends ts s₁ c₁ gs ws small (rw b.0.grown.as_many room) b.0.fits (all_later b.0.grown a))
          (λ ys s₂ c₂ d. (made_trans b.0 d.0, show_more (shows_later d.0.grown b.1) d.1))
          (full_more (omega (arith, b.0.made_is))))
          (full_more (omega arith))
