-- A number that shows a sorted template hangs together, so that it may be evaluated; and the template that it shows is what the evaluation gives.
use Prim.Native.Nat.{ℕ, zero, suc, ◌+◌, ◌/◌, ◌≤◌, ◌<◌}
use mathlib.Core.Path.{◌≡◌, refl, sym, ap, ◌∙◌}
use mathlib.Core.Bool.{Bool, true, false, ◌&&◌, true≢false}
use mathlib.Core.List.{List}
use native.Mathlib.Omega.{arith}
use native.Mathlib.Decide.{dec_lt}
use lib.ListN.{length, get_or}
use borrow.Author.Tests.{eq-eqb}
use Rattle.grammar.specs.Sorts.{constructor, arity, unit}
use Rattle.grammar.specs.Table.{Template, Templates, variable, outside_var, outside_label, make, none, more}
use Rattle.grammar.specs.Table as Table
use Rattle.grammar.proofs.ReaderLaws.{get_d_past}
use Rattle.terms.specs.Cells.{column, name_base, rows_lent}
use Rattle.judgements.specs.Judgements.{Fits, fits_equal, Sorted, Fill, fill_none, fill_more}
use Rattle.judgements.specs.Judgements as Judgements
use Rattle.expansion.specs.declared.State.{State}
use Rattle.expansion.specs.Expansion.{Input, build}
use Rattle.templates.specs.Built.{Holds, with_made}
use Rattle.copying.specs.RowTemplates.{is_row_sort}
use Rattle.texts.proofs.Showing.{ShowsTemplate, ColumnsShow, shows_variable, shows_var, shows_label, shows_unit, shows_make, no_column, one_column}
use Rattle.texts.proofs.ReadBack.{has_below, read_back}
use Rattle.copying.proofs.CopyLaws.{hangs_more}
use Rattle.copying.specs.Hanging.{is_row_at, IsPart, VariableBelow, Hangs, hangs, HangsAt}
use Rattle.copying.specs.Copies.{copied, CopiesText}
use Rattle.copying.specs.Copied.{Copied}

-- a number at a place of a sort, where `made` rows are made
record Stands (cells : List ℕ) (made count sort x : ℕ) : Type 0 where
  -- a variable is one of the first
  variable : VariableBelow count x
  -- a row is made
  before : is_row_at sort x ≡ true → x < made
  -- and hangs together
  whole : is_row_at sort x ≡ true → Hangs cells count x

-- a number that is no row
stands_leaf : {cells : List ℕ} {made count sort x : ℕ} → VariableBelow count x → is_row_at sort x ≡ false → Stands cells made count sort x
stands_leaf below e = record { variable = below; before = λ t. absurd (true≢false (sym t ∙ e)); whole = λ t. absurd (true≢false (sym t ∙ e)) }

no_row : (a : Bool) → (a && false) ≡ false
no_row true = refl
no_row false = refl

-- a row whose arguments stand at their places
row_hangs : (cells : List ℕ) {count row c : ℕ} → column cells row 0 ≡ c → c < 256
    → ((i : ℕ) → i < arity c → Stands cells row count (get_or (constructor c).params i unit) (column cells row (i + 1))) → Hangs cells count row
row_hangs cells {count} {row} {c} e byte each =
    hangs {row = row} (rw e byte) (λ i h. (each i (rw e at h)).variable) (λ i part. (at_part i part).before (rw e at part))
    (λ i part. (at_part i part).whole (rw e at part))
  where
    at_part : (i : ℕ) → IsPart cells row i → Stands cells row count (get_or (constructor c).params i unit) (column cells row (i + 1))
    at_part i part = by (dec_lt i (arity c))
      where
        by : Dec (i < arity c) → Stands cells row count (get_or (constructor c).params i unit) (column cells row (i + 1))
        by (yes h) = each i h
        by (no h) =
            let past : get_or (constructor c).params i unit ≡ unit = get_d_past (constructor c).params i unit (omega arith) in
            absurd (true≢false (sym (rw (e, past) at part)))

module _ {N : ℕ} {L : List ℕ} (few : N ≤ name_base) (short : length L ≤ name_base) (cells : List ℕ) where
  mutual
    stands : (t : Template) {made x A B : ℕ} → made ≤ name_base → ShowsTemplate cells made x t → Sorted N L t A → Fits A B → Stands cells made (length L) B x
    stands (variable n) {x = x} {B = B} l shows_variable (Judgements.by_variable h) f =
        let below = has_below h in
        stands_leaf (λ e. omega arith) (rw (eq-eqb (x / name_base) 4 (omega arith)) (no_row (is_row_sort B)))
    stands (outside_var n) l shows_var (Judgements.by_global h) fits_equal = stands_leaf (λ e. absurd (omega arith)) refl
    stands (outside_label n) l shows_label (Judgements.by_label h) fits_equal = stands_leaf (λ e. absurd (omega arith)) refl
    stands Table.unit l shows_unit Judgements.by_unit fits_equal = stands_leaf (λ e. absurd (omega arith)) refl
    stands (make c ts) l (shows_make {row = row} h e cs) (Judgements.by_constructor lo hi w) f =
        record {
          variable = λ k. absurd (omega arith);
          before = λ k. h;
          whole = λ k. row_hangs cells e (omega arith) (λ i less. columns_stand ts {row = row} (omega arith) cs w i less);
        }

    columns_stand : (ts : Templates) {row k : ℕ} {Bs : List ℕ} → row ≤ name_base → ColumnsShow cells row k ts → Fill N L ts Bs → (i : ℕ) → i < length Bs
        → Stands cells row (length L) (get_or Bs i unit) (column cells row (i + k))
    columns_stand none l no_column fill_none i h = absurd (omega arith)
    columns_stand (more t ts) {row = row} {k = k} l (one_column b e s cs) (fill_more w f ws) zero h =
        let place : zero + k ≡ k = omega arith in
        rw (place, e) (stands t l s w f)
    columns_stand (more t ts) {row = row} {k = k} l (one_column b e s cs) (fill_more w f ws) (suc i) h =
        let place : suc i + k ≡ i + (k + 1) = omega arith in
        rw place (columns_stand ts l cs ws i (omega arith))

  -- What shows a sorted template hangs together at any place that it fits, under as many variables as it has or more.
  pub text_hangs_at : (t : Template) {made x A B count : ℕ} → length L ≤ count → made ≤ name_base → ShowsTemplate cells made x t → Sorted N L t A → Fits A B
      → HangsAt cells count B x
  text_hangs_at t more-variables l s w f =
      let at = stands t l s w f in
      record { variable = λ e. let below = at.variable e in omega arith; row = λ e. hangs_more more-variables (at.whole e) }

  -- Its row is one of those made.
  pub text_before : (t : Template) {made x A B : ℕ} → made ≤ name_base → ShowsTemplate cells made x t → Sorted N L t A → Fits A B → is_row_at B x ≡ true → x < made
  text_before t l s w f = (stands t l s w f).before

  -- The evaluation of what shows a sorted template gives what the template gives.
  pub text_copied : (t : Template) {made x A B : ℕ} → made ≤ name_base → ShowsTemplate cells made x t → Sorted N L t A → Fits A B
      → {env : List ℕ} {count : ℕ} {cells₀ : List ℕ} {r : Copied} {cells' : List ℕ} → CopiesText cells B x env count cells₀ r cells'
      → (I : Input) (s : State) (M : List ℕ) → I.rows ≡ rows_lent (length cells₀) → Holds env (length L) M
      → copied s r cells' ≡ build t I M (with_made s count) cells₀
  text_copied t {made = made} l s w f {count = count} {cells₀ = cells₀} copies I state M e holds =
      copies.evaluates I state M (length L) made e holds (text_hangs_at t (omega arith) l s w f) (stands t l s w f).before
      ∙ ap (λ u. build u I M (with_made state count) cells₀) (read_back few short cells t (omega arith) l s w f)
