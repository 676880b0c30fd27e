-- What a number shows is what the definition reads off the rows, at any place that it may stand at.
use Prim.Native.Nat.{ℕ, zero, suc, ◌-◌, ◌*◌, ◌/◌, ◌%◌, ◌≤◌, ◌<◌}
use mathlib.Core.Path.{◌≡◌, refl, sym, ap, ap₂, ◌∙◌}
use mathlib.Core.Bool.{true, false, true≢false}
use mathlib.Core.List.{List, [], ◌∷◌}
use native.Mathlib.Omega.{arith}
use lib.ListN.{length}
use borrow.Author.Tests.{eq-eqb, ne_eqb}
use Rattle.spellings.specs.Bytes.{every}
use Rattle.spellings.proofs.BytesLaws.{every_at}
use Rattle.grammar.specs.Sorts.{constructor}
use Rattle.grammar.proofs.SortLaws.{results}
use Rattle.grammar.specs.Table.{Template, Templates, variable, outside_var, outside_label, make, none, more}
use Rattle.grammar.specs.Table as Table
use Rattle.terms.specs.Cells.{name_base, outside_name}
use Rattle.judgements.specs.Judgements.{Has, has_first, has_later, Fits, fits_equal, fits_binder, Sorted, Fill, fill_none, fill_more}
use Rattle.judgements.specs.Judgements as Judgements
use Rattle.copying.specs.RowTemplates.{is_variable_name, is_row_sort, value_template, column_templates, row_template, text_template}
use Rattle.tokens.specs.Variables.{variable_name}
use Rattle.copying.proofs.ValueLaws.{at_variable, at_row, at_name, at_unit, at_plain}
use Rattle.texts.proofs.Showing.{ShowsTemplate, ColumnsShow, shows_variable, shows_var, shows_label, shows_unit, shows_make, no_column, one_column}

-- a variable that has a sort is one of the environment's
pub has_below : {L : List ℕ} {i B : ℕ} → Has L i B → i < length L
has_below has_first = omega arith
has_below (has_later h) = let l = has_below h in omega arith

-- a constructor gives a Term or a field list
pub result_sort : (c : ℕ) → c ≤ 0x27 → is_row_sort (constructor c).result ≡ true
unfolding every
result_sort c hi = rw (← (results c)) (every_at is_row_sort (4 ∷ 4 ∷ 4 ∷ 4 ∷ 4 ∷ 5 ∷ 5 ∷ 4 ∷ []) (c - 32) refl (omega arith))

-- where a row may stand, its sort is asked
pub row_place : {A B : ℕ} → is_row_sort A ≡ true → Fits A B → is_row_sort B ≡ true
row_place e fits_equal = e
row_place e fits_binder = absurd (true≢false (sym e))

-- a number of a class below that of variables
pub no_variable : (x : ℕ) → x < 4 * name_base → is_variable_name x ≡ false
no_variable x l = ne_eqb (x / name_base) 4 (λ h. omega arith)

-- ------------------------------------------------------------------ templates

module _ {N : ℕ} {L : List ℕ} (few : N ≤ name_base) (short : length L ≤ name_base) (cells : List ℕ) where
  mutual
    unfolding row_template column_templates

    -- the template that a number shows is read at a place of a sort that it fits, to any depth that is not below the rows made
    pub read_back : (t : Template) {made depth x A B : ℕ} → made ≤ depth → depth ≤ name_base → ShowsTemplate cells made x t → Sorted N L t A → Fits A B
        → text_template depth cells B x ≡ t
    read_back (variable n) {depth = depth} {B = B} l d shows_variable (Judgements.by_variable h) f =
        let below = has_below h in
        let number : variable_name n % name_base ≡ n = omega arith in
        at_variable (λ q. row_template depth cells q) B (variable_name n) (eq-eqb (variable_name n / name_base) 4 (omega arith)) ∙ ap variable number
    read_back (outside_var n) {depth = depth} l d shows_var (Judgements.by_global h) fits_equal =
        let number : outside_name n % name_base ≡ n = omega arith in
        at_name (λ q. row_template depth cells q) 1 (outside_name n) (no_variable (outside_name n) (omega arith)) refl refl ∙ ap outside_var number
    read_back (outside_label n) {depth = depth} l d shows_label (Judgements.by_label h) fits_equal =
        at_plain (λ q. row_template depth cells q) 3 n (no_variable n (omega arith)) refl refl refl
    read_back Table.unit {depth = depth} l d shows_unit Judgements.by_unit fits_equal =
        at_unit (λ q. row_template depth cells q) 0 0 refl refl refl refl
    read_back (make c ts) {depth = zero} l d (shows_make h e cs) w f = absurd (omega arith)
    read_back (make c ts) {depth = suc k} {B = B} l d (shows_make {row = row} h e cs) (Judgements.by_constructor lo hi w) f =
        at_row (λ q. row_template (suc k) cells q) B row (no_variable row (omega arith)) (row_place (result_sort c hi) f)
        ∙ ap (λ code. make code (column_templates (constructor code).params (λ q. row_template k cells q) cells row 1)) e
        ∙ ap (make c) (columns_back ts {row = row} {depth = k} (omega arith) (omega arith) cs w)

    columns_back : (ts : Templates) {row depth column_number : ℕ} {Bs : List ℕ} → row ≤ depth → depth ≤ name_base → ColumnsShow cells row column_number ts
        → Fill N L ts Bs → column_templates Bs (λ q. row_template depth cells q) cells row column_number ≡ ts
    columns_back none l d no_column fill_none = refl
    columns_back (more t ts) {depth = depth} l d (one_column h e s cs) (fill_more {B = B} w f ws) =
        ap₂ more (ap (λ y. value_template B (λ q. row_template depth cells q) y) e ∙ read_back t l d s w f) (columns_back ts l d cs ws)
