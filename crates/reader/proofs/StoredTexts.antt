-- A text that is stored is held with the template that was read, and every earlier one stays.
use Prim.Native.Nat.{ℕ, ◌+◌, ◌*◌, ◌<◌, ◌≤◌}
use mathlib.Core.Path.{◌≡◌, refl, sym, subst, ◌∙◌}
use mathlib.Core.Bool.{true}
use mathlib.Core.List.{List}
use native.Mathlib.Decide.{dec_lt}
use native.Mathlib.Omega.{arith}
use lib.ListN.{length, get_or, drop, replicate, length-drop}
use lib.Seq.{get_or-drop, ext_get_or}
use Rattle.grammar.specs.Variables.{most_variables}
use Rattle.terms.specs.Cells.{columns, most_cells, rows_lent}
use Rattle.tokens.specs.declared.Token.{Token}
use Rattle.copying.specs.RowTemplates.{text_template}
use Rattle.copying.specs.Hanging.{is_row_at, HangsAt}
use Rattle.rows.proofs.ListLaws.{zeros}
use Rattle.soundness.proofs.CellsLeft.{Leaves, run_leaves}
use Rattle.texts.specs.Reading.{TextContext, rows_left, text_input, run_text}
use Rattle.steps.specs.HeldTexts.{pair_of, held_value, held_word, held_sort, held_start, held_rows, text_at, TextHangs}
use Rattle.reader.specs.TextReadings.{DoneWith}
use Rattle.reader.specs.Storing.{StorablePair, StoresText, HeldBefore}
use Rattle.reader.proofs.SameRows.{value_hangs, text_same}

-- a row before an end is one of those that the slice holds behind an index
row_lent : (texts : List ℕ) (start x : ℕ) → start + (x + 1) * columns ≤ length texts → x < most_cells → x < rows_lent (length (drop start texts))
row_lent texts start x l m = omega (arith, length-drop start texts)

held_row : {texts : List ℕ} {base end at : ℕ} → HeldBefore texts base end at → is_row_at (held_sort texts at) (held_value texts at) ≡ true
    → held_value texts at < rows_lent (length (held_rows texts at))
held_row {texts} {at = at} held e =
    row_lent texts (held_start texts at) (held_value texts at) (omega (arith, held.rows_inside e, held.end_inside)) (held.row_small e)

-- What is held hangs together, as a run asks of its texts.
pub held_hangs : {texts : List ℕ} {base end at : ℕ} → HeldBefore texts base end at → TextHangs texts at
held_hangs held =
    record {
      pair_inside = omega (arith, held.pair_before, held.rows_behind, held.begins_inside, held.end_inside);
      rows_inside = omega (arith, held.begins_inside, held.end_inside);
      row_inside = held_row held;
      hangs = held.hangs;
    }

module _ {texts cells : List ℕ} {at sort start made x : ℕ} {texts' cells' : List ℕ} (storable : StorablePair texts cells at sort start made)
    (stores : StoresText texts cells at sort start x made texts' cells') where
  -- ------------------------------------------------------------------ the text that is stored

  sort_held : held_sort texts' at ≡ sort
  sort_held = omega (arith, stores.word, storable.sort_small)

  start_held : held_start texts' at ≡ start
  start_held = omega (arith, stores.word, storable.sort_small)

  module _ (hangs : HangsAt cells most_variables sort x) (before : is_row_at sort x ≡ true → x < made) where
    rows_same : is_row_at sort x ≡ true → (spot : ℕ) → spot < (x + 1) * columns → get_or (drop start texts') spot 0 ≡ get_or cells spot 0
    rows_same e spot b = get_or-drop start texts' spot 0 ∙ stores.rows spot (omega (arith, before e))

    -- It is held.
    pub stored_held : {base : ℕ} → pair_of at + 1 < base → base ≤ start → HeldBefore texts' base (start + made * columns) at
    stored_held l m =
        record {
          pair_before = l;
          rows_behind = omega (arith, start_held);
          begins_inside = omega (arith, start_held);
          rows_inside = λ e. let row = before (rw (sort_held, stores.value) at e) in omega (arith, start_held, stores.value);
          row_small = λ e. let row = before (rw (sort_held, stores.value) at e) in omega (arith, stores.value, storable.few_rows);
          end_inside = omega (arith, stores.long, storable.inside);
          hangs = rw (start_held, sort_held, stores.value) (value_hangs cells (drop start texts') hangs rows_same);
        }

    -- What is held is the template that was read.
    pub stored_template : text_at texts' at ≡ text_template made cells sort x
    unfolding text_at
    stored_template =
        rw (start_held, sort_held, stores.value)
        (text_same cells (drop start texts') hangs rows_same made (rows_lent (length (drop start texts'))) before
        (λ e.
        row_lent texts' start x (omega (arith, before e, stores.long, storable.inside)) (omega (arith, before e, storable.few_rows))))

  -- ------------------------------------------------------------------ an earlier text

  module _ {base earlier : ℕ} (held : HeldBefore texts base start earlier) (own : pair_of at + 1 < base) (other : pair_of earlier ≡ pair_of at → ⊥) where
    value_kept : held_value texts' earlier ≡ held_value texts earlier
    value_kept = stores.kept (pair_of earlier) (omega (arith, held.pair_before, held.rows_behind, held.begins_inside)) other (λ e. omega arith)

    word_kept : held_word texts' earlier ≡ held_word texts earlier
    word_kept =
        stores.kept (pair_of earlier + 1) (omega (arith, held.pair_before, held.rows_behind, held.begins_inside)) (λ e. omega arith)
        (λ e. other (omega arith))

    rows-kept : is_row_at (held_sort texts earlier) (held_value texts earlier) ≡ true → (spot : ℕ) → spot < (held_value texts earlier + 1) * columns
        → get_or (drop (held_start texts earlier) texts') spot 0 ≡ get_or (held_rows texts earlier) spot 0
    rows-kept e spot b =
        get_or-drop (held_start texts earlier) texts' spot 0
        ∙ stores.kept (held_start texts earlier + spot) (omega (arith, held.rows_inside e)) (λ q. omega (arith, held.rows_behind))
        (λ q. omega (arith, held.rows_behind))
        ∙ sym (get_or-drop (held_start texts earlier) texts spot 0)

    -- It is held as before.
    pub earlier_held : HeldBefore texts' base (start + made * columns) earlier
    earlier_held =
        record {
          pair_before = held.pair_before;
          rows_behind = omega (arith, word_kept, held.rows_behind);
          begins_inside = omega (arith, word_kept, held.begins_inside);
          rows_inside = λ e. let inside = held.rows_inside (rw (value_kept, word_kept) at e) in omega (arith, value_kept, word_kept);
          row_small = λ e. let small = held.row_small (rw (value_kept, word_kept) at e) in omega (arith, value_kept);
          end_inside = omega (arith, stores.long, storable.inside);
          hangs =
              rw (value_kept, word_kept)
              (value_hangs (held_rows texts earlier) (drop (held_start texts earlier) texts') held.hangs rows-kept);
        }

    -- Its template stays.
    pub earlier_template : text_at texts' earlier ≡ text_at texts earlier
    unfolding text_at
    earlier_template =
        rw (value_kept, word_kept)
        (text_same (held_rows texts earlier) (drop (held_start texts earlier) texts') held.hangs rows-kept (rows_lent (length (held_rows texts earlier)))
        (rows_lent (length (drop (held_start texts earlier) texts'))) (held_row held)
        (λ e.
        row_lent texts' (held_start texts earlier) (held_value texts earlier) (omega (arith, held.rows_inside e, held.end_inside, stores.long))
        (held.row_small e)))

  -- ------------------------------------------------------------------ the cells

  -- The cells of a text that was read are zero again, behind its rows too.
  pub cells_again : (P : TextContext) (n : ℕ) (ts : List Token) → DoneWith (run_text P n ts) x made cells → cells' ≡ replicate (rows_left P * columns) 0
  cells_again P n ts ran =
      let lent : List ℕ = replicate (rows_left P * columns) 0 in
      let leaves = subst (Leaves (rows_left P) 0 lent) ran.done_is (run_leaves (rows_left P) (text_input P ts) refl n lent) in
      ext_get_or 0 cells' lent (stores.wide ∙ leaves.2.as_many) (λ i h. by i h leaves.2.same (dec_lt i (made * columns)))
    where
      by : (i : ℕ) → i < length cells' → ((j : ℕ) → ran.state.made * columns ≤ j → get_or cells j 0 ≡ get_or {A = ℕ} (replicate (rows_left P * columns) 0) j 0)
          → Dec (i < made * columns) → get_or cells' i 0 ≡ get_or {A = ℕ} (replicate (rows_left P * columns) 0) i 0
      by i h same (yes b) = stores.zero i b ∙ sym (zeros (rows_left P * columns) i)
      by i h same (no b) = stores.left i (omega arith) ∙ same i (omega (arith, ran.made_is))
