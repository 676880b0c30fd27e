-- What an expansion leaves of the text, and expansions one after the other: they are told apart at any place.
use Rattle.std.specs.Prelude.{Err, Ok}
use Prim.Native.Nat.{ℕ, zero, suc, ◌+◌, ◌*◌, ◌≤◌, ◌<◌}
use mathlib.Core.Path.{◌≡◌, refl, ap, ◌∙◌}
use mathlib.Core.List.{List, [], ◌∷◌, ◌++◌, append_assoc, append-nil}
use native.Mathlib.Nat.{le_of_lt}
use native.Mathlib.Omega.{arith}
use lib.ListN.{length, get_or, take, drop, length-append, length-drop}
use lib.Seq.{drop-append_seam, length-take-le, drop-drop, take-suc, split_at}
use Rattle.answers.specs.declared.Refusal.{Refusal}
use Rattle.answers.specs.Checked.{Checked, ok, bad}
use Rattle.tokens.specs.Scanned.{Scanned}
use Rattle.tokens.specs.Scan.{Lexed, scan}
use Rattle.tokens.specs.Tokens.{spelled}
use Rattle.checker.specs.Syntax.{Syntax}
use Rattle.checker.specs.Check.{passed_table, check}
use Rattle.expansion.specs.Run.{Result, done, halt}
use Rattle.expansion.specs.Expansion.{input_of, run}
use Rattle.soundness.proofs.CellsLeft.{Leaves, run_leaves}
use Rattle.terms.specs.Term.{Name, Term}
use Rattle.terms.specs.Rows.{term_at}
use Rattle.terms.specs.Emit.{text_of}
use Rattle.meaning.specs.Expand.{Expanded, refused, finished, scanned, expand_table, checked_first, expand_by, expand}
use Rattle.meaning.specs.Each.{formula_in, numbers_each, written, Series, alone, behind, expand_all}
use Rattle.meaning.proofs.Stages.{expand_refused, Finish, is_refused, too_long, prints, finishes}

-- ------------------------------------------------------------------ what one expansion leaves

-- Of the cells and the text that were lent to an expansion: they are as many, what is written fits, and the text behind it is as it was.
pub record Keeps (cells text : List ℕ) (x : Expanded) : Type 0 where
  -- there are as many cells as were lent
  pub as_many_cells : length x.cells ≡ length cells
  -- the text's room keeps its length
  pub as_long : length x.text ≡ length text
  -- what is written fits it
  pub fits : written x.answer ≤ length text
  -- behind what is written, it is as it was
  pub text_behind : drop (written x.answer) x.text ≡ drop (written x.answer) text

module _ (cells text : List ℕ) where
  refused_keeps : {x : Expanded} → length x.cells ≡ length cells → x.text ≡ text → written x.answer ≡ 0 → Keeps cells text x
  refused_keeps many same none = record { as_many_cells = many; as_long = rw same; fits = omega arith; text_behind = rw same }

  finish_keeps : {write : Term Name → List ℕ} {made : ℕ} {core_term : Term Name} {cells' : List ℕ} {x : Expanded} → length cells' ≡ length cells
      → Finish write made core_term cells' text x
      → Keeps cells text x
  finish_keeps many (is_refused j) = refused_keeps many refl refl
  finish_keeps many (too_long p b) = refused_keeps many refl refl
  finish_keeps many (prints p b) =
      record { as_many_cells = many; as_long = simp (length-append, length-drop) (omega arith); fits = b; text_behind = simp drop-append_seam }

  module _ (write : Term Name → List ℕ) where
    run_keeps : (rows : ℕ) (spelling : ℕ → List ℕ) (result : Result ℕ) → Leaves rows 0 cells result → Keeps cells text (finished write spelling text result)
    run_keeps rows spelling (halt r cells') left = refused_keeps left.3.as_many refl refl
    run_keeps rows spelling (done v s cells') left =
        finish_keeps left.2.as_many (finishes write s.made (term_at s.made spelling cells' v) cells' text)

    scan_keeps : (syntax : Syntax) (l : Lexed) (answer : Scanned) → Keeps cells text (scanned write syntax l answer cells text)
    scan_keeps syntax l (Err r) = refused_keeps refl refl refl
    scan_keeps syntax l (Ok (n, m)) =
        let input = input_of syntax.productions l.tokens cells in
        run_keeps input.rows (spelled syntax.lexicon l.words) (run input syntax.root cells)
        (run_leaves input.rows input refl syntax.root cells)

    check_keeps : (checked : Checked Syntax) (formula : List ℕ) → Keeps cells text (checked_first write checked formula cells text)
    unfolding expand_table
    check_keeps (bad r) formula = refused_keeps refl refl refl
    check_keeps (ok syntax) formula = scan_keeps syntax (scan syntax.lexicon formula) (scan syntax.lexicon formula).answer

    -- An expansion writes at the front of what it is lent for it and nothing behind, and leaves as many cells.
    pub expand_keeps : (table formula : List ℕ) → Keeps cells text (expand_by write table formula cells text)
    unfolding expand_by
    expand_keeps table formula = check_keeps (passed_table table) formula

-- ------------------------------------------------------------------ one after the other

-- where a formula begins that stands behind those with these ends
abbrev pub end_of : ℕ → List ℕ → ℕ
end_of from [] = from
end_of from (end ∷ ends) = end_of end ends

-- the formula at a place: from the end of the one before, 0 for the first
abbrev pub formula_at : List ℕ → List ℕ → ℕ → List ℕ
formula_at formulas ends i = formula_in formulas (get_or (0 ∷ ends) i 0) (get_or ends i 0)

-- What some expansions leave: as many cells, and as rest of the text what was lent behind their texts.
pub record KeepAll (cells text : List ℕ) (all : Series) : Type 0 where
  -- there are as many cells as were lent
  pub as_many_cells : length all.cells ≡ length cells
  -- the texts fit what was lent for them
  pub texts_fit : length all.texts ≤ length text
  -- the rest is what was lent behind them
  pub rest-is : all.rest ≡ drop (length all.texts) text

-- nothing is written, and the cells and the text are as lent
pub record Untouched (cells text : List ℕ) (all : Series) : Type 0 where
  -- the cells are as lent
  pub same_cells : all.cells ≡ cells
  -- no text is written
  pub no_texts : all.texts ≡ []
  -- the rest is all of the text's room
  pub same_rest : all.rest ≡ text

alone_untouched : {cells text : List ℕ} {x : Expanded} {cause : Refusal} → x ≡ refused cause cells text → Untouched cells text (alone x)
alone_untouched e = rw e (record { same_cells = refl; no_texts = refl; same_rest = refl })

behind_untouched : {cells text : List ℕ} (some later : Series) → Untouched cells text some → Untouched some.cells some.rest later
    → Untouched cells text (behind some later)
behind_untouched some later k l =
    record { same_cells = l.same_cells ∙ k.same_cells; no_texts = rw k.no_texts l.no_texts; same_rest = l.same_rest ∙ k.same_rest }

-- one expansion leaves them so,
alone_keeps : {cells text : List ℕ} {x : Expanded} → Keeps cells text x → KeepAll cells text (alone x)
alone_keeps {text = text} {x = x} k =
    let own : length (take (written x.answer) x.text) ≡ written x.answer = length-take-le _ _ (omega (arith, k.fits, k.as_long)) in
    record { as_many_cells = k.as_many_cells; texts_fit = omega (arith, k.fits); rest-is = rw own k.text_behind }

-- and later ones.
behind_keeps : {cells text : List ℕ} (some later : Series) → KeepAll cells text some → KeepAll some.cells some.rest later
    → KeepAll cells text (behind some later)
behind_keeps {text = text} some later k l =
    let both : length (some.texts ++ later.texts) ≡ length some.texts + length later.texts = length-append some.texts later.texts in
    record {
      as_many_cells = l.as_many_cells ∙ k.as_many_cells;
      texts_fit = omega (arith, k.texts_fit, l.texts_fit, ap length k.rest-is, length-drop (length some.texts) text);
      rest-is = cc (k.rest-is, l.rest-is, drop-drop (length later.texts) (length some.texts) text, both);
    }

module _ (table formulas : List ℕ) where
  -- The first of some formulas is expanded, and the others from what it leaves.
  pub all_cons : (from end : ℕ) (ends cells text : List ℕ)
      → let first : Series = alone (expand table (formula_in formulas from end) cells text) in
      expand_all table formulas from (end ∷ ends) cells text ≡ behind first (expand_all table formulas end ends first.cells first.rest)
  unfolding expand_all
  all_cons from end ends cells text = refl

  -- The formulas from a place on are expanded from what those before it leave.
  pub all_append : (from : ℕ) (ends more cells text : List ℕ)
      → let before : Series = expand_all table formulas from ends cells text in
      expand_all table formulas from (ends ++ more) cells text ≡ behind before (expand_all table formulas (end_of from ends) more before.cells before.rest)
  unfolding expand_all
  all_append from [] more cells text = refl
  all_append from (end ∷ ends) more cells text =
      let first : Series = alone (expand table (formula_in formulas from end) cells text) in
      simp (all_append end ends more first.cells first.rest, append_assoc)

  -- Each answer is four numbers.
  pub numbers_length : (from : ℕ) (ends cells text : List ℕ) → length (expand_all table formulas from ends cells text).numbers ≡ length ends * numbers_each
  unfolding expand_all
  numbers_length from [] cells text = refl
  numbers_length from (end ∷ ends) cells text =
      let first : Series = alone (expand table (formula_in formulas from end) cells text) in
      omega (arith, numbers_length end ends first.cells first.rest)

  -- Formulas with any ends leave as many cells, and the text behind their texts.
  pub all_keeps : (from : ℕ) (ends cells text : List ℕ) → KeepAll cells text (expand_all table formulas from ends cells text)
  unfolding expand_all
  all_keeps from [] cells text = record { as_many_cells = refl; texts_fit = omega arith; rest-is = refl }
  all_keeps from (end ∷ ends) cells text =
      let x : Expanded = expand table (formula_in formulas from end) cells text in
      behind_keeps (alone x) (expand_all table formulas end ends (alone x).cells (alone x).rest)
      (alone_keeps (expand_keeps cells text text_of table (formula_in formulas from end))) (all_keeps end ends (alone x).cells (alone x).rest)

  -- Under a table that the check refuses, nothing that was lent changes.
  pub all_refused : {cause : Refusal} → check table ≡ Err cause → (from : ℕ) (ends cells text : List ℕ)
      → Untouched cells text (expand_all table formulas from ends cells text)
  unfolding expand_all
  all_refused e from [] cells text = record { same_cells = refl; no_texts = refl; same_rest = refl }
  all_refused e from (end ∷ ends) cells text =
      let first : Series = alone (expand table (formula_in formulas from end) cells text) in
      behind_untouched first (expand_all table formulas end ends first.cells first.rest)
      (alone_untouched (expand_refused text_of table e (formula_in formulas from end) cells text)) (all_refused e end ends first.cells first.rest)

  -- ------------------------------------------------------------------ the formula at a place

  end_of_place : (from i : ℕ) (ends : List ℕ) → i ≤ length ends → end_of from (take i ends) ≡ get_or (from ∷ ends) i 0
  end_of_place from zero ends h = refl
  end_of_place from (suc i) [] h = absurd (omega arith)
  end_of_place from (suc i) (end ∷ ends) h = end_of_place end i ends (omega arith)

  module _ (ends cells text : List ℕ) (i : ℕ) where
    -- what the formulas before a place leave
    abbrev pub before : Series
    before = expand_all table formulas 0 (take i ends) cells text

    -- the expansion of the formula at the place
    abbrev pub here : Expanded
    here = expand table (formula_at formulas ends i) before.cells before.rest

    -- Formulas leave what those before a place leave, then what the one at the place does, then what those behind it do.
    pub at_place : i < length ends
        → expand_all table formulas 0 ends cells text
        ≡ behind before (behind (alone here) (expand_all table formulas (get_or ends i 0) (drop (suc i) ends) (alone here).cells (alone here).rest))
    at_place h =
        ap (λ (l : List ℕ). expand_all table formulas 0 l cells text) (split_at ends i 0 h)
        ∙ all_append 0 (take i ends) (get_or ends i 0 ∷ drop (suc i) ends) cells text
        ∙ ap (behind before) (rw (end_of_place 0 i ends (le_of_lt h)) (all_cons _ _ _ _ _))

    -- Where the place is the last one, that is all.
    pub next_place : i < length ends → expand_all table formulas 0 (take (suc i) ends) cells text ≡ behind before (alone here)
    unfolding expand_all
    next_place h =
        rw (take-suc ends i 0 h, all_append 0 (take i ends) (get_or ends i 0 ∷ []) cells text, end_of_place 0 i ends (le_of_lt h), append-nil) refl
