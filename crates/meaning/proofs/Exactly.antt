-- When an expansion of a passed table is accepted, when it gives each refusal, and what it leaves as it was.
use Rattle.std.specs.Prelude.{Err}
use Prim.Native.Nat.{ℕ, ◌*◌, ◌≤◌, ◌<◌}
use mathlib.Core.Path.{◌≡◌, refl, sym, ap, subst, ◌∙◌}
use mathlib.Core.Logic.{◌↔◌}
use mathlib.Core.List.{List, ◌++◌}
use native.Mathlib.Omega.{arith}
use lib.ListN.{length, get_or, take, drop}
use Rattle.answers.specs.declared.Refusal.{Refusal}
use Rattle.answers.specs.Refusals.{Answer, accepted, refusal, numbered}
use Rattle.answers.specs.Checked.{Checked, ok, bad, verdict}
use Rattle.grammar.specs.Table.{Table}
use Rattle.tokens.specs.Unscanned.{Unscans}
use Rattle.tokens.specs.declared.Token.{Token}
use Rattle.checker.specs.Syntax.{Syntax, syntax_of}
use Rattle.checker.specs.Check.{passed_table, check}
use Rattle.checker.specs.Passes.{grammar_of, Passes}
use Rattle.checker.proofs.TableTheorems.{check_exactly}
use Rattle.expansion.specs.Run.{Result}
use Rattle.expansion.specs.Expansion.{input_of}
use Rattle.expansion.proofs.Shows.{IsCode}
use Rattle.soundness.specs.Passing.{Passing}
use Rattle.soundness.specs.Stopping.{Left, Refuses}
use Rattle.soundness.proofs.CellsLeft.{Leaves, run_leaves}
use Rattle.terms.specs.Term.{Name, Term, size}
use Rattle.terms.specs.Cells.{columns, column, rows_lent}
use Rattle.terms.specs.Rows.{term_at}
use Rattle.meaning.specs.Expand.{Expanded, refused, expand_table, checked_first, expand_by}
use Rattle.meaning.specs.Meaning.{Scans, spell_of, Means, MeansWithin, cells_of, Judges, PassesTests, Cause, unscanned, stopped, is_judged, text_too_long}
use Rattle.meaning.specs.Meaning.{Accepts}
use Rattle.meaning.proofs.Judging.{judges_one, judges_not}
use Rattle.meaning.proofs.Stages.{Finish, is_refused, too_long, prints, same_words, means_one, RunsTo, Stage, in_scan, in_parse, at_last, stages}
use Rattle.meaning.proofs.Stages.{unscanned_ends, stopped_ends, meant_ends, meant_reached}

-- ------------------------------------------------------------------ answers

same_refusal : {cause other : Refusal} → ◌≡◌ {A = Answer} (Err cause) (Err other) → cause ≡ other
same_refusal e = cc

never : {A : Type 0} {made constructors text_size : ℕ} {cause : Refusal} → accepted made constructors text_size ≡ Err cause → A
never e = let z : ◌≡◌ {A = ℕ} 0 1 = cc in absurd (omega arith)

-- an acceptance has one count of each
same_counts : {made constructors size made' constructors' size' : ℕ} → accepted made constructors size ≡ accepted made' constructors' size'
    → (made' ≡ made) × (constructors' ≡ constructors) × (size' ≡ size)
same_counts e =
    (ap (λ (a : Answer). (numbered a).a) (sym e), ap (λ (a : Answer). (numbered a).b) (sym e), ap (λ (a : Answer). (numbered a).c) (sym e))

-- ------------------------------------------------------------------ the last step

module _ {write : Term Name → List ℕ} {made : ℕ} {meant : Term Name} {cells text : List ℕ} where
  judged_answer : {expanded : Expanded} {cause : Refusal} → Finish write made meant cells text expanded → Judges made meant cause
      → expanded.answer ≡ Err cause
  judged_answer (is_refused j) k = ap Err (judges_one made meant j k)
  judged_answer (too_long p b) k = judges_not made meant k p
  judged_answer (prints p b) k = judges_not made meant k p

  long_answer : {expanded : Expanded} → Finish write made meant cells text expanded → PassesTests meant → length text < length (write meant)
      → expanded.answer ≡ Err (refusal 24 (length (write meant)) 0 0)
  long_answer (is_refused j) p l = judges_not made meant j p
  long_answer (too_long q b) p l = refl
  long_answer (prints q b) p l = absurd (omega arith)

  text_printed : {expanded : Expanded} {cells_made constructors text_size : ℕ} → Finish write made meant cells text expanded
      → expanded.answer ≡ accepted cells_made constructors text_size
      → expanded.text ≡ write meant ++ drop (length (write meant)) text
  text_printed (is_refused j) e = never (sym e)
  text_printed (too_long p b) e = never (sym e)
  text_printed (prints p b) e = refl

  prints_answer : {expanded : Expanded} → Finish write made meant cells text expanded → PassesTests meant → length (write meant) ≤ length text
      → expanded.answer ≡ accepted made (size meant) (length (write meant))
  prints_answer (is_refused j) p l = judges_not made meant j p
  prints_answer (too_long q b) p l = absurd (omega arith)
  prints_answer (prints q b) p l = refl

-- ------------------------------------------------------------------ a table that does not pass

module _ (write : Term Name → List ℕ) (table : List ℕ) (bytes : (place : ℕ) → get_or table place 0 < 256) (formula cells text : List ℕ) where
  -- A table that does not pass gets the refusal of its check, and nothing that was lent changes.
  pub not_passed : (Passes table → ⊥) → (cause : Refusal) × (check table ≡ Err cause) × (expand_by write table formula cells text ≡ refused cause cells text)
  unfolding check expand_by
  not_passed n = go (passed_table table) refl
    where
      go : (checked : Checked Syntax) → passed_table table ≡ checked
          → (cause : Refusal) × (check table ≡ Err cause) × (checked_first write (passed_table table) formula cells text ≡ refused cause cells text)
      go (ok t) e = absurd (n ((check_exactly table bytes).0 (ap verdict e)))
      go (bad r) e = (r, ap verdict e, rw e)

-- ------------------------------------------------------------------ an expansion

module _ (write : Term Name → List ℕ) (table : Table) (passing : Passing table) (formula cells text : List ℕ) where
  abbrev syntax : Syntax
  syntax = syntax_of table

  abbrev X : Expanded
  X = expand_table write syntax formula cells text

  -- ------------------------------------------------------------------ every cause, and acceptance

  cause_last : {meant : Term Name} {cells' : List ℕ} (means_within : MeansWithin syntax formula cells meant) {expanded : Expanded}
      → Finish write (cells_of means_within) meant cells' text expanded → (cause : Refusal)
      → expanded.answer ≡ Err cause → Cause write syntax formula cells text cause
  cause_last means_within (is_refused j) cause e = subst (Cause write syntax formula cells text) (same_refusal e) (is_judged means_within j)
  cause_last means_within (too_long p b) cause e = subst (Cause write syntax formula cells text) (same_refusal e) (text_too_long means_within p (omega arith))
  cause_last means_within (prints p b) cause e = never e

  cause_of : {expanded : Expanded} → Stage table passing formula cells write text expanded → (cause : Refusal) → expanded.answer ≡ Err cause
      → Cause write syntax formula cells text cause
  cause_of (in_scan u) cause a = subst (Cause write syntax formula cells text) (same_refusal a) (unscanned u)
  cause_of (in_parse S e h) cause a = subst (Cause write syntax formula cells text) (same_refusal a) (stopped S h)
  cause_of (at_last E R f) cause a = cause_last E f cause a

  answer_of : {cause : Refusal} → Cause write syntax formula cells text cause → X.answer ≡ Err cause
  answer_of (unscanned u) = rw (unscanned_ends table passing formula cells write text u)
  answer_of (stopped S h) = rw (stopped_ends table passing formula cells write text S h).1
  answer_of (is_judged E j) = judged_answer (meant_ends table passing formula cells write text E).1 j
  answer_of (text_too_long E p b) = long_answer (meant_ends table passing formula cells write text E).1 p b

  -- A refusal is given exactly in its case.
  pub refused_exactly : (cause : Refusal) → (X.answer ≡ Err cause) ↔ Cause write syntax formula cells text cause
  refused_exactly cause = (cause_of (stages table passing formula cells write text) cause, answer_of)

  accepts_last : {meant : Term Name} {cells' : List ℕ} (means_within : MeansWithin syntax formula cells meant) {expanded : Expanded}
      {made constructors text_size : ℕ} → Finish write (cells_of means_within) meant cells' text expanded
      → expanded.answer ≡ accepted made constructors text_size → Accepts write syntax formula cells text meant made constructors text_size
  accepts_last means_within (is_refused j) e = never (sym e)
  accepts_last means_within (too_long p b) e = never (sym e)
  accepts_last means_within (prints p b) e =
      let (cells_are, size_is, length_is) = same_counts e in
      record { means = means_within; passes = p; fits = b; cells_are = cells_are; size_is = size_is; length_is = length_is }

  accepts_of : {expanded : Expanded} {made constructors text_size : ℕ} → Stage table passing formula cells write text expanded
      → expanded.answer ≡ accepted made constructors text_size
      → (meant : Term Name) × Accepts write syntax formula cells text meant made constructors text_size
  accepts_of (in_scan u) e = never (sym e)
  accepts_of (in_parse S h k) e = never (sym e)
  accepts_of (at_last {core_term = u} E R f) e = (u, accepts_last E f e)

  -- A formula is accepted exactly if a term of it is, with these values.
  pub accepted_exactly : (made constructors text_size : ℕ) → (X.answer ≡ accepted made constructors text_size)
      ↔ ((meant : Term Name) × Accepts write syntax formula cells text meant made constructors text_size)
  accepted_exactly made constructors text_size = (
    accepts_of (stages table passing formula cells write text),
    λ d.
        let A = d.1 in
        prints_answer (meant_ends table passing formula cells write text A.means).1 A.passes A.fits
        ∙ (cc (A.cells_are, A.size_is, A.length_is)),
  )

  -- ------------------------------------------------------------------ what is handed back

  text_of : {expanded : Expanded} {made constructors text_size : ℕ} → Stage table passing formula cells write text expanded
      → expanded.answer ≡ accepted made constructors text_size → {meant : Term Name} → Means syntax formula meant
      → expanded.text ≡ write meant ++ drop (length (write meant)) text
  text_of (in_scan u) e M = never (sym e)
  text_of (in_parse S h k) e M = never (sym e)
  text_of (at_last E R f) e M = rw (means_one table passing formula M E.means) (text_printed f e)

  -- What is written of the term stands in the text of an acceptance, and what was lent behind it.
  pub accepted_text : (made constructors text_size : ℕ) → X.answer ≡ accepted made constructors text_size → {meant : Term Name} → Means syntax formula meant
      → X.text ≡ write meant ++ drop (length (write meant)) text
  accepted_text made constructors text_size = text_of (stages table passing formula cells write text)

  finish_cells : {made : ℕ} {meant : Term Name} {cells' : List ℕ} {expanded : Expanded} → Finish write made meant cells' text expanded
      → expanded.cells ≡ cells'
  finish_cells (is_refused j) = refl
  finish_cells (too_long p b) = refl
  finish_cells (prints p b) = refl

  finish_count : {made : ℕ} {meant : Term Name} {cells' : List ℕ} {expanded : Expanded} → Finish write made meant cells' text expanded
      → (cells_made constructors text_size : ℕ) → expanded.answer ≡ accepted cells_made constructors text_size → cells_made ≡ made
  finish_count (is_refused j) cells_made constructors text_size e = never (sym e)
  finish_count (too_long p b) cells_made constructors text_size e = never (sym e)
  finish_count (prints p b) cells_made constructors text_size e = (same_counts e).0

  -- the cells of an acceptance show its term
  cells_of_lem : {expanded : Expanded} → Stage table passing formula cells write text expanded → (cells_made constructors text_size : ℕ)
      → expanded.answer ≡ accepted cells_made constructors text_size → {meant : Term Name} (means : Means syntax formula meant)
      → ((row : ℕ) × (row < cells_made) × (term_at cells_made (spell_of syntax means.words) (take (cells_made * columns) expanded.cells) row ≡ meant))
      × ((other : ℕ) → other < cells_made → IsCode (column expanded.cells other 0))
  cells_of_lem (in_scan u) cells_made constructors text_size q means = never (sym q)
  cells_of_lem (in_parse S h k) cells_made constructors text_size q means = never (sym q)
  cells_of_lem (at_last {row = v} {state = s} E R f) cells_made constructors text_size q means =
      let words = same_words table passing formula means.scans E.means.scans in
      let made : cells_made ≡ s.made = finish_count f cells_made constructors text_size q ∙ sym R.made_is in
      rw (words, made, finish_cells f) ((v, R.below, R.shown_by_made ∙ means_one table passing formula E.means means), R.coded)

  -- A row of the cells made by an acceptance shows the term, and each of them has the code of a constructor.
  pub accepted_cells : (made constructors text_size : ℕ) → X.answer ≡ accepted made constructors text_size
      → {meant : Term Name} (means : Means syntax formula meant)
      → ((row : ℕ) × (row < made) × (term_at made (spell_of syntax means.words) (take (made * columns) X.cells) row ≡ meant))
      × ((other : ℕ) → other < made → IsCode (column X.cells other 0))
  accepted_cells = cells_of_lem (stages table passing formula cells write text)

  -- ------------------------------------------------------------------ what is left as it was

  text_last : {made : ℕ} {meant : Term Name} {cells' : List ℕ} {expanded : Expanded} → Finish write made meant cells' text expanded
      → (cause : Refusal) → expanded.answer ≡ Err cause → expanded.text ≡ text
  text_last (is_refused j) cause a = refl
  text_last (too_long p b) cause a = refl
  text_last (prints p b) cause a = never a

  text_left : {expanded : Expanded} → Stage table passing formula cells write text expanded → (cause : Refusal) → expanded.answer ≡ Err cause
      → expanded.text ≡ text
  text_left (in_scan u) cause a = refl
  text_left (in_parse S e h) cause a = refl
  text_left (at_last E R f) cause a = text_last f cause a

  -- A refusal leaves the text as it was.
  pub text_kept : (cause : Refusal) → X.answer ≡ Err cause → X.text ≡ text
  text_kept = text_left (stages table passing formula cells write text)

  -- 14, 15 and 16 leave the cells as they were.
  pub cells_kept : (cause : Refusal) → Unscans syntax.lexicon formula cause → X.cells ≡ cells
  cells_kept cause u = rw (unscanned_ends table passing formula cells write text u)

  ran : (ts : List Token) {result : Result ℕ} → RunsTo table passing formula cells ts result → Leaves (rows_lent (length cells)) 0 cells result
  ran ts e = rw e at (run_leaves (rows_lent (length cells)) (input_of (grammar_of table) ts cells) refl table.root cells)

  -- Where a term is derived within the limits, the numbers behind the cells that it costs are as lent.
  pub cells_behind : {meant : Term Name} (means_within : MeansWithin syntax formula cells meant) → Left (cells_of means_within) cells X.cells
  cells_behind means_within =
      let q = meant_reached table passing formula cells write text means_within in
      let behind = (ran means_within.means.tokens q.3.runs).2 in
      rw (finish_cells q.4, ← q.3.made_is) behind

  -- Where the rules stop with 17 to 21, the numbers behind the cells made by then are as lent.
  pub cells_left : {cause : Refusal} {made : ℕ} {ts : List Token} {ws : List (List ℕ)} → Scans syntax formula ts ws
      → Refuses (grammar_of table) (spell_of syntax ws) (rows_lent (length cells)) ts table.root cause made → Left made cells X.cells
  cells_left scans h = let q = stopped_ends table passing formula cells write text scans h in rw q.1 q.2
