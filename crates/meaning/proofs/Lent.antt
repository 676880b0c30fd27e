-- What an expansion answers and writes depends on how much it is lent, and not on what that held before.
use Rattle.std.specs.Prelude.{Ok, Err}
use Prim.Native.Nat.{ℕ, ◌<◌}
use mathlib.Core.Path.{◌≡◌, refl, sym, ◌∙◌}
use mathlib.Core.List.{List}
use native.Mathlib.Omega.{arith}
use lib.ListN.{length, get_or, take}
use lib.Seq.{take_at}
use Rattle.answers.specs.declared.Refusal.{Refusal}
use Rattle.answers.specs.Refusals.{Answer, Verdict}
use Rattle.grammar.specs.Table.{Table}
use Rattle.terms.specs.Term.{Name, Term}
use Rattle.checker.specs.Syntax.{Syntax, syntax_of}
use Rattle.checker.specs.Check.{check}
use Rattle.checker.specs.Passes.{Passes}
use Rattle.checker.proofs.TableTheorems.{check_exactly}
use Rattle.soundness.specs.Passing.{Passing, passing_of}
use Rattle.meaning.specs.Expand.{Expanded, expand_table, expand_by}
use Rattle.meaning.specs.Each.{written}
use Rattle.meaning.specs.Meaning.{MeansWithin, Cause, unscanned, stopped, is_judged, text_too_long, Accepts}
use Rattle.meaning.proofs.Stages.{expand_refused, expand_passed}
use Rattle.meaning.proofs.Exactly.{refused_exactly, accepted_exactly, accepted_text}

-- two expansions answer alike and write the same text
pub record Alike (x y : Expanded) : Type 0 where
  -- the answers are the same
  pub answers : x.answer ≡ y.answer
  -- so are the texts that are written
  pub texts : take (written x.answer) x.text ≡ take (written y.answer) y.text

-- cells and texts of one length
module _ (write : Term Name → List ℕ) (formula cells cells' text text' : List ℕ) (as_many : length cells ≡ length cells')
    (as_long : length text ≡ length text') where
  module _ (syntax : Syntax) where
    abbrev within : {meant : Term Name} → MeansWithin syntax formula cells meant → MeansWithin syntax formula cells' meant
    within means = record { means = means.means; affords = rw as_many at means.affords }

    cause_lent : {cause : Refusal} → Cause write syntax formula cells text cause → Cause write syntax formula cells' text' cause
    cause_lent (unscanned u) = unscanned u
    cause_lent (stopped S h) = stopped S (rw as_many at h)
    cause_lent (is_judged E j) = is_judged (within E) j
    cause_lent (text_too_long E p b) = text_too_long (within E) p (omega arith)

    accepts_lent : {meant : Term Name} {made size bytes : ℕ} → Accepts write syntax formula cells text meant made size bytes
        → Accepts write syntax formula cells' text' meant made size bytes
    accepts_lent A =
        record {
          means = within A.means;
          passes = A.passes;
          fits = omega (arith, A.fits);
          cells_are = A.cells_are;
          size_is = A.size_is;
          length_is = A.length_is;
        }

  module _ (table : Table) (passing : Passing table) where
    abbrev X : Expanded
    X = expand_table write (syntax_of table) formula cells text

    abbrev X' : Expanded
    X' = expand_table write (syntax_of table) formula cells' text'

    by_answer : (answer : Answer) → X.answer ≡ answer → Alike X X'
    by_answer (Err r) e =
        let e' : X'.answer ≡ Err r =
        (refused_exactly write table passing formula cells' text' r).1
        (cause_lent (syntax_of table) ((refused_exactly write table passing formula cells text r).0 e)) in
        record { answers = e ∙ sym e'; texts = rw (e, e') refl }
    by_answer (Ok got) e =
        let made = got.cells in
        let size = got.constructors in
        let bytes = got.length in
        let (meant, A) = (accepted_exactly write table passing formula cells text made size bytes).0 e in
        let e' : X'.answer ≡ Ok got =
        (accepted_exactly write table passing formula cells' text' made size bytes).1 (meant, accepts_lent (syntax_of table) A) in
        let means = A.means.means in
        let t : take bytes X.text ≡ write meant =
        rw (accepted_text write table passing formula cells text made size bytes e means) (take_at (write meant) _ bytes (sym A.length_is)) in
        let t' : take bytes X'.text ≡ write meant =
        rw (accepted_text write table passing formula cells' text' made size bytes e' means) (take_at (write meant) _ bytes (sym A.length_is)) in
        record { answers = e ∙ sym e'; texts = rw (e, e') (t ∙ sym t') }

  -- The answer of an expansion and the text that it writes depend on how many cells and how much text are lent, and not on what they held.
  pub lent_alike : (table : List ℕ) → ((at : ℕ) → get_or table at 0 < 256)
      → Alike (expand_by write table formula cells text) (expand_by write table formula cells' text')
  lent_alike table bytes = go (check table) refl
    where
      go : (given : Verdict) → check table ≡ given → Alike (expand_by write table formula cells text) (expand_by write table formula cells' text')
      go (Err r) e =
          rw (expand_refused write table e formula cells text, expand_refused write table e formula cells' text') (record { answers = refl; texts = refl })
      go (Ok tt) e =
          let passes : Passes table = (check_exactly table bytes).0 e in
          rw (expand_passed write table passes formula cells text, expand_passed write table passes formula cells' text')
          (by_answer passes.table (passing_of passes) _ refl)
