-- What the run of a text's tokens promises, from what the expander does.
use Rattle.std.specs.Prelude.{Ok}
use Prim.Native.Nat.{ℕ, ◌≤◌}
use mathlib.Core.Path.{◌≡◌, refl, sym, subst, ◌∙◌}
use mathlib.Core.List.{List}
use native.Mathlib.Omega.{arith}
use lib.ListN.{length}
use Rattle.terms.specs.Cells.{rows_lent}
use Rattle.expansion.specs.Outcome.{Outcome}
use Rattle.expansion.specs.Outcomes.{ran}
use Rattle.expansion.specs.Expansion.{run}
use Rattle.soundness.proofs.CellsLeft.{Leaves, run_leaves}
use Rattle.grammar.specs.Table.{Item}
use Rattle.steps.specs.Source.{Source, source_of, SomeLent, EachLent}
use Rattle.calls.specs.Lent.{Ready, Lent, reading}
use Rattle.expander.specs.Roots.{Expands}
use Rattle.reader.specs.TextRuns.{RunnableText, FewMade, RunsText}

-- a run makes no more rows than it is lent
few_made : (S : Source) (tokens : List ℕ) (root : ℕ) (cells : List ℕ) (r : Outcome) (cells' : List ℕ)
    → ran r cells' ≡ run (reading S tokens cells) root cells → FewMade r
few_made S tokens root cells r cells' e v s is =
    let ends : run (reading S tokens cells) root cells ≡ ran (Ok (v, s)) cells' = sym e ∙ cc in
    let leaves = subst (Leaves (rows_lent (length cells)) 0 cells) ends (run_leaves (rows_lent (length cells)) (reading S tokens cells) refl root cells) in
    omega (arith, leaves.1)

module _ {bs texts room tokens : List ℕ} (given : SomeLent bs texts (RunnableText room tokens)) {stack : List ℕ} (long : length bs ≤ length stack) where
  lent : {patterns : List Item → ℕ} → Ready (source_of bs texts patterns) room → Lent (source_of bs texts patterns) room tokens stack
  lent ready = record { ready = ready; tokens_fit = given.holds.tokens_fit; stack_long = long }

  -- The expander is lent what it asks.
  pub run_lent : SomeLent bs texts (λ S. Lent S room tokens stack)
  run_lent = record { patterns = given.patterns; holds = lent given.holds.ready }

  -- What it gives is what is promised.
  pub run_given : {root : ℕ} {cells : List ℕ} {r : Outcome} {cells' : List ℕ}
      → EachLent bs texts (λ S. Lent S room tokens stack) (λ S. Expands S tokens root cells r cells')
      → RunsText bs texts room tokens root cells r cells'
  run_given {root} {cells} {r} {cells'} expands =
      record {
        runs = λ patterns ready. (expands patterns (lent ready)).result_is;
        few =
            few_made (source_of bs texts given.patterns) tokens root cells r cells'
            (expands given.patterns (lent given.holds.ready)).result_is;
      }
