-- The run of a formula's tokens under a table without texts.
use Prim.Native.Nat.{ℕ, ◌≤◌}
use mathlib.Core.Path.{◌≡◌, ap, ◌∙◌}
use mathlib.Core.List.{List, []}
use lib.ListN.{length}
use Rattle.productions.specs.Index.{root_in}
use Rattle.expansion.specs.Outcome.{Outcome}
use Rattle.expansion.specs.Outcomes.{ran}
use Rattle.expansion.specs.Expansion.{run}
use Rattle.steps.specs.Source.{source, SomeLent, EachLent}
use Rattle.calls.specs.Lent.{reading, Lent}
use Rattle.expander.specs.Roots.{Expands}
use Rattle.parser.specs.Parse.{Runnable, run_in}

module _ {bs room tokens stack : List ℕ} (runnable : Runnable bs room tokens) (long : length bs ≤ length stack) where
  lent : Lent (source bs) room tokens stack
  lent = record { ready = runnable.ready; tokens_fit = runnable.tokens_fit; stack_long = long }

  -- What the run asks holds of the table without texts.
  pub lent_some : SomeLent bs [] (λ S. Lent S room tokens stack)
  lent_some = record { patterns = _; holds = lent }

  -- What it promises of every source it promises of that.
  pub runs_from : {root : ℕ} {cells : List ℕ} {outcome : Outcome} {cells' : List ℕ} → root ≡ root_in bs
      → EachLent bs [] (λ S. Lent S room tokens stack) (λ S. Expands S tokens root cells outcome cells')
      → ran outcome cells' ≡ run_in bs tokens cells
  runs_from {cells = cells} root_is runs =
      (runs _ lent).result_is ∙ ap (λ (k : ℕ). run (reading (source bs) tokens cells) k cells) root_is
