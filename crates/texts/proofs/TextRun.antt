-- A text that the rules derive within the limits is run to its end, without a fresh name, and the cells show the template.
use Prim.Native.Nat.{ℕ, ◌*◌, ◌≤◌}
use mathlib.Core.Path.{◌≡◌, refl, ◌∙◌}
use mathlib.Core.List.{List, [], ◌∷◌}
use lib.ListN.{length}
use Rattle.answers.specs.Checked.{ok}
use Rattle.grammar.specs.Sorts.{Signature}
use Rattle.grammar.specs.Table.{Template, none, call}
use Rattle.terms.specs.Cells.{columns}
use Rattle.productions.specs.Normal.{Production}
use Rattle.clashes.specs.CheckFirsts.{check_firsts}
use Rattle.judgements.specs.Scopes.{Scope}
use Rattle.judgements.specs.Judgements.{Newest}
use Rattle.expansion.specs.Expansion.{run}
use Rattle.expansion.specs.Costs.{rows_in, Affords}
use Rattle.texts.specs.Substitution.{substitute, template_list}
use Rattle.texts.specs.ReadingRules.{TextDerives}
use Rattle.texts.proofs.Showing.{ShowsTemplate}
use Rattle.texts.proofs.TextChoice.{taken_one}
use Rattle.texts.proofs.TextSetting.{TextSetting, strict_input}
use Rattle.texts.proofs.TextValues.{Finished}
use Rattle.texts.proofs.SameCosts.{same_affords}
use Rattle.texts.proofs.ValueRun.{run_done}
use Rattle.texts.proofs.TextReading.{template_reader, text_derived}

module _ {G : Scope} {g : List Production} (setting : TextSetting G g) (passed : check_firsts g ≡ ok tt) where
  -- A template that the rules derive of a text within the limits is read: the run ends, makes no fresh name and as many rows, and shows the template.
  pub text_run : (n : ℕ) (S : Signature) (cells : List ℕ) → Newest G.env n S → S.params ≡ [] → setting.rows * columns ≤ length cells → {t : Template}
      (d : TextDerives g [] setting.tokens 1 (call n none ∷ []) [] 1 (t ∷ [])) → Affords setting.rows 0 0 0 d
      → Finished (λ x s cells'. ShowsTemplate cells' s.made x t × (s.fresh ≡ 1) × (s.made ≡ rows_in d)) (run (strict_input setting) n cells)
  unfolding substitute template_list
  text_run n S cells newest e room d affords =
      let w = text_derived d in
      let k = run_done (template_reader setting) (λ m ts p q. taken_one g passed) n S cells newest e refl room w.rule (same_affords w affords) in
      record {
        value = k.value;
        state = k.state;
        cells = k.cells;
        is = k.is;
        holds = (k.holds.0, k.holds.1, k.holds.2 ∙ w.same_rows);
      }
