-- A text that is read in a small room is read in a larger one, whatever the cells held before, and gives the same template.
use Prim.Native.Nat.{ℕ, ◌*◌, ◌≤◌}
use mathlib.Core.Path.{◌≡◌, sym, subst, ◌∙◌}
use mathlib.Core.List.{List, [], map}
use native.Mathlib.Omega.{arith}
use lib.ListN.{length}
use Rattle.grammar.specs.Sorts.{Signature}
use Rattle.terms.specs.Cells.{columns, name_base}
use Rattle.productions.specs.Normal.{Production}
use Rattle.judgements.specs.Scopes.{Scope}
use Rattle.judgements.specs.Judgements.{Newest}
use Rattle.expansion.specs.declared.State.{State}
use Rattle.expansion.specs.Run.{done}
use Rattle.expansion.specs.Expansion.{Input, run}
use Rattle.expansion.proofs.Endings.{Ends}
use Rattle.copying.specs.RowTemplates.{text_template}
use Rattle.texts.specs.Reading.{ready_text, as_outside}
use Rattle.texts.proofs.Showing.{shows_agree}
use Rattle.texts.proofs.TextSorts.{AllNamed, text_sorted}
use Rattle.texts.proofs.TextSetting.{TextSetting, strict_input}
use Rattle.texts.proofs.TextReading.{Reads, run_reads, read_sorted}
use Rattle.texts.proofs.MoreRows.{Again, more_rows_done}

module _ {G : Scope} {g : List Production} (setting : TextSetting G g) (rows' : ℕ) (fewer : setting.rows ≤ rows') where
  -- the strict run in the larger room
  abbrev larger_input : Input
  larger_input = record { grammar = ready_text g; tokens = map as_outside setting.tokens; rows = rows' }

  -- A text read again: the run is done with the same value and state, and the template is the same.
  pub record ReadAgain (n sort x : ℕ) (s : State) (Made-Cells cells' : List ℕ) : Type 0 where
    -- the cells then
    pub left : List ℕ
    -- the run is done
    pub is : run larger_input n cells' ≡ done x s left
    -- the template is the same
    pub same : text_template s.made left sort x ≡ text_template s.made Made-Cells sort x

  -- A text that is read without a fresh name is read so in a larger room.
  pub text_again : {L : List ℕ} (n : ℕ) (S : Signature) (cells cells' : List ℕ) → Newest G.env n S → S.params ≡ []
      → setting.rows * columns ≤ length cells → rows' * columns ≤ length cells' → AllNamed G.outsides L setting.tokens
      → G.outsides ≤ name_base → length L ≤ name_base → setting.rows ≤ name_base
      → {x : ℕ} {s : State} {Made-Cells : List ℕ} → run (strict_input setting) n cells ≡ done x s Made-Cells → s.fresh ≡ 1
      → ReadAgain n S.result x s Made-Cells cells'
  text_again {L = L} n S cells cells' newest e room room' names few-names short small {x = x} {s = s} {Made-Cells = d} runs f =
      let r : Reads setting n x s d = subst (Ends (Reads setting n) (λ q. Unit {0})) runs (run_reads setting n S cells newest e room) in
      let w = text_sorted setting.all L newest e names (r.derived f).rule in
      let again : Again (ready_text g) (map as_outside setting.tokens) setting.rows rows' fewer n cells cells' room room' x s d =
      more_rows_done (ready_text g) (map as_outside setting.tokens) setting.rows rows' fewer n cells cells' room room' runs in
      let few : s.made ≤ name_base = omega (arith, r.few) in
      record {
        left = again.left;
        is = again.is;
        same =
            read_sorted setting again.left r.value few-names short few (shows_agree r.value again.agree r.shows) w
            ∙ sym (read_sorted setting d r.value few-names short few r.shows w);
      }
