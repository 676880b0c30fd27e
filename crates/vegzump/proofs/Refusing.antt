-- What the calls answer to a table that does not pass: the refusal that the rules of 1 to 13 give.
use Rattle.std.specs.Prelude.{Err}
use Prim.Native.Nat.{ℕ, ◌<◌}
use mathlib.Core.Path.{◌≡◌, ap, ◌∙◌}
use mathlib.Core.Logic.{◌↔◌}
use mathlib.Core.List.{List}
use lib.ListN.{get_or}
use Rattle.answers.specs.declared.Refusal.{Refusal}
use Rattle.answers.specs.Refusals.{Answer, Verdict}
use Rattle.checker.specs.Check.{check}
use Rattle.causes.specs.Unlaid.{RefusesTable, NotPassed}
use Rattle.causes.proofs.CauseTheorems.{refused_exactly, refused_once}
use Rattle.terms.specs.Term.{Name, Term}
use Rattle.meaning.specs.Expand.{Expanded, expanded, expand_by}
use Rattle.meaning.proofs.Exactly.{not_passed}

module _ (table : List ℕ) (bytes : (at : ℕ) → get_or table at 0 < 256) where
  -- A verdict as `check_table` promises it is a refusal exactly if the rules give that refusal.
  pub verdict_refuses : {verdict : Verdict} → verdict ≡ check table → (cause : Refusal) → (verdict ≡ Err cause) ↔ RefusesTable table cause
  verdict_refuses e cause = rw e (refused_exactly table bytes cause)

  -- A call that answers as an expansion does gives a table that does not pass its one refusal, and leaves all that was lent as it was.
  pub call_refuses : (write : Term Name → List ℕ) (formula : List ℕ) {cells text cells' text' : List ℕ} {answer : Answer}
      → expanded answer cells' text' ≡ expand_by write table formula cells text
      → NotPassed table cells text answer cells' text'
  call_refuses write formula {cells} {text} e fails =
      let (cause, given, left) = not_passed write table bytes formula cells text fails in
      let by_rules = (refused_exactly table bytes cause).0 given in
      let is = e ∙ left in
      record {
        cause = cause;
        refused = by_rules;
        only = λ other h. refused_once table bytes other cause h by_rules;
        answered = ap (λ (x : Expanded). x.answer) is;
        same_cells = ap (λ (x : Expanded). x.cells) is;
        same_text = ap (λ (x : Expanded). x.text) is;
      }
