-- The check of one field with a text from what the code finds: the tests of its head, the verdict of 12 and 13, and the reading.
use Rattle.std.specs.Prelude.{Ok}
use Prim.Native.Nat.{ℕ, ◌*◌}
use mathlib.Core.Path.{◌≡◌, refl, sym, ap, ◌∙◌}
use mathlib.Core.Bool.{◌&&◌}
use mathlib.Core.List.{List}
use lib.Dec.{leb, ltb}
use lib.ListN.{length, replicate}
use Rattle.answers.specs.Checked.{Checked, ok, bad, ◌>>◌, verdict}
use Rattle.answers.specs.Refusals.{Verdict}
use Rattle.spellings.proofs.BytesLaws.{by_test}
use Rattle.terms.specs.Cells.{columns}
use Rattle.tokens.specs.Variables.{dollars_below}
use Rattle.bodies.specs.Faults.{ItemSort}
use Rattle.bodies.specs.HeadBytes.{signature_at}
use Rattle.firsts.specs.Room.{productions_in}
use Rattle.clashes.specs.CheckFirsts.{check_firsts}
use Rattle.texts.specs.Reading.{TextRead, rows_left}
use Rattle.reader.specs.TextAnswers.{TextAnswer, answered}
use Rattle.elaborator.specs.TextHeads.{text_head}
use Rattle.elaborator.specs.TextsUnder.{text_source, ReadsUnder}
use Rattle.elaborator.specs.TextSteps.{TextField, bytes_before, context_at, head_at, reading_at, text_step_at, text_head_at, behind_head, behind_verdict}
use Rattle.elaborator.proofs.ResultsAside.{same_firsts}
use Rattle.elaborator.proofs.UnderLaws.{alike_from}

verdict_first : {A : Type 0} (first : Checked (Unit {0})) (more : Checked A) → (first >> more) ≡ behind_verdict (verdict first) more
verdict_first (ok u) more = refl
verdict_first (bad r) more = refl

module _ (f : TextField) where
  -- what follows the head, where its nonterminal has a sort
  abbrev rest : ℕ → Checked TextRead
  rest sort = check_firsts (context_at f).productions >> reading_at f sort

  -- The tests of the head come first.
  by_head : text_step_at f ≡ behind_head (text_head_at f) f.at rest
  unfolding text_step_at text_head
  by_head =
      by_test (ltb 0 (head_at f) && dollars_below (length f.sorts) f.text)
      (λ n. by_test (leb (length (signature_at f.bytes (head_at f))) 1)
      (λ p. rw (n, p, text_step_at, text_head) refl)
      (λ p. rw (n, p, text_step_at, text_head) refl))
      (λ n. rw (n, text_step_at, text_head) refl)

  -- Then 12 and 13, by the bytes of the blocks before.
  firsts_first : (sort : ℕ) → rest sort ≡ behind_verdict (verdict (check_firsts (productions_in (bytes_before f)))) (reading_at f sort)
  firsts_first sort =
      let S = text_source (bytes_before f) f.texts in
      verdict_first (check_firsts (context_at f).productions) (reading_at f sort)
      ∙ ap (λ (checked : Checked (Unit {0})). behind_verdict (verdict checked) (reading_at f sort))
      (same_firsts (context_at f).productions (productions_in (bytes_before f)) (alike_from S))

  -- A head that is faulty refuses the field.
  pub step_head : {tested : ItemSort} → tested ≡ text_head_at f → text_step_at f ≡ behind_head tested f.at rest
  step_head e = by_head ∙ ap (λ (t : ItemSort). behind_head t f.at rest) (sym e)

  module _ {sort : ℕ} (sorted : Ok sort ≡ text_head_at f) {judged : Verdict} (found : judged ≡ verdict (check_firsts (productions_in (bytes_before f)))) where
    -- Behind a head that has a sort, the verdict of 12 and 13 does.
    pub step_firsts : text_step_at f ≡ behind_verdict judged (reading_at f sort)
    step_firsts = step_head sorted ∙ firsts_first sort ∙ ap (λ (v : Verdict). behind_verdict v (reading_at f sort)) (sym found)

    -- Behind one that passed, the reading answers.
    pub step_reading : judged ≡ Ok tt → {cells cells' : List ℕ} {r : TextAnswer}
        → ReadsUnder (bytes_before f) f.texts f.sorts f.text f.nonterminal sort f.asked cells r cells'
        → cells ≡ replicate (rows_left (context_at f) * columns) 0 → text_step_at f ≡ answered f.used sort f.at cells' r
    step_reading passed reads zero =
        step_firsts
        ∙ ap (λ (v : Verdict). behind_verdict v (reading_at f sort)) passed
        ∙ sym (reads.answers (context_at f) f.at (record { keywords = refl; outsides = refl; productions = refl; cells_are = zero }))
