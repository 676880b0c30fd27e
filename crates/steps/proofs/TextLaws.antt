-- Laws of a result that is a text: what its rows give under the values of the variables is what its template gives.
use Rattle.std.specs.Prelude.{Some, None}
use Prim.Native.Nat.{ℕ, zero, suc, ◌+◌, ◌-◌, ◌/◌, ◌%◌, ◌<◌, ◌≤◌}
use mathlib.Core.Path.{◌≡◌, refl, sym, ap, ap₂, ◌∙◌}
use mathlib.Core.List.{List, [], ◌∷◌, ◌++◌}
use native.Mathlib.Omega.{arith}
use native.Mathlib.Decide.{dec_lt}
use lib.ListN.{length, get_or, take, drop, replicate, length-drop, length-append, length-replicate, get_or-replicate, get_or-eq_default}
use lib.Seq.{take_all}
use Rattle.grammar.specs.Table.{Template, Templates, variable, outside_var, outside_label, unit, make, none, more}
use Rattle.terms.specs.Cells.{rows_lent}
use Rattle.expansion.specs.declared.State.{State}
use Rattle.expansion.specs.Run.{Run, return, ◌>>=◌}
use Rattle.expansion.specs.Outcomes.{ran}
use Rattle.expansion.specs.Expansion.{Input, cell, build, build_all}
use Rattle.templates.specs.Built.{Holds, with_made}
use Rattle.copying.specs.Hanging.{HangsAt}
use Rattle.copying.specs.Copies.{copied, CopiesText}
use Rattle.copying.proofs.CopyLaws.{hangs_more}
use Rattle.copying.specs.Copied.{Copied}
use Rattle.steps.specs.HeldTexts.{held_value, held_word, held_sort, held_rows, text_at, TextHangs}
use Rattle.steps.specs.Steps.{Stays}
use Rattle.steps.specs.TextSteps.{Shows, copied_step, GivesText}

-- ------------------------------------------------------------------ values with 0 behind them give the same

zeros : (many i : ℕ) → ◌≡◌ {A = ℕ} (get_or (replicate many 0) i 0) 0
zeros many i = by (dec_lt i many)
  where
    by : Dec (i < many) → ◌≡◌ {A = ℕ} (get_or (replicate many 0) i 0) 0
    by (yes l) = get_or-replicate many i 0 0 l
    by (no n) = get_or-eq_default (replicate many 0) 0 (omega (arith, length-replicate {A = ℕ} many 0))

get_d_padded : (M : List ℕ) (many i : ℕ) → get_or (M ++ replicate many 0) i 0 ≡ get_or M i 0
get_d_padded [] many i = zeros many i
get_d_padded (x ∷ M) many zero = refl
get_d_padded (x ∷ M) many (suc i) = get_d_padded M many i

mutual
  unfolding build

  build_padded : (t : Template) (I : Input) (M : List ℕ) (many : ℕ) → build t I (M ++ replicate many 0) ≡ build t I M
  build_padded (variable i) I M many = ap return (get_d_padded M many i)
  build_padded (outside_var n) I M many = refl
  build_padded (outside_label n) I M many = refl
  build_padded unit I M many = refl
  build_padded (make c ts) I M many = ap (λ (r : Run (List ℕ)). r >>= λ vs. cell I c vs) (all_padded ts I M many)

  all_padded : (ts : Templates) (I : Input) (M : List ℕ) (many : ℕ) → build_all ts I (M ++ replicate many 0) ≡ build_all ts I M
  all_padded none I M many = refl
  all_padded (more t ts) I M many =
      ap₂ (λ (r : Run ℕ) (q : Run (List ℕ)). r >>= λ v. q >>= λ vs. return (v ∷ vs)) (build_padded t I M many) (all_padded ts I M many)

-- an array that shows values holds them with 0 behind them
holds_padded : {env M : List ℕ} → Shows env M → Holds env (length M + 16) (M ++ replicate 16 0)
holds_padded {env} {M} shows =
    record {
      long = shows.long;
      count = length-append M (replicate 16 0);
      same = λ i small less. shows.same i small ∙ sym (get_d_padded M 16 i);
    }

-- ------------------------------------------------------------------ rows that hang together under more variables

hangs_at_more : {text : List ℕ} {few many sort x : ℕ} → few ≤ many → HangsAt text few sort x → HangsAt text many sort x
hangs_at_more l hang = record { variable = λ four. omega (arith, hang.variable four); row = λ is_row. hangs_more l (hang.row is_row) }

-- ------------------------------------------------------------------ the outcome

-- The outcome is what the text gives.
pub copied_ran : (made : Copied) (state : State) (cells : List ℕ) → ran (copied_step made state) cells ≡ copied state made cells
copied_ran (Some (value, count)) state cells = refl
copied_ran None state cells = refl

-- It moves no counter but that of the cells.
pub copied_stays : (made : Copied) (state : State) → Stays state (copied_step made state)
copied_stays (Some (value, count)) state = (refl, refl, refl)
copied_stays None state = tt

-- what the code takes of the texts: all from the index of the rows on
abbrev rows_from : List ℕ → ℕ → List ℕ
rows_from texts word = take (length texts - word / 8) (drop (word / 8) texts)

module _ {texts : List ℕ} {at word : ℕ} (there : TextHangs texts at) (word_is : word ≡ held_word texts at) where
  rows_held : rows_from texts word ≡ held_rows texts at
  rows_held =
      take_all (length texts - word / 8) (drop (word / 8) texts) (omega (arith, length-drop (word / 8) texts)) ∙ ap (λ (w : ℕ). drop (w / 8) texts) word_is

  -- They give what its template gives.
  pub text_given : {vars env : List ℕ} {count done : ℕ} {cells cells' : List ℕ} (made : Copied)
      → ((M : List ℕ) → Holds vars count M → Shows env M)
      → CopiesText (rows_from texts word) (word % 8) (held_value texts at) env done cells made cells'
      → GivesText texts at vars count done cells made cells'
  unfolding text_at
  text_given {vars} {env} {count} {done} {cells} {cells'} made shown copies = record { gives = gives }
    where
      held : CopiesText (held_rows texts at) (held_sort texts at) (held_value texts at) env done cells made cells'
      held = rw (rows_held, word_is) at copies

      gives : (I : Input) (s : State) (M : List ℕ) → I.rows ≡ rows_lent (length cells) → Holds vars count M
          → copied s made cells' ≡ build (text_at texts at) I M (with_made s done) cells
      gives I s M rows_are holds =
          held.evaluates I s (M ++ replicate 16 0) (length M + 16) (rows_lent (length (held_rows texts at))) rows_are (holds_padded (shown M holds))
          (hangs_at_more (omega arith) there.hangs) there.row_inside
          ∙ ap (λ (r : Run ℕ). r (with_made s done) cells) (build_padded (text_at texts at) I M 16)
