-- What the two runs of a text's tokens come to.
use Prim.Native.Nat.{ℕ}
use mathlib.Core.Path.{◌≡◌, sym, ap, ◌∙◌}
use mathlib.Core.Bool.{Bool, true, false, not}
use mathlib.Core.List.{List}
use native.Mathlib.Omega.{arith}
use Rattle.std.specs.Prelude.{Some, None, Err, Ok}
use Rattle.answers.specs.declared.Refusal.{Refusal}
use Rattle.answers.specs.Checked.{Checked, ◌>>=◌, ◌>>◌, need}
use Rattle.expansion.specs.declared.State.{State}
use Rattle.expansion.specs.Outcome.{Outcome}
use Rattle.expansion.specs.Run.{Result, done}
use Rattle.expansion.specs.Outcomes.{ran}
use Rattle.steps.specs.Source.{Source}
use Rattle.steps.specs.Steps.{tokens_lent}
use Rattle.texts.specs.Reading.{Readings, has_number, reading_of, unread_because, read_else, TextRead}
use Rattle.reader.specs.declared.judging.TextFault.{TextFault}
use Rattle.reader.specs.declared.judging.TextFault.TheVariants.{Unread}
use Rattle.reader.specs.declared.judging.TextHead.{TextHead}
use Rattle.reader.specs.Words.{MadeOutside, zeroed}
use Rattle.reader.specs.TextAnswers.{TextAnswer, cause_of, tested, Judges, because_of}
use Rattle.reader.specs.TextRuns.{run_tokens}
use Rattle.reader.specs.TextReadings.{strict_run, Attempts, Explains}

-- the outcome that the code has is that of a run
ran_as : {outcome outcome' : Outcome} (cells : List ℕ) (result : Result ℕ) → outcome ≡ outcome' → ran outcome cells ≡ result → ran outcome' cells ≡ result
ran_as cells result e r = ap (λ o. ran o cells) (sym e) ∙ r

module _ (tokens : List ℕ) (head : TextHead) (others : ℕ) (cells : List ℕ) (S : Source) where
  -- `check_tokens` by whether there is a number, and by what is read
  abbrev check_by : ℕ → ℕ → ℕ → Bool → Readings → Checked TextRead
  check_by used at number test q =
      need (not test) 26 at
      >> read_else q number at
      >>= λ r.
      tested used head.sort head.asked at others r

  abbrev strict : Result ℕ
  strict = strict_run S head cells (tokens_lent tokens)

  module _ {number : Bool} (tested_number : number ≡ has_number (tokens_lent tokens)) where
    -- A text with a number is refused with 26.
    pub attempt_number : number ≡ true → Attempts tokens head others cells (Some (Err Unread)) cells S
    attempt_number e =
        record {
          attempts = λ used at other. ap (λ t. check_by used at other t (reading_of head.sort strict)) (sym e ∙ tested_number);
          leaves = λ x made q. let z : ◌≡◌ {A = ℕ} 0 1 = cc in absurd (omega arith);
        }

    module _ (none : number ≡ false) {tokens' : List ℕ} (made : MadeOutside tokens tokens') (outcome : Outcome) (cells' : List ℕ)
        (runs : ran outcome cells' ≡ run_tokens S head.nonterminal cells (tokens_lent tokens')) where
      strict_is : {outcome' : Outcome} → outcome ≡ outcome' → ran outcome' cells' ≡ strict
      strict_is e =
          ran_as cells' (run_tokens S head.nonterminal cells (tokens_lent tokens')) e runs
          ∙ ap (run_tokens S head.nonterminal cells) made.outside

      by_run : {outcome' : Outcome} → outcome ≡ outcome' → (used at other : ℕ)
          → check_by used at other false (reading_of head.sort (ran outcome' cells'))
          ≡ check_by used at other (has_number (tokens_lent tokens)) (reading_of head.sort strict)
      by_run {outcome'} e used at other =
          ap (λ t. check_by used at other t (reading_of head.sort (ran outcome' cells'))) (sym none ∙ tested_number)
          ∙ ap (λ q. check_by used at other (has_number (tokens_lent tokens)) (reading_of head.sort q)) (strict_is e)

      -- A run that halts reads nothing.
      pub attempt_halted : {refusal : Refusal} → outcome ≡ Err refusal → Attempts tokens head others cells None cells' S
      attempt_halted e =
          record { attempts = by_run e; leaves = λ x made q. let z : ◌≡◌ {A = ℕ} 0 1 = cc in absurd (omega arith) }

      -- What a run gives that is done is judged.
      pub attempt_done : {x : ℕ} {s : State} → outcome ≡ Ok (x, s) → {a : TextAnswer} → Judges cells' head x s others a
          → Attempts tokens head others cells (Some a) cells' S
      attempt_done {x} {s} e {a} judges =
          record {
            attempts = λ used at other. judges.judged used at ∙ by_run e used at other;
            leaves = λ x' made q.
                let as_read = judges.read_as x' made (cc) in
                record {
                  state = s;
                  done_is = sym (strict_is e) ∙ ap (λ y. done y s cells') (sym as_read.value-is);
                  made_is = sym as_read.made_is;
                  no_fresh = as_read.no_fresh;
                };
          }

module _ (tokens : List ℕ) (head : TextHead) (cells : List ℕ) (S : Source) {zeros : List ℕ} (cleared : zeros ≡ zeroed cells) (outcome : Outcome)
    (cells' : List ℕ) (runs : ran outcome cells' ≡ run_tokens S head.nonterminal zeros (tokens_lent tokens)) where
  again : {outcome' : Outcome} → outcome ≡ outcome' → ran outcome' cells' ≡ run_tokens S head.nonterminal (zeroed cells) (tokens_lent tokens)
  again e =
      ran_as cells' (run_tokens S head.nonterminal zeros (tokens_lent tokens)) e runs
      ∙ ap (λ c. run_tokens S head.nonterminal c (tokens_lent tokens)) cleared

  -- Where the second run halts too, a text is not read either way.
  pub explained_halted : {refusal : Refusal} → outcome ≡ Err refusal → Explains tokens head cells Unread S
  explained_halted e = record { explains = ap (λ q. unread_because (reading_of head.sort q)) (again e) }

  -- Where it is done, its size tells.
  pub explained_done : {x : ℕ} {s : State} → outcome ≡ Ok (x, s) → {r : TextFault} → cause_of r ≡ because_of head.sort x s cells'
      → Explains tokens head cells r S
  explained_done e q = record { explains = q ∙ ap (λ q. unread_because (reading_of head.sort q)) (again e) }
