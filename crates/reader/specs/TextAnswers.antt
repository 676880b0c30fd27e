-- What the code that reads a text answers, as the check of a reading has it. These definitions mirror code: nobody needs them to believe `expand`.
use Rattle.std.specs.Prelude.{ℕ, ◌+◌, ◌≤◌, ◌≡◌, not, List, eqb, ltb, Result, Ok, Err}
use Rattle.answers.specs.Refusals.{refusal}
use Rattle.answers.specs.Checked.{Checked, ok, bad, ◌>>◌, need}
use Rattle.grammar.specs.SortTests.{fits}
use Rattle.expansion.specs.declared.State.{State}
use Rattle.expansion.specs.Run.{done}
use Rattle.copying.specs.RowTemplates.{text_template}
use Rattle.texts.specs.Reading.{Reading, reading_of, is_small, unread_because, TextRead}
use Rattle.reader.specs.declared.judging.TextFault.{TextFault}
use Rattle.reader.specs.declared.judging.TextFault.TheVariants.{Unread, WordAtBinder, MakesFresh, Undefined, WrongSort}
use Rattle.reader.specs.declared.judging.TextHead.{TextHead}

-- document 02's number of what a text is refused for
abbrev pub cause_of : TextFault → ℕ
cause_of Unread = 26
cause_of WordAtBinder = 27
cause_of MakesFresh = 28
cause_of Undefined = 9
cause_of WrongSort = 11

-- what the reading of a text answers: its value and how many rows it made, or what it is refused for
abbrev pub TextAnswer : Type 0
TextAnswer = Result (ℕ × ℕ) TextFault

-- an answer for the field at a place, where the texts before made so many rows and a text of a sort left these cells
abbrev pub answered : ℕ → ℕ → ℕ → List ℕ → TextAnswer → Checked TextRead
answered used sort at cells (Ok (x, made)) = ok (record { template = text_template made cells sort x; used = used + made })
answered used sort at cells (Err fault) = bad (refusal (cause_of fault) at 0 0)

-- what a run that is done gives at a sort
abbrev pub done_reading : ℕ → ℕ → State → List ℕ → Reading
done_reading sort x s cells = record { template = text_template s.made cells sort x; made = s.made; is_fresh = ltb 1 s.fresh }

-- what is tested of a text that is read, as the last part of `check_reading`
abbrev pub tested : ℕ → ℕ → ℕ → ℕ → ℕ → Reading → Checked TextRead
tested used sort asked at others r =
    need (is_small r) 26 at
    >> need (not r.is_fresh) 28 at
    >> need (eqb others 0) 9 at
    >> need (fits sort asked) 11 at
    >> ok (record { template = r.template; used = used + r.made })

-- what is read is the value of the run and its rows, and no fresh name is made
pub record ReadAs (x : ℕ) (s : State) (x' made : ℕ) : Type 0 where
  pub value-is : x' ≡ x
  pub made_is : made ≡ s.made
  pub no_fresh : s.fresh ≤ 1

-- an answer is what is tested gives, wherever the field stands
pub record Judges (cells : List ℕ) (head : TextHead) (x : ℕ) (s : State) (others : ℕ) (r : TextAnswer) : Type 0 where
  pub judged :
      (used at : ℕ) → answered used head.sort at cells r ≡ tested used head.sort head.asked at others (done_reading head.sort x s cells)
  pub read_as : (x' made : ℕ) → r ≡ Ok (x', made) → ReadAs x s x' made

-- why a text is not read with its words as outside names, where its run with words is done
abbrev pub because_of : ℕ → ℕ → State → List ℕ → ℕ
because_of sort x s cells = unread_because (reading_of sort (done x s cells))
