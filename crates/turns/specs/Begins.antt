-- What the code that begins a call answers. These definitions mirror code: nobody needs them to believe `expand`.
use Rattle.std.specs.Prelude.{ℕ, ◌-◌, ◌<◌, ◌≡◌, true, false, List, eqb, ltb, get_or, Ok, Err}
use Rattle.std.specs.Int.Count.{ones}
use Rattle.answers.specs.declared.Refusal.{Refusal}
use Rattle.answers.specs.Refusals.{refusal}
use Rattle.expansion.specs.declared.State.{State}
use Rattle.expansion.specs.Run.{halt}
use Rattle.expansion.specs.Expansion.{Input, next_token, call_begun, run_call}
use Rattle.expansion.specs.Limits.{most_calls}
use Rattle.productions.specs.Room.{no_place}
use Rattle.choices.specs.Chosen.{entries_for, chosen_place, chosen_start_for, RemembersFor}
use Rattle.steps.specs.Source.{Source, GoesOn}
use Rattle.steps.specs.Steps.{body}
use Rattle.steps.specs.declared.Activation.{Activation}
use Rattle.turns.specs.Begun.{Begun}
use Rattle.turns.specs.Lent.{Ready, lent_input}

-- document 01's number and values of a call that is not entered: 19 if no more may be open, 20 if no more may be begun, else 17
unfoldable pub call_refusal : Input → ℕ → ℕ → State → Refusal
call_refusal I depth n s =
    elim (eqb depth 0) [
      | true ↦ refusal 19 s.at 0 0
      | false ↦
          elim (ltb s.calls most_calls) [
            | true ↦ refusal 17 s.at (get_or I.grammar.firsts n 0) (ones (get_or I.grammar.firsts n 0))
            | false ↦ refusal 20 s.at 0 0
          ]
    ]

-- those of an answer, none if the call is entered
abbrev pub numbered_begun : Input → ℕ → ℕ → State → Begun → Refusal
numbered_begun I depth n s (Err r) = call_refusal I depth n s
numbered_begun I depth n s (Ok (call, t)) = refusal 0 0 0 0

-- a call of nonterminal n refuses, or goes on with the items and the result at an offset
abbrev pub Begins : Input → Source → ℕ → ℕ → State → Begun → Type 0
Begins I S depth n s (Err r) = (vs cells : List ℕ) → halt r cells ≡ run_call depth I n vs s cells
Begins I S depth n s (Ok (call, t)) = (vs cells : List ℕ) → body (run_call (depth - 1) I) S call.next I vs t cells ≡ run_call depth I n vs s cells

-- its refusal is the one that is due
abbrev pub RefusesDuly : Input → ℕ → ℕ → State → Begun → Type 0
RefusesDuly I depth n s (Err r) = r ≡ numbered_begun I depth n s (Err r)
RefusesDuly I depth n s (Ok (call, t)) = Unit {0}

-- a production goes on at the offset, it is one of the productions, and one more call is begun
pub record CallBegunAt (S : Source) (depth : ℕ) (s : State) (call : Activation) (t : State) : Type 0 where
  pub goes_on : GoesOn S call.next
  pub placed : call.production < no_place
  pub may_open : 0 < depth
  pub may_call : s.calls < most_calls
  pub begun : t ≡ call_begun s

abbrev pub CallEntered : Source → ℕ → State → Begun → Type 0
CallEntered S depth s (Err r) = Unit {0}
CallEntered S depth s (Ok (call, t)) = CallBegunAt S depth s call t

-- a call with so many arguments: the production that is chosen at the next token, from its first item on
abbrev pub chosen_call : Input → Source → ℕ → ℕ → State → Activation
chosen_call I S n given s =
    record {
      production = chosen_place (entries_for S.patterns S.bytes) n (next_token I s).kind;
      began = s.at;
      count = given;
      next = chosen_start_for S.patterns S.bytes n (next_token I s).kind;
    }

abbrev pub EntersChosen : Input → Source → ℕ → ℕ → State → Begun → Type 0
EntersChosen I S n given s (Err r) = Unit {0}
EntersChosen I S n given s (Ok (call, t)) = call ≡ chosen_call I S n given s

-- all this, and choices are remembered
pub record Starts (I : Input) (S : Source) (depth n given : ℕ) (s : State) (b : Begun) (memory : List ℕ) : Type 0 where
  pub begins : Begins I S depth n s b
  pub refuses : RefusesDuly I depth n s b
  pub enters : CallEntered S depth s b
  pub entered_chosen : EntersChosen I S n given s b
  pub remembers : RemembersFor S.patterns S.bytes memory

-- it is so for every source whose grammar the room holds, and any number of rows
pub record StartsFor (room memory tokens : List ℕ) (depth n given : ℕ) (s : State) (b : Begun) (memory' : List ℕ) : Type 0 where
  pub starts :
      (S : Source) (rows : ℕ) → Ready S room → RemembersFor S.patterns S.bytes memory
      → Starts (lent_input S tokens rows) S depth n given s b memory'
