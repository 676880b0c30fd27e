-- Laws of the beginning of a call.
use Rattle.std.specs.Prelude.{Ok, Err}
use Prim.Native.Nat.{ℕ, zero, suc, ◌+◌, ◌-◌, ◌<◌, ◌≤◌}
use mathlib.Core.Path.{◌≡◌, refl, sym, ap, ◌∙◌}
use mathlib.Core.Bool.{Bool, true, false}
use mathlib.Core.List.{List}
use native.Mathlib.Numerals.{sub-one}
use native.Mathlib.Omega.{arith}
use lib.Dec.{ltb}
use lib.Count.{ones}
use lib.ListN.{length, get_or}
use borrow.Author.Tests.{eq-eqb, ne_eqb, lt-ltb, le-ltb}
use Rattle.answers.specs.declared.Refusal.{Refusal}
use Rattle.answers.specs.Refusals.{refusal}
use Rattle.productions.specs.Normal.{Production}
use Rattle.productions.specs.Room.{start_in}
use Rattle.grammar.specs.Table.{Template}
use Rattle.expansion.specs.declared.State.{State}
use Rattle.expansion.specs.Run.{Result, halt, after}
use Rattle.expansion.specs.Expansion.{Input, next_token, misfit, build, run_items, Grammar, Choice, unfit, ready_for, chosen, choice, call_begun, run_call}
use Rattle.tokens.specs.Tokens.{end_token}
use Rattle.expansion.specs.Limits.{most_calls}
use Rattle.choices.specs.Held.{HeldFor}
use Rattle.choices.specs.Chosen.{first_sets_of, entries_for, chosen_place, chosen_start_for, RemembersFor, ChoosesFor}
use Rattle.choices.proofs.ChoiceLaws.{productions_with, ready_with, chosen_nowhere, chosen_here, chosen_each, start_is, start_chosen}
use Rattle.steps.specs.Source.{Source, alternative_at, productions_from, GoesOn}
use Rattle.steps.specs.Steps.{body, tokens_lent, weight}
use Rattle.frames.specs.Frames.{ahead}
use Rattle.steps.specs.declared.Activation.{Activation}
use Rattle.turns.specs.Lent.{Ready, lent_input}
use Rattle.turns.specs.Begun.{Begun}
use Rattle.turns.specs.Begins.{call_refusal, CallBegunAt, Starts}
use Rattle.grammar.specs.Limits.{most}

-- what a call does with the rule that is chosen
abbrev entered : ℕ → Input → ℕ → List ℕ → State → List ℕ → Choice → Result ℕ
entered depth I n vs s cells unfit = misfit (get_or I.grammar.firsts n 0) s cells
entered depth I n vs s cells (chosen r) = after (run_items (run_call depth I) I r.items vs (call_begun s) cells) (λ M. build r.result I M)

module _ (lent : Input) (nonterminal : ℕ) (vs : List ℕ) (state : State) (cells : List ℕ) where
  call_closed : (depth : ℕ) → depth ≡ 0 → halt (refusal 19 state.at 0 0) cells ≡ run_call depth lent nonterminal vs state cells
  unfolding run_call
  call_closed depth e = rw e

  call_by : (depth : ℕ) → (depth ≡ 0 → ⊥) → (test : Bool) → ltb state.calls most_calls ≡ test
      → (elim test [
        | false ↦ halt (refusal 20 state.at 0 0) cells
        | true ↦ entered (depth - 1) lent nonterminal vs state cells (choice lent.grammar nonterminal (next_token lent state).kind)
      ])
      ≡ run_call depth lent nonterminal vs state cells
  unfolding run_call
  call_by zero f test e = absurd (f refl)
  call_by (suc depth) f false e = rw (e, run_call) refl
  call_by (suc depth) f true e = rw (sub-one (suc depth)) (rw (e, run_call) (by (choice lent.grammar nonterminal (next_token lent state).kind)))
    where
      by : (given_choice : Choice)
          → entered depth lent nonterminal vs state cells given_choice
          ≡ elim given_choice [
            | unfit ↦ misfit (get_or lent.grammar.firsts nonterminal 0) state cells
            | chosen r ↦ after (run_items (run_call depth lent) lent r.items vs (call_begun state) cells) (λ M. build r.result lent M)
          ]
      by unfit = refl
      by (chosen r) = refl

-- What is not 0 is above it.
pub positive : (left : ℕ) → (left ≡ 0 → ⊥) → 0 < left
positive zero g = absurd (g refl)
positive (suc left) g = omega arith

-- what a call is refused with, by the tests
module _ (lent : Input) (nonterminal : ℕ) (state : State) where
  due_closed : (depth : ℕ) → depth ≡ 0 → refusal 19 state.at 0 0 ≡ call_refusal lent depth nonterminal state
  unfolding call_refusal
  due_closed depth e = rw (eq-eqb depth 0 e, call_refusal) refl

  module _ (depth : ℕ) (may_open : depth ≡ 0 → ⊥) where
    due_spent : most_calls ≤ state.calls → refusal 20 state.at 0 0 ≡ call_refusal lent depth nonterminal state
    unfolding call_refusal
    due_spent l = rw (ne_eqb depth 0 may_open, le-ltb state.calls most_calls l, call_refusal) refl

    due_unfit : state.calls < most_calls → {set : ℕ} → set ≡ get_or lent.grammar.firsts nonterminal 0
        → refusal 17 state.at set (ones set) ≡ call_refusal lent depth nonterminal state
    unfolding call_refusal
    due_unfit l e = rw (ne_eqb depth 0 may_open, lt-ltb state.calls most_calls l, e, call_refusal) refl

-- a refusal, whatever is remembered
starts_refused : {lent : Input} {S : Source} {depth nonterminal given : ℕ} {state : State} {cause other : Refusal} → cause ≡ other
    → ((vs cells : List ℕ) → halt other cells ≡ run_call depth lent nonterminal vs state cells)
    → other ≡ call_refusal lent depth nonterminal state
    → {memory : List ℕ}
    → RemembersFor S.patterns S.bytes memory
    → Starts lent S depth nonterminal given state (Err cause) memory
starts_refused e h due m =
    record { begins = λ vs cells. rw e (h vs cells); refuses = e ∙ due; enters = tt; entered_chosen = tt; remembers = m }

module _ {S : Source} {room : List ℕ} (ready_room : Ready S room) (tokens : List ℕ) (rows depth nonterminal given : ℕ) (state : State) where
  abbrev input : Input
  input = lent_input S tokens rows

  abbrev held : HeldFor S.patterns S.bytes room
  held = ready_room.held

  abbrev Ends : Begun → List ℕ → Type 0
  Ends b memory = Starts input S depth nonterminal given state b memory

  -- Refusal 19: no more calls may be open.
  pub starts_closed : {memory : List ℕ} → RemembersFor S.patterns S.bytes memory → depth ≡ 0 → {cause : Refusal} → cause ≡ refusal 19 state.at 0 0
      → Ends (Err cause) memory
  starts_closed m e er =
      starts_refused er (λ vs cells. call_closed input nonterminal vs state cells depth e) (due_closed input nonterminal state depth e) m

  module _ (may_open : depth ≡ 0 → ⊥) where
    -- Refusal 20: no more calls may be begun.
    pub starts_spent : {memory : List ℕ} → RemembersFor S.patterns S.bytes memory → most_calls ≤ state.calls → {cause : Refusal}
        → cause ≡ refusal 20 state.at 0 0
        → Ends (Err cause) memory
    starts_spent m l er =
        starts_refused er (λ vs cells. call_by input nonterminal vs state cells depth may_open false (le-ltb state.calls most_calls l))
        (due_spent input nonterminal state depth may_open l) m

    -- by the place that is chosen
    module _ (may_call : state.calls < most_calls) {kind : ℕ} (ekind : kind ≡ (get_or (tokens_lent tokens) state.at end_token).kind) {place : ℕ}
        {memory : List ℕ} (ch : ChoosesFor S.patterns S.bytes nonterminal kind place memory) where
      -- the productions, with the result that the source has at each offset
      abbrev results : ℕ → Template
      results at = (alternative_at S at).result

      abbrev productions : List Production
      productions = productions_with S.bytes results

      productions_are : productions_from S ≡ productions
      unfolding alternative_at
      productions_are = refl

      firsts_are : input.grammar.firsts ≡ first_sets_of S.bytes
      firsts_are =
          ap (λ (g : List Production). (ready_for S.patterns g).firsts) productions_are
          ∙ ap (λ (g : Grammar). g.firsts) (ready_with held results)

      by_choice : {given_choice : Choice} → choice (ready_for S.patterns productions) nonterminal kind ≡ given_choice → (vs cells : List ℕ)
          → entered (depth - 1) input nonterminal vs state cells given_choice ≡ run_call depth input nonterminal vs state cells
      by_choice e vs cells =
          ap (entered (depth - 1) input nonterminal vs state cells)
          (sym
          (ap (λ (g : List Production). choice (ready_for S.patterns g) nonterminal (next_token input state).kind) productions_are
          ∙ ap (choice (ready_for S.patterns productions) nonterminal) (sym ekind)
          ∙ e))
          ∙ call_by input nonterminal vs state cells depth may_open true (lt-ltb state.calls most_calls may_call)

      -- Refusal 17: no rule fits.
      pub starts_nowhere : 256 ≤ place → {set : ℕ} → set ≡ get_or (first_sets_of S.bytes) nonterminal 0 → {cause : Refusal}
          → cause ≡ refusal 17 state.at set (ones set)
          → Ends (Err cause) memory
      starts_nowhere l {set} es er =
          let ef : set ≡ get_or input.grammar.firsts nonterminal 0 = es ∙ ap (λ sets. get_or sets nonterminal 0) (sym firsts_are) in
          starts_refused (er ∙ ap (λ (k : ℕ). refusal 17 state.at k (ones k)) ef)
          (by_choice (chosen_nowhere held nonterminal kind ch.place_is results l)) (due_unfit input nonterminal state depth may_open may_call refl)
          ch.memory_is

      -- The items of the rule that is chosen stand at the offset that the room has.
      pub starts_at : place < 256 → {start : ℕ} → start ≡ start_in room place → {next : State} → next ≡ call_begun state
          → Ends (Ok ((record { production = place; began = state.at; count = given; next = start }), next)) memory
      unfolding body alternative_at
      starts_at l {start} es {next} et =
          record {
            begins =
                λ vs cells.
                rw (et, es ∙ start_is held nonterminal kind ch.place_is l) (by_choice (chosen_here held nonterminal kind ch.place_is l results) vs cells);
            refuses = tt;
            enters =
                record {
                  goes_on = rw es (chosen_each held nonterminal kind ch.place_is l (GoesOn S) ready_room.begun);
                  placed = l;
                  may_open = positive depth may_open;
                  may_call = may_call;
                  begun = et;
                };
            entered_chosen =
                let at-start : start ≡ chosen_start_for S.patterns S.bytes nonterminal (next_token input state).kind
                = es ∙ start_chosen held nonterminal kind ch.place_is l ∙ ap (chosen_start_for S.patterns S.bytes nonterminal) ekind in
                let at_place : place ≡ chosen_place (entries_for S.patterns S.bytes) nonterminal (next_token input state).kind
                = ch.place_is ∙ ap (chosen_place (entries_for S.patterns S.bytes) nonterminal) ekind in
                cc (at-start, at_place);
            remembers = ch.memory_is;
          }

-- One more call leaves room for its items.
pub entry_weight : {S : Source} {depth : ℕ} {state : State} {call : Activation} {next : State} → CallBegunAt S depth state call next
    → length S.bytes ≤ most.bytes
    → weight next + ahead S call.next ≤ weight state
entry_weight e h = omega (arith, ap weight e.begun, e.may_call)
