-- An expansion that is refused with 19 came to a moment at which 1,024 calls were open.
use Prim.Native.Nat.{ℕ, zero, suc, ◌+◌}
use mathlib.Core.Path.{◌≡◌, refl, ap, subst, ◌∙◌}
use mathlib.Core.Bool.{Bool, true, false}
use mathlib.Core.List.{List, [], ◌∷◌, ◌++◌}
use native.Mathlib.Omega.{arith}
use lib.Dec.{eqb, ltb}
use lib.ListN.{length, get_or}
use Rattle.answers.specs.Refusals.{refusal}
use Rattle.kinds.specs.Kinds.{only}
use Rattle.grammar.specs.Table.{Item}
use Rattle.grammar.specs.Table as Table
use Rattle.decoding.specs.Within.{Among, among_first, among_later}
use Rattle.expansion.specs.declared.State.{State}
use Rattle.expansion.specs.Run.{Result, done, halt, Run, after}
use Rattle.expansion.specs.Limits.{most_calls, most_open}
use Rattle.expansion.specs.Expansion.{Input, Choice, unfit, chosen, choice, next_token, token_taken, take_token, misfit, build, build_all}
use Rattle.expansion.specs.TextTokens.{read_value}
use Rattle.expansion.proofs.AsBefore.{terminal_by}
use Rattle.expansion.specs.Expansion.{run_item, run_items, call_begun, run_call, initial_state, ended, run}
use Rattle.soundness.proofs.StopLaws.{Stays, build_stays, build_all_stays}
use Rattle.chains.specs.Moments.{Call, Moment, Trace, moment, following, item_moments, items_moments, call_moments, moments_of}
use Rattle.chains.proofs.Counting.{in_front_lem, behind}

-- the number of a refusal, 0 for what is done
abbrev number : {A : Type 0} → Result A → ℕ
number (done a s c) = 0
number (halt r c) = r.number

-- the token index of a refusal
abbrev token_of : {A : Type 0} → Result A → ℕ
token_of (done a s c) = 0
token_of (halt r c) = r.a

-- a moment of a list at which so many calls are open, with so many tokens taken
pub record Deep (open_calls taken : ℕ) (moments : List Moment) : Type 0 where
  -- the moment
  pub at : Moment
  -- is one of the list
  pub among : Among moments at
  -- so many calls are open
  pub deep : length at.stack ≡ open_calls
  -- so many tokens are taken
  pub taken_are : at.taken ≡ taken

module _ (input : Input) where
  -- what is built is never refused with 19
  stays_21 : {A : Type 0} (state : State) (result : Result A) → Stays state result → number result ≡ 19 → ⊥
  stays_21 state (done a s c) h e = omega (arith, e)
  stays_21 state (halt r c) h e = omega (arith, e, ap (λ x. x.number) h)

  takes_17 : (kind : ℕ) (value : ℕ → ℕ) (state : State) (cells : List ℕ) → number (take_token input kind value state cells) ≡ 19 → ⊥
  takes_17 kind value state cells = go (eqb (next_token input state).kind kind)
    where
      go : (test : Bool)
          → number {A = ℕ}
          (elim test as (λ x. Result ℕ)
          [ true ↦ done (value (next_token input state).value) (token_taken state) cells | false ↦ misfit (only kind) state cells ])
          ≡ 19
          → ⊥
      go true e = omega (arith, e)
      go false e = omega (arith, e)

  -- what holds of a call while a stack is open and `more` calls more may be
  abbrev DeepCallee : ℕ → List Call → (ℕ → List ℕ → Run ℕ) → (ℕ → List ℕ → Trace) → Type 0
  DeepCallee more stack called inside =
      (n : ℕ) (vs : List ℕ) (s : State) (cells : List ℕ) → number (called n vs s cells) ≡ 19
      → Deep (length stack + more) (token_of (called n vs s cells)) (moment stack s ∷ inside n vs s cells)

  module _ (more : ℕ) (stack : List Call) (called : ℕ → List ℕ → Run ℕ) (inside : ℕ → List ℕ → Trace) (callee : DeepCallee more stack called inside) where
    item_deep : (item : Item) (xs : List ℕ) (state : State) (cells : List ℕ) → number (run_item called input item xs state cells) ≡ 19
        → Deep (length stack + more) (token_of (run_item called input item xs state cells)) (moment stack state ∷ item_moments inside input item xs state cells)
    item_deep (Table.terminal t) xs state cells e =
        absurd (terminal_by input t state cells (λ x. number x ≡ 19 → ⊥) (λ v q. omega (arith, q)) (takes_17 (Table.kind_of t) (read_value t) state cells) e)
    item_deep Table.local xs state cells e = absurd (omega (arith, e))
    item_deep (Table.call n ts) xs state cells e = go (build_all ts input xs state cells) (build_all_stays input ts xs state cells) e
      where
        go : (result : Result (List ℕ)) → Stays state result → number (after result (λ vs. called n vs)) ≡ 19
            → Deep (length stack + more) (token_of (after result (λ vs. called n vs))) (moment stack state ∷ following result (λ vs. inside n vs))
        go (halt r c) h k = absurd (stays_21 {A = List ℕ} state (halt r c) h k)
        go (done vs s' c') h k =
            subst (λ x. Deep (length stack + more) (token_of (called n vs s' c')) (record { taken = x; stack = stack } ∷ inside n vs s' c')) h
            (callee n vs s' c' k)

    items_deep : (is : List Item) (xs : List ℕ) (state : State) (cells : List ℕ) → number (run_items called input is xs state cells) ≡ 19
        → Deep (length stack + more) (token_of (run_items called input is xs state cells)) (items_moments called inside input stack is xs state cells)
    unfolding run_items items_moments
    items_deep [] xs state cells e = absurd (omega (arith, e))
    items_deep (i ∷ is) xs state cells e =
        go (run_item called input i xs state cells) (item_deep i xs state cells) (λ v s' c'. items_deep is (xs ++ (v ∷ [])) s' c') e
      where
        widened : {deep taken : ℕ} (more_moments : List Moment) → Deep deep taken (moment stack state ∷ item_moments inside input i xs state cells)
            → Deep deep taken (moment stack state ∷ (item_moments inside input i xs state cells ++ more_moments))
        widened more_moments d = record { at = d.at; among = in_front_lem more_moments d.among; deep = d.deep; taken_are = d.taken_are }

        go : (result : Result ℕ)
            → (number result ≡ 19 → Deep (length stack + more) (token_of result) (moment stack state ∷ item_moments inside input i xs state cells))
            → ((row : ℕ) (state' : State) (cells' : List ℕ) → number (run_items called input is (xs ++ (row ∷ [])) state' cells') ≡ 19
            → Deep (length stack + more) (token_of (run_items called input is (xs ++ (row ∷ [])) state' cells'))
            (items_moments called inside input stack is (xs ++ (row ∷ [])) state' cells'))
            → number (after result (λ v. run_items called input is (xs ++ (v ∷ [])))) ≡ 19
            → Deep (length stack + more) (token_of (after result (λ v. run_items called input is (xs ++ (v ∷ [])))))
            (moment stack state
            ∷ (item_moments inside input i xs state cells ++ following result (λ v. items_moments called inside input stack is (xs ++ (v ∷ [])))))
        go (halt r c) h f k = widened [] (h k)
        go (done v s' c') h f k =
            let d = f v s' c' k in
            record {
              at = d.at;
              among = among_later (behind (item_moments inside input i xs state cells) d.among);
              deep = d.deep;
              taken_are = d.taken_are;
            }

  -- a call that is refused with 19 came so deep
  pub call_deep : (more : ℕ) (stack : List Call) → DeepCallee more stack (run_call more input) (call_moments more input stack)
  unfolding run_call call_moments
  call_deep zero stack n vs s cells e = record { at = moment stack s; among = among_first; deep = omega arith; taken_are = refl }
  call_deep (suc more) stack n vs s cells e =
      go (ltb s.calls most_calls) (choice input.grammar n (next_token input s).kind) (call_deep more now_stack) e
    where
      now_stack : List Call
      now_stack = record { nonterminal = n; began = s.at } ∷ stack

      go : (test : Bool) (given_choice : Choice) → DeepCallee more now_stack (run_call more input) (call_moments more input now_stack)
          → number {A = ℕ}
          (elim test as (λ x. Result ℕ) [
            | false ↦ halt (refusal 20 s.at 0 0) cells
            | true ↦
                elim given_choice as (λ x. Result ℕ) [
                  | unfit ↦ misfit (get_or input.grammar.firsts n 0) s cells
                  | chosen r ↦ after (run_items (run_call more input) input r.items vs (call_begun s) cells) (λ M. build r.result input M)
                ]
          ])
          ≡ 19
          → Deep (length stack + suc more)
          (token_of {A = ℕ}
          (elim test as (λ x. Result ℕ) [
            | false ↦ halt (refusal 20 s.at 0 0) cells
            | true ↦
                elim given_choice as (λ x. Result ℕ) [
                  | unfit ↦ misfit (get_or input.grammar.firsts n 0) s cells
                  | chosen r ↦ after (run_items (run_call more input) input r.items vs (call_begun s) cells) (λ M. build r.result input M)
                ]
          ]))
          (moment stack s
          ∷ elim test as (λ x. List Moment) [
            | false ↦ []
            | true ↦
                elim given_choice as (λ x. List Moment) [
                  | unfit ↦ []
                  | chosen r ↦ items_moments (run_call more input) (call_moments more input now_stack) input now_stack r.items vs (call_begun s) cells
                ]
          ])
      go false given_choice f e = absurd (omega (arith, e))
      go true unfit f e = absurd (omega (arith, e))
      go true (chosen r) f e =
          result (run_items (run_call more input) input r.items vs (call_begun s) cells)
          (items_deep more now_stack (run_call more input) (call_moments more input now_stack) f r.items vs (call_begun s) cells) e
        where
          result : (read : Result (List ℕ))
              → (number read ≡ 19
              → Deep (length now_stack + more) (token_of read)
              (items_moments (run_call more input) (call_moments more input now_stack) input now_stack r.items vs (call_begun s) cells))
              → number (after read (λ M. build r.result input M)) ≡ 19
              → Deep (length stack + suc more) (token_of (after read (λ M. build r.result input M)))
              (moment stack s ∷ items_moments (run_call more input) (call_moments more input now_stack) input now_stack r.items vs (call_begun s) cells)
          result (done M s' c') h k = absurd (stays_21 {A = ℕ} s' (build r.result input M s' c') (build_stays input r.result M s' c') k)
          result (halt q c') h k =
              let d = h k in
              record { at = d.at; among = among_later d.among; deep = d.deep ∙ omega arith; taken_are = d.taken_are }

  -- so did an expansion that is refused with 19, at the token index that it names
  pub run_deep : (root : ℕ) (cells : List ℕ) {taken : ℕ} {cells' : List ℕ} → run input root cells ≡ halt (refusal 19 taken 0 0) cells'
      → Deep most_open taken (moments_of input root cells)
  unfolding run
  run_deep root cells {taken} {cells'} e =
      go (run_call most_open input root [] initial_state cells) (call_deep most_open [] root [] initial_state cells) e
    where
      go : (result : Result ℕ) → (number result ≡ 19 → Deep most_open (token_of result) (moments_of input root cells))
          → after result (ended input) ≡ halt (refusal 19 taken 0 0) cells' → Deep most_open taken (moments_of input root cells)
      go (halt r c) h k = subst (λ x. Deep most_open x (moments_of input root cells)) (ap token_of k) (h (ap number k))
      go (done v s c) h k = absurd (left_over (ltb s.at (length input.tokens)) (ap number k))
        where
          left_over : (test : Bool) → number {A = ℕ} (elim test as (λ x. Result ℕ) [ true ↦ halt (refusal 18 s.at 0 0) c | false ↦ done v s c ]) ≡ 19 → ⊥
          left_over true q = omega (arith, q)
          left_over false q = omega (arith, q)
