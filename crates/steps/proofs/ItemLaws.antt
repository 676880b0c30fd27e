-- Laws of the items of an alternative and of its result.
use Rattle.std.specs.Prelude.{Ok, Err, Some, None}
use Prim.Native.Nat.{ℕ, zero, suc, ◌+◌, ◌≤◌}
use mathlib.Core.Path.{◌≡◌, refl, sym, ap, ◌∙◌}
use mathlib.Core.Bool.{true, false}
use mathlib.Core.List.{List, [], ◌∷◌, ◌++◌}
use native.Mathlib.Omega.{arith}
use lib.Dec.{eqb}
use lib.ListN.{length, get_or}
use Rattle.kinds.specs.Kinds.{only}
use Rattle.grammar.specs.Table.{Templates, number, Item, terminal}
use Rattle.expansion.specs.declared.State.{State}
use Rattle.expansion.specs.Outcome.{Outcome}
use Rattle.templates.specs.Given.{Arguments}
use Rattle.templates.specs.Given.{Built}
use Rattle.expansion.specs.Run.{Result, done, halt, Run, after}
use Rattle.expansion.specs.Outcomes.{ran}
use Rattle.expansion.specs.Expansion.{Input, next_token, token_taken, misfit, build, build_all, fresh_made, run_item, run_items}
use Rattle.expansion.specs.Expansion as Expansion
use Rattle.tokens.specs.Tokens.{end_token}
use Rattle.templates.specs.Built.{built, Lists, Few, KeptBehind}
use Rattle.steps.specs.Source.{Source, alternative_at}
use Rattle.steps.specs.Steps.{body, tokens_lent, item_by, read_step, call_step, result_step, Spends, Stays}
use Rattle.steps.specs.Steps.{ItemAt, Steps, KeepsArray, Advances}

-- ------------------------------------------------------------------ an item by its kind and operand

module _ (kind operand : ℕ) (ts : Templates) where
  item_is : (code : ℕ) → kind ≡ code → item_by code operand ts ≡ item_by kind operand ts
  item_is code e = ap (λ (n : ℕ). item_by n operand ts) (sym e)

  item_other : (kind ≡ 0 → ⊥) → (kind ≡ 1 → ⊥) → (kind ≡ 3 → ⊥) → (kind ≡ 4 → ⊥) → (kind ≡ 5 → ⊥) → terminal number ≡ item_by kind operand ts
  item_other n0 n1 n3 n4 n5 = sym (other kind n0 n1 n3 n4 n5)
    where
      other : (code : ℕ) → (code ≡ 0 → ⊥) → (code ≡ 1 → ⊥) → (code ≡ 3 → ⊥) → (code ≡ 4 → ⊥) → (code ≡ 5 → ⊥) → item_by code operand ts ≡ terminal number
      other zero a b c d e = absurd (a refl)
      other (suc zero) a b c d e = absurd (b refl)
      other (suc (suc zero)) a b c d e = refl
      other (suc (suc (suc zero))) a b c d e = absurd (c refl)
      other (suc (suc (suc (suc zero)))) a b c d e = absurd (d refl)
      other (suc (suc (suc (suc (suc zero))))) a b c d e = absurd (e refl)
      other (suc (suc (suc (suc (suc (suc code)))))) a b c d e = refl

  module _ (callee : ℕ → List ℕ → Run ℕ) (input : Input) (values : List ℕ) (state : State) (cells : List ℕ) where
    runs : {item : Item} → item ≡ item_by kind operand ts → {result : Result ℕ} → result ≡ run_item callee input item values state cells
        → result ≡ run_item callee input (item_by kind operand ts) values state cells
    runs e f = rw e at f

    -- Kind 0: a keyword.
    pub keyword_read : kind ≡ 0 → {result : Result ℕ} → result ≡ Expansion.take_token input (operand + 2) (λ x. 0) state cells
        → result ≡ run_item callee input (item_by kind operand ts) values state cells
    keyword_read e f = runs (item_is 0 e) f

    module _ (room : List ℕ) (et : input.tokens ≡ tokens_lent room) {value : ℕ} (ev : value ≡ (get_or (tokens_lent room) state.at end_token).value) where
      value-is : value ≡ (next_token input state).value
      value-is = rw (sym et) at ev

      retaken : (token_kind taken_value : ℕ) (value_of_lem : ℕ → ℕ) → taken_value ≡ value_of_lem (next_token input state).value
          → Expansion.take_token input token_kind (λ x. taken_value) state cells ≡ Expansion.take_token input token_kind value_of_lem state cells
      retaken token_kind taken_value value_of_lem e =
          ap
          (λ (x : ℕ).
          elim (eqb (next_token input state).kind token_kind) [ true ↦ done x (token_taken state) cells | false ↦ misfit (only token_kind) state cells ])
          e

      -- Kind 5: a pattern place.
      pub place_read : kind ≡ 5 → {result : Result ℕ} → result ≡ Expansion.take_token input (65 + operand) (λ x. value) state cells
          → result ≡ run_item callee input (item_by kind operand ts) values state cells
      place_read e f = runs (item_is 5 e) (f ∙ retaken (65 + operand) value (λ x. x) value-is)

      -- Any other kind but 4: a number.
      pub number_read : (kind ≡ 0 → ⊥) → (kind ≡ 1 → ⊥) → (kind ≡ 3 → ⊥) → (kind ≡ 4 → ⊥) → (kind ≡ 5 → ⊥) → {result : Result ℕ}
          → result ≡ Expansion.take_token input 1 (λ x. value) state cells
          → result ≡ run_item callee input (item_by kind operand ts) values state cells
      number_read n0 n1 n3 n4 n5 f = runs (item_other n0 n1 n3 n4 n5) (f ∙ retaken 1 value (λ x. x) value-is)

    -- a call, after its arguments
    call_read : kind ≡ 4 → {result : Result (List ℕ)} → build_all ts input values state cells ≡ result
        → after result (λ vs. callee operand vs) ≡ run_item callee input (item_by kind operand ts) values state cells
    call_read e f = runs (item_is 4 e) (ap (λ (r : Result (List ℕ)). after r (λ vs. callee operand vs)) (sym f))

-- ------------------------------------------------------------------ an item in front of an alternative's others

after_after : {A B D : Type 0} (result : Result A) (second : A → Run B) (third : B → Run D)
    → after (after result second) third ≡ after result (λ a s cs. after (second a s cs) third)
after_after (done a s cs) second third = refl
after_after (halt r cs) second third = refl

module _ {S : Source} {at : ℕ} {item : Item} {after' : ℕ} (stands : ItemAt S at item after') (input : Input) (values : List ℕ) (state : State)
    (cells : List ℕ) where
  body_item : (callee : ℕ → List ℕ → Run ℕ)
      → body callee S at input values state cells ≡ after (run_item callee input item values state cells)
      (λ x. body callee S after' input (values ++ (x ∷ [])))
  unfolding body run_items
  body_item callee =
      rw (stands.items, stands.result)
      (after_after (run_item callee input item values state cells)
      (λ x. run_items callee input (alternative_at S after').items (values ++ (x ∷ [])))
      (λ M'. build (alternative_at S after').result input M'))

  -- what an item gives, the items behind it go on with
  body_runs : (callee : ℕ → List ℕ → Run ℕ) {result : Result ℕ} → result ≡ run_item callee input item values state cells
      → body callee S at input values state cells ≡ after result (λ x. body callee S after' input (values ++ (x ∷ [])))
  body_runs callee e = body_item callee ∙ rw (sym e)

  -- An item that is no call refuses, or gives a value.
  pub read_stepped : (outcome : Outcome) → ((callee : ℕ → List ℕ → Run ℕ) → ran outcome cells ≡ run_item callee input item values state cells)
      → (out : List ℕ)
      → Steps S at input values state cells (read_step outcome after') out cells
  read_stepped (Err cause) reads out = λ callee. body_runs callee (reads callee)
  read_stepped (Ok (result, state')) reads out =
      record { item = item; stands = stands; runs = λ callee. sym (reads callee); rest = λ callee. body_runs callee (reads callee) }

-- A call has no row for its arguments, or has them listed.
module _ {S : Source} {at : ℕ} (kind operand : ℕ) (ts : Templates) {after' : ℕ} (stands : ItemAt S at (item_by kind operand ts) after') (is_call : kind ≡ 4)
    (input : Input) (values : List ℕ) (state : State) (cells : List ℕ) where
  goes_on : (callee : ℕ → List ℕ → Run ℕ) {result : Result (List ℕ)} → build_all ts input values state cells ≡ result
      → body callee S at input values state cells
      ≡ after (after result (λ vs. callee operand vs)) (λ x. body callee S after' input (values ++ (x ∷ [])))
  goes_on callee e = body_runs stands input values state cells callee (call_read kind operand ts callee input values state cells is_call e)

  -- What is done then.
  pub call_stepped : (arguments : Arguments) (out cells' : List ℕ) → Lists state arguments out cells' (build_all ts input values state cells)
      → Steps S at input values state cells (call_step arguments operand after' state) out cells'
  call_stepped None out cells' lists = λ callee. goes_on callee lists
  call_stepped (Some (given, made)) out cells' lists =
      record { values = lists.values; holds = lists.holds; rest = λ callee. goes_on callee lists.gives }

-- ------------------------------------------------------------------ how far an item goes

module _ {S : Source} {at : ℕ} {item : Item} {after' : ℕ} (stands : ItemAt S at item after') (state : State) where
  -- One that takes a token or a fresh name moves on to the offset behind it.
  pub read_advances : (outcome : Outcome) → Spends state outcome → Advances S at state (read_step outcome after')
  read_advances (Err cause) spends = tt
  read_advances (Ok (result, state')) spends = record { item = item; stands = stands; counted = spends.0; called = spends.1 }

  -- So does a call, whose arguments move no counter but that of the cells and are no more than bytes.
  pub call_advances : (arguments : Arguments) (operand : ℕ) {most : ℕ} → Few most arguments → most ≤ length S.bytes
      → Advances S at state (call_step arguments operand after' state)
  call_advances None operand few l = tt
  call_advances (Some (given, made)) operand few l = (record { item = item; stands = stands; counted = omega arith; called = refl }, omega arith)

-- The array of the arguments is as it was where a token or a fresh name is read.
pub read_keeps : (outcome : Outcome) (after' : ℕ) (out : List ℕ) → KeepsArray out (read_step outcome after') out
read_keeps (Err cause) after' out = tt
read_keeps (Ok (result, state')) after' out = refl

-- What stands behind a call's arguments stays.
pub call_keeps : (arguments : Arguments) (operand after' : ℕ) (state : State) (out out' : List ℕ) → KeptBehind out arguments out'
    → KeepsArray out (call_step arguments operand after' state) out'
call_keeps None operand after' state out out' kept = tt
call_keeps (Some (given, made)) operand after' state out out' kept = kept

-- ------------------------------------------------------------------ the outcome

-- The outcome of a result is what its template gives.
pub result_built : (outcome : Built) (state : State) (cells : List ℕ) → ran (result_step outcome state) cells ≡ built state outcome cells
result_built (Some (result, behind, made)) state cells = refl
result_built None state cells = refl

-- It moves no counter but that of the cells.
pub result_stays : (outcome : Built) (state : State) → Stays state (result_step outcome state)
result_stays (Some (result, behind, made)) state = (refl, refl, refl)
result_stays None state = tt
