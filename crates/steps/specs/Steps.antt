-- What the code that does the items of an alternative asks and answers, and the bound that its counters keep. These definitions mirror
-- code: nobody needs them to believe `expand`.
use Rattle.std.specs.Prelude.{ℕ, ◌+◌, ◌-◌, ◌*◌, ◌/◌, ◌^◌, ◌<◌, ◌≤◌, ◌≡◌, List, [], ◌∷◌, ◌++◌, length, get_or, Ok, Err, Some, None}
use Rattle.answers.specs.declared.Refusal.{Refusal}
use Rattle.answers.specs.Refusals.{refusal}
use Rattle.grammar.specs.Limits.{most}
use Rattle.terms.specs.Cells.{rows_lent}
use Rattle.grammar.specs.Table.{Templates, keyword, ide, number, place, Item, terminal, local, call}
use Rattle.tokens.specs.declared.Token.{Token}
use Rattle.scanner.specs.Rooms.{tokens_in, TokensFit}
use Rattle.expansion.specs.declared.State.{State}
use Rattle.expansion.specs.Outcome.{Outcome}
use Rattle.steps.specs.declared.ItemStep.{ItemStep}
use Rattle.steps.specs.declared.ItemStep.TheVariants.{Finished, Stopped, Taken, Opened}
use Rattle.steps.specs.declared.Cursor.{Cursor}
use Rattle.expansion.specs.Run.{Run, done, halt, after}
use Rattle.expansion.specs.Outcomes.{ran}
use Rattle.expansion.specs.Expansion.{Input, take_token, take_terminal, fresh_made, build, run_item, run_items}
use Rattle.expansion.specs.Limits.{most_calls}
use Rattle.templates.specs.Given.{Built}
use Rattle.templates.specs.Given.{Arguments}
use Rattle.templates.specs.Built.{RoomsFit, Holds, with_made, numbered_built, numbered_arguments}
use Rattle.steps.specs.Source.{Source, alternative_at, GoesOn}

-- the items from an offset on and the result behind them, under the values of the variables; `callee` is what a call does
unfoldable pub body : (ℕ → List ℕ → Run ℕ) → Source → ℕ → Input → List ℕ → Run ℕ
body callee S at I M s cells =
    after (run_items callee I (alternative_at S at).items M s cells) (λ M'. build (alternative_at S at).result I M')

-- ------------------------------------------------------------------ tokens

-- how many tokens there are, four numbers each, and which
abbrev pub token_count : List ℕ → ℕ
token_count tokens = length tokens / 4

abbrev pub tokens_lent : List ℕ → List Token
tokens_lent tokens = tokens_in tokens (token_count tokens)

abbrev pub LentTokens : List ℕ → Type 0
LentTokens tokens = TokensFit tokens (token_count tokens)

-- an input has these tokens and so many rows
pub record Reads (I : Input) (tokens : List ℕ) (rows : ℕ) : Type 0 where
  pub tokens_are : I.tokens ≡ tokens_lent tokens
  pub rows_are : I.rows ≡ rows

-- ------------------------------------------------------------------ what is asked

-- the next token may be looked at
pub record MayTake (tokens : List ℕ) (s : State) : Type 0 where
  pub tokens_fit : LentTokens tokens
  pub token_small : s.at < 2 ^ 32

-- and taken, or a fresh name
pub record MayRead (tokens : List ℕ) (s : State) : Type 0 where
  pub may_take : MayTake tokens s
  pub fresh_small : s.fresh < 2 ^ 31

-- of an item that is no call
pub record MayReadItem (tokens : List ℕ) (kind : ℕ) (s : State) : Type 0 where
  pub may_read : MayRead tokens s
  pub no_call : kind ≡ 4 → ⊥

-- a production goes on where the cursor says, and there is room for its templates
pub record MayStep (S : Source) (tokens : List ℕ) (rows : ℕ) (c : Cursor) (cells stack : List ℕ) : Type 0 where
  pub goes_on : GoesOn S c.call.next
  pub may_read : MayRead tokens c.state
  pub rooms : RoomsFit S.bytes rows cells stack

-- its items end there, and the rows are all that the cells have
pub record MayFinish (S : Source) (rows : ℕ) (c : Cursor) (cells stack : List ℕ) : Type 0 where
  pub goes_on : GoesOn S c.call.next
  pub no_item : (alternative_at S c.call.next).items ≡ []
  pub rooms : RoomsFit S.bytes rows cells stack
  pub all_rows : rows ≡ rows_lent (length cells)

-- ------------------------------------------------------------------ counters

-- Each item moves the token index or the counter of fresh names by one at most, and each of the calls left has fewer items than a
-- table has bytes: what is used and what may still be used together never grow.
abbrev pub weight : State → ℕ
weight s = s.at + s.fresh + most.bytes * (most_calls - s.calls)

abbrev pub most_weight : ℕ
most_weight = most.bytes * most_calls + 1

-- a result moves no counter but that of the cells
abbrev pub Stays : State → Outcome → Type 0
Stays s (Ok (v, t)) = (t.at ≡ s.at) × (t.fresh ≡ s.fresh) × (t.calls ≡ s.calls)
Stays s (Err r) = Unit {0}

-- a token or a fresh name moves the counters by one
abbrev pub Spends : State → Outcome → Type 0
Spends s (Ok (v, t)) = (t.at + t.fresh ≤ s.at + s.fresh + 1) × (t.calls ≡ s.calls)
Spends s (Err r) = Unit {0}

-- ------------------------------------------------------------------ an item that is no call

-- what taking a token of a kind answers, with a value
pub record TakesToken (tokens : List ℕ) (kind value : ℕ) (s : State) (r : Outcome) : Type 0 where
  pub takes : (I : Input) (cells : List ℕ) → I.tokens ≡ tokens_lent tokens → ran r cells ≡ take_token I kind (λ v. value) s cells
  pub spends : Spends s r

-- what taking a word at a sort answers, or a token of a text that meets an ide of the sort
pub record TakesIde (tokens : List ℕ) (sort : ℕ) (s : State) (r : Outcome) : Type 0 where
  pub takes : (I : Input) (cells : List ℕ) → I.tokens ≡ tokens_lent tokens → ran r cells ≡ take_terminal I (ide sort) s cells
  pub spends : Spends s r

-- what a fresh name answers
pub record GivesFresh (s : State) (r : Outcome) : Type 0 where
  pub gives : (cells : List ℕ) → ran r cells ≡ fresh_made s cells
  pub spends : Spends s r

-- the item with a kind and an operand, and the templates of a call
abbrev pub item_by : ℕ → ℕ → Templates → Item
item_by kind operand ts =
    get_or (terminal (keyword operand) ∷ terminal (ide operand) ∷ terminal number ∷ local ∷ call operand ts ∷ terminal (place operand) ∷ []) kind
    (terminal number)

-- what an item that is no call answers
pub record ReadsItem (tokens : List ℕ) (kind operand : ℕ) (s : State) (r : Outcome) : Type 0 where
  pub reads :
      (C : ℕ → List ℕ → Run ℕ) (I : Input) (ts : Templates) (M cells : List ℕ) → I.tokens ≡ tokens_lent tokens
      → ran r cells ≡ run_item C I (item_by kind operand ts) M s cells
  pub spends : Spends s r

-- ------------------------------------------------------------------ answers, turned into others

-- a token that was read, or a fresh name: the item behind it stands at an offset
abbrev pub read_step : Outcome → ℕ → ItemStep
read_step (Ok (x, t)) after' = Taken x after' t
read_step (Err r) after' = Stopped r

-- the arguments of a call, and what is called
abbrev pub call_step : Arguments → ℕ → ℕ → State → ItemStep
call_step (Some (k, made)) n after' s = Opened n k after' (with_made s made)
call_step None n after' s = Stopped (numbered_arguments s None)

-- the value of the template that is an alternative's result
abbrev pub result_step : Built → State → Outcome
result_step (Some (v, behind, made)) s = Ok (v, with_made s made)
result_step None s = Err (numbered_built s None)

-- document 01's number and values of what is done at an offset: those of its refusal, else none
abbrev pub numbered_step : ItemStep → Refusal
numbered_step Finished = refusal 0 0 0 0
numbered_step (Stopped r) = r
numbered_step (Taken x after' t) = refusal 0 0 0 0
numbered_step (Opened n k after' t) = refusal 0 0 0 0

-- ------------------------------------------------------------------ one item

-- an item stands at an offset, and what is left behind it at another
pub record ItemAt (S : Source) (at : ℕ) (item : Item) (after' : ℕ) : Type 0 where
  pub items : (alternative_at S at).items ≡ item ∷ (alternative_at S after').items
  pub result : (alternative_at S at).result ≡ (alternative_at S after').result
  pub less : at < after'
  pub goes_on : GoesOn S after'

-- The item at an offset gives a value: what it does, and what the items behind it then do.
pub record Gives (S : Source) (at : ℕ) (I : Input) (M : List ℕ) (s : State) (cells : List ℕ) (x after' : ℕ) (t : State) (cells' : List ℕ) : Type 0 where
  pub item : Item
  pub stands : ItemAt S at item after'
  pub runs : (C : ℕ → List ℕ → Run ℕ) → run_item C I item M s cells ≡ done x t cells'
  pub rest : (C : ℕ → List ℕ → Run ℕ) → body C S at I M s cells ≡ body C S after' I (M ++ (x ∷ [])) t cells'

-- It calls nonterminal n, with k arguments in an array.
pub record Calls (S : Source) (at : ℕ) (I : Input) (M : List ℕ) (s : State) (cells : List ℕ) (n k after' : ℕ) (t : State) (out cells' : List ℕ) : Type 0 where
  pub values : List ℕ
  pub holds : Holds out k values
  pub rest : (C : ℕ → List ℕ → Run ℕ) → body C S at I M s cells ≡ after (C n values t cells') (λ x. body C S after' I (M ++ (x ∷ [])))

-- What is done at an offset: no item stands there; the item refuses; it gives a value, and the next one stands at another offset; or
-- it calls a nonterminal.
abbrev pub Steps : Source → ℕ → Input → List ℕ → State → List ℕ → ItemStep → List ℕ → List ℕ → Type 0
Steps S at I M s cells Finished out cells' = cells' ≡ cells
Steps S at I M s cells (Stopped r) out cells' = (C : ℕ → List ℕ → Run ℕ) → body C S at I M s cells ≡ halt (numbered_step (Stopped r)) cells'
Steps S at I M s cells (Taken x after' t) out cells' = Gives S at I M s cells x after' t cells'
Steps S at I M s cells (Opened n k after' t) out cells' = Calls S at I M s cells n k after' t out cells'

-- the array of the arguments stays behind them, and is as it was where the item is no call that can be made
abbrev pub KeepsArray : List ℕ → ItemStep → List ℕ → Type 0
KeepsArray out Finished out' = out' ≡ out
KeepsArray out (Stopped r) out' = Unit {0}
KeepsArray out (Taken x after' t) out' = out' ≡ out
KeepsArray out (Opened n k after' t) out' = (i : ℕ) → k ≤ i → get_or out' i 0 ≡ get_or out i 0

-- the next offset is that behind the item, where the production goes on; the counters move by one item
pub record Onward (S : Source) (at after' : ℕ) (s t : State) : Type 0 where
  pub item : Item
  pub stands : ItemAt S at item after'
  pub counted : t.at + t.fresh ≤ s.at + s.fresh + 1
  pub called : t.calls ≡ s.calls

abbrev pub Advances : Source → ℕ → State → ItemStep → Type 0
Advances S at s Finished = (alternative_at S at).items ≡ []
Advances S at s (Stopped r) = Unit {0}
Advances S at s (Taken x after' t) = Onward S at after' s t
Advances S at s (Opened n k after' t) = Onward S at after' s t × (k ≤ length S.bytes)

-- ------------------------------------------------------------------ what is promised

-- of the item at a cursor
pub record ItemStepped (S : Source) (tokens : List ℕ) (rows : ℕ) (vars : List ℕ) (c : Cursor) (out cells : List ℕ) (r : ItemStep)
    (out' cells' : List ℕ) : Type 0 where
  pub does :
      (I : Input) (M : List ℕ) → Reads I tokens rows → Holds vars c.call.count M
      → Steps S c.call.next I M c.state cells r out' cells'
  pub advances : Advances S c.call.next c.state r
  pub keeps : KeepsArray out r out'

-- of the result of the production at a cursor
pub record Finishes (S : Source) (rows : ℕ) (vars : List ℕ) (c : Cursor) (cells : List ℕ) (r : Outcome) (cells' : List ℕ) : Type 0 where
  pub gives :
      (I : Input) (M : List ℕ) → I.rows ≡ rows → Holds vars c.call.count M
      → ran r cells' ≡ build (alternative_at S c.call.next).result I M c.state cells
  pub stays : Stays c.state r
