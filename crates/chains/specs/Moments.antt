-- The moments of an expansion, with the calls that are open at each: document 02, C-18. They are those of `run` (expansion/specs/Expansion), of
-- one that is refused too: up to where it stops.
--
-- A call is open from the choice of its alternative, after 19, 20 and 17, until its result is made. Calls open and close, and tokens are taken,
-- only where an item of an alternative begins or ends; to build arguments or a result opens no call and takes no token. So the moments are those
-- before each item of each call that opens, and behind its last one.
use Rattle.std.specs.Prelude.{ℕ, zero, suc, ◌≡◌, Bool, true, false, ◌||◌, List, [], ◌∷◌, ◌++◌, eqb, ltb}
use Rattle.grammar.specs.Limits.{most}
use Rattle.grammar.specs.Table.{Item, terminal, local, call}
use Rattle.decoding.specs.Within.{Each}
use Rattle.productions.specs.Normal.{Production}
use Rattle.expansion.specs.declared.State.{State}
use Rattle.expansion.specs.Run.{Result, done, halt, Run}
use Rattle.expansion.specs.Limits.{most_calls, most_open}
use Rattle.expansion.specs.Expansion.{Input, next_token, build_all, run_item, run_call, choice, unfit, chosen, call_begun, initial_state}

-- a call that is open: of which nonterminal, and the index of the token that was next where it began
pub record Call : Type 0 where
  pub nonterminal : ℕ
  pub began : ℕ

-- how many tokens are taken, and the stack of the calls open, the innermost first
pub record Moment : Type 0 where
  pub taken : ℕ
  pub stack : List Call

abbrev pub moment : List Call → State → Moment
moment stack s = record { taken = s.at; stack = stack }

-- ------------------------------------------------------------------ the moments of a run

-- what a computation gives from a state and cells on: its moments
abbrev pub Trace : Type 0
Trace = State → List ℕ → List Moment

-- those of what follows, unless it is refused before
abbrev pub following : {A : Type 0} → Result A → (A → Trace) → List Moment
following (done a s cells) k = k a s cells
following (halt r cells) k = []

-- while an item is read: those of its call, if it is one
abbrev pub item_moments : (ℕ → List ℕ → Trace) → Input → Item → List ℕ → Trace
item_moments inside I (terminal t) M s cells = []
item_moments inside I local M s cells = []
item_moments inside I (call n ts) M s cells = following (build_all ts I M s cells) (λ vs. inside n vs)

-- before each item of an alternative, while it is read, and behind the last; `callee` is what a call does, `inside` its moments
unfoldable pub items_moments : (ℕ → List ℕ → Run ℕ) → (ℕ → List ℕ → Trace) → Input → List Call → List Item → List ℕ → Trace
items_moments callee inside I stack [] M s cells = moment stack s ∷ []
items_moments callee inside I stack (i ∷ is) M s cells =
    moment stack s
    ∷ (item_moments inside I i M s cells
    ++ following (run_item callee I i M s cells) (λ v. items_moments callee inside I stack is (M ++ (v ∷ []))))

-- of a call, while those of `around` are open: it opens where `run_call` reads its items
unfoldable pub call_moments : ℕ → Input → List Call → ℕ → List ℕ → Trace
call_moments zero I around n vs s cells = []
call_moments (suc more) I around n vs s cells =
    let stack : List Call = record { nonterminal = n; began = s.at } ∷ around in
    elim (ltb s.calls most_calls) [
      | false ↦ []
      | true ↦
          elim (choice I.grammar n (next_token I s).kind) [
            | unfit ↦ []
            | chosen r ↦ items_moments (run_call more I) (call_moments more I stack) I stack r.items vs (call_begun s) cells
          ]
    ]

-- of the whole: before the root's call, and those of this call
abbrev pub moments_of : Input → ℕ → List ℕ → List Moment
moments_of I root cells = moment [] initial_state ∷ call_moments most_open I [] root [] initial_state cells

-- ------------------------------------------------------------------ what is said of them

-- calls that began at one token index are of different nonterminals
pub data Apart : List Call → Type 0 where
  apart_none : Apart []
  apart_more : {c : Call} {cs : List Call} → Each (λ d. c.began ≡ d.began → c.nonterminal ≡ d.nonterminal → ⊥) cs → Apart cs → Apart (c ∷ cs)

-- whether a nonterminal is defined: it has a production
unfoldable pub has_production : List Production → ℕ → Bool
has_production [] n = false
has_production (p ∷ g) n = eqb p.nonterminal n || has_production g n

-- the numbers below k that pass a test
unfoldable pub numbers_below : ℕ → (ℕ → Bool) → List ℕ
numbers_below zero test = []
numbers_below (suc k) test = elim (test k) [ true ↦ k ∷ numbers_below k test | false ↦ numbers_below k test ]

-- the nonterminals that are defined
abbrev pub defined_in : List Production → List ℕ
defined_in g = numbers_below most.nonterminals (has_production g)
