-- Expansion of a formula's tokens by a grammar: refusals 17 to 21. Document 01, "Choice", "Formula" and "Causes, by number";
-- 001, section 4.2, Figure 3. A value is a row, a name, a label's spelling number or a number; a Unit is 0.
use Rattle.std.specs.Prelude.{ℕ, zero, suc, ◌+◌, ◌*◌}
use mathlib.Core.{Bool.Bool, Bool.true, Bool.false, Bool.◌&&◌, List.List, List.[], List.◌∷◌, List.◌++◌, List.map}
use lib.{Dec.eqb, Dec.ltb, ListN.length, ListN.get_or, Seq.sets, Count.ones}
use Rattle.answers.specs.Refusals.{refusal}
use Rattle.kinds.specs.Kinds.{only}
use Rattle.grammar.specs.Table.{Template, Templates, variable, outside_var, outside_label, make, unit, none, more, Terminal, kind_of, Item, terminal, local, call}
use Rattle.terms.specs.Cells.{columns, row_numbers, rows_lent, fresh_name, outside_name}
use Rattle.tokens.specs.declared.Token.{Token}
use Rattle.tokens.specs.Tokens.{end_token}
use Rattle.productions.specs.Normal.{Production}
use Rattle.firsts.specs.FirstSets.{nullables, first_sets, first_of, all_nullable}
use Rattle.expansion.specs.declared.State.{State}
use Rattle.expansion.specs.TextTokens.{read_value, meets, text_value, is_opened, is_placed}
use Rattle.expansion.specs.Run.{Result, done, halt, Run, return, after, ◌>>=◌}
use Rattle.expansion.specs.Limits.{most_calls, most_open}

-- ------------------------------------------------------------------ a grammar made ready

-- a production with its first set, and whether it is nullable
pub record Rule : Type 0 where
  pub nonterminal : ℕ
  pub items : List Item
  pub result : Template
  pub first : ℕ
  pub nullable : Bool

-- the rules in order, the first set of each nonterminal, and what reads a `$` variable first in items (02, C-14)
pub record Grammar : Type 0 where
  pub rules : List Rule
  pub firsts : List ℕ
  pub patterns : List Item → ℕ

abbrev pub rule_of : ℕ → List ℕ → Production → Rule
rule_of nulls firsts p =
    record { nonterminal = p.nonterminal; items = p.items; result = p.result; first = first_of nulls firsts p; nullable = all_nullable nulls p.items }

abbrev pub ready_by : (List Item → ℕ) → List Production → ℕ → List ℕ → Grammar
ready_by patterns g nulls firsts = record { rules = map (rule_of nulls firsts) g; firsts = firsts; patterns = patterns }

unfoldable pub ready_for : (List Item → ℕ) → List Production → Grammar
ready_for patterns g = ready_by patterns g (nullables g) (first_sets (nullables g) g)

-- for a formula, which has no variables
abbrev pub ready : List Production → Grammar
ready g = ready_for (λ is. 0) g

-- what an expansion reads: the grammar, the tokens, and how many cells may be made
pub record Input : Type 0 where
  pub grammar : Grammar
  pub tokens : List Token
  pub rows : ℕ

-- from the productions of a passed table, the tokens of a formula and the cells lent
abbrev pub input_of : List Production → List Token → List ℕ → Input
input_of g tokens cells = record { grammar = ready g; tokens = tokens; rows = rows_lent (length cells) }

-- ------------------------------------------------------------------ the next token

abbrev pub next_token : Input → State → Token
next_token I s = get_or I.tokens s.at end_token

abbrev pub token_taken : State → State
token_taken s = record { at = s.at + 1; fresh = s.fresh; calls = s.calls; made = s.made }

-- refusal 17: the next token is none of the kinds
abbrev pub misfit : ℕ → Run ℕ
misfit kinds s cells = halt (refusal 17 s.at kinds (ones kinds)) cells

-- takes a token of one kind, with a value made of the token's
abbrev pub take_token : Input → ℕ → (ℕ → ℕ) → Run ℕ
take_token I kind value s cells =
    elim (eqb (next_token I s).kind kind) [ true ↦ done (value (next_token I s).value) (token_taken s) cells | false ↦ misfit (only kind) s cells ]

-- ------------------------------------------------------------------ templates

abbrev pub cell_made : State → State
cell_made s = record { at = s.at; fresh = s.fresh; calls = s.calls; made = s.made + 1 }

-- one cell, in the next row: refusal 21 if there is none
abbrev pub cell : Input → ℕ → List ℕ → Run ℕ
cell I code arguments s cells =
    elim (ltb s.made I.rows) [
      | true ↦ done s.made (cell_made s) (sets cells (s.made * columns) (row_numbers code arguments))
      | false ↦ halt (refusal 21 s.at 0 0) cells
    ]

-- a template under the values of the variables: each constructor makes one cell, arguments first, left to right
unfoldable mutual
  pub build : Template → Input → List ℕ → Run ℕ
  build (variable i) I M = return (get_or M i 0)
  build (outside_var n) I M = return (outside_name n)
  build (outside_label n) I M = return n
  build (make c ts) I M = build_all ts I M >>= λ vs. cell I c vs
  build unit I M = return 0

  pub build_all : Templates → Input → List ℕ → Run (List ℕ)
  build_all none I M = return []
  build_all (more t ts) I M = build t I M >>= λ v. build_all ts I M >>= λ vs. return (v ∷ vs)

-- ------------------------------------------------------------------ items

-- a fresh name: they count through the whole formula
abbrev pub fresh_made : Run ℕ
fresh_made s cells = done (fresh_name s.fresh) (record { at = s.at; fresh = s.fresh + 1; calls = s.calls; made = s.made }) cells

-- takes what a terminal reads: a token of its kind, or of a text one that meets it (02, C-14)
abbrev pub take_terminal : Input → Terminal → Run ℕ
take_terminal I t s cells =
    elim (meets t (next_token I s)) [ true ↦ done (text_value t (next_token I s)) (token_taken s) cells | false ↦ take_token I (kind_of t) (read_value t) s cells ]

-- an item under the values of the variables; `callee` is what a call does
abbrev pub run_item : (ℕ → List ℕ → Run ℕ) → Input → Item → List ℕ → Run ℕ
run_item callee I (terminal t) M = take_terminal I t
run_item callee I local M = fresh_made
run_item callee I (call n ts) M = build_all ts I M >>= λ vs. callee n vs

-- the items from the left, each numbering one variable more
unfoldable pub run_items : (ℕ → List ℕ → Run ℕ) → Input → List Item → List ℕ → Run (List ℕ)
run_items callee I [] M = return M
run_items callee I (i ∷ is) M = run_item callee I i M >>= λ v. run_items callee I is (M ++ (v ∷ []))

-- ------------------------------------------------------------------ calls

-- the rule that is taken, if any
pub data Choice : Type 0 where
  unfit : Choice
  chosen : Rule → Choice

-- the first rule of n that passes the test, else what is given
unfoldable pub first_rule : (Rule → Bool) → ℕ → List Rule → Choice → Choice
first_rule test n [] other = other
first_rule test n (r ∷ rs) other = elim (eqb r.nonterminal n && test r) [ true ↦ chosen r | false ↦ first_rule test n rs other ]

-- Choice: the rule that opens with the next token, of a text else the one with a place for it (02, C-14), else the nullable one
abbrev pub choice : Grammar → ℕ → ℕ → Choice
choice g n kind =
    first_rule (λ r. is_opened kind r.first (g.patterns r.items)) n g.rules
    (first_rule (λ r. is_placed kind (g.patterns r.items)) n g.rules (first_rule (λ r. r.nullable) n g.rules unfit))

abbrev pub call_begun : State → State
call_begun s = record { at = s.at; fresh = s.fresh; calls = s.calls + 1; made = s.made }

-- A call of nonterminal n with arguments vs, while `open` more calls may be open: tested 19, 20, 17.
unfoldable pub run_call : ℕ → Input → ℕ → List ℕ → Run ℕ
run_call zero I n vs s cells = halt (refusal 19 s.at 0 0) cells
run_call (suc open') I n vs s cells =
    elim (ltb s.calls most_calls) [
      | false ↦ halt (refusal 20 s.at 0 0) cells
      | true ↦
          elim (choice I.grammar n (next_token I s).kind) [
            | unfit ↦ misfit (get_or I.grammar.firsts n 0) s cells
            | chosen r ↦ after (run_items (run_call open' I) I r.items vs (call_begun s) cells) (λ M. build r.result I M)
          ]
    ]

-- ------------------------------------------------------------------ the whole formula

abbrev pub initial_state : State
initial_state = record { at = 0; fresh = 1; calls = 0; made = 0 }

-- nothing is left over
abbrev pub ended : Input → ℕ → Run ℕ
ended I v s cells =
    elim (ltb s.at (length I.tokens)) [ true ↦ halt (refusal 18 s.at 0 0) cells | false ↦ done v s cells ]

-- the root is a call
unfoldable pub run : Input → ℕ → List ℕ → Result ℕ
run I root cells = after (run_call most_open I root [] initial_state cells) (ended I)
