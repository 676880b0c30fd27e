-- Where an expansion stops, by rules: refusals 17 to 21 in step order, a call being tested 19, 20, 17. Document 01, "Causes, by number".
-- Everything before the step that fails is derived by Figure 3, within the limits.
use Rattle.std.specs.Prelude.{ℕ, ◌+◌, ◌*◌, ◌-◌, ◌≤◌, ◌<◌, ◌≡◌, true, ◌↔◌, List, [], ◌∷◌}
use lib.{ListN.length, ListN.get_or, Count.ones}
use Rattle.answers.specs.declared.Refusal.{Refusal}
use Rattle.answers.specs.Refusals.{refusal}
use Rattle.kinds.specs.Kinds.{has_kind, only}
use Rattle.kinds.specs.TextKinds.{variable_kind}
use Rattle.grammar.specs.Table.{Templates, none, place, Item, terminal, call}
use Rattle.terms.specs.Cells.{columns}
use Rattle.tokens.specs.declared.Token.{Token}
use Rattle.productions.specs.Normal.{Production}
use Rattle.firsts.specs.Rules.{Reads, Opens}
use Rattle.expansion.specs.Limits.{most_calls, most_open}
use Rattle.expansion.specs.Figure3.{Value, Gives, GiveAll, Next, Taken, Derives}
use Rattle.expansion.specs.Costs.{rows_of, rows_of_all, calls_in, rows_in, Affords}

-- the index of the next token where s is left: the token count at the end
abbrev pub next_index : List Token → List Token → ℕ
next_index tokens s = length tokens - length s

-- the first set of n as a number: its bits are the kinds that open n
abbrev pub FirstSet : List Production → ℕ → ℕ → Type 0
FirstSet g n set = (k : ℕ) → (has_kind set k ≡ true) ↔ Opens g n k

-- what a step does: it takes a token of a kind, makes so many cells, or begins a call of a nonterminal
pub data Action : Type 0 where
  takes : ℕ → Action
  makes : ℕ → Action
  begins : ℕ → Action

-- from row m on the cells at exit are as lent, and as many
pub record Left (m : ℕ) (cells cells' : List ℕ) : Type 0 where
  pub as_many : length cells' ≡ length cells
  pub same : (j : ℕ) → m * columns ≤ j → get_or cells' j 0 ≡ get_or cells j 0

module _ (g : List Production) (spell : ℕ → List ℕ) (rows : ℕ) (tokens : List Token) where
  -- A step fails where o calls are open, c are begun, m cells are made, and the tokens s are left. It leaves the m cells made; a step that
  -- makes more cells than there are rows for fills all rows first.
  pub data Fails (o c m : ℕ) (s : List Token) : Action → Refusal → ℕ → Type 0 where
    no_token : {k : ℕ} → ¬ Next s k → Fails o c m s (takes k) (refusal 17 (next_index tokens s) (only k) (ones (only k))) m
    no_row : {n : ℕ} → rows < m + n → Fails o c m s (makes n) (refusal 21 (next_index tokens s) 0 0) rows
    too_deep : {n : ℕ} → most_open ≤ o → Fails o c m s (begins n) (refusal 19 (next_index tokens s) 0 0) m
    too_many_calls : {n : ℕ}
        → o < most_open
        → most_calls ≤ c
        → Fails o c m s (begins n) (refusal 20 (next_index tokens s) 0 0) m
    no_choice : {n set : ℕ}
        → o < most_open
        → c < most_calls
        → ((p : Production) → Taken g n s p → ⊥)
        → FirstSet g n set
        → Fails o c m s (begins n) (refusal 17 (next_index tokens s) set (ones set)) m

  -- the parse of items, and a call of a nonterminal with arguments, stop at a step that fails, with the cells made by then; at a
  -- pattern place a formula always does, as no token of it is a variable, whose kind is in no set (document 02, C-14)
  mutual
    pub data Stops : ℕ → ℕ → ℕ → List Value → List Token → ℕ → List Item → Refusal → ℕ → Type 0 where
      at_token : {o c m made i k : ℕ} {M : List Value} {s : List Token} {p : Item} {ps : List Item} {r : Refusal}
          → Reads p k
          → Fails o c m s (takes k) r made
          → Stops o c m M s i (p ∷ ps) r made
      at_place : {o c m made i B : ℕ} {M : List Value} {s : List Token} {ps : List Item} {r : Refusal}
          → Fails o c m s (takes (variable_kind B)) r made
          → Stops o c m M s i (terminal (place B) ∷ ps) r made
      at_arguments : {o c m made i n : ℕ} {M vs : List Value} {s : List Token} {ts : Templates} {ps : List Item} {r : Refusal}
          → GiveAll spell M ts vs
          → Fails o c m s (makes (rows_of_all ts)) r made
          → Stops o c m M s i (call n ts ∷ ps) r made
      at_call : {o c m made i n : ℕ} {M vs : List Value} {s : List Token} {ts : Templates} {ps : List Item} {r : Refusal}
          → GiveAll spell M ts vs
          → m + rows_of_all ts ≤ rows
          → CallStops o c (m + rows_of_all ts) n vs s i r made
          → Stops o c m M s i (call n ts ∷ ps) r made
      past_item : {o c m made i i' : ℕ} {M M' : List Value} {s s' : List Token} {p : Item} {ps : List Item} {r : Refusal}
          → (d : Derives g spell M s i (p ∷ []) s' i' M')
          → Affords rows o c m d
          → Stops o (c + calls_in d) (m + rows_in d) M' s' i' ps r made
          → Stops o c m M s i (p ∷ ps) r made

    pub data CallStops : ℕ → ℕ → ℕ → ℕ → List Value → List Token → ℕ → Refusal → ℕ → Type 0 where
      at-start : {o c m made i n : ℕ} {vs : List Value} {s : List Token} {r : Refusal}
          → Fails o c m s (begins n) r made
          → CallStops o c m n vs s i r made
      in_items : {o c m made i n : ℕ} {vs : List Value} {s : List Token} {r : Refusal} {p : Production}
          → o < most_open
          → c < most_calls
          → Taken g n s p
          → Stops (o + 1) (c + 1) m vs s i p.items r made
          → CallStops o c m n vs s i r made
      at_result : {o c m made i i' n : ℕ} {vs M : List Value} {v : Value} {s s' : List Token} {r : Refusal} {p : Production}
          → Taken g n s p
          → (d : Derives g spell vs s i p.items s' i' M)
          → Affords rows (o + 1) (c + 1) m d
          → Gives spell M p.result v
          → Fails (o + 1) (c + 1 + calls_in d) (m + rows_in d) s' (makes (rows_of p.result)) r made
          → CallStops o c m n vs s i r made

  -- refusals 17 to 21 of a whole formula, which is one call, of the root; 18: the call is derived, and a token is left over
  pub data Refuses (root : ℕ) : Refusal → ℕ → Type 0 where
    stops : {r : Refusal} {made : ℕ}
        → Stops 0 0 0 [] tokens 1 (call root none ∷ []) r made
        → Refuses root r made
    left_over : {i : ℕ} {M : List Value} {t : Token} {s : List Token}
        → (d : Derives g spell [] tokens 1 (call root none ∷ []) (t ∷ s) i M)
        → Affords rows 0 0 0 d
        → Refuses root (refusal 18 (next_index tokens (t ∷ s)) 0 0) (rows_in d)
