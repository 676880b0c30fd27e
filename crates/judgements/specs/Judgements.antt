-- The judgements of 001, section 4.1, as document 01 changes them: one inductive type a judgement, one constructor a rule, one premise a line.
-- Variables and nonterminals are numbers, so that nothing is shadowed; a local environment L is the list of the sorts of the variables 0, 1, .. .
-- A global environment E has its newest entry first.
--
-- The paper has one judgement E; L ⊢ p : B over all productions p. A table cannot write `unit`, p1 p2 that binds nothing, a choice but between
-- the alternatives of a definition, nor an argument that reads a token or calls; so p is a template (`Sorted`), an item (`ItemSorted`), items
-- in sequence with a template behind them (`Body`); a choice of these, grammars and sequences are in Elaboration.
-- Document 01 changes: a Binder may stand where Var is asked (`Fits`); a number is read; an outside name may be a Label; keywords and outside
-- names must be defined (cause 9); add needs a number that no earlier grammar uses.
use Rattle.std.specs.Prelude.{ℕ, suc, ◌≤◌, ◌<◌, ◌≡◌, List, [], ◌∷◌, ◌++◌}
use Rattle.grammar.specs.Sorts.{Signature, unit, var, binder, label, num, constructor}
use Rattle.grammar.specs.Table as Table
use Rattle.grammar.specs.Table.{Template, Templates, variable, outside_var, outside_label, make, none, more}
use Rattle.grammar.specs.Table.{keyword, ide, number, place, Item, terminal, local, call}
use Rattle.grammar.specs.Table.{add, extend, update, DefinitionOf}
use Rattle.judgements.specs.Scopes.{Declaration, Env, entry_of, Scope}

-- ------------------------------------------------------------------ environments

-- L, x : B, L' has x : B
pub data Has : List ℕ → ℕ → ℕ → Type 0 where
  has_first : {B : ℕ} {L : List ℕ} → Has (B ∷ L) 0 B
  has_later : {A B i : ℕ} {L : List ℕ} → Has L i B → Has (A ∷ L) (suc i) B

-- E, x : S, E' has x : S where x is not in Dom(E')
pub data Newest : Env → ℕ → Signature → Type 0 where
  newest_first : {e : Declaration} {E : Env} → Newest (e ∷ E) e.nonterminal e.signature
  newest_later : {e : Declaration} {E : Env} {n : ℕ} {S : Signature}
      → (e.nonterminal ≡ n → ⊥)
      → Newest E n S
      → Newest (e ∷ E) n S

-- x is not in Dom(E)
pub data Undeclared : Env → ℕ → Type 0 where
  absent_empty : {n : ℕ} → Undeclared [] n
  absent_entry : {e : Declaration} {E : Env} {n : ℕ}
      → (e.nonterminal ≡ n → ⊥)
      → Undeclared E n
      → Undeclared (e ∷ E) n

-- what has sort A may stand where B is asked (01: a Binder where Var is asked; otherwise the sorts are equal)
pub data Fits : ℕ → ℕ → Type 0 where
  fits_equal : {B : ℕ} → Fits B B
  fits_binder : Fits binder var

-- ------------------------------------------------------------------ E; L ⊢ p : B

-- Templates, where N outside names are defined: x, global(x), 01's outside name as a Label, c(p1, .., pk), c being 20 to 27, and 02's Unit of a text.
-- Fill: E; L ⊢ pi : Bi for each place, as many templates as places.
mutual
  pub data Sorted (N : ℕ) (L : List ℕ) : Template → ℕ → Type 0 where
    by_variable : {i B : ℕ}
        → Has L i B
        → Sorted N L (variable i) B
    by_global : {x : ℕ}
        → x < N
        → Sorted N L (outside_var x) var
    by_label : {x : ℕ}
        → x < N
        → Sorted N L (outside_label x) label
    by_constructor : {c : ℕ} {ts : Templates}
        → 0x20 ≤ c
        → c ≤ 0x27
        → Fill N L ts (constructor c).params
        → Sorted N L (make c ts) (constructor c).result
    by_unit : Sorted N L Table.unit unit

  pub data Fill (N : ℕ) (L : List ℕ) : Templates → List ℕ → Type 0 where
    fill_none : Fill N L none []
    fill_more : {t : Template} {ts : Templates} {A B : ℕ} {Bs : List ℕ}
        → Sorted N L t A
        → Fits A B
        → Fill N L ts Bs
        → Fill N L (more t ts) (B ∷ Bs)

-- items: "x", ide(B) where B ∈ {Var, Binder, Label}, 01's number, 02's pattern place of a sort, local, and x(p1, .., pk)
pub data ItemSorted (G : Scope) (L : List ℕ) : Item → ℕ → Type 0 where
  by_keyword : {k : ℕ}
      → k < G.keywords
      → ItemSorted G L (terminal (keyword k)) unit
  by_ide : {B : ℕ}
      → var ≤ B
      → B ≤ label
      → ItemSorted G L (terminal (ide B)) B
  by_number : ItemSorted G L (terminal number) num
  by_place : {B : ℕ}
      → B ≤ num
      → ItemSorted G L (terminal (place B)) B
  by_local : ItemSorted G L local binder
  by_call : {n : ℕ} {S : Signature} {ts : Templates}
      → Newest G.env n S
      → Fill G.outsides L ts S.params
      → ItemSorted G L (call n ts) S.result

-- the sorts of the variables after some items of an alternative
pub data Numbered (G : Scope) : List ℕ → List Item → List ℕ → Type 0 where
  no_item : {L : List ℕ} → Numbered G L [] L
  one_more : {L L' : List ℕ} {i : Item} {is : List Item} {A : ℕ} → ItemSorted G L i A → Numbered G (L ++ (A ∷ [])) is L' → Numbered G L (i ∷ is) L'

-- an alternative is x1 = p1 .. xk = pk, then a template: sequential composition with bindings
pub data Body (G : Scope) : List ℕ → List Item → Template → ℕ → Type 0 where
  by_result : {L : List ℕ} {t : Template} {A B : ℕ}
      → Sorted G.outsides L t A
      → Fits A B
      → Body G L [] t B
  by_binding : {L : List ℕ} {i : Item} {is : List Item} {t : Template} {A B : ℕ}
      → ItemSorted G L i A
      → Body G (L ++ (A ∷ [])) is t B
      → Body G L (i ∷ is) t B

-- E ⊢ g :: E': the signatures of g's definitions from the left, after those in `own`, whatever their results are; 01: add needs a number that E lacks too
pub data Defines {R : Type 0} (E : Env) : Env → List (DefinitionOf R) → Env → Type 0 where
  no_definition : {own : Env} → Defines E own [] own
  by_add : {own own' : Env} {d : DefinitionOf R} {ds : List (DefinitionOf R)}
      → d.mode ≡ add
      → Undeclared own d.nonterminal
      → Undeclared E d.nonterminal
      → Defines E (entry_of d ∷ own) ds own'
      → Defines E own (d ∷ ds) own'
  by_extend : {own own' : Env} {d : DefinitionOf R} {ds : List (DefinitionOf R)}
      → d.mode ≡ extend
      → Undeclared own d.nonterminal
      → Newest E d.nonterminal d.signature
      → Defines E (entry_of d ∷ own) ds own'
      → Defines E own (d ∷ ds) own'
  by_update : {own own' : Env} {d : DefinitionOf R} {ds : List (DefinitionOf R)}
      → d.mode ≡ update
      → Undeclared own d.nonterminal
      → Newest E d.nonterminal d.signature
      → Defines E (entry_of d ∷ own) ds own'
      → Defines E own (d ∷ ds) own'

abbrev pub scope : ℕ → ℕ → Env → Scope
scope K N E = record { keywords = K; outsides = N; env = E }
