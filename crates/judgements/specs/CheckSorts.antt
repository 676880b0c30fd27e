-- The static check of a grammar's heads and items: refusals 7, 8, 9 and 11, with their order and places. Results, and the sequence, are in
-- elaboration/specs/CheckSequence. 001, section 4.1: environments E and L, the pass E ⊢ g :: E', and E; L ⊢ p : B. `at` is always the place of a part's field.
use Rattle.std.specs.Prelude.{ℕ, ◌+◌, Bool, true, false, not, ◌&&◌, List, [], ◌∷◌, ◌++◌}
use lib.{Dec.eqb, Dec.ltb, ListN.length, ListN.get_or}
use Rattle.answers.specs.Checked.{Checked, ok, ◌>>=◌, ◌>>◌, need}
use Rattle.spellings.specs.Bytes.{same}
use Rattle.grammar.specs.Sorts.{Signature, gives, unit, var, binder, label, num, constructor}
use Rattle.grammar.specs.SortTests.{fits}
use Rattle.grammar.specs.Table as Table
use Rattle.grammar.specs.Table.{Template, Templates, variable, outside_var, outside_label, make, none, more, keyword, ide, number, Item, terminal, local, call}
use Rattle.grammar.specs.Table.{place, Mode, add, extend, update, DefinitionOf}
use Rattle.grammar.specs.Written.{WrittenDefinition}
use Rattle.grammar.specs.Values.{item_value}
use Rattle.judgements.specs.Sizes.{field_size, definition_size}
use Rattle.judgements.specs.Scopes.{Env, Scope, entry_of}

-- ------------------------------------------------------------------ global environments E

unfoldable pub is_defined : Env → ℕ → Bool
is_defined [] n = false
is_defined (e ∷ E) n = elim (eqb e.nonterminal n) [ true ↦ true | false ↦ is_defined E n ]

-- the newest signature of a nonterminal
unfoldable pub signature_of : Env → ℕ → Signature
signature_of [] n = gives [] unit
signature_of (e ∷ E) n = elim (eqb e.nonterminal n) [ true ↦ e.signature | false ↦ signature_of E n ]

-- equal code by code
abbrev pub same_signature : Signature → Signature → Bool
same_signature S S' = same (S.result ∷ S.params) (S'.result ∷ S'.params)

-- ------------------------------------------------------------------ E ⊢ g :: E', refusals 7 and 8

-- an earlier block defined the nonterminal with the same signature, and this block, of which `own` has what stands before, did not
abbrev pub is_as_before : {R : Type 0} → Env → Env → DefinitionOf R → Bool
is_as_before E own d =
    not (is_defined own d.nonterminal) && is_defined E d.nonterminal
    && same_signature (signature_of E d.nonterminal) d.signature

-- neither this block nor an earlier one defined it
abbrev pub is_unused : {R : Type 0} → Env → Env → DefinitionOf R → Bool
is_unused E own d = not (is_defined own d.nonterminal) && not (is_defined E d.nonterminal)

abbrev pub consistent : {R : Type 0} → Mode → Env → Env → DefinitionOf R → ℕ → Checked (Unit {0})
consistent add E own d at = need (is_unused E own d) 7 at
consistent extend E own d at = need (is_as_before E own d) 8 at
consistent update E own d at = need (is_as_before E own d) 8 at

-- the signatures of a block
unfoldable pub collect : Env → Env → ℕ → List WrittenDefinition → Checked Env
collect E own at [] = ok own
collect E own at (d ∷ ds) = consistent d.mode E own d at >> collect E (entry_of d ∷ own) (at + definition_size d) ds

-- ------------------------------------------------------------------ E; L ⊢ p : B, refusals 9 and 11

-- every variable and name of a template is defined; n variables are numbered already
unfoldable mutual
  pub is_closed : Template → Scope → ℕ → Bool
  is_closed (variable i) G n = ltb i n
  is_closed (outside_var x) G n = ltb x G.outsides
  is_closed (outside_label x) G n = ltb x G.outsides
  is_closed (make c ts) G n = are_closed ts G n
  is_closed Table.unit G n = true

  pub are_closed : Templates → Scope → ℕ → Bool
  are_closed none G n = true
  are_closed (more t ts) G n = is_closed t G n && are_closed ts G n

-- the sort of a template, where L gives the sorts of the variables
abbrev pub sort_of : Template → List ℕ → ℕ
sort_of (variable i) L = get_or L i unit
sort_of (outside_var x) L = var
sort_of (outside_label x) L = label
sort_of (make c ts) L = (constructor c).result
sort_of Table.unit L = unit

-- the arguments of every constructor in a template fit their places
unfoldable mutual
  pub is_sorted : Template → List ℕ → Bool
  is_sorted (variable i) L = true
  is_sorted (outside_var x) L = true
  is_sorted (outside_label x) L = true
  is_sorted (make c ts) L = fill ts L (constructor c).params
  is_sorted Table.unit L = true

  -- templates fill places one by one: as many, and each sorted and fitting
  pub fill : Templates → List ℕ → List ℕ → Bool
  fill none L [] = true
  fill none L (p ∷ ps) = false
  fill (more t ts) L [] = false
  fill (more t ts) L (p ∷ ps) = is_sorted t L && fits (sort_of t L) p && fill ts L ps

-- an item, and the sort of the variable that it numbers
abbrev pub check_item : Scope → List ℕ → ℕ → Item → Checked ℕ
check_item G L at (terminal (keyword k)) = need (ltb k G.keywords) 9 at >> ok unit
check_item G L at (terminal (ide s)) = ok s
check_item G L at (terminal number) = ok num
check_item G L at (terminal (place s)) = ok s
check_item G L at local = ok binder
check_item G L at (call n ts) =
    need (is_defined G.env n && are_closed ts G (length L)) 9 at
    >> need (fill ts L (signature_of G.env n).params) 11 at >> ok (signature_of G.env n).result

-- the items of an alternative from the left, and the sorts of all its variables
unfoldable pub check_items : Scope → List ℕ → ℕ → List Item → Checked (List ℕ)
check_items G L at [] = ok L
check_items G L at (i ∷ is) = check_item G L at i >>= λ s. check_items G (L ++ (s ∷ [])) (at + field_size (item_value i)) is
