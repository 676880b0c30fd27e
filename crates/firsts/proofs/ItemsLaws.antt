-- Laws of the loop over the items of an alternative: what is found with an item, and what is found with all.
use Rattle.std.specs.Prelude.{None, Some}
use Prim.Native.Nat.{ℕ, ◌-◌, ◌<◌}
use mathlib.Core.Path.{◌≡◌, refl, ap, ◌∙◌}
use mathlib.Core.Bool.{Bool, true, false}
use mathlib.Core.List.{List, [], ◌∷◌}
use lib.Bits.{bit_or, or_zero_r}
use lib.ListN.{length, get_or}
use Rattle.kinds.specs.Kinds.{has_kind, only}
use Rattle.grammar.specs.Table.{keyword, ide, number, place, kind_of, Item, terminal, local, call}
use Rattle.grammar.specs.Lookup.{field_at, fields_at}
use Rattle.productions.specs.Index.{items_of}
use Rattle.productions.specs.declared.Terminal.{Terminal}
use Rattle.productions.specs.declared.Symbol.{Symbol}
use Rattle.productions.specs.declared.Symbol.TheVariants.{Read, Local, Call}
use Rattle.productions.specs.Symbols.{terminal_in, symbol_of, with_symbol, symbol_step}
use Rattle.productions.proofs.SymbolLaws.{stepped, step_less}
use Rattle.firsts.specs.declared.Gathered.{Gathered}
use Rattle.firsts.specs.SetCalls.{with_item, gathered}
use Rattle.firsts.specs.FirstSets.{is_nullable, all_nullable, opening_of, call_of, gather}

-- ------------------------------------------------------------------ one item

none_more : (set : ℕ) → bit_or (bit_or set 0) 0 ≡ set
none_more set = or_zero_r (bit_or set 0) ∙ or_zero_r set

module _ (nulls : ℕ) (kinds calls : List ℕ) (found : Gathered) where
  -- what is found looks at the symbol alone
  item_by : (item : Item) → with_item nulls kinds calls (with_symbol (symbol_of item)) found ≡ with_item nulls kinds calls item found
  item_by (terminal (keyword k)) = refl
  item_by (terminal (ide s)) = refl
  item_by (terminal number) = refl
  item_by (terminal (place s)) = refl
  item_by local = refl
  item_by (call n ts) = refl

  -- a terminal gives its kind
  pub item_read : {symbol : Symbol} {read : Terminal} → symbol ≡ Read read → {kind set more : ℕ} → kind ≡ kind_of (terminal_in read) → set ≡ only kind
      → more ≡ bit_or found.kinds set
      → record { kinds = more; calls = found.calls; nullable = false } ≡ with_item nulls kinds calls (with_symbol symbol) found
  item_read {read = read} es ek e em =
      rw (es, em, e, ek, or_zero_r (bit_or found.kinds (only (kind_of (terminal_in read)))), none_more found.calls) refl

  -- a local gives nothing
  pub item_local : {symbol : Symbol} → symbol ≡ Local
      → record { kinds = found.kinds; calls = found.calls; nullable = true } ≡ with_item nulls kinds calls (with_symbol symbol) found
  item_local es = rw (es, none_more found.kinds, none_more found.calls) refl

  -- a call gives its nonterminal, and what this one gives
  pub item_call : {symbol : Symbol} {nonterminal : ℕ} → symbol ≡ Call nonterminal → {set more : ℕ} → set ≡ get_or kinds nonterminal 0
      → more ≡ bit_or found.kinds set → {own with_own through called : ℕ} → own ≡ only nonterminal → with_own ≡ bit_or found.calls own
      → through ≡ get_or calls nonterminal 0 → called ≡ bit_or with_own through → {test : Bool} → test ≡ has_kind nulls nonterminal
      → record { kinds = more; calls = called; nullable = test } ≡ with_item nulls kinds calls (with_symbol symbol) found
  item_call es e em eo ew et ec eb = rw (es, or_zero_r found.kinds, em, e, ec, ew, eo, et, eb) refl

-- ------------------------------------------------------------------ all items

-- what is found with the items up to the first that is not nullable, behind what was found before
unfoldable pub found_with : ℕ → List ℕ → List ℕ → List Item → Gathered → Gathered
found_with nulls kinds calls [] found = found
found_with nulls kinds calls (i ∷ is) found =
    elim (is_nullable nulls i) [ true ↦ found_with nulls kinds calls is (with_item nulls kinds calls i found) | false ↦ with_item nulls kinds calls i found ]

-- nothing is found at first
abbrev pub nothing_found : Gathered
nothing_found = record { kinds = 0; calls = 0; nullable = true }

-- the same, one set after the other
abbrev each_with : ℕ → List ℕ → List ℕ → List Item → Gathered → Gathered
each_with nulls kinds calls is found =
    record {
      kinds = gather opening_of nulls kinds is found.kinds;
      calls = gather call_of nulls calls is found.calls;
      nullable = all_nullable nulls is;
    }

each_found : (nulls : ℕ) (kinds calls : List ℕ) (is : List Item) (found : Gathered) → found.nullable ≡ true
    → found_with nulls kinds calls is found ≡ each_with nulls kinds calls is found
unfolding found_with gather all_nullable
each_found nulls kinds calls [] found e = ap (λ test. record { kinds = found.kinds; calls = found.calls; nullable = test }) e
each_found nulls kinds calls (i ∷ is) found e = by (is_nullable nulls i) refl (each_found nulls kinds calls is (with_item nulls kinds calls i found))
  where
    by : (test : Bool) → is_nullable nulls i ≡ test
        → (is_nullable nulls i ≡ true → found_with nulls kinds calls is (with_item nulls kinds calls i found)
        ≡ each_with nulls kinds calls is (with_item nulls kinds calls i found))
        → found_with nulls kinds calls (i ∷ is) found ≡ each_with nulls kinds calls (i ∷ is) found
    by true t f = rw (t, found_with, gather) (f t)
    by false t f = rw (t, found_with, gather, with_item, t) refl

-- what is found with the items from `at` on is what is found with all
pub record Walking (bs : List ℕ) (nulls : ℕ) (kinds calls : List ℕ) (start : ℕ) (found : Gathered) (at : ℕ) : Type 0 where
  -- all items before may read nothing
  pub goes : found.nullable ≡ true
  -- what is left gives what the whole gives
  pub rest : found_with nulls kinds calls (items_of (fields_at bs at)) found ≡ gathered nulls kinds calls (items_of (fields_at bs start))

-- nothing is found at first
pub walk_start : (bs : List ℕ) (nulls : ℕ) (kinds calls : List ℕ) (start : ℕ) → Walking bs nulls kinds calls start nothing_found start
walk_start bs nulls kinds calls start = record { goes = refl; rest = each_found nulls kinds calls (items_of (fields_at bs start)) nothing_found refl }

module _ {bs : List ℕ} {nulls : ℕ} {kinds calls : List ℕ} {start : ℕ} {found : Gathered} {at : ℕ}
    (walking : Walking bs nulls kinds calls start found at) where
  walk_none : items_of (fields_at bs at) ≡ [] → found ≡ gathered nulls kinds calls (items_of (fields_at bs start))
  unfolding found_with
  walk_none e = rw e at walking.rest

  -- no item is left
  pub walk_done : None ≡ symbol_step bs (field_at bs at) → found ≡ gathered nulls kinds calls (items_of (fields_at bs start))
  walk_done e = walk_none (stepped bs at e)

  module _ {symbol : Symbol} {after : ℕ} (equal : Some (symbol, after) ≡ symbol_step bs (field_at bs at)) where
    -- behind an item less is left
    pub walk_less : length bs - after < length bs - at
    walk_less = step_less bs at equal

    module _ {more : Gathered} (em : more ≡ with_item nulls kinds calls (with_symbol symbol) found) where
      abbrev item : Item
      item = (stepped bs at equal).item

      finds : more ≡ with_item nulls kinds calls item found
      finds = rw (stepped bs at equal).symbol at em ∙ item_by nulls kinds calls found item

      tested : {test : Bool} → more.nullable ≡ test → is_nullable nulls item ≡ test
      tested e = rw finds at e

      -- past an item that may read nothing
      pub walk-next : more.nullable ≡ true → Walking bs nulls kinds calls start more after
      unfolding found_with
      walk-next e = record { goes = e; rest = rw finds (rw ((stepped bs at equal).items, tested e, found_with) at walking.rest) }

      -- an item that reads is the last
      pub walk_stop : more.nullable ≡ false → more ≡ gathered nulls kinds calls (items_of (fields_at bs start))
      unfolding found_with
      walk_stop e = finds ∙ (rw ((stepped bs at equal).items, tested e, found_with) at walking.rest)
