-- Laws of the loop that gathers what opens a production: what is found with an item, and what is found with all.
use Rattle.std.specs.Prelude.{None, Some}
use Prim.Native.Nat.{ℕ, ◌-◌, ◌<◌}
use mathlib.Core.Path.{◌≡◌, refl, ap, ◌∙◌}
use mathlib.Core.Bool.{Bool, true, false}
use mathlib.Core.List.{List, [], ◌∷◌}
use lib.Bits.{bit_or, or_zero_r}
use lib.ListN.{length, get_or}
use Rattle.kinds.specs.Kinds.{has_kind, only}
use Rattle.grammar.specs.SortTests.{is_sort}
use Rattle.grammar.specs.Table.{keyword, ide, number, place, kind_of, Item, terminal, local, call}
use Rattle.grammar.specs.Lookup.{field_at, fields_at}
use Rattle.productions.specs.Index.{items_of}
use Rattle.productions.specs.declared.Terminal.{Terminal}
use Rattle.productions.specs.declared.Terminal.TheVariants.{Place}
use Rattle.productions.specs.declared.Symbol.{Symbol}
use Rattle.productions.specs.declared.Symbol.TheVariants.{Read, Local, Call}
use Rattle.productions.specs.Symbols.{terminal_in, symbol_of, with_symbol, symbol_step}
use Rattle.productions.proofs.SymbolLaws.{stepped, step_less}
use Rattle.firsts.specs.FirstSets.{is_nullable, all_nullable, opening_of, gather}
use Rattle.firsts.specs.Patterns.{only_if, place_bit}
use Rattle.patterns.specs.declared.Opening.{Opening}
use Rattle.patterns.specs.Opened.{place_of, with_item, opening_by}

-- ------------------------------------------------------------------ one item

-- A terminal that is a place has its bit.
pub place_own : {read : Terminal} {sort : ℕ} → read ≡ Place sort → {bit : ℕ} → bit ≡ only_if (is_sort sort) (place_bit sort)
    → bit ≡ place_of (terminal (terminal_in read))
place_own e b = rw e b

none_more : (set : ℕ) → bit_or (bit_or set 0) 0 ≡ set
none_more set = or_zero_r (bit_or set 0) ∙ or_zero_r set

module _ (nulls : ℕ) (sets : List ℕ) (found : Opening) where
  -- what is found looks at the symbol alone
  item_by : (item : Item) → with_item nulls sets (with_symbol (symbol_of item)) found ≡ with_item nulls sets item found
  item_by (terminal (keyword k)) = refl
  item_by (terminal (ide s)) = refl
  item_by (terminal number) = refl
  item_by (terminal (place s)) = refl
  item_by local = refl
  item_by (call n ts) = refl

  -- a terminal gives its kind, and itself as a place
  pub item_read : {symbol : Symbol} {read : Terminal} → symbol ≡ Read read → {kind set more : ℕ} → kind ≡ kind_of (terminal_in read) → set ≡ only kind
      → more ≡ bit_or found.kinds set → {own with_own : ℕ} → own ≡ place_of (terminal (terminal_in read)) → with_own ≡ bit_or found.places own
      → record { kinds = more; places = with_own; nullable = false } ≡ with_item nulls sets (with_symbol symbol) found
  item_read {read = read} es ek e em eo ew =
      rw (
        es,
        em,
        e,
        ek,
        ew,
        eo,
        or_zero_r (bit_or found.kinds (only (kind_of (terminal_in read)))),
        or_zero_r (bit_or found.places (place_of (terminal (terminal_in read)))),
      ) refl

  -- a local gives nothing
  pub item_local : {symbol : Symbol} → symbol ≡ Local
      → record { kinds = found.kinds; places = found.places; nullable = true } ≡ with_item nulls sets (with_symbol symbol) found
  item_local es = rw (es, none_more found.kinds, none_more found.places) refl

  -- a call gives the kinds of its nonterminal
  pub item_call : {symbol : Symbol} {nonterminal : ℕ} → symbol ≡ Call nonterminal → {set more : ℕ} → set ≡ get_or sets nonterminal 0
      → more ≡ bit_or found.kinds set → {test : Bool} → test ≡ has_kind nulls nonterminal
      → record { kinds = more; places = found.places; nullable = test } ≡ with_item nulls sets (with_symbol symbol) found
  item_call es e em eb = rw (es, or_zero_r found.kinds, em, e, none_more found.places, eb) refl

-- ------------------------------------------------------------------ all items

-- what is found with the items up to the first that is not nullable, behind what was found before
unfoldable pub found_with : ℕ → List ℕ → List Item → Opening → Opening
found_with nulls sets [] found = found
found_with nulls sets (i ∷ is) found =
    elim (is_nullable nulls i) [ true ↦ found_with nulls sets is (with_item nulls sets i found) | false ↦ with_item nulls sets i found ]

-- nothing is found at first
abbrev pub nothing_found : Opening
nothing_found = record { kinds = 0; places = 0; nullable = true }

-- the same, one set after the other
abbrev each_with : ℕ → List ℕ → List Item → Opening → Opening
each_with nulls sets is found =
    record {
      kinds = gather opening_of nulls sets is found.kinds;
      places = gather place_of nulls [] is found.places;
      nullable = all_nullable nulls is;
    }

each_found : (nulls : ℕ) (sets : List ℕ) (is : List Item) (found : Opening) → found.nullable ≡ true
    → found_with nulls sets is found ≡ each_with nulls sets is found
unfolding found_with gather all_nullable
each_found nulls sets [] found e = ap (λ test. record { kinds = found.kinds; places = found.places; nullable = test }) e
each_found nulls sets (i ∷ is) found e = by (is_nullable nulls i) refl (each_found nulls sets is (with_item nulls sets i found))
  where
    by : (test : Bool) → is_nullable nulls i ≡ test
        → (is_nullable nulls i ≡ true → found_with nulls sets is (with_item nulls sets i found)
        ≡ each_with nulls sets is (with_item nulls sets i found))
        → found_with nulls sets (i ∷ is) found ≡ each_with nulls sets (i ∷ is) found
    by true t f = rw (t, found_with, gather) (f t)
    by false t f = rw (t, found_with, gather, with_item, t) refl

-- what is found with the items from `at` on is what is found with all
pub record Walking (bs : List ℕ) (nulls : ℕ) (sets : List ℕ) (start : ℕ) (found : Opening) (at : ℕ) : Type 0 where
  -- all items before may read nothing
  pub goes : found.nullable ≡ true
  -- what is left gives what the whole gives
  pub rest : found_with nulls sets (items_of (fields_at bs at)) found ≡ opening_by nulls sets (items_of (fields_at bs start))

-- nothing is found at first
pub walk_start : (bs : List ℕ) (nulls : ℕ) (sets : List ℕ) (start : ℕ) → Walking bs nulls sets start nothing_found start
walk_start bs nulls sets start = record { goes = refl; rest = each_found nulls sets (items_of (fields_at bs start)) nothing_found refl }

module _ {bs : List ℕ} {nulls : ℕ} {sets : List ℕ} {start : ℕ} {found : Opening} {at : ℕ}
    (walking : Walking bs nulls sets start found at) where
  walk_none : items_of (fields_at bs at) ≡ [] → found ≡ opening_by nulls sets (items_of (fields_at bs start))
  unfolding found_with
  walk_none e = rw e at walking.rest

  -- no item is left
  pub walk_done : None ≡ symbol_step bs (field_at bs at) → found ≡ opening_by nulls sets (items_of (fields_at bs start))
  walk_done e = walk_none (stepped bs at e)

  module _ {symbol : Symbol} {after : ℕ} (equal : Some (symbol, after) ≡ symbol_step bs (field_at bs at)) where
    -- behind an item less is left
    pub walk_less : length bs - after < length bs - at
    walk_less = step_less bs at equal

    module _ {more : Opening} (em : more ≡ with_item nulls sets (with_symbol symbol) found) where
      abbrev item : Item
      item = (stepped bs at equal).item

      finds : more ≡ with_item nulls sets item found
      finds = rw (stepped bs at equal).symbol at em ∙ item_by nulls sets found item

      tested : {test : Bool} → more.nullable ≡ test → is_nullable nulls item ≡ test
      tested e = rw finds at e

      -- past an item that may read nothing
      pub walk-next : more.nullable ≡ true → Walking bs nulls sets start more after
      unfolding found_with
      walk-next e = record { goes = e; rest = rw finds (rw ((stepped bs at equal).items, tested e, found_with) at walking.rest) }

      -- an item that reads is the last
      pub walk_stop : more.nullable ≡ false → more ≡ opening_by nulls sets (items_of (fields_at bs start))
      unfolding found_with
      walk_stop e = finds ∙ (rw ((stepped bs at equal).items, tested e, found_with) at walking.rest)
