-- Laws of gathering what reads a variable first: one item, the loop over the items of an alternative, the round over productions, and all rounds.
use Rattle.std.specs.Prelude.{None, Some}
use Prim.Native.Nat.{ℕ, zero, suc, ◌+◌, ◌-◌, ◌<◌, ◌≤◌}
use mathlib.Core.Path.{◌≡◌, refl, sym, ap, ◌∙◌}
use mathlib.Core.Bool.{Bool, true, false, not, ◌||◌, true≢false}
use mathlib.Core.List.{List, [], ◌∷◌}
use native.Mathlib.Omega.{arith}
use lib.Dec.{eqb}
use borrow.Author.Tests.{eqb-true, leb-true}
use lib.Bits.{bit_or, or_zero_r}
use lib.ListN.{length, get_or, set, replicate, length-set}
use Rattle.kinds.specs.Kinds.{has_kind, only}
use Rattle.grammar.specs.SortTests.{is_sort, is_ide_sort}
use Rattle.grammar.specs.Table.{keyword, ide, number, place, Item, terminal, local, call}
use Rattle.grammar.specs.Lookup.{field_at, fields_at}
use Rattle.productions.specs.Normal.{Production}
use Rattle.productions.specs.Index.{items_of, production_at, productions_by}
use Rattle.productions.specs.declared.Terminal.{Terminal}
use Rattle.productions.specs.declared.Terminal.TheVariants.{Keyword, Ide, Number, Place}
use Rattle.productions.specs.declared.Symbol.{Symbol}
use Rattle.productions.specs.declared.Symbol.TheVariants.{Read, Local, Call}
use Rattle.productions.specs.Symbols.{terminal_in, symbol_of, with_symbol, symbol_step}
use Rattle.productions.proofs.SymbolLaws.{stepped, step_less}
use Rattle.firsts.specs.FirstSets.{rounds, over_all, is_nullable, joined, gather, first_step, sets_of}
use Rattle.firsts.specs.Patterns.{only_if, place_bit, pattern_of, pattern_sets}
use Rattle.firsts.proofs.StepLaws.{Over, over_start, over_next, over_end, join_past}
use Rattle.patterns.specs.Grown.{Grown}

-- ------------------------------------------------------------------ one item

-- The bit of an ide's sort,
pub bit_known : (sort : ℕ) {known : Bool} → known ≡ is_ide_sort sort → known ≡ true → {bit : ℕ} → bit ≡ only sort → bit ≡ only_if (is_ide_sort sort) sort
bit_known sort e t b = rw (sym e ∙ t) b

-- or nothing of what is none.
pub bit_unknown : (sort : ℕ) {known : Bool} → known ≡ is_ide_sort sort → known ≡ false → 0 ≡ only_if (is_ide_sort sort) sort
bit_unknown sort e t = rw (sym e ∙ t) refl

-- A place's sort is small,
pub sort_small : (sort : ℕ) {known : Bool} → known ≡ is_sort sort → known ≡ true → sort ≤ 6
sort_small sort e t = leb-true sort 6 (sym e ∙ t)

-- so that it has its bit,
pub place_known : (sort : ℕ) {known : Bool} → known ≡ is_sort sort → known ≡ true → {bit : ℕ} → bit ≡ only (place_bit sort)
    → bit ≡ only_if (is_sort sort) (place_bit sort)
place_known sort e t b = rw (sym e ∙ t) b

-- and what is none has nothing.
pub place_unknown : (sort : ℕ) {known : Bool} → known ≡ is_sort sort → known ≡ false → 0 ≡ only_if (is_sort sort) (place_bit sort)
place_unknown sort e t = rw (sym e ∙ t) refl

module _ {read : Terminal} where
  -- A keyword gives nothing,
  pub pattern_keyword : {k : ℕ} → read ≡ Keyword k → 0 ≡ pattern_of (terminal (terminal_in read))
  pattern_keyword e = rw e refl

  -- an ide its bit,
  pub pattern_ide : {sort : ℕ} → read ≡ Ide sort → {bit : ℕ} → bit ≡ only_if (is_ide_sort sort) sort → bit ≡ pattern_of (terminal (terminal_in read))
  pattern_ide e b = rw e b

  -- a number nothing,
  pub pattern_number : read ≡ Number → 0 ≡ pattern_of (terminal (terminal_in read))
  pattern_number e = rw e refl

  -- a place its own.
  pub pattern_place : {sort : ℕ} → read ≡ Place sort → {bit : ℕ} → bit ≡ only_if (is_sort sort) (place_bit sort)
      → bit ≡ pattern_of (terminal (terminal_in read))
  pattern_place e b = rw e b

module _ (sets : List ℕ) (found : ℕ) {symbol : Symbol} where
  -- A terminal gives what it reads a variable at,
  pub item_read : {read : Terminal} → symbol ≡ Read read → {own more : ℕ} → own ≡ pattern_of (terminal (terminal_in read)) → more ≡ bit_or found own
      → more ≡ joined pattern_of sets (with_symbol symbol) found
  item_read es eo em = rw (es, em, eo) (sym (or_zero_r _))

  -- a local nothing,
  pub item_local : symbol ≡ Local → found ≡ joined pattern_of sets (with_symbol symbol) found
  item_local es = rw es (sym (or_zero_r (bit_or found 0) ∙ or_zero_r found))

  -- a call what its nonterminal gives.
  pub item_call : {nonterminal : ℕ} → symbol ≡ Call nonterminal → {set more : ℕ} → set ≡ get_or sets nonterminal 0 → more ≡ bit_or found set
      → more ≡ joined pattern_of sets (with_symbol symbol) found
  item_call es e em = rw (es, em, e, or_zero_r found) refl

module _ (nulls : ℕ) {symbol : Symbol} where
  -- A terminal reads,
  pub nullable_read : {read : Terminal} → symbol ≡ Read read → false ≡ is_nullable nulls (with_symbol symbol)
  nullable_read e = rw e refl

  -- a local does not,
  pub nullable_local : symbol ≡ Local → true ≡ is_nullable nulls (with_symbol symbol)
  nullable_local e = rw e refl

  -- a call may read nothing if its nonterminal is nullable.
  pub nullable_call : {nonterminal : ℕ} → symbol ≡ Call nonterminal → {test : Bool} → test ≡ has_kind nulls nonterminal
      → test ≡ is_nullable nulls (with_symbol symbol)
  nullable_call e t = rw e t

-- both look at the symbol alone
item_by : (sets : List ℕ) (found : ℕ) (item : Item) → joined pattern_of sets (with_symbol (symbol_of item)) found ≡ joined pattern_of sets item found
item_by sets found (terminal (keyword k)) = refl
item_by sets found (terminal (ide s)) = refl
item_by sets found (terminal number) = refl
item_by sets found (terminal (place s)) = refl
item_by sets found local = refl
item_by sets found (call n ts) = refl

nullable_by : (nulls : ℕ) (item : Item) → is_nullable nulls (with_symbol (symbol_of item)) ≡ is_nullable nulls item
nullable_by nulls (terminal t) = refl
nullable_by nulls local = refl
nullable_by nulls (call n ts) = refl

-- ------------------------------------------------------------------ all items

-- what is found with the items from `at` on is what is found with all
pub record Walking (bs : List ℕ) (nulls : ℕ) (sets : List ℕ) (start found at : ℕ) : Type 0 where
  -- what is left gives what the whole gives
  pub rest : gather pattern_of nulls sets (items_of (fields_at bs at)) found ≡ gather pattern_of nulls sets (items_of (fields_at bs start)) 0

-- Nothing is found at first.
pub walk_start : (bs : List ℕ) (nulls : ℕ) (sets : List ℕ) (start : ℕ) → Walking bs nulls sets start 0 start
walk_start bs nulls sets start = record { rest = refl }

module _ {bs : List ℕ} {nulls : ℕ} {sets : List ℕ} {start found at : ℕ} (walking : Walking bs nulls sets start found at) where
  walk_none : items_of (fields_at bs at) ≡ [] → found ≡ gather pattern_of nulls sets (items_of (fields_at bs start)) 0
  unfolding gather
  walk_none e = rw e at walking.rest

  -- No item is left.
  pub walk_done : None ≡ symbol_step bs (field_at bs at) → found ≡ gather pattern_of nulls sets (items_of (fields_at bs start)) 0
  walk_done e = walk_none (stepped bs at e)

  module _ {symbol : Symbol} {after : ℕ} (equal : Some (symbol, after) ≡ symbol_step bs (field_at bs at)) where
    -- Behind an item less is left.
    pub walk_less : length bs - after < length bs - at
    walk_less = step_less bs at equal

    module _ {more : ℕ} (em : more ≡ joined pattern_of sets (with_symbol symbol) found) {goes : Bool} (eg : goes ≡ is_nullable nulls (with_symbol symbol)) where
      abbrev item : Item
      item = (stepped bs at equal).item

      finds : more ≡ joined pattern_of sets item found
      finds = rw (stepped bs at equal).symbol at em ∙ item_by sets found item

      tested : {test : Bool} → goes ≡ test → is_nullable nulls item ≡ test
      tested e = sym (rw (stepped bs at equal).symbol at eg ∙ nullable_by nulls item) ∙ e

      -- Past an item that may read nothing,
      pub walk-next : goes ≡ true → Walking bs nulls sets start more after
      unfolding gather
      walk-next e = record { rest = rw finds (rw ((stepped bs at equal).items, tested e, gather) at walking.rest) }

      -- and one that reads is the last.
      pub walk_stop : goes ≡ false → more ≡ gather pattern_of nulls sets (items_of (fields_at bs start)) 0
      unfolding gather
      walk_stop e = finds ∙ rw ((stepped bs at equal).items, tested e, gather) at walking.rest

-- ------------------------------------------------------------------ productions

-- A set that is replaced,
pub join_inside : (sets : List ℕ) (owner found : ℕ) → owner < length sets → {joined_set : ℕ} → joined_set ≡ bit_or (get_or sets owner 0) found
    → Grown (set sets owner (bit_or (get_or sets owner 0) found)) sets (set sets owner joined_set) (not (eqb joined_set (get_or sets owner 0)))
join_inside sets owner found l {joined_set} e =
    record { sets_are = ap (set sets owner) e; kept = λ same. ap (set sets owner) (not_grown same) ∙ set_back sets owner l }
  where
    not-false : (test : Bool) → not test ≡ false → test ≡ true
    not-false true e = refl
    not-false false e = absurd (true≢false e)

    not_grown : not (eqb joined_set (get_or sets owner 0)) ≡ false → joined_set ≡ get_or sets owner 0
    not_grown t = eqb-true joined_set (get_or sets owner 0) (not-false (eqb joined_set (get_or sets owner 0)) t)

    set_back : (sets : List ℕ) (owner : ℕ) → owner < length sets → set sets owner (get_or sets owner 0) ≡ sets
    set_back [] owner l = absurd (omega arith)
    set_back (x ∷ xs) zero l = refl
    set_back (x ∷ xs) (suc owner) l = ap (λ (ys : List ℕ). x ∷ ys) (set_back xs owner (omega arith))

-- and none past the last.
pub join_outside : (sets : List ℕ) (owner value : ℕ) → length sets ≤ owner → Grown (set sets owner value) sets sets false
join_outside sets owner value h = record { sets_are = join_past sets owner value h; kept = λ e. refl }

-- What a production gives is joined to the set of its nonterminal.
pub step_is : (nulls : ℕ) (bs : List ℕ) (owner start : ℕ) (sets : List ℕ) {found : ℕ} → found ≡ gather pattern_of nulls sets (items_of (fields_at bs start)) 0
    → {sets' : List ℕ} {grew : Bool} → Grown (set sets owner (bit_or (get_or sets owner 0) found)) sets sets' grew
    → Grown (first_step pattern_of nulls (production_at bs owner start) sets) sets sets' grew
unfolding first_step production_at
step_is nulls bs owner start sets e grown = record { sets_are = grown.sets_are ∙ rw e refl; kept = grown.kept }

-- the sets after the productions before number `turn`, and whether one grew
pub record Joining (nulls : ℕ) (bs owners starts : List ℕ) (many : ℕ) (sets₀ : List ℕ) (turn : ℕ) (sets : List ℕ) (grew : Bool) : Type 0 where
  -- these, and the productions left, give those after a whole round
  pub over : Over (first_step pattern_of nulls) bs owners starts many sets₀ turn sets
  -- they are as many as before
  pub as_many : length sets ≡ length sets₀
  -- where none grew they are as before
  pub kept : grew ≡ false → sets ≡ sets₀

-- All productions are left at first.
pub joining_start : (nulls : ℕ) (bs owners starts : List ℕ) (many : ℕ) (sets : List ℕ) → Joining nulls bs owners starts many sets 0 sets false
joining_start nulls bs owners starts many sets =
    record { over = over_start (first_step pattern_of nulls) bs owners starts many sets; as_many = refl; kept = λ e. refl }

step_length : (nulls : ℕ) (p : Production) (sets : List ℕ) → length (first_step pattern_of nulls p sets) ≡ length sets
unfolding first_step
step_length nulls p sets = length-set sets p.nonterminal _

module _ {nulls : ℕ} {bs owners starts : List ℕ} {many : ℕ} {sets₀ : List ℕ} {turn : ℕ} {sets : List ℕ} {grew : Bool}
    (joining : Joining nulls bs owners starts many sets₀ turn sets grew) where
  -- One production more.
  pub joining_next : turn < many → {owner start : ℕ} → owner ≡ get_or owners turn 0 → start ≡ get_or starts turn 0 → {sets' : List ℕ} {more : Bool}
      → Grown (first_step pattern_of nulls (production_at bs owner start) sets) sets sets' more
      → Joining nulls bs owners starts many sets₀ (turn + 1) sets' (grew || more)
  joining_next h eo es {more = more} grown =
      record {
        over = over_next joining.over h eo es grown.sets_are;
        as_many = ap length grown.sets_are ∙ step_length nulls _ sets ∙ joining.as_many;
        kept = λ e. let both = neither grew more e in grown.kept both.1 ∙ joining.kept both.0;
      }
    where
      neither : (one other : Bool) → (one || other) ≡ false → (one ≡ false) × (other ≡ false)
      neither true other e = absurd (true≢false e)
      neither false other e = (refl, e)

  -- No production is left.
  pub joining_end : many ≤ turn → Grown (over_all (first_step pattern_of nulls) (productions_by many bs owners starts) sets₀) sets₀ sets grew
  joining_end h = record { sets_are = over_end joining.over h; kept = joining.kept }

-- ------------------------------------------------------------------ rounds

-- after `turn` rounds: the rounds that are left give the sets
pub record Rounding (nulls : ℕ) (g : List Production) (turn : ℕ) (sets : List ℕ) : Type 0 where
  -- those that are left
  pub rest : rounds (64 - turn) (over_all (first_step pattern_of nulls) g) sets ≡ pattern_sets nulls g

-- All rounds are left at first.
pub rounding_start : (nulls : ℕ) (g : List Production) {sets : List ℕ} → sets ≡ replicate 64 0 → Rounding nulls g 0 sets
unfolding sets_of
rounding_start nulls g e = record { rest = rw e refl }

-- rounds that change nothing
settled : {A : Type 0} (times : ℕ) (step : A → A) (state : A) → step state ≡ state → rounds times step state ≡ state
unfolding rounds
settled zero step state e = refl
settled (suc times) step state e = ap (rounds times step) e ∙ settled times step state e

module _ {nulls : ℕ} {g : List Production} {turn : ℕ} {sets : List ℕ} (rounding : Rounding nulls g turn sets) where
  module _ {sets' : List ℕ} {grew : Bool} (grown : Grown (over_all (first_step pattern_of nulls) g sets) sets sets' grew) where
    -- One round more.
    pub rounding_next : turn < 64 → Rounding nulls g (turn + 1) sets'
    unfolding rounds
    rounding_next l =
        let one : 64 - turn ≡ suc (64 - (turn + 1)) = omega arith in
        record { rest = rw grown.sets_are (rw one at rounding.rest) }

    -- One that changes nothing is the last.
    pub rounding_settled : grew ≡ false → sets' ≡ pattern_sets nulls g
    rounding_settled e =
        grown.kept e
        ∙ sym (settled (64 - turn) (over_all (first_step pattern_of nulls) g) sets (sym grown.sets_are ∙ grown.kept e))
        ∙ rounding.rest

  -- No round is left.
  pub rounding_end : 64 ≤ turn → sets ≡ pattern_sets nulls g
  unfolding rounds
  rounding_end l =
      let none : 64 - turn ≡ 0 = omega arith in
      rw none at rounding.rest
