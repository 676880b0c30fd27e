-- What is proved of nullables, first sets and left calls, for every list of productions g. Document 01, "Phrase table". The computed sets are
-- those of specs/FirstSets; the relations are those of specs/Rules, the least that 01's rules give.
use Prim.Native.Nat.{ℕ, ◌≤◌}
use mathlib.Core.Path.{◌≡◌}
use mathlib.Core.Logic.{◌↔◌}
use mathlib.Core.Bool.{true}
use mathlib.Core.List.{List}
use lib.ListN.{get_or}
use Rattle.kinds.specs.Kinds.{has_kind}
use Rattle.grammar.specs.Sorts.{label}
use Rattle.productions.specs.Normal.{Production}
use Rattle.firsts.specs.FirstSets.{all_nullable, opening_of, call_of, nullables, first_sets, left_calls, first_of}
use Rattle.firsts.specs.Patterns.{place_bit, pattern_sets, patterns_of, ReadsAt, ReadsPlace}
use Rattle.firsts.specs.Rules.{NullItems, Nullable, First, Reads, Calls, Opens, LeftReaches}
use Rattle.firsts.proofs.NullablesExactly as nulls
use Rattle.firsts.proofs.FirstSetsExactly.{sets_exactly, items_exactly, reads_exactly, calls_exactly}
use Rattle.firsts.proofs.FirstSetsExactly as patterns

module _ (g : List Production) where
  -- 1. Bit `nonterminal` of the nullables is set exactly if `nonterminal` is nullable.
  pub nullable_exactly : (nonterminal : ℕ) → (has_kind (nullables g) nonterminal ≡ true) ↔ Nullable g nonterminal
  nullable_exactly = nulls.nullable_exactly g

  -- 2. Bit `kind` of the first set of `nonterminal` is set exactly if `kind` opens `nonterminal`.
  pub opens_exactly : (nonterminal kind : ℕ) → (has_kind (get_or (first_sets (nullables g) g) nonterminal 0) kind ≡ true) ↔ Opens g nonterminal kind
  opens_exactly = sets_exactly opening_of Reads reads_exactly g

  -- 3. Bit `callee` of the left calls of `nonterminal` is set exactly if `nonterminal` reaches `callee` by calls preceded only by nullable items.
  pub reaches_exactly : (nonterminal callee : ℕ) → (has_kind (get_or (left_calls (nullables g) g) nonterminal 0) callee ≡ true) ↔ LeftReaches g nonterminal callee
  reaches_exactly = sets_exactly call_of Calls calls_exactly g

  -- 4. Bit `kind` of the first set of one production is set exactly if its items give `kind` first.
  pub production_opens_exactly : (p : Production) (kind : ℕ)
      → (has_kind (first_of (nullables g) (first_sets (nullables g) g) p) kind ≡ true) ↔ First g Reads p.items kind
  production_opens_exactly p = items_exactly opening_of Reads reads_exactly g p.items

  -- 5. A production is found nullable exactly if its items may all read nothing.
  pub production_nullable_exactly : (p : Production) → (all_nullable (nullables g) p.items ≡ true) ↔ NullItems g p.items
  production_nullable_exactly p = nulls.null_items_exactly g p.items

  -- 6. Bit `sort` of what reads a variable first in a production, for a sort up to Label, is set exactly if an ide of that sort stands first in it,
  pub ides_exactly : (p : Production) (sort : ℕ) → sort ≤ label
      → (has_kind (patterns_of (nullables g) (pattern_sets (nullables g) g) p) sort ≡ true) ↔ First g ReadsAt p.items sort
  ides_exactly p = patterns.ides_exactly g p.items

  -- 7. and bit 8 + `sort` exactly if a pattern place of that sort does.
  pub places_exactly : (p : Production) (sort : ℕ)
      → (has_kind (patterns_of (nullables g) (pattern_sets (nullables g) g) p) (place_bit sort) ≡ true) ↔ First g ReadsPlace p.items sort
  places_exactly p = patterns.places_exactly g p.items
