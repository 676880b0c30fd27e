-- What opens productions, with the pattern places of document 02, C-14: "Two alternatives of a nonterminal that open with pattern places of one sort
-- get 13, with 65 plus the sort for the bit."
use Rattle.std.specs.Prelude.{ℕ, ◌/◌, ◌^◌, Bool, true, false, List}
use lib.{Dec.ltb, Count.count_trailing_zeros}
use Rattle.kinds.specs.TextKinds.{variable_kind}
use Rattle.productions.specs.Normal.{Production}
use Rattle.firsts.specs.FirstSets.{all_nullable, nullables, first_sets, first_of}
use Rattle.firsts.specs.Patterns.{place_bit, patterns_in}

-- what is known of productions: the kinds that open one, the sorts of the pattern places that do, and whether it is nullable
pub record Openings : Type 0 where
  pub kinds : Production → ℕ
  pub sorts : Production → ℕ
  pub nullable : Production → Bool

-- the sorts of the places that open a production, bit s for sort s
abbrev pub place_sorts : List Production → Production → ℕ
place_sorts g p = patterns_in g p.items / 2 ^ place_bit 0

abbrev pub openings_of : List Production → Openings
openings_of g =
    record { kinds = first_of (nullables g) (first_sets (nullables g) g); sorts = place_sorts g; nullable = λ p. all_nullable (nullables g) p.items }

-- the lowest of some shared kinds, else 65 plus the lowest of some shared sorts, 64 if there are neither
abbrev pub lowest_of : ℕ → ℕ → ℕ
lowest_of kinds sorts =
    elim (ltb 0 kinds) [ true ↦ count_trailing_zeros 64 kinds | false ↦ elim (ltb 0 sorts) [ true ↦ variable_kind (count_trailing_zeros 64 sorts) | false ↦ 64 ] ]
