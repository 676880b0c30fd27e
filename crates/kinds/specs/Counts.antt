-- The number of kinds in a set, counted one by one.
use Rattle.std.specs.Prelude.{ℕ, zero, suc, true, false}
use Rattle.kinds.specs.Kinds.{has_kind}

-- the number of kinds below n in the set m
unfoldable pub count_below : ℕ → ℕ → ℕ
count_below zero m = 0
count_below (suc n) m = elim (has_kind m n) [ true ↦ suc (count_below n m) | false ↦ count_below n m ]
