-- What the functions that compute sets promise. These mirror code: nobody needs them to believe `expand`.
--
-- First sets and left calls come from one round over the productions and a closure of what it found: nonterminals are taken one by one as
-- callees, and what a callee gives is joined to what each caller gives. After all of them the sets are those that rounds would settle.
use Rattle.std.specs.Prelude.{ℕ, zero, suc, ◌<◌, ◌≤◌, ◌≡◌, Bool, true, false, List, length, get_or}
use Rattle.std.specs.Int.Bits.{bit_or}
use Rattle.grammar.specs.Limits.{most}
use Rattle.kinds.specs.Kinds.{has_kind}
use Rattle.grammar.specs.Table.{Item}
use Rattle.productions.specs.Normal.{Production}
use Rattle.firsts.specs.declared.Gathered.{Gathered}
use Rattle.firsts.specs.FirstSets.{over_all, is_nullable, all_nullable, opening_of, call_of, joined, gather, first_step, sets_of}

-- what is found with an item behind what was found before it, where the sets of the nonterminals are `kinds` and `calls`; and whether the item may
-- read nothing
abbrev pub with_item : ℕ → List ℕ → List ℕ → Item → Gathered → Gathered
with_item nulls kinds calls i found =
    record { kinds = joined opening_of kinds i found.kinds; calls = joined call_of calls i found.calls; nullable = is_nullable nulls i }

-- what the items of a production give, where the sets of the nonterminals are `kinds` and `calls`, and whether all may read nothing
abbrev pub gathered : ℕ → List ℕ → List ℕ → List Item → Gathered
gathered nulls kinds calls is = record { kinds = gather opening_of nulls kinds is 0; calls = gather call_of nulls calls is 0; nullable = all_nullable nulls is }

-- one production joined to the sets of its nonterminal
pub record StepTaken (nulls : ℕ) (p : Production) (kinds₀ calls₀ kinds calls : List ℕ) : Type 0 where
  pub kinds_are : kinds ≡ first_step opening_of nulls p kinds₀
  pub calls_are : calls ≡ first_step call_of nulls p calls₀

-- one round over all productions
pub record RoundTaken (nulls : ℕ) (g : List Production) (kinds₀ calls₀ kinds calls : List ℕ) : Type 0 where
  pub kinds_are : kinds ≡ over_all (first_step opening_of nulls) g kinds₀
  pub calls_are : calls ≡ over_all (first_step call_of nulls) g calls₀

-- the first sets and the left calls
pub record BothSets (nulls : ℕ) (g : List Production) (kinds calls : List ℕ) : Type 0 where
  pub kinds_are : kinds ≡ sets_of opening_of nulls g
  pub calls_are : calls ≡ sets_of call_of nulls g

-- ------------------------------------------------------------------ the closure

-- b is in the set of nonterminal n
abbrev pub in_set_of : List ℕ → ℕ → ℕ → Bool
in_set_of sets n b = has_kind (get_or sets n 0) b

-- a set for each nonterminal, twice
pub record SetsLent (calls kinds : List ℕ) : Type 0 where
  pub calls_many : length calls ≡ most.nonterminals
  pub kinds_many : length kinds ≡ most.nonterminals

-- the nonterminals from `many` on have empty sets
pub record UsedBelow (many : ℕ) (sets : List ℕ) : Type 0 where
  pub small : many ≤ most.nonterminals
  pub none : (n : ℕ) → many ≤ n → get_or sets n 0 ≡ 0

-- what the first n sets have together
unfoldable pub union_of : ℕ → List ℕ → ℕ
union_of zero sets = 0
union_of (suc n) sets = bit_or (union_of n sets) (get_or sets n 0)

-- the first m productions of an index are of nonterminals below `many`
pub record OwnersBelow (many m : ℕ) (owners : List ℕ) : Type 0 where
  pub small : many ≤ most.nonterminals
  pub each : (j : ℕ) → j < m → get_or owners j 0 < many

-- two arrays of sets, empty from `many` on
pub record Closable (many : ℕ) (calls kinds : List ℕ) : Type 0 where
  pub lent : SetsLent calls kinds
  pub calls_below : UsedBelow many calls
  pub kinds_below : UsedBelow many kinds

-- two arrays of sets, for the next callee
pub record StepLent (many : ℕ) (calls kinds : List ℕ) : Type 0 where
  pub lent : SetsLent calls kinds
  pub small : many ≤ most.nonterminals

-- a set, with more joined to it or not
abbrev pub joined_if : Bool → ℕ → ℕ → ℕ
joined_if true set more = bit_or set more
joined_if false set more = set

-- what nonterminal n gives with k as a callee: its own set, joined with that of k if n calls k
abbrev pub with_callee : List ℕ → List ℕ → ℕ → ℕ → ℕ
with_callee calls sets k n = joined_if (has_kind (get_or calls n 0) k) (get_or sets n 0) (get_or sets k 0)

-- the sets of the first n nonterminals, with k as a callee; the others as they were
pub record CalleeJoined (k n : ℕ) (calls sets new : List ℕ) : Type 0 where
  pub as_many : length new ≡ length sets
  pub done : (i : ℕ) → i < n → get_or new i 0 ≡ with_callee calls sets k i
  pub left : (i : ℕ) → n ≤ i → get_or new i 0 ≡ get_or sets i 0

-- the same for both arrays
pub record CalleeTaken (k n : ℕ) (calls₀ kinds₀ calls kinds : List ℕ) : Type 0 where
  pub calls_joined : CalleeJoined k n calls₀ calls₀ calls
  pub kinds_joined : CalleeJoined k n calls₀ kinds₀ kinds

-- the sets₀ closed over the calls₀, with the callees below a limit: what was there, what the callees give, and nothing else
pub record ClosedBelow (limit : ℕ) (calls₀ sets₀ calls sets : List ℕ) : Type 0 where
  pub as_many : length sets ≡ length sets₀
  pub kept : (n b : ℕ) → in_set_of sets₀ n b ≡ true → in_set_of sets n b ≡ true
  pub through : (n k b : ℕ) → k < limit → in_set_of calls n k ≡ true → in_set_of sets k b ≡ true → in_set_of sets n b ≡ true
  pub least : (R S : ℕ → ℕ → Bool) → ((n k : ℕ) → in_set_of calls₀ n k ≡ true → R n k ≡ true) → ((n b : ℕ) → in_set_of sets₀ n b ≡ true → S n b ≡ true)
      → ((n k m : ℕ) → R n k ≡ true → R k m ≡ true → R n m ≡ true) → ((n k b : ℕ) → R n k ≡ true → S k b ≡ true → S n b ≡ true)
      → (n b : ℕ) → in_set_of sets n b ≡ true → S n b ≡ true

-- the calls closed over themselves, and the kinds over the calls
pub record ClosedBoth (limit : ℕ) (calls₀ kinds₀ calls kinds : List ℕ) : Type 0 where
  pub calls_closed : ClosedBelow limit calls₀ calls₀ calls calls
  pub kinds_closed : ClosedBelow limit calls₀ kinds₀ calls kinds
