-- Nullables by what each production needs. A production that reads nothing by itself has only locals and calls, and it needs the nonterminals
-- that it calls to be nullable: this is noted once, and the rounds look at what was noted. These mirror code: nobody needs them to
-- believe `expand`.
use Rattle.std.specs.Prelude.{ℕ, zero, suc, ◌-◌, ◌^◌, ◌≤◌, ◌≡◌, Bool, true, false, ◌&&◌, List, eqb, length, get_or, replicate}
use Rattle.std.specs.Int.Bits.{bit_or}
use Rattle.grammar.specs.Limits.{most}
use Rattle.kinds.specs.Kinds.{has_kind, only}
use Rattle.grammar.specs.Table.{Item}
use Rattle.grammar.specs.Lookup.{fields_at}
use Rattle.productions.specs.Normal.{Production}
use Rattle.productions.specs.Index.{items_of, production_at}
use Rattle.firsts.specs.declared.Gathered.{Gathered}
use Rattle.firsts.specs.FirstSets.{over_all, is_nullable, all_nullable, null_step, nullables, opening_of, call_of}
use Rattle.firsts.specs.Mentions.{mentioned, noted, notes}
use Rattle.firsts.specs.SetCalls.{joined_if}

-- the set of all 64 nonterminals
abbrev pub every_one : ℕ
every_one = 2 ^ 64 - 1

-- a set of nonterminals has none but these
pub record Nonterminals (s : ℕ) : Type 0 where
  pub none_above : (n : ℕ) → most.nonterminals ≤ n → has_kind s n ≡ false

-- what is mentioned with an item behind what was mentioned before it, and whether all of them are locals and calls
abbrev pub with_mention : Item → Gathered → Gathered
with_mention i found =
    record { kinds = bit_or found.kinds (opening_of i); calls = bit_or found.calls (call_of i); nullable = found.nullable && is_nullable every_one i }

-- what all items of a production mention, and whether they are locals and calls
abbrev pub mentioned_all : List Item → Gathered
mentioned_all is = record { kinds = mentioned opening_of is 0; calls = mentioned call_of is 0; nullable = all_nullable every_one is }

-- where all that is needed is nullable, the owner is
abbrev pub need_step : ℕ → ℕ → ℕ → ℕ
need_step owner needs nulls = joined_if (eqb (bit_or nulls needs) nulls) nulls (only owner)

-- steps of the productions that are held, owners and needs: the first j of them in an order of their places
unfoldable pub need_pass : (ℕ → ℕ) → ℕ → List ℕ → List ℕ → ℕ → ℕ
need_pass place zero owners needs nulls = nulls
need_pass place (suc j) owners needs nulls = need_step (get_or owners (place j) 0) (get_or needs (place j) 0) (need_pass place j owners needs nulls)

-- the first k in the order in which they are held
abbrev pub need_round : ℕ → List ℕ → List ℕ → ℕ → ℕ
need_round k owners needs nulls = need_pass (λ j. j) k owners needs nulls

-- the place of step j of k, from the last place down or from the first place up
abbrev pub step_place : Bool → ℕ → ℕ → ℕ
step_place true k j = k - 1 - j
step_place false k j = j

-- room for the owners and needs of m productions
pub record NeedsLent (m : ℕ) (owners needs : List ℕ) : Type 0 where
  pub owners_many : m ≤ length owners
  pub needs_many : m ≤ length needs

-- an empty set for each nonterminal, twice
pub record NotesLent (kinds calls : List ℕ) : Type 0 where
  pub no_kinds : kinds ≡ replicate most.nonterminals 0
  pub no_calls : calls ≡ replicate most.nonterminals 0

-- what one production mentions, joined to the sets of its nonterminal
pub record NoteTaken (bs : List ℕ) (owner start : ℕ) (kinds₀ calls₀ kinds calls : List ℕ) (found : Gathered) : Type 0 where
  pub found_is : found ≡ mentioned_all (items_of (fields_at bs start))
  pub kinds_are : kinds ≡ noted opening_of (production_at bs owner start) kinds₀
  pub calls_are : calls ≡ noted call_of (production_at bs owner start) calls₀

-- what the productions of each nonterminal read and call
pub record Noted (g : List Production) (kinds calls : List ℕ) : Type 0 where
  pub kinds_are : kinds ≡ notes opening_of g
  pub calls_are : calls ≡ notes call_of g

-- a round over the k productions that are held is one over the grammar
pub record NeedsHeld (g : List Production) (k : ℕ) (owners needs : List ℕ) : Type 0 where
  pub same : (nulls : ℕ) → Nonterminals nulls → need_round k owners needs nulls ≡ over_all null_step g nulls

-- both
pub record NeedsNoted (g : List Production) (k : ℕ) (owners needs kinds calls : List ℕ) : Type 0 where
  pub held : NeedsHeld g k owners needs
  pub noted : Noted g kinds calls

-- the nullables, and what was noted on the way
pub record NullablesNoted (g : List Production) (nulls : ℕ) (kinds calls : List ℕ) : Type 0 where
  pub nullables_are : nulls ≡ nullables g
  pub noted : Noted g kinds calls
