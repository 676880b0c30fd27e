-- How spellings are found by the bits of a path that each has. The laws hold for any path. Nobody needs these definitions to believe
-- `scan`: its contract does not cite them.
use Rattle.std.specs.Prelude.{ℕ, zero, suc, ◌+◌, ◌-◌, ◌*◌, ◌/◌, ◌%◌, ◌<◌, ◌≤◌, ◌≡◌, true, false, List, [], ◌∷◌, ltb, length, get_or, set, drop}
use Rattle.std.specs.Int.Bits.{bit_and, bit_xor}
use Rattle.spellings.specs.Bytes.{index_of}
use Rattle.spellings.specs.Eights.{four_at, eight_at}
use Rattle.lexicon.specs.Places.{words_in}
use Rattle.lexicon.specs.declared.trees.Spot.{Spot}
use Rattle.lexicon.specs.declared.trees.Spot.TheVariants.{Node, Free}
use Rattle.lexicon.specs.declared.trees.Seen.{Seen}
use Rattle.lexicon.specs.declared.trees.Seen.TheVariants.{Met, New, Beyond}

-- ------------------------------------------------------------------ the hash

-- the bytes of a spelling of fewer than eight: two fours, which overlap, or of fewer than four the first, the middle and the last
unfoldable pub few_of : List ℕ → ℕ
few_of s =
    elim (ltb (length s) 4) [
      | true ↦ get_or s 0 0 + get_or s (length s / 2) 0 * 256 + get_or s (length s - 1) 0 * 4294967296
      | false ↦ four_at s 0 + four_at s (length s - 4) * 4294967296
    ]

abbrev pub crossed : ℕ → ℕ
crossed q = q % 4294967296 * 4294967296 + q / 4294967296

-- one round: both halves are multiplied, and each product falls on both halves
abbrev pub folded : ℕ → ℕ
folded y = bit_xor (y % 4294967296 * 2654435761) (crossed (y / 4294967296 * 2246822519))

-- the hash h with eight bytes more
abbrev pub mixed : ℕ → ℕ → ℕ
mixed h x = folded (bit_xor h x)

-- the hash h with k times eight bytes more, from an index on
unfoldable pub chunks_from : ℕ → List ℕ → ℕ → ℕ → ℕ
chunks_from zero s i h = h
chunks_from (suc k) s i h = chunks_from k s (i + 8) (mixed h (eight_at s i))

abbrev pub seed_of : List ℕ → ℕ
seed_of s = bit_xor 11400714819323198485 (length s)

-- the last eight bytes of a longer spelling overlap with those before
unfoldable pub body_of : List ℕ → ℕ
body_of s =
    elim (ltb (length s) 8) [
      | true ↦ mixed (seed_of s) (few_of s)
      | false ↦ mixed (chunks_from ((length s - 1) / 8) s 0 (seed_of s)) (eight_at s (length s - 8))
    ]

unfoldable pub hash_of : List ℕ → ℕ
hash_of s = mixed (body_of s) 0

-- the length and the hash of a spelling
pub record Hashed (s : List ℕ) (size hash : ℕ) : Type 0 where
  pub sized : size ≡ length s
  pub hashed : hash ≡ hash_of s

-- ------------------------------------------------------------------ paths

-- a second hash, one byte at a time
unfoldable pub second_from : ℕ → List ℕ → ℕ
second_from h [] = h
second_from h (b ∷ s) = second_from (mixed h b) s

abbrev pub second_of : List ℕ → ℕ
second_of s = second_from 11400714819323198485 s

-- the bytes of a spelling as one number, the first the lowest
unfoldable pub bytes_of : List ℕ → ℕ
bytes_of [] = 0
bytes_of (b ∷ s) = b + 256 * bytes_of s

-- the link of a tree's root, and which branches are taken from there on, a bit each, the lowest first: the highest 20 bits of the hash,
-- the lowest 32 of the second one, and the bytes
abbrev pub root_of : ℕ → List ℕ → ℕ
root_of mask s = bit_and (hash_of s) mask

abbrev pub behind_hash : List ℕ → ℕ
behind_hash s = second_of s % 4294967296 + 4294967296 * bytes_of s

unfoldable pub turns_of : List ℕ → ℕ
turns_of s = hash_of s / 17592186044416 + 1048576 * behind_hash s

-- `turns` are some bits with a 1 behind them, and the path is these bits with `more` behind them
pub data Window (more : ℕ) : ℕ → ℕ → Type 0 where
  shut : {turns path : ℕ} → turns ≡ 1 → path ≡ more → Window more turns path
  bit : {turns path b turns' path' : ℕ} → b < 2 → turns ≡ b + 2 * turns' → path ≡ b + 2 * path' → Window more turns' path' → Window more turns path

-- with the bits of the next byte, where none was left
pub record Refilled (s : List ℕ) (turns next turns' next' : ℕ) : Type 0 where
  pub some : 0 < turns → 2 ≤ turns'
  pub within : next' ≤ length s
  pub path : (path : ℕ) → Window (bytes_of (drop next s)) turns path → Window (bytes_of (drop next' s)) turns' path

-- ------------------------------------------------------------------ trees

-- the link of the branch of node j that is taken
abbrev pub branch_of : ℕ → ℕ → ℕ → ℕ
branch_of mask j turns = mask + 1 + j * 2 + turns % 2

-- from a link on, the branches taken lead to node i
pub data Leads (links : List ℕ) (mask : ℕ) : ℕ → ℕ → ℕ → Type 0 where
  there : {slot turns i : ℕ} → get_or links slot 0 ≡ suc i → Leads links mask slot turns i
  further : {slot turns j i : ℕ} → get_or links slot 0 ≡ suc j → Leads links mask (branch_of mask j turns) (turns / 2) i
      → Leads links mask slot turns i

-- the link at an index leads to node j: a spelling that stands nowhere before, with its branches behind
pub record Linked (mask : ℕ) (words : List (List ℕ)) (slot j : ℕ) : Type 0 where
  pub small : j < length words
  pub first : index_of (get_or words j []) words ≡ j
  pub behind : slot < mask + 1 + j * 2

-- each spelling's own branches lead to the first node that has it
pub record SearchTree (mask : ℕ) (words : List (List ℕ)) (links : List ℕ) : Type 0 where
  pub leads : (s : List ℕ) → index_of s words < length words → Leads links mask (root_of mask s) (turns_of s) (index_of s words)
  pub linked : (slot j : ℕ) → get_or links slot 0 ≡ suc j → Linked mask words slot j

-- the trees of the first `count` spellings of a text, with room for their numbers
pub record Planted (text places links : List ℕ) (mask count : ℕ) : Type 0 where
  pub tree : SearchTree mask (words_in text places count) links
  pub placed : count * 2 ≤ length places
  pub linked : mask + 1 + count * 2 ≤ length links

-- the other links lead where these do
abbrev pub Extends : List ℕ → List ℕ → Type 0
Extends links links' = (slot j : ℕ) → get_or links slot 0 ≡ suc j → get_or links' slot 0 ≡ suc j

-- s is no spelling of the trees, and the link at an index is free for it
pub record FreeFor (mask : ℕ) (words : List (List ℕ)) (links s : List ℕ) (slot : ℕ) : Type 0 where
  pub none : index_of s words ≡ length words
  pub empty : get_or links slot 0 ≡ 0
  pub below : slot < mask + 1 + length words * 2
  pub back : (links' : List ℕ) (i : ℕ) → Extends links links' → get_or links' slot 0 ≡ suc i → Leads links' mask (root_of mask s) (turns_of s) i

pub record FoundAt (words : List (List ℕ)) (s : List ℕ) (i : ℕ) : Type 0 where
  pub index : i ≡ index_of s words
  pub inside : i < length words

-- what the bits of its hash tell of a spelling
abbrev pub Seeks : ℕ → List (List ℕ) → List ℕ → List ℕ → Seen → Type 0
Seeks mask words links s (Met i) = FoundAt words s i
Seeks mask words links s (New slot) = FreeFor mask words links s slot
Seeks mask words links s Beyond = Unit {0}

-- what a search answers
abbrev pub Searched : ℕ → List (List ℕ) → List ℕ → List ℕ → Spot → Type 0
Searched mask words links s (Node i) = FoundAt words s i
Searched mask words links s (Free slot) = FreeFor mask words links s slot

-- the links with spelling e where a search for it ended, if it is new
abbrev pub links_with : List ℕ → Spot → ℕ → List ℕ
links_with links (Node i) e = links
links_with links (Free slot) e = set links slot (e + 1)

abbrev pub Linkable : List ℕ → Spot → Type 0
Linkable links (Node i) = Unit {0}
Linkable links (Free slot) = slot < length links
