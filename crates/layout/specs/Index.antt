-- How a repeated spelling is found: the spellings of one tag are entered in a room of numbers, and those whose hash falls into one of 64
-- buckets are linked, the newest first. Nobody needs this file to believe `expand`.
use Rattle.std.specs.Prelude.{ℕ, ◌-◌, ◌^◌, suc, ◌+◌, ◌*◌, ◌/◌, ◌%◌, ◌<◌, ◌≤◌, ◌≡◌, Bool, true, false, ◌||◌, List, [], ◌∷◌, eqb, length, get_or, take, drop, set}
use Rattle.grammar.specs.Limits.{most}
use Rattle.spellings.specs.Bytes.{same}
use Rattle.grammar.specs.Values.{Field}
use Rattle.decoding.specs.declared.Progress.{Progress}
use Rattle.layout.specs.Before.{fields_before}

-- ------------------------------------------------------------------ what is looked for

-- the values of the fields of one tag, the last first
unfoldable pub spellings_under : ℕ → List Field → List (List ℕ)
spellings_under tag [] = []
spellings_under tag (f ∷ fs) = elim (eqb f.tag tag) [ true ↦ f.value ∷ spellings_under tag fs | false ↦ spellings_under tag fs ]

unfoldable pub is_among : List ℕ → List (List ℕ) → Bool
is_among v [] = false
is_among v (w ∷ ws) = same w v || is_among v ws

-- ------------------------------------------------------------------ the hash

-- four bytes at the front as one number, the first lowest; those that are not there are 0
abbrev pub packed : List ℕ → ℕ
packed v = get_or v 0 0 + 256 * get_or v 1 0 + 65536 * get_or v 2 0 + 16777216 * get_or v 3 0

-- a number that is so packed
pub record Packs (v : List ℕ) (r : ℕ) : Type 0 where
  pub number : r ≡ packed v
  pub small : r < 4294967296

-- the hash of what has the hash h, with one such number behind it
abbrev pub bucket_mixed : ℕ → ℕ → ℕ
bucket_mixed h g = (h + g) * 1640531527 % 4294967296

-- the hash of bytes that follow what has the hash h, by fours and then those that are left
unfoldable pub bucket_hash_from : ℕ → List ℕ → ℕ
bucket_hash_from h [] = bucket_mixed h (packed [])
bucket_hash_from h (a ∷ []) = bucket_mixed h (packed (a ∷ []))
bucket_hash_from h (a ∷ b ∷ []) = bucket_mixed h (packed (a ∷ b ∷ []))
bucket_hash_from h (a ∷ b ∷ c ∷ []) = bucket_mixed h (packed (a ∷ b ∷ c ∷ []))
bucket_hash_from h (a ∷ b ∷ c ∷ d ∷ bs) = bucket_hash_from (bucket_mixed h (packed (a ∷ b ∷ c ∷ d ∷ []))) bs

unfoldable pub bucket_hash : List ℕ → ℕ
bucket_hash v = bucket_hash_from 0 v

abbrev pub buckets : ℕ
buckets = 64

-- the bucket of a hash: its highest six bits, which all bytes move
abbrev pub bucket_of : ℕ → ℕ
bucket_of h = h / 2 ^ 26 % buckets

-- h is the hash of a keyword or an outside name; of other fields none is asked
pub record HashedUnder (tag : ℕ) (v : List ℕ) (h : ℕ) : Type 0 where
  pub spelled : tag ≤ 2 → h ≡ bucket_hash v

-- ------------------------------------------------------------------ the room

-- A number for each bucket leads to its newest spelling. Behind them each spelling, numbered from 1, has four numbers: the next older
-- spelling of its bucket, its hash, where it stands in the table, and its length. 0 leads to none.
abbrev pub entry_size : ℕ
entry_size = 4

abbrev pub entry : ℕ → ℕ
entry n = buckets - entry_size + entry_size * n

-- the numbers of a room: as many spellings as there may be outside names, which are more than keywords
abbrev pub index_size : ℕ
index_size = buckets + entry_size * most.outsides

-- spelling n is w, and p leads on
pub record SpellingHeld (table room : List ℕ) (n : ℕ) (w : List ℕ) (p : ℕ) : Type 0 where
  pub onward : get_or room (entry n) 0 ≡ p
  pub hashed : get_or room (entry n + 1) 0 ≡ bucket_hash w
  pub placed : take (get_or room (entry n + 3) 0) (drop (get_or room (entry n + 2) 0) table) ≡ w

-- p leads through those of some spellings, the newest first, that fall into a bucket
pub data Bucket (table room : List ℕ) (bucket : ℕ) : List (List ℕ) → ℕ → Type 0 where
  leads_none : Bucket table room bucket [] 0
  leads_past : {w : List ℕ} {ws : List (List ℕ)} {p : ℕ} → (bucket_of (bucket_hash w) ≡ bucket → ⊥) → Bucket table room bucket ws p
      → Bucket table room bucket (w ∷ ws) p
  leads_here :
      {w : List ℕ} {ws : List (List ℕ)} {p : ℕ} → SpellingHeld table room (suc (length ws)) w p → Bucket table room bucket ws p
      → Bucket table room bucket (w ∷ ws) (suc (length ws))

-- the room has the spellings
pub record Indexed (table room : List ℕ) (words : List (List ℕ)) : Type 0 where
  pub leads : (b : ℕ) → b < buckets → Bucket table room b words (get_or room b 0)

-- links lead to older spellings only
pub record Falling (room : List ℕ) : Type 0 where
  pub heads : (b : ℕ) → b < buckets → get_or room b 0 ≤ most.outsides
  pub links : (n : ℕ) → 0 < n → n ≤ most.outsides → get_or room (entry n) 0 < n

-- a room in which a spelling may be looked for by its hash
pub record Searchable (room v : List ℕ) (h : ℕ) : Type 0 where
  pub falling : Falling room
  pub hashed : h ≡ bucket_hash v

-- the room with one spelling more
abbrev pub room_with : List ℕ → ℕ → ℕ → ℕ → ℕ → List ℕ
room_with room n h from size =
    set (set (set (set (set room (entry n) (get_or room (bucket_of h) 0)) (entry n + 1) h) (entry n + 2) from) (entry n + 3) size) (bucket_of h) n

-- a spelling that may be entered, with its hash
pub record Enterable (spelled : Bool) (count from : ℕ) (v : List ℕ) (h : ℕ) : Type 0 where
  pub few : spelled ≡ true → count < most.outsides
  pub hashed : spelled ≡ true → h ≡ bucket_hash v
  pub near : from ≤ 65536
  pub short : length v ≤ 65536

-- the room after a spelling, if there is one to enter behind `count` others
abbrev pub entered : List ℕ → Bool → ℕ → ℕ → List ℕ → List ℕ
entered room true count from v = room_with room (count + 1) (bucket_hash v) from (length v)
entered room false count from v = room

-- a field that may be entered in the room of its tag, after what has been read before it
pub record EnterableUnder (tag : ℕ) (s : Progress) (from : ℕ) (v : List ℕ) (h : ℕ) : Type 0 where
  pub as_keyword : Enterable (eqb tag 1) s.keywords from v h
  pub as_outside : Enterable (eqb tag 2) s.outsides from v h

-- the rooms of keywords and outside names after it
pub record EnteredUnder (tag : ℕ) (s : Progress) (from : ℕ) (v keywords outsides keywords' outsides' : List ℕ) : Type 0 where
  pub keywords_are : keywords' ≡ entered keywords (eqb tag 1) s.keywords from v
  pub outsides_are : outsides' ≡ entered outsides (eqb tag 2) s.outsides from v

-- one room has the spellings of a tag among some fields, of which there are `count`
pub record HasSpellings (table : List ℕ) (tag : ℕ) (before : List Field) (count : ℕ) (room : List ℕ) : Type 0 where
  pub long : length room ≡ index_size
  pub falling : Falling room
  pub indexed : Indexed table room (spellings_under tag before)
  pub counted : length (spellings_under tag before) ≡ count

-- the rooms have the keywords and the outside names that stand before an offset
pub record Remembered (table : List ℕ) (at : ℕ) (s : Progress) (K N : List ℕ) : Type 0 where
  pub keywords : HasSpellings table 1 (fields_before table at) s.keywords K
  pub outsides : HasSpellings table 2 (fields_before table at) s.outsides N

-- they have those before a field of a tag and a value, of which h is the hash
pub record FieldLent (table : List ℕ) (at tag : ℕ) (v : List ℕ) (h : ℕ) (s : Progress) (K N : List ℕ) : Type 0 where
  pub remembered : Remembered table at s K N
  pub hashed : HashedUnder tag v h

-- the same for its spelling alone
pub record SpellingLent (tag : ℕ) (v : List ℕ) (h : ℕ) (K N : List ℕ) : Type 0 where
  pub keywords : Falling K
  pub outsides : Falling N
  pub hashed : HashedUnder tag v h
