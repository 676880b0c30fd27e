-- Laws of the index of spellings: what a search in it finds, and that one spelling more keeps it. Of the hash they use only that equal
-- spellings have equal ones, and that it fits 32 bits.
use Prim.Native.Nat.{ℕ, zero, suc, ◌+◌, ◌-◌, ◌<◌, ◌≤◌}
use mathlib.Core.Path.{◌≡◌, refl, sym, ap, subst, ◌∙◌}
use mathlib.Core.Bool.{Bool, true, false, ◌||◌}
use mathlib.Core.List.{List, [], ◌∷◌}
use native.Mathlib.Nat.{add-zero}
use native.Mathlib.Omega.{arith}
use lib.Dec.{eqb}
use lib.ListN.{length, get_or, take, drop, set, replicate, length-set, length-replicate, length-drop}
use lib.Seq.{get_or-set_same, get_or-set_other, drop-drop, take_all}
use borrow.Author.Tests.{eqb-true, eqb-false}
use Rattle.spellings.specs.Bytes.{same, one_if}
use Rattle.spellings.proofs.BytesLaws.{by_test, differ_same}
use Rattle.grammar.specs.Values.{Field, field}
use Rattle.decoding.specs.Layout.{is_repeated}
use Rattle.grammar.specs.Limits.{most}
use Rattle.layout.specs.Index.{index_size}
use Rattle.layout.specs.Index.{spellings_under, is_among, packed, Packs, bucket_mixed, bucket_hash_from, bucket_hash, bucket_of, HashedUnder, entry}
use Rattle.layout.specs.Index.{SpellingHeld}
use Rattle.layout.specs.Index.{Bucket, leads_none, leads_past, leads_here}
use Rattle.layout.specs.Index.{Indexed, Falling, room_with, entered, HasSpellings}

-- ------------------------------------------------------------------ what is looked for

-- a field is repeated exactly if its value is among those of its tag
pub repeated_among : (tag : ℕ) (spelling : List ℕ) (before : List Field) → is_among spelling (spellings_under tag before) ≡ is_repeated tag spelling before
unfolding is_repeated is_among spellings_under
repeated_among tag spelling [] = refl
repeated_among tag spelling (f ∷ fs) =
    by_test (eqb f.tag tag) (λ e. rw (e, spellings_under) (cc (repeated_among tag spelling fs)))
    (λ e. rw (e, spellings_under) (repeated_among tag spelling fs))

-- ------------------------------------------------------------------ the hash

-- four bytes more
hash_four : (hash : ℕ) (spelling : List ℕ) → 4 ≤ length spelling
    → bucket_hash_from hash spelling ≡ bucket_hash_from (bucket_mixed hash (packed spelling)) (drop 4 spelling)
unfolding bucket_hash_from
hash_four hash [] e = absurd (omega arith)
hash_four hash (a ∷ []) e = absurd (omega arith)
hash_four hash (a ∷ b ∷ []) e = absurd (omega arith)
hash_four hash (a ∷ b ∷ c ∷ []) e = absurd (omega arith)
hash_four hash (a ∷ b ∷ c ∷ d ∷ bs) e = refl

-- the last bytes
hash_rest : (hash : ℕ) (spelling : List ℕ) → length spelling < 4 → bucket_hash_from hash spelling ≡ bucket_mixed hash (packed spelling)
unfolding bucket_hash_from
hash_rest hash [] e = refl
hash_rest hash (a ∷ []) e = refl
hash_rest hash (a ∷ b ∷ []) e = refl
hash_rest hash (a ∷ b ∷ c ∷ []) e = refl
hash_rest hash (a ∷ b ∷ c ∷ d ∷ bs) e = absurd (omega arith)

-- hashes fit 32 bits
hash_small : (spelling : List ℕ) (hash : ℕ) → bucket_hash_from hash spelling < 4294967296
unfolding bucket_hash_from
hash_small [] hash = omega arith
hash_small (a ∷ []) hash = omega arith
hash_small (a ∷ b ∷ []) hash = omega arith
hash_small (a ∷ b ∷ c ∷ []) hash = omega arith
hash_small (a ∷ b ∷ c ∷ d ∷ bs) hash = hash_small bs (bucket_mixed hash (packed (a ∷ b ∷ c ∷ d ∷ [])))

-- so does that of a spelling
pub hash_below : (spelling : List ℕ) → bucket_hash spelling < 4294967296
unfolding bucket_hash
hash_below spelling = hash_small spelling 0

-- the first `count` bytes have the `hash`
pub record Hashing (spelling : List ℕ) (count hash : ℕ) : Type 0 where
  -- `count` is no further than the end
  pub within : count ≤ length spelling
  -- `hash` is a 32-bit number
  pub small : hash < 4294967296
  -- the bytes left, behind what has the `hash`, have the whole's hash
  pub rest : bucket_hash_from hash (drop count spelling) ≡ bucket_hash spelling

-- no byte yet
pub hashing_start : {spelling : List ℕ} → Hashing spelling 0 0
unfolding bucket_hash
hashing_start = record { within = omega arith; small = omega arith; rest = refl }

-- the bytes from `count` on, as the code lends them
rest_lent : (spelling : List ℕ) (count : ℕ) → take (length spelling - count) (drop count spelling) ≡ drop count spelling
rest_lent spelling count = take_all (length spelling - count) (drop count spelling) (rw length-drop (omega arith))

module _ {sought : List ℕ} {place hash : ℕ} (hashing : Hashing sought place hash) {packed_bytes : ℕ}
    (Packs-bytes : Packs (take (length sought - place) (drop place sought)) packed_bytes) {mixed : ℕ} (equal : mixed ≡ bucket_mixed hash packed_bytes) where
  packs : mixed ≡ bucket_mixed hash (packed (drop place sought))
  packs = equal ∙ ap (bucket_mixed hash) (Packs-bytes.number ∙ ap packed (rest_lent sought place))

  -- four bytes more
  pub hashing_next : 4 ≤ length sought - place → Hashing sought (place + 4) mixed
  hashing_next l =
      record {
        within = omega arith;
        small = omega (arith, packs);
        rest =
            ap (λ (x : ℕ). bucket_hash_from x (drop (place + 4) sought)) packs
            ∙ rw (← (drop-drop 4 place sought)) (sym (hash_four hash (drop place sought) (rw length-drop (omega arith))) ∙ hashing.rest);
      }

  -- all bytes
  pub hashing_end : length sought - place < 4 → mixed ≡ bucket_hash sought
  hashing_end l = packs ∙ sym (hash_rest hash (drop place sought) (rw length-drop (omega arith))) ∙ hashing.rest

-- a spelling's own
pub hashed_own : {tag : ℕ} {sought : List ℕ} {hash : ℕ} → hash ≡ bucket_hash sought → HashedUnder tag sought hash
hashed_own e = record { spelled = λ l. e }

-- of a field that is no spelling no hash is asked
pub hashed_none : {tag : ℕ} {sought : List ℕ} → 2 < tag → HashedUnder tag sought 0
hashed_none h = record { spelled = λ e. absurd (omega arith) }

-- ------------------------------------------------------------------ one entry

-- an entry with another hash is another spelling; one with the same hash is compared
pub entry_other :
    {table room : List ℕ} {number link : ℕ} {word : List ℕ} (sought : List ℕ) → SpellingHeld table room number word link → {hash stored : ℕ}
    → hash ≡ bucket_hash sought → stored ≡ get_or room (entry number + 1) 0 → (stored ≡ hash → ⊥) → false ≡ same word sought
entry_other {word = word} sought e f s d = sym (differ_same word sought (λ q. d (s ∙ e.hashed ∙ ap bucket_hash q ∙ sym f)))

-- one with the same hash is compared by its bytes
pub entry_same :
    {table room : List ℕ} {number link : ℕ} {word lent : List ℕ} (sought : List ℕ) → SpellingHeld table room number word link → {from size : ℕ}
    → from ≡ get_or room (entry number + 2) 0 → size ≡ get_or room (entry number + 3) 0 → lent ≡ take size (drop from table) → same lent sought ≡ same word sought
entry_same {table} sought e f s l = cc e.placed

-- ------------------------------------------------------------------ the search

-- the spellings that are left are those that `link` leads to
pub record Searching (table room sought : List ℕ) (words : List (List ℕ)) (link : ℕ) : Type 0 where
  -- the spellings not yet compared
  pub left : List (List ℕ)
  -- `link` leads to those of the bucket
  pub leads : Bucket table room (bucket_of (bucket_hash sought)) left link
  -- `sought` is among those left exactly if it is among all
  pub rest : is_among sought left ≡ is_among sought words

-- the search begins with all spellings of the bucket
pub searching_start :
    {table room sought : List ℕ} {words : List (List ℕ)} {hash link : ℕ} → Indexed table room words → hash ≡ bucket_hash sought
    → link ≡ get_or room (bucket_of hash) 0 → Searching table room sought words link
searching_start {table} {room} {sought} {words} {hash} {link} x e f =
    record {
      left = words;
      leads =
          subst (Bucket table room (bucket_of (bucket_hash sought)) words) (cc) (x.leads (bucket_of (bucket_hash sought)) (omega arith));
      rest = refl;
    }

module _ (table room sought : List ℕ) where
  -- nothing is left in the bucket
  none_among : (ws : List (List ℕ)) {link : ℕ} → Bucket table room (bucket_of (bucket_hash sought)) ws link → link ≡ 0 → is_among sought ws ≡ false
  unfolding is_among
  none_among [] leads_none e = refl
  none_among (w ∷ ws) (leads_past d l) e = rw (differ_same w sought (λ q. d (cc))) (none_among ws l e)
  none_among (w ∷ ws) (leads_here n l) e = absurd (omega arith)

  -- the spelling that `link` leads to, and those behind it
  pub record Next (ws : List (List ℕ)) (link : ℕ) : Type 0 where
    -- the spelling that `link` leads to
    pub first : List ℕ
    -- the spellings behind it
    pub behind : List (List ℕ)
    -- where the search goes on
    pub onward : ℕ
    -- the entry at `link` has the spelling and the way on
    pub entered : SpellingHeld table room link first onward
    -- the way on leads to those behind
    pub leads : Bucket table room (bucket_of (bucket_hash sought)) behind onward
    -- `sought` is among the spellings exactly if it is the first or among those behind
    pub among : is_among sought ws ≡ (same first sought || is_among sought behind)

  next_of : (ws : List (List ℕ)) {link : ℕ} → Bucket table room (bucket_of (bucket_hash sought)) ws link → 0 < link → Next ws link
  unfolding is_among
  next_of [] leads_none h = absurd (omega arith)
  next_of (w ∷ ws) (leads_past d l) h =
      let n = next_of ws l h in
      record {
        first = n.first;
        behind = n.behind;
        onward = n.onward;
        entered = n.entered;
        leads = n.leads;
        among = rw (differ_same w sought (λ q. d (cc))) n.among;
      }
  next_of (w ∷ ws) (leads_here {p = p} e l) h =
      record { first = w; behind = ws; onward = p; entered = e; leads = l; among = refl }

module _ {table room sought : List ℕ} {words : List (List ℕ)} {link : ℕ} (searching : Searching table room sought words link) where
  -- nothing is left: the spelling is not among them
  pub searching_end : link ≤ 0 → false ≡ is_among sought words
  searching_end h = sym (none_among table room sought searching.left searching.leads (omega arith)) ∙ searching.rest

  -- at a spelling, by the code's comparison
  module _ (below : 0 < link) {here : Bool} (tells : (word : List ℕ) (next_link : ℕ) → SpellingHeld table room link word next_link → here ≡ same word sought)
    where
      next : Next table room sought searching.left link
      next = next_of table room sought searching.left searching.leads below

      -- the spelling here is the one
      pub searching_found : here ≡ true → true ≡ is_among sought words
      unfolding is_among next
      searching_found e =
          let n = next in
          cc (tells n.first n.onward n.entered, n.among, searching.rest)

      -- it is not: those behind it are left
      pub searching_next : {older : ℕ} → here ≡ false → older ≡ get_or room (entry link) 0 → Searching table room sought words older
      unfolding is_among next
      searching_next {older} e f =
          let n = next in
          record {
            left = n.behind;
            leads = subst (Bucket table room (bucket_of (bucket_hash sought)) n.behind) (sym (f ∙ n.entered.onward)) n.leads;
            rest = cc (tells n.first n.onward n.entered, n.among, searching.rest);
          }

-- the search as the code makes it, for any spellings that the room has
pub record Walking (table room sought : List ℕ) (link : ℕ) : Type 0 where
  -- `link` is an entry or none
  pub small : link ≤ most.outsides
  -- whatever spellings the room has, the search stands at `link`
  pub search : (words : List (List ℕ)) → Indexed table room words → Searching table room sought words link

-- ------------------------------------------------------------------ one spelling more

leads_small : (table room : List ℕ) (bucket : ℕ) (ws : List (List ℕ)) {link : ℕ} → Bucket table room bucket ws link → link ≤ length ws
leads_small table room bucket [] leads_none = omega arith
leads_small table room bucket (w ∷ ws) (leads_past d l) = omega (arith, leads_small table room bucket ws l)
leads_small table room bucket (w ∷ ws) (leads_here e l) = omega arith

-- rooms that agree on the entries of some spellings lead through them alike
leads_kept :
    (table room room' : List ℕ) (bucket : ℕ) (ws : List (List ℕ)) {link : ℕ}
    → ((number column : ℕ) → 0 < number → number ≤ length ws → column < 4 → get_or room' (entry number + column) 0 ≡ get_or room (entry number + column) 0)
    → Bucket table room bucket ws link → Bucket table room' bucket ws link
leads_kept table room room' bucket [] same_entries leads_none = leads_none
leads_kept table room room' bucket (w ∷ ws) same_entries (leads_past d l) =
    leads_past d (leads_kept table room room' bucket ws (λ n i h k. same_entries n i h (omega arith)) l)
leads_kept table room room' bucket (w ∷ ws) same_entries (leads_here {p = p} e l) =
    let n : ℕ = suc (length ws) in
    let at : (i : ℕ) → i < 4 → get_or room' (entry n + i) 0 ≡ get_or room (entry n + i) 0 = λ i. same_entries n i (omega arith) (omega arith) in
    leads_here {ws = ws} {p = p}
    (record {
      onward = cc (add-zero (entry n), at 0 (omega arith), e.onward);
      hashed = at 1 (omega arith) ∙ e.hashed;
      placed = cc (at 3 (omega arith), at 2 (omega arith), e.placed);
    })
    (leads_kept table room room' bucket ws (λ n i h k. same_entries n i h (omega arith)) l)

-- a room of zeros has no spelling
zeros : (count place : ℕ) → get_or {A = ℕ} (replicate count 0) place 0 ≡ 0
zeros zero place = refl
zeros (suc count) zero = refl
zeros (suc count) (suc place) = zeros count place

indexed_none : {table : List ℕ} → Indexed table (replicate index_size 0) []
indexed_none {table} = record { leads = λ b h. subst (Bucket table (replicate index_size 0) b []) (sym (zeros index_size b)) leads_none }

-- and nothing leads anywhere
falling_none : Falling (replicate index_size 0)
falling_none = record { heads = λ b h. omega (arith, zeros index_size b); links = λ n h k. omega (arith, zeros index_size (entry n)) }

module _ (room : List ℕ) (long : length room ≡ index_size) (number hash from size : ℕ) (few : number ≤ most.outsides) (one : 0 < number) where
  r₁ : List ℕ
  r₁ = set room (entry number) (get_or room (bucket_of hash) 0)

  r₂ : List ℕ
  r₂ = set r₁ (entry number + 1) hash

  r₃ : List ℕ
  r₃ = set r₂ (entry number + 2) from

  r₄ : List ℕ
  r₄ = set r₃ (entry number + 3) size

  -- the room keeps its length
  with_length : length (room_with room number hash from size) ≡ index_size
  with_length = simp length-set long

  -- a number that is not written
  outside :
      (index : ℕ) → (index ≡ entry number → ⊥) → (index ≡ entry number + 1 → ⊥) → (index ≡ entry number + 2 → ⊥) → (index ≡ entry number + 3 → ⊥)
      → (index ≡ bucket_of hash → ⊥) → get_or (room_with room number hash from size) index 0 ≡ get_or room index 0
  unfolding r₁ r₂ r₃ r₄
  outside index p q r s t =
      get_or-set_other r₄ (bucket_of hash) index number 0 t
      ∙ get_or-set_other r₃ (entry number + 3) index size 0 s
      ∙ get_or-set_other r₂ (entry number + 2) index from 0 r
      ∙ get_or-set_other r₁ (entry number + 1) index hash 0 q
      ∙ get_or-set_other room (entry number) index (get_or room (bucket_of hash) 0) 0 p

  at_head : get_or (room_with room number hash from size) (bucket_of hash) 0 ≡ number
  unfolding r₁ r₂ r₃ r₄
  at_head = get_or-set_same r₄ (bucket_of hash) number 0 (simp length-set (omega arith))

  at_onward : get_or (room_with room number hash from size) (entry number) 0 ≡ get_or room (bucket_of hash) 0
  unfolding r₁ r₂ r₃ r₄
  at_onward =
      get_or-set_other r₄ (bucket_of hash) (entry number) number 0 (λ e. omega arith)
      ∙ get_or-set_other r₃ (entry number + 3) (entry number) size 0 (λ e. omega arith)
      ∙ get_or-set_other r₂ (entry number + 2) (entry number) from 0 (λ e. omega arith)
      ∙ get_or-set_other r₁ (entry number + 1) (entry number) hash 0 (λ e. omega arith)
      ∙ get_or-set_same room (entry number) (get_or room (bucket_of hash) 0) 0 (omega arith)

  at_hash : get_or (room_with room number hash from size) (entry number + 1) 0 ≡ hash
  unfolding r₁ r₂ r₃ r₄
  at_hash =
      get_or-set_other r₄ (bucket_of hash) (entry number + 1) number 0 (λ e. omega arith)
      ∙ get_or-set_other r₃ (entry number + 3) (entry number + 1) size 0 (λ e. omega arith)
      ∙ get_or-set_other r₂ (entry number + 2) (entry number + 1) from 0 (λ e. omega arith)
      ∙ get_or-set_same r₁ (entry number + 1) hash 0 (simp length-set (omega arith))

  at_place : get_or (room_with room number hash from size) (entry number + 2) 0 ≡ from
  unfolding r₁ r₂ r₃ r₄
  at_place =
      get_or-set_other r₄ (bucket_of hash) (entry number + 2) number 0 (λ e. omega arith)
      ∙ get_or-set_other r₃ (entry number + 3) (entry number + 2) size 0 (λ e. omega arith)
      ∙ get_or-set_same r₂ (entry number + 2) from 0 (simp length-set (omega arith))

  at_size : get_or (room_with room number hash from size) (entry number + 3) 0 ≡ size
  unfolding r₁ r₂ r₃ r₄
  at_size =
      get_or-set_other r₄ (bucket_of hash) (entry number + 3) number 0 (λ e. omega arith) ∙ get_or-set_same r₃ (entry number + 3) size 0
      (simp length-set (omega arith))

  -- links still lead to older spellings
  falling_more : Falling room → get_or room (bucket_of hash) 0 < number → Falling (room_with room number hash from size)
  falling_more f small =
      record {
        heads = λ j l.
            by_test (eqb j (bucket_of hash)) (λ e. rw (eqb-true j (bucket_of hash) e) (omega (arith, at_head)))
            (λ e.
            omega (arith, outside j (λ q. omega arith) (λ q. omega arith) (λ q. omega arith) (λ q. omega arith) (eqb-false j (bucket_of hash) e), f.heads j l));
        links = λ m l k.
            by_test (eqb m number) (λ e. rw (eqb-true m number e) (omega (arith, at_onward)))
            (λ e.
            let d : m ≡ number → ⊥ = eqb-false m number e in
            omega
            (arith, outside (entry m) (λ q. d (omega arith)) (λ q. omega arith) (λ q. omega arith) (λ q. omega arith) (λ q. omega arith), f.links m l k));
      }

  -- the room has one spelling more
  indexed_more :
      {table spelling : List ℕ} {words : List (List ℕ)} → number ≡ suc (length words) → hash ≡ bucket_hash spelling → take size (drop from table) ≡ spelling
      → Indexed table room words → Indexed table (room_with room number hash from size) (spelling ∷ words)
  indexed_more {table} {spelling} {words} count e p x =
      let room' : List ℕ = room_with room number hash from size in
      let kept : (m i : ℕ) → 0 < m → m ≤ length words → i < 4 → get_or room' (entry m + i) 0 ≡ get_or room (entry m + i) 0 =
      λ m i l k j.
      outside (entry m + i) (λ q. omega arith) (λ q. omega arith) (λ q. omega arith) (λ q. omega arith) (λ q. omega arith) in
      record {
        leads = λ j l.
            by_test (eqb j (bucket_of hash))
            (λ q.
            let here : j ≡ bucket_of hash = eqb-true j (bucket_of hash) q in
            subst (Bucket table room' j (spelling ∷ words)) (cc at_head)
            (leads_here
            (record {
              onward = cc at_onward;
              hashed = cc at_hash;
              placed =
                  cc (at_size, at_place);
            })
            (leads_kept table room room' j words kept (x.leads j l))))
            (λ q.
            let other : j ≡ bucket_of hash → ⊥ = eqb-false j (bucket_of hash) q in
            subst (Bucket table room' j (spelling ∷ words))
            (sym (outside j (λ q. omega arith) (λ q. omega arith) (λ q. omega arith) (λ q. omega arith) other))
            (leads_past (λ z. other (cc)) (leads_kept table room room' j words kept (x.leads j l))));
      }

-- ------------------------------------------------------------------ one field more

-- fields of other tags are not entered
spelled_other : (tag found : ℕ) (spelling : List ℕ) (before : List Field) → eqb found tag ≡ false
    → spellings_under tag (field found spelling ∷ before) ≡ spellings_under tag before
unfolding spellings_under
spelled_other tag found spelling before e = rw (e, spellings_under) refl

spelled_here : (tag found : ℕ) (spelling : List ℕ) (before : List Field) → eqb found tag ≡ true
    → spellings_under tag (field found spelling ∷ before) ≡ spelling ∷ spellings_under tag before
unfolding spellings_under
spelled_here tag found spelling before e = rw (e, spellings_under) refl

-- no field yet
pub has_none : {table : List ℕ} {tag : ℕ} → HasSpellings table tag [] 0 (replicate index_size 0)
unfolding spellings_under
has_none =
    record { long = length-replicate {A = ℕ} index_size 0; falling = falling_none; indexed = indexed_none; counted = refl }

module _ {table : List ℕ} {tag : ℕ} {before : List Field} {count : ℕ} {room : List ℕ} (has_spellings : HasSpellings table tag before count room) where
  -- a field of the tag is entered, any other is not
  pub has_next :
      (found : ℕ) (spelling : List ℕ) (from : ℕ) → take (length spelling) (drop from table) ≡ spelling → (here : Bool) → eqb found tag ≡ here
      → (here ≡ true → count < most.outsides)
      → HasSpellings table tag (field found spelling ∷ before) (count + one_if here) (entered room here count from spelling)
  has_next found spelling from p true e few =
      let n : ℕ = count + 1 in
      let h : ℕ = bucket_hash spelling in
      let words : List (List ℕ) = spellings_under tag before in
      let small : count < most.outsides = few refl in
      let number : n ≡ suc (length words) = omega (arith, has_spellings.counted) in
      let head : get_or room (bucket_of h) 0 ≤ length words = leads_small table room (bucket_of h) words
      (has_spellings.indexed.leads (bucket_of h) (omega arith)) in
      record {
        long = with_length room has_spellings.long n h from (length spelling) (omega arith) (omega arith);
        falling = falling_more room has_spellings.long n h from (length spelling) (omega arith) (omega arith) has_spellings.falling
            (omega (arith, has_spellings.counted));
        indexed =
            subst (Indexed table (room_with room n h from (length spelling))) (sym (spelled_here tag found spelling before e))
            (indexed_more room has_spellings.long n h from (length spelling) (omega arith) (omega arith) number refl p has_spellings.indexed);
        counted = ap length (spelled_here tag found spelling before e) ∙ omega (arith, has_spellings.counted);
      }
  has_next found spelling from p false e few =
      record {
        long = has_spellings.long;
        falling = has_spellings.falling;
        indexed = subst (Indexed table room) (sym (spelled_other tag found spelling before e)) has_spellings.indexed;
        counted = ap length (spelled_other tag found spelling before e) ∙ omega (arith, has_spellings.counted);
      }
