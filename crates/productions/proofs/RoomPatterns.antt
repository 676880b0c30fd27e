-- Laws of a room that is made one for a text: to the link of each production is added what reads a variable first in it (document 02, C-14).
use Prim.Native.Nat.{ℕ, zero, suc, ◌+◌, ◌*◌, ◌<◌}
use mathlib.Core.Path.{◌≡◌, refl, sym, ap, ◌∙◌}
use mathlib.Core.Bool.{Bool}
use mathlib.Core.List.{List, [], ◌∷◌, ◌++◌, map}
use native.Mathlib.Decide.{ℕ_discrete}
use native.Mathlib.Omega.{arith}
use lib.ListN.{length, get_or, drop, length-set, length-map}
use lib.Seq.{get_or-set_same, get_or-set_other}
use Rattle.spellings.proofs.BytesLaws.{by_test}
use Rattle.grammar.specs.Limits.{most}
use Rattle.productions.specs.Room.{Entry, no_entry, HoldsEntries, place_from, is_of, is_nullable_of, places_number, link_number, room_of, patterned, Patterned}
use Rattle.productions.specs.Room.{sets_at, places_at, productions_at, links_at, room_size, patterns_base}
use Rattle.productions.proofs.RoomLaws.{first_set_in_lem, places_in, first_in_lem, link_in, kinds_in_lem}
use Rattle.productions.proofs.RoomWriting.{Filling, filled}

-- ------------------------------------------------------------------ the loop

-- No link is past at first.
pub patterning_start : (pattern : ℕ → ℕ) {room : List ℕ} → length room ≡ room_size → Patterned pattern room 0 room
patterning_start pattern size = record { size = size; done = λ place l. absurd (omega arith); left = λ place h. refl }

module _ {pattern : ℕ → ℕ} {room₀ : List ℕ} {index : ℕ} {room : List ℕ} (patterning : Patterned pattern room₀ index room) where
  -- The next link is as before.
  pub patterning_here : get_or room (links_at + 2 * index) 0 ≡ get_or room₀ (links_at + 2 * index) 0
  patterning_here = patterning.left (links_at + 2 * index) (λ place l e. omega arith)

  module _ (near : index < most.alternatives) where
    done_next : (place : ℕ) → place < index + 1 → Dec (place ≡ index)
        → get_or (patterned index (pattern index) room) (links_at + 2 * place) 0 ≡ get_or room₀ (links_at + 2 * place) 0 + patterns_base * pattern place
    done_next place l (yes e) = rw (e, ← patterning_here) (get_or-set_same room (links_at + 2 * index) _ 0 (omega (arith, patterning.size)))
    done_next place l (no e) =
        get_or-set_other room (links_at + 2 * index) (links_at + 2 * place) _ 0 (λ q. e (omega arith)) ∙ patterning.done place (before e l)
      where
        before : (place ≡ index → ⊥) → place < index + 1 → place < index
        before e l = omega arith

    -- One link more.
    pub patterning_next : {patterns : ℕ} → patterns ≡ pattern index → {room' : List ℕ} → room' ≡ patterned index patterns room
        → Patterned pattern room₀ (index + 1) room'
    patterning_next e er =
        rw (er, e)
        (record {
          size = length-set room (links_at + 2 * index) _ ∙ patterning.size;
          done = λ place l. done_next place l (ℕ_discrete place index);
          left = λ at_place h. get_or-set_other room (links_at + 2 * index) at_place _ 0 (h index (omega arith))
              ∙ patterning.left at_place (λ place l. h place (omega arith));
        })

-- Only what is added at places that are past matters.
pub patterned_as : {pattern other : ℕ → ℕ} {room₀ : List ℕ} {index : ℕ} {room : List ℕ} → ((place : ℕ) → place < index → pattern place ≡ other place)
    → Patterned pattern room₀ index room → Patterned other room₀ index room
patterned_as same patterns-laid =
    record {
      size = patterns-laid.size;
      done = λ place l. rw (← (same place l)) (patterns-laid.done place l);
      left = patterns-laid.left;
    }

-- ------------------------------------------------------------------ entries with and without

module _ {A : Type 0} (plain : A → Entry) (none : (x : A) → (plain x).patterns ≡ 0) (patterns : A → ℕ) where
  -- an entry with what reads a variable first in it
  abbrev pub with_patterns : A → Entry
  with_patterns x =
      record {
        nonterminal = (plain x).nonterminal;
        start = (plain x).start;
        first = (plain x).first;
        nullable = (plain x).nullable;
        patterns = patterns x;
      }

  place_same : (test : Entry → Bool) → ((x : A) → test (with_patterns x) ≡ test (plain x)) → (xs : List A) (place : ℕ)
      → place_from test (map with_patterns xs) place ≡ place_from test (map plain xs) place
  unfolding place_from
  place_same test same [] place = refl
  place_same test same (x ∷ xs) place =
      let rest = place_same test same xs (place + 1) in
      by_test (test (plain x)) (λ t. rw (same x, t, place_from) refl) (λ t. rw (same x, t, place_from) rest)

  places_same : (xs : List A) (nonterminal : ℕ) → places_number (map with_patterns xs) nonterminal ≡ places_number (map plain xs) nonterminal
  places_same xs nonterminal =
      rw (place_same (is_of nonterminal) (λ x. refl) xs 0, place_same (is_nullable_of nonterminal) (λ x. refl) xs 0) refl

  first-same : (xs : List A) (place : ℕ) → (get_or (map with_patterns xs) place no_entry).first ≡ (get_or (map plain xs) place no_entry).first
  first-same [] place = refl
  first-same (x ∷ xs) zero = refl
  first-same (x ∷ xs) (suc place) = first-same xs place

  link_more : (xs : List A) (place from : ℕ) → place < length xs
      → link_number (get_or (map with_patterns xs) place no_entry) (drop (place + 1) (map with_patterns xs)) from
      ≡ link_number (get_or (map plain xs) place no_entry) (drop (place + 1) (map plain xs)) from + patterns_base * get_or (map patterns xs) place 0
  link_more [] place from l = absurd (omega arith)
  link_more (x ∷ xs) zero from l = omega (arith, none x, place_same (is_of (plain x).nonterminal) (λ y. refl) xs (from + 1))
  link_more (x ∷ xs) (suc place) from l =
      let z : suc place + 1 ≡ suc (place + 1) = omega arith in
      rw z (link_more xs place from (omega arith))

  module _ {sets : List ℕ} (xs : List A) {room₀ : List ℕ} (held : HoldsEntries sets (map plain xs) room₀) (whole : length room₀ ≡ room_size) {index : ℕ}
      {room : List ℕ} (patterning : Patterned (λ place. get_or (map patterns xs) place 0) room₀ index room) (ended : index ≡ length xs) where
    abbrev es : List Entry
    es = map with_patterns xs

    plain_many : length (map plain xs) ≡ length xs
    plain_many = length-map xs plain

    es_many : length es ≡ length xs
    es_many = length-map xs with_patterns

    filling : Filling held.kinds sets es room₀ 0 room
    filling =
        record {
          low = omega arith;
          few = omega (arith, held.few, plain_many, es_many);
          size = patterning.size;
          old_size = whole;
          head = patterning.left 0 (λ place l e. omega arith) ∙ kinds_in_lem held;
          set_in = λ n h. patterning.left (sets_at + n) (λ place l e. omega arith) ∙ first_set_in_lem held n h;
          places = λ n h. patterning.left (places_at + n) (λ place l e. omega arith) ∙ places_in held n h ∙ sym (places_same xs n);
          first = λ i l u. patterning.left (productions_at + 2 * i) (λ place l e. omega arith)
              ∙ first_in_lem held i (omega (arith, plain_many, es_many)) ∙ sym (first-same xs i);
          link = λ i l u. patterning.done i (omega (arith, es_many))
              ∙ ap (λ (link : ℕ). link + patterns_base * get_or (map patterns xs) i 0) (link_in held i (omega (arith, plain_many, es_many)))
              ∙ sym (link_more xs i i (omega (arith, es_many)));
          tail = λ i l. patterning.left i (λ place k e. omega (arith, es_many));
        }

    -- With all links the room is one of the entries with what reads a variable first in them.
    pub patterning_end : room ≡ room_of held.kinds sets (map with_patterns xs) ++ drop (productions_at + 2 * length (map with_patterns xs)) room₀
    patterning_end = filled filling refl
