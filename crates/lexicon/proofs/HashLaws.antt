-- Laws of the hash: how it is computed, eight bytes at a time.
use Prim.Native.Nat.{ℕ, suc, ◌+◌, ◌-◌, ◌*◌, ◌/◌, ◌<◌, ◌≤◌}
use mathlib.Core.Path.{◌≡◌, refl, sym, ap, ◌∙◌}
use mathlib.Core.List.{List}
use native.Mathlib.Omega.{arith}
use lib.Seq.{take_all}
use lib.ListN.{length, get_or, take, drop, length-drop, get_or-eq_default}
use borrow.Author.Tests.{lt-ltb, le-ltb}
use Rattle.spellings.specs.Bytes.{longest_run, is_word_byte}
use Rattle.spellings.specs.Eights.{four_at, eight_at}
use Rattle.spellings.proofs.BytesLaws.{run_prefix}
use Rattle.lexicon.specs.Trees.{few_of, mixed, chunks_from, seed_of, body_of, hash_of, Hashed}

-- ------------------------------------------------------------------ eight bytes at a time

-- `hash` is the hash of the first `count` times eight bytes
pub record Chunking (spelling : List ℕ) (chunks start hash count : ℕ) : Type 0 where
  -- all eights are there
  pub within : chunks * 8 ≤ length spelling
  -- the eights left, behind what has the `hash`, have the hash of all eights
  pub rest : chunks_from (chunks - count) spelling (count * 8) hash ≡ chunks_from chunks spelling 0 start

module _ {spelling : List ℕ} {chunks start hash count : ℕ} (chunking : Chunking spelling chunks start hash count) where
  -- eight bytes more
  pub chunking_next : count < chunks → {word hash' : ℕ} → word ≡ eight_at spelling (count * 8) → hash' ≡ mixed hash word
      → Chunking spelling chunks start hash' (count + 1)
  unfolding chunks_from
  chunking_next l e f =
      let one : chunks - count ≡ suc (chunks - (count + 1)) = omega arith in
      let next : (count + 1) * 8 ≡ count * 8 + 8 = omega arith in
      record {
        within = chunking.within;
        rest = cc (e, f, next, ap (λ (n : ℕ). chunks_from n spelling (count * 8) hash) one, chunking.rest);
      }

  -- nothing is left
  pub chunking_end : chunks ≤ count → hash ≡ chunks_from chunks spelling 0 start
  unfolding chunks_from
  chunking_end l =
      let none : chunks - count ≡ 0 = omega arith in
      sym (ap (λ (n : ℕ). chunks_from n spelling (count * 8) hash) none) ∙ chunking.rest

-- ------------------------------------------------------------------ short spellings

module _ (spelling : List ℕ) where
  -- no byte
  pub few_none : length spelling ≡ 0 → 0 ≡ few_of spelling
  unfolding few_of
  few_none e =
      let z : (i : ℕ) → get_or spelling i 0 ≡ 0 = λ i. get_or-eq_default spelling 0 (omega arith) in
      rw (lt-ltb (length spelling) 4 (omega arith), few_of) (omega (arith, z 0, z (length spelling / 2), z (length spelling - 1)))

  -- one byte, two or three
  pub few_three : length spelling < 4 → {first second third : ℕ} → first ≡ get_or spelling 0 0 → second ≡ get_or spelling (length spelling / 2) 0
      → third ≡ get_or spelling (length spelling - 1) 0
      → first + second * 256 + third * 4294967296 ≡ few_of spelling
  unfolding few_of
  few_three l e f g = rw (lt-ltb (length spelling) 4 l, few_of) (cc)

  -- four bytes and more
  pub few_fours : 4 ≤ length spelling → {first second : ℕ} → first ≡ four_at spelling 0 → second ≡ four_at spelling (length spelling - 4)
      → first + second * 4294967296 ≡ few_of spelling
  unfolding few_of
  few_fours l e f = rw (le-ltb (length spelling) 4 l, few_of) (cc)

  -- ------------------------------------------------------------------ the whole hash

  -- of fewer than eight bytes
  pub hash_few : length spelling < 8 → {word hash result : ℕ} → word ≡ few_of spelling → hash ≡ mixed (seed_of spelling) word → result ≡ mixed hash 0
      → result ≡ hash_of spelling
  unfolding hash_of body_of
  hash_few l e f g =
      let body : body_of spelling ≡ mixed (seed_of spelling) (few_of spelling) = rw (lt-ltb (length spelling) 8 l, body_of) refl in
      cc

  -- of eight bytes and more
  pub hash_long : 8 ≤ length spelling → {front word hash result : ℕ} → front ≡ chunks_from ((length spelling - 1) / 8) spelling 0 (seed_of spelling)
      → word ≡ eight_at spelling (length spelling - 8)
      → hash ≡ mixed front word
      → result ≡ mixed hash 0
      → result ≡ hash_of spelling
  unfolding hash_of body_of
  hash_long l d e f g =
      let body : body_of spelling ≡ mixed (chunks_from ((length spelling - 1) / 8) spelling 0 (seed_of spelling)) (eight_at spelling (length spelling - 8))
      = rw (le-ltb (length spelling) 8 l, body_of) refl in
      cc

-- the run at an offset, by its length
pub run_hashed : (spelling : List ℕ) (at : ℕ) {size hash : ℕ} {run : List ℕ}
    → size ≡ length (longest_run is_word_byte (take (length spelling - at) (drop at spelling)))
    → run ≡ take size (drop at spelling)
    → hash ≡ hash_of run
    → Hashed (longest_run is_word_byte (drop at spelling)) size hash
run_hashed spelling at e f g =
    let whole : take (length spelling - at) (drop at spelling) ≡ drop at spelling = take_all (length spelling - at) (drop at spelling)
    (omega (arith, length-drop at spelling)) in
    record { sized = cc; hashed = cc (run_prefix is_word_byte (drop at spelling)) }
