-- Laws of paths: the bits ahead, some at a time, are those of a path.
use Prim.Native.Nat.{ℕ, zero, suc, ◌+◌, ◌*◌, ◌/◌, ◌%◌, ◌<◌, ◌≤◌}
use mathlib.Core.Path.{◌≡◌, refl, sym, ap, ◌∙◌}
use mathlib.Core.List.{List}
use native.Mathlib.Nat.{mul_assoc}
use native.Mathlib.Omega.{arith}
use lib.ListN.{length, get_or, drop, drop_of_length-le}
use Rattle.spellings.proofs.Loops.{drop_at_index}
use Rattle.lexicon.specs.Trees.{mixed, hash_of, second_from, second_of, bytes_of, behind_hash, turns_of, Window, shut, bit, Refilled}

-- ------------------------------------------------------------------ the bits ahead

-- the 1 behind the bits is there
pub window_some : {more turns path : ℕ} → Window more turns path → 0 < turns
window_some (shut e f) = omega arith
window_some (bit l e f w) = omega (arith, window_some w)

module _ {more turns path : ℕ} where
  -- where bits are left, the next is that of the path
  pub window_turn : Window more turns path → 2 ≤ turns → path % 2 ≡ turns % 2
  window_turn (shut e f) h = absurd (omega arith)
  window_turn (bit l e f w) h = omega arith

  -- and so are those behind it
  pub window_next : Window more turns path → 2 ≤ turns → Window more (turns / 2) (path / 2)
  window_next (shut e f) h = absurd (omega arith)
  window_next (bit {turns' = turns'} {path' = path'} l e f w) h =
      let a : turns / 2 ≡ turns' = omega arith in
      let b : path / 2 ≡ path' = omega arith in
      rw (a, b) w

  -- where no bit is left, what is behind them is the path
  pub window_shut : Window more turns path → turns ≡ 1 → path ≡ more
  window_shut (shut e f) h = f
  window_shut (bit l e f w) h = absurd (omega (arith, window_some w))

-- two to the power of `width`
unfoldable doubled : ℕ → ℕ
doubled zero = 1
doubled (suc width) = 2 * doubled width

-- a number of so many bits, and a 1 behind them
window_of : (width : ℕ) {more low turns path : ℕ} → low < doubled width → turns ≡ low + doubled width → path ≡ low + doubled width * more
    → Window more turns path
unfolding doubled
window_of zero {turns = turns} {path = path} l e f = shut {turns = turns} {path = path} (omega arith) (omega arith)
window_of (suc width) {more} {low} {turns} {path} l e f =
    let half : 2 * doubled width * more ≡ 2 * (doubled width * more) = mul_assoc 2 (doubled width) more in
    bit {turns = turns} {path = path} {b = low % 2} {turns' = low / 2 + doubled width} {path' = low / 2 + doubled width * more}
    (omega arith) (omega arith) (omega (arith, half)) (window_of width (omega arith) refl refl)

-- ------------------------------------------------------------------ the path of a spelling

-- the bits of both hashes are 52
pub both_fit : (hash second : ℕ) → hash < 18446744073709551616
    → hash / 17592186044416 + second % 4294967296 * 1048576 < 4503599627370496
both_fit hash second l = joined (hash / 17592186044416) (second % 4294967296) (omega arith) (omega arith)
  where
    joined : (low high : ℕ) → low < 1048576 → high < 4294967296 → low + high * 1048576 < 4503599627370496
    joined low high a b = omega arith

module _ (spelling : List ℕ) {hash turns : ℕ} (hashed : hash ≡ hash_of spelling) (fits : hash < 18446744073709551616) where
  -- the bits of the hash
  pub hash_window : turns ≡ hash / 17592186044416 + 1048576 → Window (behind_hash spelling) turns (turns_of spelling)
  unfolding turns_of doubled
  hash_window e =
      let same_bits : hash / 17592186044416 ≡ hash_of spelling / 17592186044416 = ap (λ (n : ℕ). n / 17592186044416) hashed in
      window_of 20 {low = hash / 17592186044416} (omega arith) e (ap (λ (n : ℕ). n + 1048576 * behind_hash spelling) (sym same_bits))

  -- the bits of both hashes
  pub both_window : {second : ℕ} → second ≡ second_of spelling → turns ≡ hash / 17592186044416 + second % 4294967296 * 1048576 + 4503599627370496
      → Window (bytes_of spelling) turns (turns_of spelling)
  unfolding turns_of doubled
  both_window {second} f e =
      let same_bits : hash / 17592186044416 ≡ hash_of spelling / 17592186044416 = ap (λ (n : ℕ). n / 17592186044416) hashed in
      let same_second : second % 4294967296 ≡ second_of spelling % 4294967296 = ap (λ (n : ℕ). n % 4294967296) f in
      window_of 52 {low = hash / 17592186044416 + second % 4294967296 * 1048576} (both_fit hash second fits) e (omega (arith, same_bits, same_second))

-- ------------------------------------------------------------------ the next byte

module _ (spelling : List ℕ) {turns next : ℕ} (within : next ≤ length spelling) where
  -- a byte is left
  pub refilled_byte : turns ≡ 1 → (next ≡ length spelling → ⊥) → {byte : ℕ} → byte ≡ get_or spelling next 0 → byte < 256
      → Refilled spelling turns next (byte + 256) (next + 1)
  unfolding bytes_of doubled
  refilled_byte e d {byte} eb small =
      let l : next < length spelling = omega arith in
      let read : bytes_of (drop next spelling) ≡ byte + 256 * bytes_of (drop (next + 1) spelling) = cc (drop_at_index spelling next l) in
      record {
        some = λ h. omega arith;
        within = omega arith;
        path = λ path w. window_of 8 {low = byte} (omega arith) refl (window_shut w e ∙ read);
      }

  -- none is left
  pub refilled_none : turns ≡ 1 → next ≡ length spelling → Refilled spelling turns next 256 next
  unfolding bytes_of doubled
  refilled_none e z =
      let read : bytes_of (drop next spelling) ≡ 0 = cc (drop_of_length-le spelling {i = next} (omega arith)) in
      record {
        some = λ h. omega arith;
        within = within;
        path = λ path w. window_of 8 {low = 0} (omega arith) refl (omega (arith, window_shut w e, read));
      }

-- ------------------------------------------------------------------ the second hash

-- `count` bytes are in the hash
pub record Mixing (bytes : List ℕ) (hash count : ℕ) : Type 0 where
  -- `count` is no further than the end
  pub within : count ≤ length bytes
  -- the bytes left, behind what has the `hash`, have the hash of all
  pub rest : second_from hash (drop count bytes) ≡ second_of bytes

module _ {bytes : List ℕ} {hash count : ℕ} (mixing : Mixing bytes hash count) where
  -- one byte more
  pub mixing_next : count < length bytes → {byte hash' : ℕ} → byte ≡ get_or bytes count 0 → hash' ≡ mixed hash byte → Mixing bytes hash' (count + 1)
  unfolding second_from
  mixing_next l e f = record { within = omega arith; rest = cc (e, f, drop_at_index bytes count l, mixing.rest) }

  -- all are
  pub mixing_end : length bytes ≤ count → hash ≡ second_of bytes
  unfolding second_from
  mixing_end l = cc (drop_of_length-le bytes l, mixing.rest)
