-- Bytes and fields: the bytes of a list of fields split into these fields, and bytes that split without a cut are those of their fields.
use Prim.Native.Nat.{ℕ, zero, suc, ◌+◌, ◌*◌, ◌/◌, ◌%◌, ◌≤◌}
use mathlib.Core.Path.{◌≡◌, refl, ap, ◌∙◌}
use mathlib.Core.Bool.{true, false}
use mathlib.Core.List.{List, [], ◌∷◌, ◌++◌}
use native.Mathlib.Omega.{arith}
use lib.Dec.{leb}
use lib.ListN.{length, get_or, take, drop, length-append, length-drop, take-append-drop}
use lib.Seq.{drop-drop, take-append_seam, drop-append_seam, get_or-drop, length-take-le}
use borrow.Author.Tests.{le-leb, leb-true, ne_eqb}
pub use Rattle.spellings.specs.Alike.{Bytes}
use Rattle.spellings.proofs.BytesLaws.{by_test}
use Rattle.grammar.specs.Encode.{field_then, field_bytes}
use Rattle.grammar.specs.Values.{Field, field}
use Rattle.grammar.specs.Fields.{RawFields, end, cut, next, size_of, fields_from, fields_of}

-- a part of bytes is bytes
pub dropped_bytes : (count : ℕ) (bs : List ℕ) → Bytes bs → Bytes (drop count bs)
dropped_bytes count bs b i = rw (get_or-drop count bs i 0) (b (count + i))

taken_bytes : (count : ℕ) (bs : List ℕ) → Bytes bs → Bytes (take count bs)
taken_bytes zero bs b i = omega arith
taken_bytes (suc count) [] b i = omega arith
taken_bytes (suc count) (c ∷ cs) b zero = b zero
taken_bytes (suc count) (c ∷ cs) b (suc i) = taken_bytes count cs (λ j. b (suc j)) i

-- ------------------------------------------------------------------ fields and their offsets

-- fields one after the other from an offset on
unfoldable pub spread : ℕ → List Field → RawFields
spread at [] = end at
spread at (f ∷ fs) = next at f.tag f.value (spread (at + (3 + length f.value)) fs)

-- the fields without their offsets
unfoldable pub flat : RawFields → List Field
flat (end at) = []
flat (cut at) = []
flat (next at tag v fs) = field tag v ∷ flat fs

-- no field is cut
abbrev pub Uncut : RawFields → Type 0
Uncut (end at) = Unit {0}
Uncut (cut at) = ⊥
Uncut (next at tag v fs) = Uncut fs

-- every value consists of bytes
abbrev pub ValueBytes : RawFields → Type 0
ValueBytes (end at) = Unit {0}
ValueBytes (cut at) = Unit {0}
ValueBytes (next at tag v fs) = Bytes v × ValueBytes fs

-- ------------------------------------------------------------------ one turn of the split

from_end : (fuel at : ℕ) → fields_from fuel at [] ≡ end at
unfolding fields_from
from_end zero at = refl
from_end (suc fuel) at = refl

from_none : (at : ℕ) (rest : List ℕ) → fields_from zero at rest ≡ end at
unfolding fields_from
from_none at rest = refl

module _ (fuel at : ℕ) (rest : List ℕ) (some : (length rest ≡ 0) → ⊥) where
  from_cut : leb (3 + size_of rest) (length rest) ≡ false → fields_from (suc fuel) at rest ≡ cut at
  unfolding fields_from
  from_cut e = rw (ne_eqb (length rest) 0 some, e, fields_from) refl

  from_next : leb (3 + size_of rest) (length rest) ≡ true
      → fields_from (suc fuel) at rest
      ≡ next at (get_or rest 0 0) (take (size_of rest) (drop 3 rest)) (fields_from fuel (at + (3 + size_of rest)) (drop (3 + size_of rest) rest))
  unfolding fields_from
  from_next e = rw (ne_eqb (length rest) 0 some, e, fields_from) refl

-- ------------------------------------------------------------------ from fields to bytes and back

-- a field whose two bytes of length state the length of its value
from_field : (fuel at tag hi lo : ℕ) (value follow : List ℕ) → hi * 256 + lo ≡ length value
    → fields_from (suc fuel) at (tag ∷ hi ∷ lo ∷ value ++ follow) ≡ next at tag value (fields_from fuel (at + (3 + length value)) follow)
from_field fuel at tag hi lo value follow e =
    from_next fuel at (tag ∷ hi ∷ lo ∷ value ++ follow) (λ z. omega arith)
    (le-leb (3 + (hi * 256 + lo)) (length (tag ∷ hi ∷ lo ∷ value ++ follow)) (omega (arith, length-append value follow)))
    ∙ rw (e, take-append_seam value follow, ← drop-drop (length value) 3 (tag ∷ hi ∷ lo ∷ value ++ follow), drop-append_seam value follow) refl

-- The bytes of fields split into these fields, if each length fits its two bytes.
split_bytes : (fs : List Field) (fuel at : ℕ) → length (field_bytes fs) ≤ fuel → fields_from fuel at (field_bytes fs) ≡ spread at fs
unfolding field_bytes spread
split_bytes [] fuel at h = from_end fuel at
split_bytes (f ∷ fs) zero at h = absurd (omega arith)
split_bytes (f ∷ fs) (suc fuel) at h =
    from_field fuel at f.tag (length f.value / 256) (length f.value % 256) f.value (field_bytes fs) (omega arith)
    ∙ ap (next at f.tag f.value)
    (split_bytes fs fuel (at + (3 + length f.value)) (omega (arith, length-append f.value (field_bytes fs))))

-- the bytes of fields are read as the fields
pub fields_of_bytes : (fs : List Field) → fields_of (field_bytes fs) ≡ spread 0 fs
unfolding fields_of
fields_of_bytes fs = split_bytes fs (length (field_bytes fs)) 0 (omega arith)

-- three bytes and the rest
three : (bs : List ℕ) → 3 ≤ length bs → bs ≡ get_or bs 0 0 ∷ get_or bs 1 0 ∷ get_or bs 2 0 ∷ drop 3 bs
three [] h = absurd (omega arith)
three (a ∷ []) h = absurd (omega arith)
three (a ∷ b ∷ []) h = absurd (omega arith)
three (a ∷ b ∷ c ∷ bs) h = refl

-- bytes with a field at the front, its length stated by two bytes
field_whole : (rest : List ℕ) → Bytes rest → 3 + size_of rest ≤ length rest → (fs : List Field)
    → drop (3 + size_of rest) rest ≡ field_bytes fs
    → rest ≡ field_then (field (get_or rest 0 0) (take (size_of rest) (drop 3 rest))) (field_bytes fs)
field_whole rest b h fs e =
    let n : ℕ = size_of rest in
    let hi : n / 256 ≡ get_or rest 1 0 = omega (arith, b 2) in
    let lo : n % 256 ≡ get_or rest 2 0 = omega (arith, b 2) in
    let size : length (take n (drop 3 rest)) ≡ n = length-take-le n (drop 3 rest) (omega (arith, length-drop 3 rest)) in
    let value : take n (drop 3 rest) ++ field_bytes fs ≡ drop 3 rest =
    cc (drop-drop n 3 rest, take-append-drop n (drop 3 rest)) in
    cc (three rest (omega arith))

-- Bytes that split without a cut are the bytes of their fields.
split_uncut : (fuel at : ℕ) (rest : List ℕ) → Bytes rest → length rest ≤ fuel → Uncut (fields_from fuel at rest)
    → rest ≡ field_bytes (flat (fields_from fuel at rest))
unfolding field_bytes flat
split_uncut zero at [] b h u = rw (from_end zero at) refl
split_uncut (suc fuel) at [] b h u = rw (from_end (suc fuel) at) refl
split_uncut zero at (c ∷ cs) b h u = absurd (omega arith)
split_uncut (suc fuel) at (c ∷ cs) b h u =
    let rest : List ℕ = c ∷ cs in
    by_test (leb (3 + size_of rest) (length rest))
    (λ e.
    let l = leb-true (3 + size_of rest) (length rest) e in
    let next_is = from_next fuel at rest (λ z. omega arith) e in
    rw next_is
    (field_whole rest b l (flat (fields_from fuel (at + (3 + size_of rest)) (drop (3 + size_of rest) rest)))
    (split_uncut fuel (at + (3 + size_of rest)) (drop (3 + size_of rest) rest) (dropped_bytes (3 + size_of rest) rest b)
    (omega (arith, length-drop (3 + size_of rest) rest)) (rw next_is at u))))
    (λ e. absurd (rw (from_cut fuel at rest (λ z. omega arith) e) at u))

-- bytes that are read to their end are those of their fields
pub bytes_of_fields : (bs : List ℕ) → Bytes bs → Uncut (fields_of bs) → bs ≡ field_bytes (flat (fields_of bs))
unfolding fields_of
bytes_of_fields bs b u = split_uncut (length bs) 0 bs b (omega arith) u

-- The values of bytes are bytes.
split_values : (fuel at : ℕ) (rest : List ℕ) → Bytes rest → ValueBytes (fields_from fuel at rest)
split_values zero at rest b = rw (from_none at rest) tt
split_values (suc fuel) at [] b = rw (from_end (suc fuel) at) tt
split_values (suc fuel) at (c ∷ cs) b =
    let rest : List ℕ = c ∷ cs in
    by_test (leb (3 + size_of rest) (length rest))
    (λ e.
    rw (from_next fuel at rest (λ z. omega arith) e) (
      taken_bytes (size_of rest) (drop 3 rest) (dropped_bytes 3 rest b),
      split_values fuel (at + (3 + size_of rest)) (drop (3 + size_of rest) rest) (dropped_bytes (3 + size_of rest) rest b),
    ))
    (λ e. rw (from_cut fuel at rest (λ z. omega arith) e) tt)

-- the values of fields of bytes are bytes
pub value_bytes : (bs : List ℕ) → Bytes bs → ValueBytes (fields_of bs)
unfolding fields_of
value_bytes bs b = split_values (length bs) 0 bs b
