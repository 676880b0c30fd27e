-- The numbers of a case, its parts, and rooms of which only the front is written.
use Prim.Native.Nat.{ℕ, zero, suc, ◌+◌, ◌-◌, ◌*◌, ◌/◌, ◌^◌, ◌<◌, ◌≤◌, min}
use native.Mathlib.Decide.{dec_le}
use mathlib.Core.Path.{◌≡◌, refl, sym, ap, ◌∙◌}
use mathlib.Core.Bool.{Bool, true, false, ◌&&◌, and-false, true≢false}
use mathlib.Core.List.{List, [], ◌∷◌, ◌++◌}
use native.Mathlib.Omega.{arith}
use lib.Dec.{eqb, leb}
use Rattle.std.specs.Prelude.{Some, None, Ok, Err}
use Rattle.std.specs.List.{list_all}
use lib.ListN.{length, get_or, take, drop, replicate, length-append, length-drop, length-replicate, get_or-replicate, get_or-eq_default, take-append-drop}
use lib.Seq.{take_at}
use borrow.Author.Tests.{leb-true, eqb-true, eqb-false, lt-leb, eq-eqb, ne_eqb}
use Rattle.spellings.specs.Alike.{Alike}
use Rattle.spellings.specs.Bytes.{same}
use Rattle.spellings.proofs.BytesLaws.{by_test, differ_same, length_same}
use Rattle.spellings.proofs.AlikeLaws.{alike_start, alike_next, alike_same, differ_at}
use Rattle.cases.specs.declared.case.Places.{Places}
use Rattle.cases.specs.declared.case.Case.{Case}
use Rattle.cases.specs.Cases.{longest_file, last_cause, four_at, numbers_from, numbers_in, places_at, is_whole, case_of, next_at, part_of, left_as}

-- ------------------------------------------------------------------ rooms of which the front is written

-- the first `count` numbers of a room are those written at its front, and behind these as they were
pub record Left (written : List ℕ) (untouched : ℕ) (room : List ℕ) (count : ℕ) : Type 0 where
  -- what is written fits the room
  pub fits : length written ≤ length room
  -- the first `count` numbers agree with a room that is written and untouched behind
  pub agree : Alike room (left_as written (length room) untouched) count

front_at : (written : List ℕ) (count untouched i : ℕ) → i < length written + count → get_or (written ++ replicate count untouched) i 0 ≡ get_or written i untouched
front_at [] count untouched i h = get_or-replicate count i untouched 0 (omega arith)
front_at (x ∷ xs) count untouched zero h = refl
front_at (x ∷ xs) count untouched (suc i) h = front_at xs count untouched i (omega arith)

module _ (written : List ℕ) (untouched : ℕ) (room : List ℕ) where
  left_length : length written ≤ length room → length room ≡ length (left_as written (length room) untouched)
  unfolding left_as
  left_length fits = simp (length-append, length-replicate) (omega arith)

  left_at : (i : ℕ) → i < length room → get_or written i untouched ≡ get_or (left_as written (length room) untouched) i 0
  unfolding left_as
  left_at i h = sym (front_at written (length room - length written) untouched i (omega arith))

  -- what is longer than the room is not what it holds
  pub left_longer : length room < length written → false ≡ same room (left_as written (length room) untouched)
  unfolding left_as
  left_longer long = sym (length_same _ _ (λ e. omega (arith, simp (length-append, length-replicate) at e)))

  -- no number is compared yet
  pub left_start : length written ≤ length room → Left written untouched room 0
  left_start fits = record { fits = fits; agree = alike_start _ _ }

module _ {written : List ℕ} {untouched : ℕ} {room : List ℕ} {count : ℕ} (left : Left written untouched room count) where
  long : length room ≡ length (left_as written (length room) untouched)
  long = left_length written untouched room left.fits

  -- one more number is the one written there, or as it was
  pub left_next : {expected : ℕ} → count < length room → expected ≡ get_or written count untouched → get_or room count 0 ≡ expected
      → Left written untouched room (count + 1)
  left_next h e f = record { fits = left.fits; agree = alike_next left.agree (f ∙ e ∙ left_at written untouched room count h) }

  -- a number is not
  pub left_stop : {expected : ℕ} → count < length room → expected ≡ get_or written count untouched → (get_or room count 0 ≡ expected → ⊥)
      → false ≡ same room (left_as written (length room) untouched)
  left_stop h e n = differ_at _ _ count (λ f. n (f ∙ sym (e ∙ left_at written untouched room count h)))

  -- all are
  pub left_end : length room ≤ count → true ≡ same room (left_as written (length room) untouched)
  left_end h = alike_same left.agree long h

-- behind what is written a number is as it was
pub behind_written : (written : List ℕ) (untouched i : ℕ) → length written ≤ i → untouched ≡ get_or written i untouched
behind_written written untouched i h = sym (get_or-eq_default written untouched h)

-- numbers that are all as they were
all_same : (untouched : ℕ) (rest : List ℕ) → list_all (λ b. eqb b untouched) rest ≡ same rest (replicate (length rest) untouched)
unfolding same
all_same untouched [] = refl
all_same untouched (b ∷ rest) = ap (λ test. eqb b untouched && test) (all_same untouched rest)

same_behind : (front xs ys : List ℕ) → same (front ++ xs) (front ++ ys) ≡ same xs ys
unfolding same
same_behind [] xs ys = refl
same_behind (b ∷ front) xs ys = rw (eq-eqb b b refl) (same_behind front xs ys)

module _ (written : List ℕ) (untouched : ℕ) (room : List ℕ) where
  -- a room that begins with what is written, by whether the rest is as it was
  pub left_front : take (length written) room ≡ written → {test : Bool} → test ≡ list_all (λ b. eqb b untouched) (drop (length written) room)
      → test ≡ same room (left_as written (length room) untouched)
  unfolding left_as
  left_front front {test} e =
      let rest : List ℕ = drop (length written) room in
      let long : length rest ≡ length room - length written = length-drop (length written) room in
      let is : room ≡ written ++ rest = cc (take-append-drop (length written) room, front) in
      e ∙ all_same untouched rest ∙ sym (same_behind written rest (replicate (length rest) untouched))
      ∙ cc (is, long)

  -- a room that begins with something else
  pub left_other : (take (length written) room ≡ written → ⊥) → false ≡ same room (left_as written (length room) untouched)
  unfolding left_as
  left_other other =
      sym (differ_same _ _ (λ e. other (ap (take (length written)) e ∙ take_at written (replicate (length room - length written) untouched) (length written) refl)))

-- ------------------------------------------------------------------ numbers of four bytes

module _ (bytes : List ℕ) where
  numbers_from_length : (count at : ℕ) → length (numbers_from count bytes at) ≡ count
  unfolding numbers_from
  numbers_from_length zero at = refl
  numbers_from_length (suc count) at = ap suc (numbers_from_length count (at + 4))

  numbers_from_at : (count at i default : ℕ) → i < count → get_or (numbers_from count bytes at) i default ≡ four_at bytes (at + i * 4)
  unfolding numbers_from
  numbers_from_at zero at i default h = absurd (omega arith)
  numbers_from_at (suc count) at zero default h = ap (four_at bytes) (let e : at ≡ at + 0 * 4 = omega arith in e)
  numbers_from_at (suc count) at (suc i) default h =
      let e : at + 4 + i * 4 ≡ at + suc i * 4 = omega arith in
      numbers_from_at count (at + 4) i default (omega arith) ∙ ap (four_at bytes) e

  numbers_length : length (numbers_in bytes) ≡ length bytes / 4
  unfolding numbers_in
  numbers_length = numbers_from_length (length bytes / 4) 0

  -- there is one for each four bytes
  pub numbers_fit : {size : ℕ} → length bytes / 4 ≤ size → length (numbers_in bytes) ≤ size
  numbers_fit h = omega (arith, numbers_length)

  -- and no more than that
  pub numbers_exceed : {size : ℕ} → size < length bytes / 4 → size < length (numbers_in bytes)
  numbers_exceed h = omega (arith, numbers_length)

  -- each is read at its place
  pub numbers_at : (i default : ℕ) → i < length bytes / 4 → four_at bytes (i * 4) ≡ get_or (numbers_in bytes) i default
  unfolding numbers_in
  numbers_at i default h =
      let e : 0 + i * 4 ≡ i * 4 = omega arith in
      sym (numbers_from_at (length bytes / 4) 0 i default h ∙ ap (four_at bytes) e)

-- ------------------------------------------------------------------ parts

-- a part is read behind its count; one that ends before its bytes begin is empty
pub part_is : (file : List ℕ) (from to : ℕ) {at size : ℕ} {part : List ℕ} → to < 2 ^ 64 → at ≡ min (from + 4) (2 ^ 64 - 1) → size ≡ to - at
    → part ≡ take size (drop at file) → part ≡ part_of file from to
unfolding part_of
part_is file from to {at} {size} {part} small ea es e = by (dec_le to (from + 4))
  where
    by : Dec (to ≤ from + 4) → part ≡ part_of file from to
    by (yes h) =
        let none : size ≡ 0 = omega arith in
        let empty : to - (from + 4) ≡ 0 = omega arith in
        e ∙ rw (none, empty) refl
    by (no n) =
        let behind : at ≡ from + 4 = omega arith in
        let long : size ≡ to - (from + 4) = omega arith in
        e ∙ rw (long, behind) refl

-- ------------------------------------------------------------------ what stands at an offset

end_behind : (file : List ℕ) (at : ℕ) → at < (places_at file at).end
unfolding places_at
end_behind file at = omega arith

far_broken : (file : List ℕ) (places : Places) → longest_file < places.end → is_whole file places ≡ false
unfolding is_whole
far_broken file places far = simp (lt-leb places.end longest_file far, and-false) refl

module _ (file : List ℕ) (at : ℕ) where
  -- the end of the file
  pub next-end : at ≡ length file → Ok None ≡ next_at file at
  unfolding next_at
  next-end e = rw (eq-eqb at (length file) e, next_at) refl

  module _ (inside : at ≡ length file → ⊥) where
    -- a case that is whole
    pub next_whole : {places : Places} {case : Case} {test : Bool} → places ≡ places_at file at → test ≡ is_whole file places → test ≡ true
        → case ≡ case_of file places → Ok (Some case) ≡ next_at file at
    unfolding next_at
    next_whole e t w c =
        let whole : is_whole file (places_at file at) ≡ true = cc in
        rw (ne_eqb at (length file) inside, whole, next_at) (cc)

    -- one that is not
    pub next_broken : {places : Places} {test : Bool} → places ≡ places_at file at → test ≡ is_whole file places → test ≡ false → Err (record {}) ≡ next_at file at
    unfolding next_at
    next_broken e t w =
        let broken : is_whole file (places_at file at) ≡ false = cc in
        rw (ne_eqb at (length file) inside, broken, next_at) refl

    -- one that begins behind the longest file
    pub next_far : longest_file < at → Err (record {}) ≡ next_at file at
    next_far far = next_broken refl refl (far_broken file (places_at file at) (omega (arith, end_behind file at)))

-- a whole case expects a number that a cause has
pub whole_cause : (file : List ℕ) (places : Places) → is_whole file places ≡ true → four_at file (places.lent + 8) ≤ last_cause
unfolding is_whole
whole_cause file places w =
    let number = four_at file (places.lent + 8) in
    by_test (leb number last_cause) (leb-true number last_cause) (λ over. absurd (true≢false (sym w ∙ simp (over, and-false) refl)))

whole_within : (file : List ℕ) (places : Places) → is_whole file places ≡ true → places.end ≤ length file
unfolding is_whole
whole_within file places w =
    by_test (leb places.end (length file)) (leb-true places.end (length file)) (λ over. absurd (true≢false (sym w ∙ simp over refl)))

placed : (file : List ℕ) (places : Places) → (case_of file places).places ≡ places
unfolding case_of
placed file places = refl

-- a whole case ends within the file, behind where it begins
pub record Within (file : List ℕ) (at : ℕ) (case : Case) : Type 0 where
  -- it ends behind where it begins
  pub begins : at < case.places.end
  -- its end is within the file
  pub ends : case.places.end ≤ length file

-- a case that is read as whole lies so
pub next_within : (file : List ℕ) (at : ℕ) {case : Case} → next_at file at ≡ Ok (Some case) → Within file at case
next_within file at {case} next = by_test (eqb at (length file)) (λ t. at-end (eqb-true at (length file) t)) (λ t. inside (eqb-false at (length file) t))
  where
    at-end : at ≡ length file → Within file at case
    at-end e = let z : ◌≡◌ {A = ℕ} 0 1 = cc (next-end file at e) in absurd (omega arith)

    inside : (at ≡ length file → ⊥) → Within file at case
    inside n =
        by_test (is_whole file (places_at file at))
        (λ w.
        let e : Ok (Some (case_of file (places_at file at))) ≡ next_at file at = next_whole file at n refl refl w refl in
        let p : case.places ≡ places_at file at = cc (placed file (places_at file at)) in
        record { begins = rw p (end_behind file at); ends = rw p (whole_within file (places_at file at) w) })
        (λ b. let e : Err (record {}) ≡ next_at file at = next_broken file at n refl refl b in let z : ◌≡◌ {A = ℕ} 0 1 = cc in absurd (omega arith))
