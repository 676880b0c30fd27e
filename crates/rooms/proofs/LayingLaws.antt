-- Parts laid in a room: two behind each other are one, and one that fits stands whole.
use Prim.Native.Nat.{ℕ, ◌+◌, ◌-◌, ◌<◌, ◌≤◌, min}
use mathlib.Core.Path.{◌≡◌, sym, ap, ◌∙◌}
use mathlib.Core.List.{List, [], ◌++◌, append_assoc, append-nil}
use native.Mathlib.Decide.{dec_le}
use native.Mathlib.Omega.{arith}
use lib.ListN.{length, take, drop, length-append, length-take, length-drop, take-append-drop}
use lib.Seq.{take_all, take_at, drop_at, take-take, take-append-le, take-append-add, drop-drop, length-take-le}
use borrow.Rule.Slice.PartMut.{put_mid}
use Rattle.rooms.specs.Laying.{laid_end, laid, Lays}

-- cut at once, or cut before more is laid behind: the same, if all stood before or nothing more has room
cut_once : (cut end : ℕ) (xs more : List ℕ) → (cut < length xs → end ≡ cut) → take end (take cut xs ++ more) ≡ take end (xs ++ more)
cut_once cut end xs more full = by (dec_le (length xs) cut)
  where
    by : Dec (length xs ≤ cut) → take end (take cut xs ++ more) ≡ take end (xs ++ more)
    by (yes h) = ap (λ (l : List ℕ). take end (l ++ more)) (take_all cut xs h)
    by (no n) =
        let e : end ≡ cut = full (omega arith) in
        let l : length (take cut xs) ≡ cut = length-take-le cut xs (omega arith) in
        rw e
        (take_at (take cut xs) more cut l ∙ sym (take-append-le cut xs more (omega arith)))

module _ {room : List ℕ} {at : ℕ} {part : List ℕ} {end : ℕ} {room₁ : List ℕ} (lays : Lays room at part end room₁) where
  end_is : end ≡ min (length room) (at + length part)
  unfolding laid_end
  end_is = lays.end

  put_is : room₁ ≡ take end (take at room ++ part) ++ drop end room
  unfolding laid
  put_is = cc (lays.put, lays.end)

  far_length : length (take at room ++ part) ≡ min at (length room) + length part
  far_length = simp (length-append, length-take) (omega arith)

  cut-length : length (take end (take at room ++ part)) ≡ end
  cut-length = length-take-le end (take at room ++ part) (omega (arith, end_is, far_length))

  -- a room keeps its length
  pub lays_length : length room₁ ≡ length room
  lays_length = ap length put_is ∙ simp (length-append, length-drop) (omega (arith, cut-length, end_is))

  -- the end is within the room
  pub lays_within : end ≤ length room
  lays_within = omega (arith, end_is)

  laid_front : take end room₁ ≡ take end (take at room ++ part)
  laid_front = ap (take end) put_is ∙ take_at (take end (take at room ++ part)) (drop end room) end cut-length

  laid_behind : (more : ℕ) → drop (end + more) room₁ ≡ drop (end + more) room
  laid_behind more =
      sym (drop-drop more end room₁) ∙ ap (λ (l : List ℕ). drop more (drop end l)) put_is
      ∙ ap (drop more) (drop_at (take end (take at room ++ part)) (drop end room) end cut-length) ∙ drop-drop more end room

  -- a part behind another is laid as both in one
  pub lays_then : {next : List ℕ} {end₂ : ℕ} {room₂ : List ℕ} → Lays room₁ end next end₂ room₂ → Lays room at (part ++ next) end₂ room₂
  unfolding laid_end laid
  lays_then {next} {end₂} {room₂} after =
      let both : length (part ++ next) ≡ length part + length next = length-append part next in
      let ends : end₂ ≡ min (length room) (at + length (part ++ next)) =
      omega (arith, after.end, end_is, lays_length) in
      let more : end₂ ≡ end + (end₂ - end) = omega (arith, after.end, end_is, lays_length) in
      let second : room₂ ≡ take end₂ (take end room₁ ++ next) ++ drop end₂ room₁ = cc (after.put, after.end) in
      let front : take end₂ (take end room₁ ++ next) ≡ take end₂ (take at room ++ (part ++ next)) =
      ap (λ (l : List ℕ). take end₂ (l ++ next)) laid_front
      ∙ cut_once end end₂ (take at room ++ part) next (λ h. omega (arith, h, ends, end_is, far_length, both))
      ∙ ap (take end₂) (append_assoc (take at room) part next) in
      let back : drop end₂ room₁ ≡ drop end₂ room = cc (laid_behind (end₂ - end), more) in
      record { end = ends; put = cc (second, front, back, ends) }

-- where a part ends, nothing may be laid behind it
pub lays_none : {room : List ℕ} {at : ℕ} {part : List ℕ} {end : ℕ} {room₁ : List ℕ} → Lays room at part end room₁ → Lays room₁ end [] end room₁
unfolding laid_end laid
lays_none {end = end} {room₁ = room₁} lays =
    let ends : end ≡ min (length room₁) (end + 0) = omega (arith, lays_within lays, lays_length lays) in
    let inside : length (take end room₁ ++ []) ≡ end = simp (append-nil, length-take) (omega (arith, lays_within lays, lays_length lays)) in
    record {
      end = ends;
      put = cc (ends, take_all end (take end room₁ ++ []) (omega arith), append-nil (take end room₁), take-append-drop end room₁);
    }

-- a part laid at the front of a room that has room for it stands there whole
pub lays_whole : {room part : List ℕ} {end : ℕ} {room₁ : List ℕ} → Lays room 0 part end room₁ → length part ≤ length room
    → (end ≡ length part) × (room₁ ≡ part ++ drop end room)
lays_whole {room} {part} {end} lays fits =
    let e : end ≡ length part = omega (arith, end_is lays) in
    (e, put_is lays ∙ ap (λ (l : List ℕ). l ++ drop end room) (take_all end part (omega arith)))

-- a part is laid by a copy of what has room, behind `from` bytes of the room
pub copied : (room part : List ℕ) (at : ℕ) {from size count : ℕ} {last : List ℕ} → from ≡ min at (length room) → size ≡ min (length part) (length room - from)
    → count ≡ size → last ≡ take count part → Lays room at part (from + size) (put_mid from count room last)
unfolding laid_end laid
copied room part at {from} {size} {count} {last} ef es ec el =
    let ends : from + size ≡ min (length room) (at + length part) = omega arith in
    let far : length (take at room) ≡ from = omega (arith, length-take at room) in
    let same : take from room ≡ take at room = sym (take-take from at room (omega arith)) ∙ take_all from (take at room) (omega arith) in
    let front : take (from + size) (take at room ++ part) ≡ take from room ++ take size part =
    cc (take-append-add (take at room) part size, far, same) in
    record {
      end = ends;
      put =
          cc (
            el,
            ec,
            drop-drop size from room,
            append_assoc (take from room) (take size part) (drop (from + size) room),
            front,
            ends,
          );
    }
