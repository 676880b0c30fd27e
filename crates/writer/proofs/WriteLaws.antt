-- Bytes at the front of what remains of a buffer: those of another slice, and a single one.
use Prim.Native.Nat.{ℕ, ◌+◌, ◌*◌}
use mathlib.Core.Path.{◌≡◌, refl, ◌∙◌}
use mathlib.Core.List.{List, [], ◌∷◌}
use native.Mathlib.Omega.{arith}
use lib.ListN.{length, get_or, set, take, drop}
use Rattle.spellings.specs.Buffers.{written_into}
use Rattle.spellings.proofs.BuffersLaws.{written_fits}
use Rattle.writer.specs.Writing.{Fits, Written}
use Rattle.writer.proofs.Pieces.{stands}
use Rattle.writer.specs.Pool.{spelling_room, spell_in}

-- bytes that fit are written, whoever writes them where they fit
pub fitting : {text out out' : List ℕ} {count : ℕ} → Fits text out → count ≡ length text → out' ≡ written_into text out → Written text out count out'
fitting {text} {out} fits counted into = stands counted (into ∙ written_fits text out fits.room)

-- one byte
pub one_byte : (out : List ℕ) (byte : ℕ) → Fits (byte ∷ []) out → Written (byte ∷ []) out 1 (set out 0 byte)
one_byte [] byte some = absurd (omega (arith, some.room))
one_byte (first ∷ out) byte some = stands refl refl

-- the spelling of a number, read off the room
pub spelled : (pool : List ℕ) (number : ℕ) {size : ℕ} {read : List ℕ} → size ≡ get_or pool (number * spelling_room) 0
    → read ≡ take size (drop (number * spelling_room + 1) pool)
    → read ≡ spell_in pool number
unfolding spell_in
spelled pool number e h = cc
