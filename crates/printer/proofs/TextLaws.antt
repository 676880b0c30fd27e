-- A whole text: written if it fits.
use Prim.Native.Nat.{ℕ, ◌+◌, ◌*◌, ◌<◌, ◌≤◌}
use mathlib.Core.Path.{◌≡◌, sym, ◌∙◌}
use mathlib.Core.List.{List}
use native.Mathlib.Omega.{arith}
use lib.ListN.{length, replicate, length-replicate}
use Rattle.spellings.proofs.BuffersLaws.{written_fits, written_not}
use Rattle.writer.specs.Writing.{Fits, Written}
use Rattle.writer.specs.Pool.{spelling_room, spell_in, first_word, Pooled, Fillable, filled, spelled_by}
use Rattle.writer.proofs.PoolLaws.{pooled_none, pooled_filled}
use Rattle.printing.specs.PrintedParts.{term_part, part_text}
use Rattle.printer.specs.Printed.{text_by, Printable, PrintableBy, Prints}

-- a text that is too long
pub prints_none : (out text : List ℕ) {reached : ℕ} → reached ≡ length out → length text < reached → Prints out text text reached
prints_none out text e l = record { needed = e; placed = sym (written_not out text (omega arith)) }

-- a text that fits
pub prints_whole : {out text text' : List ℕ} {reached : ℕ} → Fits out text → Written out text reached text' → Prints out text text' reached
prints_whole {out} {text} fits w = record { needed = w.counted; placed = w.placed ∙ sym (written_fits out text fits.room) }

prints_spelled : (cells numbers : List ℕ) (made root : ℕ) {pool text text' : List ℕ} {spell : ℕ → List ℕ} {reached : ℕ}
    → Pooled pool spell → Prints (part_text pool cells numbers (term_part made root) 0) text text' reached
    → Prints (text_by spell cells numbers made root) text text' reached
unfolding part_text text_by
prints_spelled cells numbers made root {pool} {spell = spell} h p =
    let spelled : spell_in pool ≡ spell = λ i m. h.spelled m i in
    rw spelled at p

-- a room of zeros that is long enough
module _ {table formula words : List ℕ} {count : ℕ} {cells : List ℕ} {made root : ℕ} {numbers : List ℕ}
    (printable : Printable table formula words count cells made root numbers) (size : ℕ) (room : (first_word + count) * spelling_room ≤ size) where
  -- can be filled
  pub fillable : Fillable table formula words count (replicate size 0)
  fillable =
      record {
        room = rw (length-replicate {A = ℕ} size 0) room;
        few = printable.few;
        lie = printable.lie;
        outsides_fit = printable.outsides_fit;
        words_fit = printable.words_fit;
      }

  module _ {pool : List ℕ} (is_filled : pool ≡ filled table formula words count (replicate size 0)) where
    pooled : Pooled pool (spelled_by table formula words count)
    pooled = pooled_filled (pooled_none size) fillable is_filled

    -- and then has all that printing asks of it
    pub printable_filled : PrintableBy pool cells made root numbers
    printable_filled = record { short = pooled.small; marked = printable.marked; small = printable.small }

    -- and the text by it is the text by what the table, the formula and the places of its words spell
    pub prints_filled : {text text' : List ℕ} {reached : ℕ} → Prints (part_text pool cells numbers (term_part made root) 0) text text' reached
        → Prints (text_by (spelled_by table formula words count) cells numbers made root) text text' reached
    prints_filled = prints_spelled cells numbers made root pooled
