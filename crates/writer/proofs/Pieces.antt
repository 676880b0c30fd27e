-- A text that is written piece by piece, each piece at the front of what remains of the buffer.
use Prim.Native.Nat.{ℕ, ◌+◌, ◌-◌, ◌≤◌}
use mathlib.Core.Path.{◌≡◌, sym, ap, ◌∙◌}
use mathlib.Core.List.{List, [], ◌∷◌, ◌++◌, append_assoc, append-nil}
use native.Mathlib.Omega.{arith}
use lib.ListN.{length, take, drop, length-append, length-drop, drop_of_length-le}
use lib.Seq.{take_at, drop_at, take_all, drop-drop}
use borrow.Rule.Slice.PartMut.{put_mid, mid_of}
use Rattle.writer.specs.Writing.{Fits, Written}

-- what remains of a buffer behind so many bytes, as it is lent
abbrev pub remains : ℕ → List ℕ → List ℕ
remains end out = mid_of end (length out - end) out

-- the buffer when that is back
abbrev pub with_rest : ℕ → List ℕ → List ℕ → List ℕ
with_rest end out rest = put_mid end (length out - end) out rest

-- a text that stands in front is as long as its writer answers, and so within the buffer
pub stands : {text out out' : List ℕ} {count : ℕ} → count ≡ length text → out' ≡ text ++ drop (length text) out → Written text out count out'
stands {text} {out} counted placed =
    record { counted = counted; placed = placed; within = omega (arith, counted, ap length placed, length-append text (drop (length text) out)) }

module _ {front out out' : List ℕ} {end : ℕ} (written : Written front out end out') (fits : length front ≤ length out) where
  -- the buffer keeps its length
  pub same_length : length out' ≡ length out
  same_length =
      omega (
        arith,
        ap length written.placed,
        length-append front (drop (length front) out),
        length-drop (length front) out,
      )

  -- what remains begins behind the text
  behind : drop end out' ≡ drop (length front) out
  behind = ap (drop end) written.placed ∙ drop_at front (drop (length front) out) end (sym written.counted)

  before : take end out' ≡ front
  before = ap (take end) written.placed ∙ take_at front (drop (length front) out) end (sym written.counted)

  left : length (drop end out') ≡ length out' - end
  left = length-drop end out'

  -- all of it is lent
  pub lent : remains end out' ≡ drop (length front) out
  lent = take_all (length out' - end) (drop end out') (omega (arith, left)) ∙ behind

  nothing_else : drop (length out' - end) (drop end out') ≡ []
  nothing_else =
      let all : length (drop end out') ≤ length out' - end = omega (arith, left) in
      drop_of_length-le (drop end out') all

  -- a text, and another that is written in what remains behind it
  pub then : {piece rest : List ℕ} {count : ℕ} → Written piece (remains end out') count rest
      → Written (front ++ piece) out (end + count) (with_rest end out' rest)
  then {piece} {rest} {count} more =
      let sum : length (front ++ piece) ≡ length front + length piece = length-append front piece in
      stands (omega (arith, written.counted, more.counted))
      (cc (
        before,
        nothing_else,
        more.placed,
        lent,
        append-nil (piece ++ drop (length piece) (drop (length front) out)),
        append_assoc front piece (drop (length front + length piece) out),
        drop-drop (length piece) (length front) out,
      ))

-- pieces of a text, joined
abbrev pub joined : List (List ℕ) → List ℕ
joined [] = []
joined (a ∷ []) = a
joined (a ∷ b ∷ ps) = a ++ joined (b ∷ ps)

-- a text is made of pieces
pub record MadeOf (text : List ℕ) (pieces : List (List ℕ)) : Type 0 where
  -- joined, the pieces are the text
  pub whole : text ≡ joined pieces

length_first : (piece : List ℕ) (ps : List (List ℕ)) → length piece ≤ length (joined (piece ∷ ps))
length_first piece [] = omega arith
length_first piece (b ∷ ps) = omega (arith, length-append piece (joined (b ∷ ps)))

-- some of a text is written, and pieces of it are left
pub record Writing (text out : List ℕ) (end : ℕ) (out' : List ℕ) (pieces : List (List ℕ)) : Type 0 where
  -- the whole fits
  pub fits : Fits text out
  -- what is written
  pub done : List ℕ
  -- the text is that and the pieces left
  pub split : text ≡ done ++ joined pieces
  -- it stands in front
  pub written : Written done out end out'

-- what fits as a text fits as an equal one
pub as_fits : {text text' out : List ℕ} → text ≡ text' → Fits text' out → Fits text out
as_fits e fits = record { room = omega (arith, ap length e, fits.room) }

-- what is written as a text is written as an equal one
pub as_text : {text text' out out' : List ℕ} {end : ℕ} → text ≡ text' → Written text out end out' → Written text' out end out'
as_text e written = rw e at written

-- the first piece fits, if the whole does
pub first_fits : {piece text out : List ℕ} {ps : List (List ℕ)} → MadeOf text (piece ∷ ps) → Fits text out → Fits piece out
first_fits {piece} {ps = ps} made fits = record { room = omega (arith, ap length made.whole, length_first piece ps, fits.room) }

-- the first piece is written, and others are left
pub first_written : {piece next text out out' : List ℕ} {end : ℕ} {ps : List (List ℕ)} → MadeOf text (piece ∷ next ∷ ps) → Fits text out
    → Written piece out end out' → Writing text out end out' (next ∷ ps)
first_written {piece} made fits written = record { fits = fits; done = piece; split = made.whole; written = written }

module _ {text out out' : List ℕ} {end : ℕ} {ps : List (List ℕ)} (writing : Writing text out end out' ps) where
  all : length text ≡ length writing.done + length (joined ps)
  all = ap length writing.split ∙ length-append writing.done (joined ps)

  -- what is written fits
  pub done_within : length writing.done ≤ length out
  done_within = omega (arith, all, writing.fits.room)

module _ {text out out' piece : List ℕ} {end : ℕ} {ps : List (List ℕ)} (writing : Writing text out end out' (piece ∷ ps)) where
  -- the next piece fits what remains
  pub next_fits : Fits piece (remains end out')
  next_fits =
      record {
        room = rw (lent writing.written (done_within writing), length-drop) (omega (arith, all writing, writing.fits.room, length_first piece ps));
      }

-- the next piece is written, and others are left
pub next_written : {text out out' piece next rest : List ℕ} {end count : ℕ} {ps : List (List ℕ)} → Writing text out end out' (piece ∷ next ∷ ps)
    → Written piece (remains end out') count rest
    → Writing text out (end + count) (with_rest end out' rest) (next ∷ ps)
next_written {piece = piece} {next = next} {ps = ps} writing more =
    record {
      fits = writing.fits;
      done = writing.done ++ piece;
      split = writing.split ∙ sym (append_assoc writing.done piece (joined (next ∷ ps)));
      written = then writing.written (done_within writing) more;
    }

-- the last piece is written: the text is
pub last_written : {text out out' piece rest : List ℕ} {end count : ℕ} → Writing text out end out' (piece ∷ [])
    → Written piece (remains end out') count rest
    → Written text out (end + count) (with_rest end out' rest)
last_written writing more = as_text (sym writing.split) (then writing.written (done_within writing) more)
