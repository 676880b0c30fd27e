-- Lines of an input one after the other, and what is laid for them in a room.
use Rattle.std.specs.Prelude.{Ok, Err}
use Prim.Native.Nat.{ℕ, suc, ◌+◌, ◌-◌, ◌≤◌, ◌<◌, min}
use mathlib.Core.Path.{◌≡◌, refl, sym, ap, ◌∙◌}
use mathlib.Core.Bool.{true, false}
use mathlib.Core.List.{List, [], ◌∷◌, ◌++◌, append_assoc, append-nil}
use native.Mathlib.Decide.{dec_le}
use native.Mathlib.Omega.{arith}
use lib.ListN.{length, get_or, take, drop, length-append, length-take, length-drop, length-replicate, take-append-drop, drop_of_length-le}
use lib.Seq.{take_all, take_at, drop_at, drop-drop, length-take-le}
use borrow.Author.Tests.{lt-ltb, le-ltb}
use Rattle.answers.specs.Refusals.{Answer}
use Rattle.spellings.specs.Bytes.{longest_run}
use Rattle.spellings.proofs.BytesLaws.{by_test, run_taken, run_left, run_prefix}
use Rattle.terms.specs.Emit.{text_of}
use Rattle.meaning.specs.Expand.{Expanded, expanded, expand}
use Rattle.meaning.proofs.EachLaws.{expand_keeps}
use Rattle.meaning.proofs.Lent.{Alike, lent_alike}
use Rattle.rooms.specs.Laying.{laid_end, laid, Lays}
use Rattle.rooms.proofs.LayingLaws.{lays_length}
use Rattle.phrases.specs.Output.{lent_cells, lent_text, text_line, told_lines, told, phrase_output}
use Rattle.formulas.specs.Output.{is_line_byte, unended, lines_behind, outputs, formulas_output, placed, extent, placed_from, Tells}

-- ------------------------------------------------------------------ one line

-- expansions that are alike are told alike
told_alike : (x y : Expanded) → Alike x y → told x ≡ told y
unfolding text_line
told_alike x y alike = go x.answer refl
  where
    go : (answer : Answer) → x.answer ≡ answer → told x ≡ told y
    go (Err r) e = rw (e, sym alike.answers ∙ e) refl
    go (Ok made) e =
        let f : y.answer ≡ Ok made = sym alike.answers ∙ e in
        let same : take made.length x.text ≡ take made.length y.text = rw (e, f) at alike.texts in
        rw (e, f, same) refl

-- what is told of a line's expansion is what `phrase` writes for it, whatever the cells and the text held before
pub line_told : (table : List ℕ) → ((at : ℕ) → get_or table at 0 < 256) → (line cells text : List ℕ) {answer : Answer} {cells' text' : List ℕ}
    → length cells ≡ 16384 → length text ≡ 65536 → expanded answer cells' text' ≡ expand table line cells text
    → told_lines answer text' ≡ phrase_output table line
unfolding phrase_output lent_cells lent_text
line_told table bytes line cells text many long e =
    ap told e
    ∙ told_alike _ _
    (lent_alike text_of line cells lent_cells text lent_text (many ∙ sym (length-replicate {A = ℕ} 16384 0))
    (long ∙ sym (length-replicate {A = ℕ} 65536 0)) table bytes)

-- an expansion leaves as much text as it was lent
pub line_text : (table line cells text : List ℕ) {answer : Answer} {cells' text' : List ℕ} → expanded answer cells' text' ≡ expand table line cells text
    → length text' ≡ length text
line_text table line cells text e = ap (λ (x : Expanded). length x.text) e ∙ (expand_keeps cells text text_of table line).as_long

-- ------------------------------------------------------------------ the lines

-- how many bytes stand before the first line end, or in all
abbrev pub run : List ℕ → ℕ
run bytes = length (longest_run is_line_byte bytes)

-- no more than there are
pub run_within : (bytes : List ℕ) → run bytes ≤ length bytes
run_within bytes = omega (arith, ap length (run_prefix is_line_byte bytes), length-take (run bytes) bytes)

-- a run of what is left ends within it
pub line_end_is : (input : List ℕ) {at count : ℕ} → at ≤ length input → count ≡ run (take (length input - at) (drop at input))
    → (at + count ≡ at + run (drop at input)) × (at + count ≤ length input)
line_end_is input {at} {count} h e =
    let whole : take (length input - at) (drop at input) ≡ drop at input = take_all (length input - at) (drop at input) (omega (arith, length-drop at input)) in
    let is : count ≡ run (drop at input) = cc (e, whole) in
    (omega arith, omega (arith, run_within (drop at input), length-drop at input))

module _ (line : List ℕ) (b : ℕ) (bytes : List ℕ) where
  line_goes : is_line_byte b ≡ true → lines_behind line (b ∷ bytes) ≡ lines_behind (line ++ b ∷ []) bytes
  unfolding lines_behind
  line_goes e = rw (e, lines_behind) refl

  line_ends : is_line_byte b ≡ false → lines_behind line (b ∷ bytes) ≡ line ∷ lines_behind [] bytes
  unfolding lines_behind
  line_ends e = rw (e, lines_behind) refl

  run_goes : is_line_byte b ≡ true → run (b ∷ bytes) ≡ suc (run bytes)
  run_goes e = ap length (run_taken is_line_byte b bytes e)

  run_ends : is_line_byte b ≡ false → run (b ∷ bytes) ≡ 0
  run_ends e = ap length (run_left is_line_byte b bytes e)

-- a line that is ended: its bytes, and the lines behind its end
lines_ended : (line bytes : List ℕ) → run bytes < length bytes
    → lines_behind line bytes ≡ (line ++ take (run bytes) bytes) ∷ lines_behind [] (drop (suc (run bytes)) bytes)
lines_ended line [] h = absurd (omega arith)
lines_ended line (b ∷ bytes) h =
    by_test (is_line_byte b)
    (λ e.
    let more = run_goes line b bytes e in
    rw (line_goes line b bytes e, more) (lines_ended (line ++ b ∷ []) bytes (omega (arith, more)) ∙ rw append_assoc refl))
    (λ e. rw (line_ends line b bytes e, run_ends line b bytes e, append-nil) refl)

-- a line that is not ended has all bytes
lines_unended : (line bytes : List ℕ) → length bytes ≤ run bytes → lines_behind line bytes ≡ unended (line ++ bytes)
unfolding lines_behind
lines_unended line [] h = rw append-nil refl
lines_unended line (b ∷ bytes) h =
    by_test (is_line_byte b)
    (λ e.
    line_goes line b bytes e ∙ lines_unended (line ++ b ∷ []) bytes (omega (arith, run_goes line b bytes e)) ∙ ap unended (append_assoc line (b ∷ []) bytes))
    (λ e. absurd (omega (arith, run_ends line b bytes e)))

one_line : (bytes : List ℕ) → 0 < length bytes → unended bytes ≡ bytes ∷ []
one_line [] h = absurd (omega arith)
one_line (b ∷ bytes) h = refl

-- The lines of what is left are the first of them, then those behind it.
line_first : (input : List ℕ) (at : ℕ) → at < length input
    → lines_behind [] (drop at input)
    ≡ take (run (drop at input)) (drop at input)
    ∷ lines_behind [] (drop (min (at + run (drop at input) + 1) (length input)) input)
unfolding lines_behind
line_first input at h = by (dec_le (length (drop at input)) (run (drop at input)))
  where
    many : length (drop at input) ≡ length input - at
    many = length-drop at input

    by : Dec (length (drop at input) ≤ run (drop at input))
        → lines_behind [] (drop at input)
        ≡ take (run (drop at input)) (drop at input)
        ∷ lines_behind [] (drop (min (at + run (drop at input) + 1) (length input)) input)
    by (yes all) =
        let behind : length input ≤ min (at + run (drop at input) + 1) (length input) = omega (arith, many) in
        rw (
          lines_unended [] (drop at input) all,
          one_line (drop at input) (omega (arith, many)),
          take_all (run (drop at input)) (drop at input) all,
          drop_of_length-le input behind,
        )
        refl
    by (no some) =
        let ended : run (drop at input) < length (drop at input) = omega arith in
        let next : min (at + run (drop at input) + 1) (length input) ≡ at + suc (run (drop at input)) = omega (arith, many) in
        rw (lines_ended [] (drop at input) ended, next, ← drop-drop (suc (run (drop at input))) at input) refl

-- ------------------------------------------------------------------ the room

-- a part that fits behind what was laid stands there whole, and behind it nothing is changed
lays_behind : {out : List ℕ} {n : ℕ} {part : List ℕ} {end : ℕ} {out' : List ℕ} → Lays out n part end out' → n + length part ≤ length out
    → (end ≡ n + length part) × (take end out' ≡ take n out ++ part) × (drop end out' ≡ drop end out) × (length out' ≡ length out)
unfolding laid_end laid
lays_behind {out} {n} {part} {end} {out'} lays fits =
    let e : end ≡ n + length part = omega (arith, lays.end) in
    let all : length (take n out ++ part) ≡ end = simp (length-append, length-take) (omega arith) in
    let put : out' ≡ take end (take n out ++ part) ++ drop end out = cc (lays.put, lays.end) in
    let whole : take end (take n out ++ part) ≡ take n out ++ part = take_all end (take n out ++ part) (omega arith) in
    let is : out' ≡ (take n out ++ part) ++ drop end out = cc (put, whole) in (
      e,
      rw is (take_at (take n out ++ part) (drop end out) end all),
      rw is (drop_at (take n out ++ part) (drop end out) end all),
      lays_length lays,
    )

-- a line that has place is laid before the others
placed_more : (table : List ℕ) (place : ℕ) (line : List ℕ) (lines : List (List ℕ)) → 65664 ≤ place
    → placed table place (line ∷ lines) ≡ line ∷ placed table (place - length (phrase_output table line)) lines
unfolding placed
placed_more table place line lines h = rw (le-ltb place 65664 h, placed) refl

-- without place none is laid
placed_none : (table : List ℕ) (place : ℕ) (lines : List (List ℕ)) → place < 65664 → placed table place lines ≡ []
unfolding placed
placed_none table place [] h = refl
placed_none table place (line ∷ lines) h = rw (lt-ltb place 65664 h, placed) refl

-- where no byte is left, no line is
placed_end : (table : List ℕ) (place : ℕ) (input : List ℕ) {at : ℕ} → length input ≤ at → placed table place (lines_behind [] (drop at input)) ≡ []
unfolding placed lines_behind
placed_end table place input h = rw (drop_of_length-le input h) refl

-- The lines before an offset are laid, and with those from it on they give what all lines from the first offset on give: those that have place, where these
-- end, and all that is to be written. What is behind the bytes laid is as it was.
pub record Telling (table input : List ℕ) (from : ℕ) (out₀ : List ℕ) (out : List ℕ) (at n : ℕ) : Type 0 where
  -- where something is laid, a line was read
  pub moved : 0 < n → from < at
  -- the offset is no earlier than the first
  pub begun : from ≤ at
  -- nor behind the input
  pub inside : at ≤ length input
  -- the room keeps its length
  pub as_long : length out ≡ length out₀
  -- what is laid is within it
  pub within : n ≤ length out
  -- what lies behind is as it was
  pub behind : drop n out ≡ drop n out₀
  -- the lines that have place end at the same offset
  pub reaches :
      min (length input) (from + extent (placed_from table input from out₀))
      ≡ min (length input) (at + extent (placed table (length out₀ - n) (lines_behind [] (drop at input))))
  -- what is laid and what still has place give what all lines with place give
  pub tells :
      outputs table (placed_from table input from out₀) ≡ take n out ++ outputs table (placed table (length out₀ - n) (lines_behind [] (drop at input)))
  -- what is laid and what is left give what all lines give
  pub gives : formulas_output table (drop from input) ≡ take n out ++ formulas_output table (drop at input)

module _ (table input : List ℕ) (from : ℕ) (out₀ : List ℕ) where
  -- nothing is laid yet
  pub telling_start : from ≤ length input → Telling table input from out₀ out₀ from 0
  telling_start h =
      let all : length out₀ - 0 ≡ length out₀ = omega arith in
      record {
        moved = λ none. absurd (omega arith);
        begun = omega arith;
        inside = h;
        as_long = refl;
        within = omega arith;
        behind = refl;
        reaches = rw all refl;
        tells = rw all refl;
        gives = refl;
      }

  module _ {out : List ℕ} {at n : ℕ} (before : Telling table input from out₀ out at n) where
    -- a line is laid behind those before
    pub telling_next : at < length input → 65664 ≤ length out - n → {stop : ℕ} → stop ≡ at + run (drop at input) → {end : ℕ} {out' : List ℕ}
        → Lays out n (phrase_output table (take (stop - at) (drop at input))) end out'
        → n + length (phrase_output table (take (stop - at) (drop at input))) ≤ length out
        → {next : ℕ} → next ≡ min (stop + 1) (length input)
        → Telling table input from out₀ out' next end
    unfolding outputs extent
    telling_next h place {stop} runs {end} {out'} lays fits {next} ends =
        let (e, put, kept, long) = lays_behind lays fits in
        let line : List ℕ = take (stop - at) (drop at input) in
        let size : stop - at ≡ run (drop at input) = omega arith in
        let moves : next ≡ min (at + run (drop at input) + 1) (length input) = omega arith in
        let first : lines_behind [] (drop at input) ≡ line ∷ lines_behind [] (drop next input) = rw (size, moves) (line_first input at h) in
        let left : length out₀ - n - length (phrase_output table line) ≡ length out₀ - end = omega arith in
        let rest : List (List ℕ) = placed table (length out₀ - end) (lines_behind [] (drop next input)) in
        let more : placed table (length out₀ - n) (lines_behind [] (drop at input)) ≡ line ∷ rest =
        rw (first, ← left) (placed_more table (length out₀ - n) line (lines_behind [] (drop next input)) (omega (arith, before.as_long))) in
        let bytes : length line ≡ stop - at =
        length-take-le (stop - at) (drop at input) (omega (arith, run_within (drop at input))) in
        let far : end ≡ n + (end - n) = omega arith in
        record {
          moved = λ some. omega (arith, before.begun);
          begun = omega (arith, before.begun);
          inside = omega arith;
          as_long = long ∙ before.as_long;
          within = omega arith;
          behind =
              kept
              ∙ rw (far, ← drop-drop (end - n) n out, ← drop-drop (end - n) n out₀) (ap (drop (end - n)) before.behind);
          reaches = before.reaches ∙ rw more (omega arith);
          tells =
              before.tells
              ∙ rw (more, put)
              (sym (append_assoc (take n out) (phrase_output table line) (outputs table rest)));
          gives =
              before.gives ∙ rw (first, put) (sym (append_assoc (take n out) (phrase_output table line) (formulas_output table (drop next input))));
        }

    -- where no more lines are laid
    laid_all : placed table (length out₀ - n) (lines_behind [] (drop at input)) ≡ [] → (from < length input → from < at)
        → Tells table input from out₀ (record { next = at; size = n }) out
    unfolding outputs extent
    laid_all none forward =
        let all : outputs table (placed_from table input from out₀) ≡ take n out = rw (none, append-nil) at before.tells in
        let ends : min (length input) (from + extent (placed_from table input from out₀)) ≡ min (length input) (at + 0) = rw none at before.reaches in
        record {
          goes_on = omega (arith, ends, before.inside);
          many = rw all (sym (length-take-le n out before.within));
          put = rw (all, ← before.behind) (sym (take-append-drop n out));
          forward = forward;
          gives = before.gives;
        }

    -- where no line is left
    pub telling_end : length input ≤ at → Tells table input from out₀ (record { next = at; size = n }) out
    telling_end h = laid_all (placed_end table (length out₀ - n) input h) (λ some. omega arith)

    -- where the room has no place for another, some are told
    pub telling_full : 0 < n → length out - n < 65664 → Tells table input from out₀ (record { next = at; size = n }) out
    telling_full some full =
        laid_all (placed_none table (length out₀ - n) (lines_behind [] (drop at input)) (omega (arith, before.as_long))) (λ any. before.moved some)
