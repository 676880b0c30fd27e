-- The loop over many formulas: a formula of the buffer, the numbers of an answer stored, and the invariant.
use Prim.Native.Nat.{ℕ, ◌+◌, ◌-◌, ◌*◌, ◌/◌, ◌≤◌, ◌<◌, min}
use mathlib.Core.Path.{◌≡◌, refl, sym, ap, ◌∙◌}
use mathlib.Core.List.{List, [], ◌∷◌, ◌++◌, append_assoc, append-nil}
use native.Mathlib.Decide.{dec_le}
use native.Mathlib.Numerals.{add-one}
use native.Mathlib.Omega.{arith}
use lib.ListN.{length, get_or, take, drop, length-append, length-take, length-drop, take-append-drop, drop_of_length-le}
use lib.Seq.{take_all, take-nil, take_at, drop_at, take-append-add, drop-append-add, drop-drop, length-take-le, drop-cons, get_or-take}
use lib.Seq.{sets, length-sets, sets-eq}
use borrow.Rule.Slice.PartMut.{put_mid, mid_of}
use Rattle.answers.specs.Refusals.{Answer}
use Rattle.terms.specs.Emit.{text_of}
use Rattle.meaning.specs.Expand.{Expanded, expanded, expand}
use Rattle.meaning.specs.Each.{formula_in, numbers_of, numbers_each, written, Series, alone, behind, expand_all, expand_each}
use Rattle.meaning.proofs.EachLaws.{Keeps, expand_keeps, all_cons}

-- ------------------------------------------------------------------ the parts of a turn

-- no bytes, where the end or the buffer is not behind the beginning
pub formula_none : (formulas : List ℕ) (from end : ℕ) → min end (length formulas) ≤ from → [] ≡ formula_in formulas from end
formula_none formulas from end h = by (dec_le end from)
  where
    by : Dec (end ≤ from) → [] ≡ formula_in formulas from end
    by (yes g) = let none : end - from ≡ 0 = omega arith in rw none refl
    by (no n) = let over : length formulas ≤ from = omega arith in rw (drop_of_length-le formulas over, take-nil) refl

-- the bytes between, as far as the buffer goes
pub formula_some : (formulas : List ℕ) (from end : ℕ) → take (min end (length formulas) - from) (drop from formulas) ≡ formula_in formulas from end
formula_some formulas from end = by (dec_le end (length formulas))
  where
    by : Dec (end ≤ length formulas) → take (min end (length formulas) - from) (drop from formulas) ≡ formula_in formulas from end
    by (yes g) = let same : min end (length formulas) ≡ end = omega arith in rw same refl
    by (no n) =
        let cut : length (drop from formulas) ≡ length formulas - from = length-drop from formulas in
        take_all (min end (length formulas) - from) (drop from formulas) (omega arith) ∙ sym (take_all (end - from) (drop from formulas) (omega arith))

-- those that are cut out of the buffer
pub formula_cut : (formulas : List ℕ) (from end : ℕ) → let last : ℕ = min end (length formulas) in
    take (last - min from last) (drop (min from last) formulas) ≡ formula_in formulas from end
formula_cut formulas from end = by (dec_le (min end (length formulas)) from)
  where
    last : ℕ
    last = min end (length formulas)

    by : Dec (last ≤ from) → take (last - min from last) (drop (min from last) formulas) ≡ formula_in formulas from end
    by (yes g) = let none : last - min from last ≡ 0 = omega arith in rw none (formula_none formulas from end g)
    by (no n) = let same : min from last ≡ from = omega arith in rw same (formula_some formulas from end)

-- four numbers copied to their places
pub numbers_stored : (answers : List ℕ) (at : ℕ) (answer : Answer) → at + numbers_each ≤ length answers → {part : List ℕ} → part ≡ numbers_of answer
    → put_mid at (at + numbers_each - at) answers part ≡ sets answers at (numbers_of answer)
numbers_stored answers at answer fits e =
    let four : at + numbers_each - at ≡ numbers_each = omega arith in
    rw (e, four)
    (ap (λ rest. take at answers ++ (numbers_of answer ++ rest)) (drop-drop numbers_each at answers)
    ∙ sym (append_assoc (take at answers) (numbers_of answer) (drop (at + numbers_each) answers))
    ∙ sym (sets-eq (numbers_of answer) answers at fits))

-- ------------------------------------------------------------------ the loop

-- what the turns before have laid, and what is lent to the next
abbrev pub laid : List ℕ → List ℕ → List ℕ → ℕ → ℕ → Series
laid answers cells text i at = record { numbers = take (i * numbers_each) answers; texts = take at text; cells = cells; rest = drop at text }

-- The formulas from place i on, of which the first begins at `from`, with the cells and the text behind `at` bytes as they are, give with what is laid what
-- all formulas give; the places of answers that are ahead are as lent.
pub record Expanding (table formulas ends answers₀ cells₀ text₀ : List ℕ) (count : ℕ) (answers cells text : List ℕ) (i from at : ℕ) : Type 0 where
  -- place i is no further than the last
  pub counted : i ≤ count
  -- the room of the answers keeps its length
  pub as_many_answers : length answers ≡ length answers₀
  -- so do the cells
  pub as_many_cells : length cells ≡ length cells₀
  -- and so does the text
  pub as_long : length text ≡ length text₀
  -- the texts laid are within it
  pub inside : at ≤ length text
  -- the places of answers ahead are as lent
  pub ahead : drop (i * numbers_each) answers ≡ drop (i * numbers_each) answers₀
  -- what is laid and what is left give what all formulas give
  pub gives : behind (laid answers cells text i at) (expand_all table formulas from (drop i (take count ends)) cells (drop at text))
      ≡ expand_all table formulas 0 (take count ends) cells₀ text₀

module _ (table formulas ends answers₀ cells₀ text₀ : List ℕ) where
  -- nothing is laid before the first turn
  pub expanding_start : (count : ℕ) → Expanding table formulas ends answers₀ cells₀ text₀ count answers₀ cells₀ text₀ 0 0 0
  expanding_start count =
      record { counted = omega arith; as_many_answers = refl; as_many_cells = refl; as_long = refl; inside = omega arith; ahead = refl; gives = refl }

  -- a turn behind others
  module _ {count : ℕ} {answers cells text : List ℕ} {i from at : ℕ}
      (before : Expanding table formulas ends answers₀ cells₀ text₀ count answers cells text i from at) (turn : i < count) where
    -- the text behind those laid
    rest-is : mid_of at (length text - at) text ≡ drop at text
    rest-is = take_all (length text - at) (drop at text) (omega (arith, length-drop at text))

    module _ {formula : List ℕ} (own_bytes : formula ≡ formula_in formulas from (get_or ends i 0)) {answer : Answer} {cells' part : List ℕ}
        (given : expanded answer cells' part ≡ expand table formula cells (mid_of at (length text - at) text)) {size : ℕ} (long : size ≡ written answer) where
      is : expanded answer cells' part ≡ expand table (formula_in formulas from (get_or ends i 0)) cells (drop at text)
      is = rw (own_bytes, rest-is) at given

      keeps : Keeps cells (drop at text) (expanded answer cells' part)
      keeps = rw (← is) at (expand_keeps cells (drop at text) text_of table (formula_in formulas from (get_or ends i 0)))

      -- the text fits
      pub written_fits : at + size ≤ length text
      written_fits = omega (arith, keeps.fits, length-drop at text, before.inside)

      abbrev text' : List ℕ
      text' = put_mid at (length text - at) text part

      put_is : text' ≡ take at text ++ part
      put_is =
          let over : length (drop at text) ≤ length text - at = omega (arith, length-drop at text) in
          rw (drop_of_length-le (drop at text) over, append-nil) refl

      own : length (take at text) ≡ at
      own = length-take-le at text before.inside

      laid_text : take (at + size) text' ≡ take at text ++ take (written answer) part
      laid_text = cc (put_is, own, long, take-append-add (take at text) part (written answer))

      rest_text : drop (at + size) text' ≡ drop (written answer) part
      rest_text = cc (put_is, own, long, drop-append-add (take at text) part (written answer))

      module _ {answers' : List ℕ} (stores : answers' ≡ sets answers (i * numbers_each) (numbers_of answer)) (few : count ≤ length ends)
          (room : count * numbers_each ≤ length answers₀) where
        stored : answers' ≡ (take (i * numbers_each) answers ++ numbers_of answer) ++ drop (i * numbers_each + numbers_each) answers
        stored =
            stores ∙ sets-eq (numbers_of answer) answers (i * numbers_each) (omega (arith, before.as_many_answers))

        many : length (take (i * numbers_each) answers ++ numbers_of answer) ≡ (i + 1) * numbers_each
        many = simp length-append (omega (arith, length-take-le (i * numbers_each) answers (omega (arith, before.as_many_answers))))

        laid_numbers : take ((i + 1) * numbers_each) answers' ≡ take (i * numbers_each) answers ++ numbers_of answer
        laid_numbers = rw stored (take_at _ _ _ many)

        numbers_ahead : drop ((i + 1) * numbers_each) answers' ≡ drop ((i + 1) * numbers_each) answers₀
        numbers_ahead =
            let next : (i + 1) * numbers_each ≡ i * numbers_each + numbers_each = omega arith in
            let behind_four : drop ((i + 1) * numbers_each) answers' ≡ drop (i * numbers_each + numbers_each) answers =
            rw stored (drop_at (take (i * numbers_each) answers ++ numbers_of answer) _ _ many) in
            cc (behind_four, next, before.ahead, drop-drop numbers_each (i * numbers_each) answers, drop-drop numbers_each (i * numbers_each) answers₀)

        left : drop i (take count ends) ≡ get_or ends i 0 ∷ drop (i + 1) (take count ends)
        left =
            rw (add-one, ← get_or-take count ends i 0 turn) (drop-cons (take count ends) i 0 (omega (arith, length-take count ends)))

        first : expand_all table formulas from (drop i (take count ends)) cells (drop at text)
            ≡ behind (alone (expanded answer cells' part))
            (expand_all table formulas (get_or ends i 0) (drop (i + 1) (take count ends)) cells' (drop (written answer) part))
        first =
            let more : List ℕ = drop (i + 1) (take count ends) in
            rw left (all_cons table formulas from (get_or ends i 0) more cells (drop at text))
            ∙ ap (λ (x : Expanded). behind (alone x) (expand_all table formulas (get_or ends i 0) more (alone x).cells (alone x).rest)) (sym is)

        -- a turn lays the next answer and the next text
        pub expanding_next : Expanding table formulas ends answers₀ cells₀ text₀ count answers' cells' text' (i + 1) (get_or ends i 0) (at + size)
        expanding_next =
            record {
              counted = omega arith;
              as_many_answers = ap length stores ∙ length-sets answers (i * numbers_each) (numbers_of answer) ∙ before.as_many_answers;
              as_many_cells = keeps.as_many_cells ∙ before.as_many_cells;
              as_long = ap length put_is ∙ simp length-append (omega (arith, own, keeps.as_long, length-drop at text, before.as_long));
              inside = omega (arith, written_fits, ap length put_is, length-append (take at text) part, own, keeps.as_long, length-drop at text);
              ahead = numbers_ahead;
              gives =
                  rw (laid_numbers, laid_text, rest_text, append_assoc, append_assoc)
                  (ap (behind (laid answers cells text i at)) (sym first) ∙ before.gives);
            }

  -- where all are expanded, what is laid is what all give
  pub expanding_end : {count : ℕ} {answers cells text : List ℕ} {i from at : ℕ} → count ≡ min (length ends) (length answers₀ / numbers_each)
      → Expanding table formulas ends answers₀ cells₀ text₀ count answers cells text i from at → count ≤ i
      → record { count = count; answers = answers; cells = cells; text = text } ≡ expand_each table formulas ends answers₀ cells₀ text₀
  unfolding expand_each expand_all
  expanding_end {count} {answers} {cells} {text} {i} {from} {at} e last h =
      let all : i ≡ count = omega (arith, last.counted) in
      let over : length (take count ends) ≤ i = omega (arith, length-take count ends) in
      let done : expand_all table formulas 0 (take count ends) cells₀ text₀ ≡ laid answers cells text i at =
      sym last.gives ∙ rw (drop_of_length-le (take count ends) over, append-nil, append-nil) refl in
      rw (← e, done, ← all, ← last.ahead, take-append-drop, take-append-drop) refl
