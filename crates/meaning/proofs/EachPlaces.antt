-- What the call for many formulas answers and leaves, place by place.
use Rattle.std.specs.Prelude.{Err}
use Prim.Native.Nat.{ℕ, suc, ◌*◌, ◌/◌, ◌≤◌, ◌<◌, min}
use mathlib.Core.Path.{◌≡◌, refl, ap, ◌∙◌}
use mathlib.Core.List.{List, ◌∷◌, append_assoc}
use native.Mathlib.Omega.{arith}
use lib.ListN.{length, get_or, take, drop, length-take}
use lib.Seq.{take_at, drop_at, take-take, get_or-take, length-take-le}
use Rattle.answers.specs.declared.Refusal.{Refusal}
use Rattle.checker.specs.Check.{check}
use Rattle.terms.specs.Emit.{text_of}
use Rattle.meaning.specs.Expand.{Expanded, expand}
use Rattle.meaning.specs.Each.{numbers_of, numbers_each, written, Series, alone, behind, expand_all, ExpandedEach, expand_each}
use Rattle.meaning.proofs.Stages.{expand_refused}
use Rattle.meaning.proofs.EachLaws.{expand_keeps, numbers_length, all_keeps, all_refused, formula_at, before, here, at_place, next_place}
use Rattle.meaning.proofs.Lent.{Alike, lent_alike}

-- The first of some formulas leave what those before a place do, then what the one at the place does, then more.
up_to : (table formulas ends cells text : List ℕ) (count i : ℕ) → i < count → count ≤ length ends
    → (later : Series)
    × (expand_all table formulas 0 (take count ends) cells text
    ≡ behind (before table formulas ends cells text i) (behind (alone (here table formulas ends cells text i)) later))
up_to table formulas ends cells text count i h few =
    let inside : i < length (take count ends) = simp length-take (omega arith) in
    let q = at_place table formulas (take count ends) cells text i inside in (
      _,
      rw (take-take i count ends (omega arith), get_or-take (suc count) (0 ∷ ends) i 0 (omega arith), get_or-take count ends i 0 h) at q,
    )

module _ (table formulas ends answers cells text : List ℕ) where
  abbrev E : ExpandedEach
  E = expand_each table formulas ends answers cells text

  -- at a place below the count
  module _ (i : ℕ) (h : i < E.count) where
    abbrev b : Series
    b = before table formulas ends cells text i

    abbrev x : Expanded
    x = here table formulas ends cells text i

    few : E.count ≤ length ends
    unfolding expand_each
    few = omega arith

    before_numbers : length b.numbers ≡ i * numbers_each
    before_numbers =
        omega (arith, numbers_length table formulas 0 (take i ends) cells text, length-take-le i ends (omega (arith, few)))

    -- The four numbers of the answer are those of the place's own expansion.
    pub numbers_at : take numbers_each (drop (i * numbers_each) E.answers) ≡ numbers_of x.answer
    unfolding expand_each
    numbers_at =
        let (later, e) = up_to table formulas ends cells text (min (length ends) (length answers / numbers_each)) i h few in
        rw (e, append_assoc, drop_at b.numbers _ (i * numbers_each) before_numbers) refl

    -- Its text stands behind the texts of those before it.
    pub text_at : take (written x.answer) (drop (length b.texts) E.text) ≡ take (written x.answer) x.text
    unfolding expand_each
    text_at =
        let (later, e) = up_to table formulas ends cells text (min (length ends) (length answers / numbers_each)) i h few in
        let keeps = expand_keeps b.cells b.rest text_of table (formula_at formulas ends i) in
        let own : length (take (written x.answer) x.text) ≡ written x.answer = length-take-le _ _ (omega (arith, keeps.fits, keeps.as_long)) in
        rw (e, append_assoc, drop_at b.texts _ (length b.texts) refl, append_assoc) (take_at _ _ _ own)

    -- The next formula is lent what it leaves.
    pub next_at : expand_all table formulas 0 (take (suc i) ends) cells text ≡ behind b (alone x)
    next_at = next_place table formulas ends cells text i (omega (arith, few))

    -- It is answered as if it stood alone, with the cells as they were lent to the call, and of the text all behind the texts of those before it.
    pub as_alone : ((at : ℕ) → get_or table at 0 < 256)
        → Alike x (expand table (formula_at formulas ends i) cells (drop (length b.texts) text))
    as_alone bytes =
        let keeps = all_keeps table formulas 0 (take i ends) cells text in
        lent_alike text_of (formula_at formulas ends i) b.cells cells b.rest (drop (length b.texts) text) keeps.as_many_cells
        (ap length keeps.rest-is) table bytes

  module _ {cause : Refusal} (refuses : check table ≡ Err cause) where
    -- A table that the check refuses gives its refusal at each place,
    pub refused_at : (i : ℕ) → i < E.count → take numbers_each (drop (i * numbers_each) E.answers) ≡ numbers_of (Err cause)
    refused_at i h =
        numbers_at i h ∙ ap (λ (y : Expanded). numbers_of y.answer) (expand_refused text_of table refuses _ _ _)

    -- and leaves the cells
    pub refused_cells : E.cells ≡ cells
    unfolding expand_each
    refused_cells = (all_refused table formulas refuses 0 _ cells text).same_cells

    -- and the text as they were.
    pub refused_text : E.text ≡ text
    unfolding expand_each
    refused_text =
        let q = all_refused table formulas refuses 0 (take (min (length ends) (length answers / numbers_each)) ends) cells text in
        rw q.no_texts q.same_rest
