-- The numbering loop: what is left of the marks gives what the whole gives.
use Prim.Native.Nat.{ℕ, zero, suc, ◌+◌, ◌-◌, ◌≤◌, ◌<◌}
use mathlib.Core.Path.{◌≡◌, refl, sym, ap, ◌∙◌}
use mathlib.Core.List.{List, [], ◌∷◌, ◌++◌, append_assoc, append-nil}
use native.Mathlib.Numerals.{add-one}
use native.Mathlib.Omega.{arith}
use lib.ListN.{length, get_or, set, take, drop, length-set, take-append-drop}
use lib.Seq.{drop-cons, take-suc, take-suc-set, drop-set-lt, get_or-take, length-take-le, take-length, drop-length}
use borrow.Author.Tests.{ne_eqb}
use Rattle.std.specs.Prelude.{Ok, Err}
use Rattle.grammar.proofs.ReaderLaws.{get_d_past}
use Rattle.scopes.specs.Marks.{new, no_owner}
use Rattle.resolver.specs.Numbers.{owner_number, number_at, next_number, numbered_marks, loose_in, NumbersMarks}

-- ------------------------------------------------------------------ the number at a place

module _ (done : List ℕ) (next mark : ℕ) where
  -- a binder that is renamed takes the next number
  pub new_at : mark ≡ new → next ≡ number_at done next mark
  unfolding number_at
  new_at e = sym (rw (e, number_at) refl)

  -- a place without an owner has 0
  pub none_at : mark ≡ no_owner → 0 ≡ number_at done next mark
  unfolding number_at
  none_at e = sym (ap (number_at done next) e)

  owner_at : (mark ≡ new → ⊥) → (mark ≡ no_owner → ⊥) → number_at done next mark ≡ owner_number done mark
  unfolding number_at
  owner_at a b = rw (ne_eqb mark new a, number_at) (rw (ne_eqb mark no_owner b) refl)

owner_number_lem : (done : List ℕ) (mark owner : ℕ) → (mark ≡ 0 → ⊥) → owner ≡ mark - 1 → owner_number done mark ≡ get_or done owner 0
owner_number_lem done zero owner d e = absurd (d refl)
owner_number_lem done (suc k) owner d e = let z : k ≡ owner = omega arith in cc

module _ (room : List ℕ) (place next mark : ℕ) (no_new : mark ≡ new → ⊥) (no_loose : mark ≡ no_owner → ⊥) where
  -- a place with the mark 0 has 0
  pub zero_at : mark ≡ 0 → 0 ≡ number_at (take place room) next mark
  zero_at e = sym (owner_at (take place room) next mark no_new no_loose ∙ ap (owner_number (take place room)) e)

  -- a variable whose binder stands before it has its binder's number
  pub found_at : (mark ≡ 0 → ⊥) → mark - 1 < place → get_or room (mark - 1) 0 ≡ number_at (take place room) next mark
  found_at d l =
      sym
      (owner_at (take place room) next mark no_new no_loose ∙ owner_number_lem (take place room) mark (mark - 1) d refl
      ∙ get_or-take place room (mark - 1) 0 l)

  -- one whose binder's place is not before it would have 0
  pub far_at : (mark ≡ 0 → ⊥) → place ≤ mark - 1 → place ≤ length room → 0 ≡ number_at (take place room) next mark
  far_at d l n =
      let past : length (take place room) ≤ mark - 1 = omega (arith, length-take-le place room n) in
      sym
      (owner_at (take place room) next mark no_new no_loose ∙ owner_number_lem (take place room) mark (mark - 1) d refl ∙ get_d_past (take place room)
      (mark - 1) 0 past)

-- ------------------------------------------------------------------ the loop

-- the marks before `place` are numbered, with `count` new names
pub record Counting (room₀ room : List ℕ) (place count : ℕ) : Type 0 where
  -- `place` is a place or the end
  pub inside : place ≤ length room₀
  -- no more numbers are taken than places passed
  pub few : count ≤ place
  -- the room keeps its length
  pub long : length room ≡ length room₀
  -- the numbers so far, whatever marks come behind them, are those of the marks so far
  pub names : (ms : List ℕ) → numbered_marks (take place room) (count + 1) ms ≡ numbered_marks [] 1 (take place room₀ ++ ms)
  -- the marks ahead are as they were
  pub ahead : drop place room ≡ drop place room₀
  -- the places without an owner that are ahead are all of them
  pub loose : loose_in place (drop place room) ≡ loose_in 0 room₀

-- no place is numbered yet
pub counting_start : (room : List ℕ) → Counting room room 0 0
counting_start room =
    record {
      inside = omega arith;
      few = omega arith;
      long = refl;
      names = λ ms. refl;
      ahead = refl;
      loose = refl;
    }

-- The numbers so far.
numbers_so_far : {room₀ room : List ℕ} {place count : ℕ} → Counting room₀ room place count → take place room ≡ numbered_marks [] 1 (take place room₀)
unfolding numbered_marks
numbers_so_far {room₀} {place = place} counting = counting.names [] ∙ ap (numbered_marks [] 1) (append-nil (take place room₀))

module _ {room₀ room : List ℕ} {place count : ℕ} (counting : Counting room₀ room place count) (below : place < length room) where
  next : drop place room ≡ get_or room place 0 ∷ drop (suc place) room
  next = drop-cons room place 0 below

  next₀ : drop place room₀ ≡ get_or room₀ place 0 ∷ drop (suc place) room₀
  next₀ = drop-cons room₀ place 0 (omega (arith, counting.long))

  mark_kept : get_or room place 0 ≡ get_or room₀ place 0
  mark_kept = cc (next, next₀, counting.ahead)

  -- The first place without an owner is the answer, and the marks from there on are as they were.
  pub counting_loose : get_or room place 0 ≡ no_owner → NumbersMarks room₀ room (Err place)
  unfolding loose_in
  counting_loose e =
      let h : loose_in place (get_or room place 0 ∷ drop (suc place) room) ≡ place ∷ loose_in (suc place) (drop (suc place) room) = rw (e, loose_in) refl in
      let first : loose_in 0 room₀ ≡ place ∷ loose_in (suc place) (drop (suc place) room) = cc (h, next, counting.loose) in
      record {
        answer = sym (rw first refl);
        left = rw first (sym (take-append-drop place room) ∙ cc (numbers_so_far counting, counting.ahead));
      }

  module _ (owned : get_or room place 0 ≡ no_owner → ⊥) {value : ℕ} (ev : value ≡ number_at (take place room) (count + 1) (get_or room place 0)) where
    step_names : (more : ℕ) → next_number (count + 1) (get_or room place 0) ≡ more → (ms : List ℕ)
        → numbered_marks (take (suc place) (set room place value)) more ms ≡ numbered_marks [] 1 (take (suc place) room₀ ++ ms)
    unfolding numbered_marks
    step_names more ek ms =
        cc (
          take-suc-set room place value below,
          ev,
          ek,
          counting.names (get_or room place 0 ∷ ms),
          mark_kept,
          take-suc room₀ place 0 (omega (arith, counting.long)),
          append_assoc (take place room₀) (get_or room₀ place 0 ∷ []) ms,
        )

    step_ahead : drop (suc place) (set room place value) ≡ drop (suc place) room₀
    step_ahead = cc (drop-set-lt (suc place) room place value (omega arith), next, next₀, counting.ahead)

    step_loose : loose_in (suc place) (drop (suc place) (set room place value)) ≡ loose_in 0 room₀
    unfolding loose_in
    step_loose =
        let h : loose_in place (get_or room place 0 ∷ drop (suc place) room) ≡ loose_in (suc place) (drop (suc place) room) = rw (
          ne_eqb (get_or room place 0) no_owner owned,
          loose_in,
        )
        refl in
        cc (drop-set-lt (suc place) room place value (omega arith), h, next, counting.loose)

    counting_next : (more : ℕ) → more ≤ place + 1 → next_number (count + 1) (get_or room place 0) ≡ more + 1
        → Counting room₀ (set room place value) (place + 1) more
    counting_next more few ek =
        rw (add-one place)
        (record {
          inside = omega (arith, counting.long);
          few = omega arith;
          long = length-set room place value ∙ counting.long;
          names = step_names (more + 1) ek;
          ahead = step_ahead;
          loose = step_loose;
        })

    -- a renamed binder takes the next number
    pub counting_new : get_or room place 0 ≡ new → Counting room₀ (set room place value) (place + 1) (count + 1)
    unfolding next_number
    counting_new e = counting_next (count + 1) (omega (arith, counting.few)) (rw (e, next_number) (omega arith))

    -- any other place takes none
    pub counting_old : (get_or room place 0 ≡ new → ⊥) → Counting room₀ (set room place value) (place + 1) count
    unfolding next_number
    counting_old e = counting_next count (omega (arith, counting.few)) (rw (ne_eqb (get_or room place 0) new e, next_number) refl)

module _ {room₀ room : List ℕ} {place count : ℕ} (counting : Counting room₀ room place count) (over : length room ≤ place) where
  all_passed : place ≡ length room
  all_passed = omega (arith, counting.inside, counting.long)

  none_ahead : drop place room ≡ []
  none_ahead = cc (all_passed, drop-length room)

  -- where no mark is left, every fresh variable has an owner, and the marks have become the numbers
  pub counting_done : NumbersMarks room₀ room (Ok tt)
  unfolding loose_in
  counting_done =
      let none : loose_in 0 room₀ ≡ [] = sym counting.loose ∙ ap (loose_in place) none_ahead in
      record {
        answer = sym (rw none refl);
        left =
            rw none
            (sym (ap (λ k. take k room) all_passed ∙ take-length room) ∙ numbers_so_far counting
            ∙ ap (numbered_marks [] 1) (ap (λ k. take k room₀) (all_passed ∙ counting.long) ∙ take-length room₀));
      }
