-- Where a search finds a spelling, by the rules of specs/Tiling.
use Rattle.std.specs.Prelude.{Some, None, Option}
use Prim.Native.Nat.{ℕ, ◌<◌}
use mathlib.Core.Path.{◌≡◌, refl, sym, ap, subst}
use mathlib.Core.List.{List}
use native.Mathlib.Omega.{arith}
use lib.Dec.{ltb}
use lib.ListN.{length}
use borrow.Author.Tests.{lt-ltb, le-ltb, ltb-true, ltb-false}
use Rattle.spellings.specs.Bytes.{index_of}
use Rattle.spellings.proofs.BytesLaws.{by_test, index_le, index_found, index-first, index_at, same_false}
use Rattle.grammar.specs.Found.{found_in}
use Rattle.tokens.specs.Tiling.{FirstAt, NotIn}

module _ {sought : List ℕ} {vs : List (List ℕ)} where
  -- the place of a spelling is the one where it stands first
  pub first_index : {index : ℕ} → FirstAt sought vs index → index_of sought vs ≡ index
  first_index {index} f =
      by_test (ltb (index_of sought vs) index)
      (λ e.
      let l : index_of sought vs < index = ltb-true (index_of sought vs) index e in
      absurd (f.none_before (index_of sought vs) l (index_found sought vs (omega (arith, f.there)))))
      (λ e. omega (arith, ltb-false (index_of sought vs) index e, index_at sought vs index f.there f.equal))

  -- the place of a spelling that stands nowhere is the list's length
  pub none_index : NotIn sought vs → index_of sought vs ≡ length vs
  none_index f =
      by_test (ltb (index_of sought vs) (length vs))
      (λ e.
      let l : index_of sought vs < length vs = ltb-true (index_of sought vs) (length vs) e in
      absurd (f.none (index_of sought vs) l (index_found sought vs l)))
      (λ e. omega (arith, ltb-false (index_of sought vs) (length vs) e, index_le sought vs))

  -- a search finds a spelling where it stands first
  pub first_found : {index : ℕ} → FirstAt sought vs index → Some index ≡ found_in sought vs
  unfolding found_in
  first_found f =
      let z : index_of sought vs ≡ _ = first_index f in
      sym (rw (lt-ltb (index_of sought vs) (length vs) (omega (arith, z, f.there)), found_in) (ap Some z))

  -- a search finds no spelling that stands nowhere
  pub none_found : NotIn sought vs → None ≡ found_in sought vs
  unfolding found_in
  none_found f = sym (rw (le-ltb (index_of sought vs) (length vs) (omega (arith, none_index f)), found_in) refl)

module _ (sought : List ℕ) (vs : List (List ℕ)) where
  -- a place within the list is where the spelling stands first
  pub index_is_first : index_of sought vs < length vs → FirstAt sought vs (index_of sought vs)
  index_is_first h =
      record { there = h; equal = index_found sought vs h; none_before = λ j l e. same_false _ sought (index-first sought vs j l) e }

  -- where the place is the list's length, the spelling stands nowhere
  pub index_is_none : index_of sought vs ≡ length vs → NotIn sought vs
  index_is_none h = record { none = λ j l e. omega (arith, index_at sought vs j l e) }

-- what a search tells, by its answer
abbrev pub FoundBy : List ℕ → List (List ℕ) → Option ℕ → Type 0
FoundBy s vs (Some k) = FirstAt s vs k
FoundBy s vs None = NotIn s vs

found_rule : (sought : List ℕ) (vs : List (List ℕ)) → FoundBy sought vs (found_in sought vs)
found_rule sought vs =
    by_test (ltb (index_of sought vs) (length vs))
    (λ e.
    let f : FirstAt sought vs (index_of sought vs) = index_is_first sought vs (ltb-true (index_of sought vs) (length vs) e) in
    subst (FoundBy sought vs) (first_found f) f)
    (λ e.
    let f : NotIn sought vs = index_is_none sought vs (omega (arith, ltb-false (index_of sought vs) (length vs) e, index_le sought vs)) in
    subst (FoundBy sought vs) (none_found f) f)

-- what a search answers is so
pub found_by : (sought : List ℕ) (vs : List (List ℕ)) (found : Option ℕ) → found ≡ found_in sought vs → FoundBy sought vs found
found_by sought vs found e = subst (FoundBy sought vs) (sym e) (found_rule sought vs)
