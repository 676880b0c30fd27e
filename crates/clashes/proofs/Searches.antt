-- What the searches of the check find: the lowest number that passes a test, a pair of productions that does, and what all pairs share.
use Prim.Native.Nat.{ℕ, zero, suc, ◌+◌, ◌≤◌, ◌<◌}
use mathlib.Core.Path.{◌≡◌, refl, sym, ◌∙◌}
use mathlib.Core.Bool.{Bool, true, false, ◌||◌, false≢true, or-false, or_assoc}
use mathlib.Core.Logic.{◌↔◌, ◌⊎◌, inl, inr, ⊎_elim, dite}
use mathlib.Core.List.{List, [], ◌∷◌}
use native.Mathlib.Decide.{ℕ_discrete}
use native.Mathlib.Omega.{arith}
use lib.Bits.{bit_or}
use Rattle.kinds.specs.Kinds.{has_kind}
use Rattle.kinds.proofs.KindsLaws.{has_join}
use Rattle.productions.specs.Normal.{Production}
use Rattle.clashes.specs.CheckFirsts.{lowest, any_with, any_pair, join_with, join_pairs}
use Rattle.decoding.specs.Within.{Among, among_first, among_later}
use Rattle.clashes.specs.Clashes.{Before, before_first, before_later}
use Rattle.firsts.proofs.Rounds.{or_left, or_right, or_split}

decided : (test : Bool) → (test ≡ true) ⊎ (test ≡ false)
decided true = inl refl
decided false = inr refl

-- ------------------------------------------------------------------ the lowest number

lowest_here : (steps : ℕ) (test : ℕ → Bool) (start : ℕ) → test start ≡ true → lowest (suc steps) test start ≡ start
unfolding lowest
lowest_here steps test start e = rw (e, lowest) refl

lowest_later : (steps : ℕ) (test : ℕ → Bool) (start : ℕ) → test start ≡ false → lowest (suc steps) test start ≡ lowest steps test (start + 1)
unfolding lowest
lowest_later steps test start e = rw (e, lowest) refl

-- what is found passes
pub lowest_passes : (steps : ℕ) (test : ℕ → Bool) (start : ℕ) → lowest steps test start < start + steps → test (lowest steps test start) ≡ true
unfolding lowest
lowest_passes zero test start h = absurd (omega arith)
lowest_passes (suc steps) test start h =
    ⊎_elim (λ e. rw (lowest_here steps test start e) e)
    (λ e. rw (lowest_later steps test start e) (lowest_passes steps test (start + 1) (omega (arith, lowest_later steps test start e)))) (decided (test start))

-- and no lower number does
pub lowest_skips : (steps : ℕ) (test : ℕ → Bool) (start number : ℕ) → start ≤ number → number < lowest steps test start → test number ≡ false
unfolding lowest
lowest_skips zero test start number l h = absurd (omega arith)
lowest_skips (suc steps) test start number l h =
    ⊎_elim (λ e. absurd (omega (arith, lowest_here steps test start e)))
    (λ e. dite (ℕ_discrete number start) (λ d. rw d e)
    (λ d. lowest_skips steps test (start + 1) number (omega arith) (omega (arith, lowest_later steps test start e))))
    (decided (test start))

-- ------------------------------------------------------------------ a pair of productions

-- a production of a list that passes a test
pub record FoundWith (test : Production → Bool) (g : List Production) : Type 0 where
  -- the production found
  pub production : Production
  -- it is one of the list
  pub member : Among g production
  -- it passes the test
  pub passes : test production ≡ true

with_sound : (test : Production → Bool) (g : List Production) → any_with test g ≡ true → FoundWith test g
unfolding any_with
with_sound test [] e = absurd (false≢true e)
with_sound test (q ∷ g) e =
    ⊎_elim (λ h. record { production = q; member = among_first; passes = h })
    (λ h. let r = with_sound test g h in record { production = r.production; member = among_later r.member; passes = r.passes }) (or_split (test q) e)

with_complete : (test : Production → Bool) {g : List Production} {other : Production} → Among g other → test other ≡ true → any_with test g ≡ true
unfolding any_with
with_complete test among_first e = or_left _ e
with_complete test (among_later {y = r} m) e = or_right (test r) (with_complete test m e)

-- two productions of a list, one before the other, that pass a test
pub record FoundPair (test : Production → Production → Bool) (g : List Production) : Type 0 where
  -- the first of the pair
  pub one : Production
  -- the second
  pub other : Production
  -- the first stands before the second in the list
  pub apart : Before g one other
  -- the two pass the test
  pub passes : test one other ≡ true

pair_sound : (test : Production → Production → Bool) (g : List Production) → any_pair test g ≡ true → FoundPair test g
unfolding any_pair
pair_sound test [] e = absurd (false≢true e)
pair_sound test (p ∷ g) e =
    ⊎_elim (λ h. let r = with_sound (test p) g h in record { one = p; other = r.production; apart = before_first r.member; passes = r.passes })
    (λ h. let r = pair_sound test g h in record { one = r.one; other = r.other; apart = before_later r.apart; passes = r.passes })
    (or_split (any_with (test p) g) e)

pair_complete : (test : Production → Production → Bool) {g : List Production} {p other : Production} → Before g p other → test p other ≡ true
    → any_pair test g ≡ true
unfolding any_pair
pair_complete test (before_first {p = p} m) e = or_left _ (with_complete (test p) m e)
pair_complete test (before_later {r = r} {g = g} b) e = or_right (any_with (test r) g) (pair_complete test b e)

-- the search finds a pair exactly if there is one
pub pair_exactly : (test : Production → Production → Bool) (g : List Production) → (any_pair test g ≡ true) ↔ FoundPair test g
pair_exactly test g = (pair_sound test g, λ r. pair_complete test r.apart r.passes)

-- ------------------------------------------------------------------ what all pairs give together

with_seen : {A : Type 0} (set_of : A → ℕ) (g : List A) (found kind : ℕ)
    → has_kind (join_with set_of g found) kind ≡ (has_kind found kind || any_with (λ q. has_kind (set_of q) kind) g)
unfolding join_with any_with
with_seen set_of [] found kind = sym (or-false (has_kind found kind))
with_seen set_of (q ∷ g) found kind =
    rw (has_join found (set_of q) kind) at (with_seen set_of g (bit_or found (set_of q)) kind)
    ∙ or_assoc (has_kind found kind) (has_kind (set_of q) kind) (any_with (λ r. has_kind (set_of r) kind) g)

-- a kind is in the join over all pairs if some pair gives it
pub pairs_seen : {A : Type 0} (set_of : A → A → ℕ) (g : List A) (found kind : ℕ)
    → has_kind (join_pairs set_of g found) kind ≡ (has_kind found kind || any_pair (λ p q. has_kind (set_of p q) kind) g)
unfolding join_pairs any_pair
pairs_seen set_of [] found kind = sym (or-false (has_kind found kind))
pairs_seen set_of (p ∷ g) found kind =
    rw (with_seen (set_of p) g found kind) at (pairs_seen set_of g (join_with (set_of p) g found) kind)
    ∙ or_assoc (has_kind found kind) (any_with (λ q. has_kind (set_of p q) kind) g) (any_pair (λ q r. has_kind (set_of q r) kind) g)
