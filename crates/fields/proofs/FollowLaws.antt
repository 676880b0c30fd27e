-- The tags that a tag may follow, as a set: one computed test for the tags below 8, and none behind.
use Prim.Native.Nat.{ℕ, zero, suc, ◌≤◌, ◌<◌, ◌^◌}
use mathlib.Core.Path.{◌≡◌, refl, sym, ◌∙◌}
use mathlib.Core.Bool.{Bool, true, false, not, ◌&&◌, and-false, and-eq-true_iff}
use native.Mathlib.Decide.{dec_lt, ℕ_discrete}
use native.Mathlib.Omega.{arith}
use borrow.Author.Tests.{lt-leb, ne_eqb}
use Rattle.kinds.specs.Kinds.{has_kind}
use Rattle.kinds.proofs.KindsLaws.{has_above, has_none}
use Rattle.decoding.specs.Layout.{follows}

-- nothing follows a number that is no tag before the root's
late : (tag last : ℕ) → 8 ≤ last → follows tag last ≡ false
unfolding follows
late tag last h =
    simp (
      lt-leb last 1 (omega arith),
      lt-leb last 2 (omega arith),
      lt-leb last 3 (omega arith),
      ne_eqb last 3 (λ e. omega arith),
      ne_eqb last 4 (λ e. omega arith),
      ne_eqb last 5 (λ e. omega arith),
      ne_eqb last 6 (λ e. omega arith),
      ne_eqb last 7 (λ e. omega arith),
      and-false,
    )

-- two answers are the same
unfoldable pub is_same : Bool → Bool → Bool
is_same true other = other
is_same false other = not other

same_answers : (answer other : Bool) → is_same answer other ≡ true → answer ≡ other
unfolding is_same
same_answers true other e = sym e
same_answers false true e = e
same_answers false false e = refl

-- two tests agree on the numbers below a bound
unfoldable pub agree : ℕ → (ℕ → Bool) → (ℕ → Bool) → Bool
agree zero test other = true
agree (suc bound) test other = is_same (test bound) (other bound) && agree bound test other

agree_at : (bound : ℕ) (test other : ℕ → Bool) → agree bound test other ≡ true → (number : ℕ) → number < bound → test number ≡ other number
unfolding agree
agree_at zero test other all number h = absurd (omega arith)
agree_at (suc bound) test other all number h =
    let (here, below) = (and-eq-true_iff (is_same (test bound) (other bound)) (agree bound test other)).0 all in
    by (ℕ_discrete number bound) (same_answers (test bound) (other bound) here) (agree_at bound test other below number)
  where
    by : Dec (number ≡ bound) → test bound ≡ other bound → (number < bound → test number ≡ other number) → test number ≡ other number
    by (yes e) here below = rw e here
    by (no n) here below = below (omega arith)

-- a set of tags below 8 that agrees with the rule on those, agrees on every number
pub before_by : (set : ℕ) {tag known : ℕ} → tag ≡ known → set < 2 ^ 8 → agree 8 (has_kind set) (follows known) ≡ true → (last : ℕ)
    → has_kind set last ≡ follows tag last
before_by set {tag} {known} e small all last = by (dec_lt last 8)
  where
    by : Dec (last < 8) → has_kind set last ≡ follows tag last
    by (yes h) = rw e (agree_at 8 (has_kind set) (follows known) all last h)
    by (no h) = has_above 8 set last small (omega arith) ∙ sym (late tag last (omega arith))

-- what is no tag follows nothing
pub none_before : {tag : ℕ}
    → (((((((Unit {0} × (tag ≡ 1 → ⊥)) × (tag ≡ 2 → ⊥)) × (tag ≡ 3 → ⊥)) × (tag ≡ 4 → ⊥)) × (tag ≡ 5 → ⊥)) × (tag ≡ 6 → ⊥)) × (tag ≡ 7 → ⊥))
    × (tag ≡ 8 → ⊥) → (last : ℕ) → has_kind 0 last ≡ follows tag last
unfolding follows
none_before {tag} ((((((((u, a), b), c), d), e), f), g), h) last =
    has_none last
    ∙ simp (ne_eqb tag 1 a, ne_eqb tag 2 b, ne_eqb tag 3 c, ne_eqb tag 4 d, ne_eqb tag 5 e, ne_eqb tag 6 f, ne_eqb tag 7 g, ne_eqb tag 8 h)
