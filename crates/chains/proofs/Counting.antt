-- Calls of which those that began at one index are of different nonterminals are no more than indices times nonterminals.
use Prim.Native.Nat.{ℕ, zero, suc, ◌+◌, ◌*◌, ◌≤◌, ◌<◌}
use mathlib.Core.Path.{◌≡◌, refl, sym, ap, subst, ◌∙◌}
use mathlib.Core.Bool.{Bool, true, false, true≢false, or-true}
use mathlib.Core.List.{List, [], ◌∷◌, ◌++◌}
use native.Mathlib.Omega.{arith}
use lib.Dec.{eqb}
use lib.ListN.{length, length-append}
use borrow.Author.Tests.{eqb-true, eqb-false, eq-eqb}
use Rattle.decoding.specs.Within.{Each, each_none, each_more, Among, among_first, among_later}
use Rattle.decoding.proofs.Spelled.{each_map}
use Rattle.productions.specs.Normal.{Production}
use Rattle.chains.specs.Moments.{Call, Apart, apart_none, apart_more, has_production, numbers_below}

-- ------------------------------------------------------------------ different members of a list are no more than it has

-- a list with one place of a member left out
without : {A : Type 0} {xs : List A} {item : A} → Among xs item → List A
without (among_first {xs = xs}) = xs
without (among_later {y = y} m) = y ∷ without m

without_length : {A : Type 0} {xs : List A} {item : A} (m : Among xs item) → length xs ≡ suc (length (without m))
unfolding without
without_length among_first = refl
without_length (among_later m) = ap suc (without_length m)

-- another member is still there
still : {A : Type 0} {xs : List A} {item other : A} (m : Among xs item) → Among xs other → (item ≡ other → ⊥) → Among (without m) other
unfolding without
still among_first among_first apart = absurd (apart refl)
still among_first (among_later k) apart = k
still (among_later m) among_first apart = among_first
still (among_later m) (among_later k) apart = among_later (still m k apart)

still_all : {xs : List Call} {c : Call} (m : Among xs c) {cs : List Call} → Each (λ d. c.began ≡ d.began → c.nonterminal ≡ d.nonterminal → ⊥) cs
    → Each (Among xs) cs → Each (Among (without m)) cs
still_all m each_none each_none = each_none
still_all m (each_more a as') (each_more k ks) = each_more (still m k (λ e. a (ap (λ x. x.began) e) (ap (λ x. x.nonterminal) e))) (still_all m as' ks)

-- calls that are apart, all of them members of a list, are no more than it has
pub apart_few : {cs xs : List Call} → Apart cs → Each (Among xs) cs → length cs ≤ length xs
apart_few apart_none each_none = omega arith
apart_few (apart_more a p) (each_more m ms) = omega (arith, apart_few p (still_all m a ms), without_length m)

-- ------------------------------------------------------------------ all calls of some nonterminals that may begin at an index up to n

at_index : ℕ → List ℕ → List Call
at_index b [] = []
at_index b (n ∷ ns) = record { nonterminal = n; began = b } ∷ at_index b ns

up_to : ℕ → List ℕ → List Call
up_to zero ns = at_index 0 ns
up_to (suc b) ns = at_index (suc b) ns ++ up_to b ns

at_length : (b : ℕ) (ns : List ℕ) → length (at_index b ns) ≡ length ns
unfolding at_index
at_length b [] = refl
at_length b (n ∷ ns) = ap suc (at_length b ns)

up_to_length : (b : ℕ) (ns : List ℕ) → length (up_to b ns) ≡ (b + 1) * length ns
unfolding up_to
up_to_length zero ns = omega (arith, at_length 0 ns)
up_to_length (suc b) ns = omega (arith, length-append (at_index (suc b) ns) (up_to b ns), at_length (suc b) ns, up_to_length b ns)

at_among : {b n : ℕ} {ns : List ℕ} → Among ns n → Among (at_index b ns) (record { nonterminal = n; began = b })
unfolding at_index
at_among among_first = among_first
at_among (among_later m) = among_later (at_among m)

-- a member of a list is one of a longer one,
pub in_front_lem : {A : Type 0} {xs : List A} (ys : List A) {item : A} → Among xs item → Among (xs ++ ys) item
in_front_lem ys among_first = among_first
in_front_lem ys (among_later m) = among_later (in_front_lem ys m)

-- in front of others or behind them
pub behind : {A : Type 0} (xs : List A) {ys : List A} {item : A} → Among ys item → Among (xs ++ ys) item
behind [] m = m
behind (x ∷ xs) m = among_later (behind xs m)

up_to_among : (last : ℕ) {b n : ℕ} {ns : List ℕ} → b ≤ last → Among ns n → Among (up_to last ns) (record { nonterminal = n; began = b })
unfolding up_to
up_to_among zero {b} {n} {ns} l m =
    subst (λ x. Among (at_index 0 ns) (record { nonterminal = n; began = x })) (omega arith) (at_among {b = 0} m)
up_to_among (suc last) {b} {n} {ns} l m = go (eqb b (suc last)) refl (λ k. up_to_among last k m)
  where
    go : (test : Bool) → eqb b (suc last) ≡ test → (b ≤ last → Among (up_to last ns) (record { nonterminal = n; began = b }))
        → Among (at_index (suc last) ns ++ up_to last ns) (record { nonterminal = n; began = b })
    go true e f =
        subst (λ x. Among (at_index (suc last) ns ++ up_to last ns) (record { nonterminal = n; began = x })) (sym (eqb-true b (suc last) e))
        (in_front_lem (up_to last ns) (at_among {b = suc last} m))
    go false e f = behind (at_index (suc last) ns) (f (omega (arith, eqb-false b (suc last) e)))

-- calls that began at an index up to `last`, of some nonterminals, and are apart
pub few_calls : (last : ℕ) (ns : List ℕ) {cs : List Call} → Apart cs → Each (λ c. (c.began ≤ last) × Among ns c.nonterminal) cs
    → length cs ≤ (last + 1) * length ns
few_calls last ns {cs} a w =
    omega (arith, apart_few a (each_map (λ c h. up_to_among last h.0 h.1) w), up_to_length last ns)

-- ------------------------------------------------------------------ the nonterminals that are defined

-- a number below k that passes the test is listed
pub below_among : (k : ℕ) (test : ℕ → Bool) (n : ℕ) → n < k → test n ≡ true → Among (numbers_below k test) n
unfolding numbers_below
below_among zero test n l e = absurd (omega (arith, l))
below_among (suc k) test n l e = go (eqb n k) refl (test k) refl (λ h. below_among k test n h e)
  where
    go : (here : Bool) → eqb n k ≡ here → (passes : Bool) → test k ≡ passes → (n < k → Among (numbers_below k test) n)
        → Among (elim passes as (λ x. List ℕ) [ true ↦ k ∷ numbers_below k test | false ↦ numbers_below k test ]) n
    go true h true p f = subst (Among (k ∷ numbers_below k test)) (sym (eqb-true n k h)) among_first
    go true h false p f = absurd (true≢false (sym e ∙ ap test (eqb-true n k h) ∙ p))
    go false h true p f = among_later (f (omega (arith, eqb-false n k h)))
    go false h false p f = f (omega (arith, eqb-false n k h))

-- the nonterminal of a production is defined
pub owner_defined : {g : List Production} {p : Production} → Among g p → has_production g p.nonterminal ≡ true
unfolding has_production
owner_defined {p = p} among_first = rw (eq-eqb p.nonterminal p.nonterminal refl) refl
owner_defined {p = p} (among_later {y = other} m) = rw (owner_defined m) (or-true (eqb other.nonterminal p.nonterminal))
