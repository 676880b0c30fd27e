-- The closure of the sets after one round gives the sets that the rounds settle, with any nullables.
use Prim.Native.Nat.{ℕ, ◌<◌}
use mathlib.Core.Path.{◌≡◌, sym, ◌∙◌}
use mathlib.Core.Bool.{Bool, true, false≢true, and-eq-true_iff}
use mathlib.Core.Logic.{◌⊎◌, inl, inr, ⊎_elim}
use mathlib.Core.List.{List, [], ◌∷◌}
use native.Mathlib.Decide.{dec_lt}
use native.Mathlib.Omega.{arith}
use lib.ListN.{length, replicate, length-replicate, get_or-eq_default}
use lib.Seq.{ext_get_or}
use Rattle.kinds.specs.Kinds.{has_kind}
use Rattle.kinds.proofs.KindsLaws.{has_none, has_own}
use Rattle.grammar.specs.Table.{Item, terminal, local, call}
use Rattle.productions.specs.Normal.{Production}
use Rattle.firsts.specs.FirstSets.{over_all, is_nullable, opening_of, call_of, first_step, sets_of}
use Rattle.firsts.specs.Rules.{Of}
use Rattle.firsts.specs.SetCalls.{in_set_of, RoundTaken, ClosedBelow, ClosedBoth, BothSets}
use Rattle.firsts.proofs.Rounds.{Numbers, same_at, nothing, Within, Each, admit, least, least_within, least_closed, round_admits, round_within}
use Rattle.firsts.proofs.Rounds.{or_left, or_right, or_split}
use Rattle.firsts.proofs.FirstSetsExactly.{called, given, first_in, called_more, first_more, sets_seen, round_seen, only_has}
use Rattle.firsts.proofs.EqualSets.{both_in}
use Rattle.firsts.proofs.StepLaws.{length-sets, length_over}

-- ------------------------------------------------------------------ the items of a production

-- an item that gives `callee` to the left calls calls `callee`
own_called : (numbers : Numbers) (callee : ℕ) → numbers callee ≡ true → (item : Item) → has_kind (call_of item) callee ≡ true → called numbers item ≡ true
own_called numbers callee h (terminal t) e = absurd (false≢true (sym (has_none callee) ∙ e))
own_called numbers callee h local e = absurd (false≢true (sym (has_none callee) ∙ e))
own_called numbers callee h (call n ts) e = rw (← (only_has n callee e).0) h

-- what calls `callee`, at its left or through others, gives what `callee` gives
through_call : (own : Item → ℕ) (nulls callee kind : ℕ) (numbers others : Numbers) → Within numbers others → others callee ≡ true → (is : List Item)
    → first_in call_of nulls callee numbers is ≡ true → first_in own nulls kind others is ≡ true
unfolding first_in
through_call own nulls callee kind numbers others h e [] f = absurd (false≢true f)
through_call own nulls callee kind numbers others h e (i ∷ is) f =
    ⊎_elim
    (λ p. or_left _
    (or_right (has_kind (own i) kind) (⊎_elim (own_called others callee e i) (called_more numbers others h i) (or_split (has_kind (call_of i) callee) p))))
    (λ p.
    let q = (and-eq-true_iff (is_nullable nulls i) (first_in call_of nulls callee numbers is)).0 p in
    or_right (given own kind others i) ((and-eq-true_iff _ _).1 (q.0, through_call own nulls callee kind numbers others h e is q.1)))
    (or_split (given call_of callee numbers i) f)

-- a callee in `numbers` that stands at the left
pub record LeftCallee (nulls : ℕ) (numbers : Numbers) (is : List Item) : Type 0 where
  -- its number
  pub callee : ℕ
  -- it is in `numbers`
  pub in_it : numbers callee ≡ true
  -- a nonterminal stands at the left of the items
  pub stands : callee < 64 → first_in call_of nulls callee nothing is ≡ true

-- items give `kind` by themselves, or through a callee at their left
by_parts : (own : Item → ℕ) (nulls kind : ℕ) (numbers : Numbers) (is : List Item) → first_in own nulls kind numbers is ≡ true
    → (first_in own nulls kind nothing is ≡ true) ⊎ LeftCallee nulls numbers is
unfolding first_in
by_parts own nulls kind numbers [] e = absurd (false≢true e)
by_parts own nulls kind numbers (i ∷ is) e =
    ⊎_elim (λ p. ⊎_elim (λ q. inl (or_left _ (or_left _ q))) (λ q. inr (callee_of i q)) (or_split (has_kind (own i) kind) p))
    (λ p. let q = (and-eq-true_iff (is_nullable nulls i) (first_in own nulls kind numbers is)).0 p in later q.0 (by_parts own nulls kind numbers is q.1))
    (or_split (given own kind numbers i) e)
  where
    callee_of : (item : Item) → called numbers item ≡ true → LeftCallee nulls numbers (item ∷ is)
    callee_of (terminal t) f = absurd (false≢true f)
    callee_of local f = absurd (false≢true f)
    callee_of (call n ts) f = record { callee = n; in_it = f; stands = λ l. or_left _ (or_left _ (has_own n l)) }

    later : is_nullable nulls i ≡ true → (first_in own nulls kind nothing is ≡ true) ⊎ LeftCallee nulls numbers is
        → (first_in own nulls kind nothing (i ∷ is) ≡ true) ⊎ LeftCallee nulls numbers (i ∷ is)
    later z (inl q) = inl (or_right (given own kind nothing i) ((and-eq-true_iff _ _).1 (z, q)))
    later z (inr q) =
        inr
        (record {
          callee = q.callee;
          in_it = q.in_it;
          stands = λ l. or_right (given call_of q.callee nothing i) ((and-eq-true_iff _ _).1 (z, q.stands l));
        })

-- ------------------------------------------------------------------ the settled sets, and those of one round

module _ (nulls : ℕ) (g : List Production) where
  abbrev settled : (Item → ℕ) → ℕ → ℕ → Bool
  settled own = in_set_of (sets_of own nulls g)

  abbrev one_round : (Item → ℕ) → List ℕ
  one_round own = over_all (first_step own nulls) g (replicate 64 0)

  settled_seen : (own : Item → ℕ) (nonterminal kind : ℕ) → settled own nonterminal kind ≡ least (first_in own nulls kind) g nonterminal
  settled_seen own nonterminal kind = same_at (sets_seen own nulls kind g) nonterminal

  round_is : (own : Item → ℕ) (nonterminal kind : ℕ)
      → in_set_of (one_round own) nonterminal kind ≡ over_all (admit (first_in own nulls kind)) g nothing nonterminal
  round_is own nonterminal kind = same_at (round_seen own nulls kind g) nonterminal

  -- one round gives nothing else
  round_settled : (own : Item → ℕ) (nonterminal kind : ℕ) → in_set_of (one_round own) nonterminal kind ≡ true → settled own nonterminal kind ≡ true
  round_settled own nonterminal kind e =
      settled_seen own nonterminal kind ∙ round_within (first_in own nulls kind) (first_more own nulls kind) g nonterminal
      (sym (round_is own nonterminal kind) ∙ e)

  -- what a nonterminal reaches gives to it
  settled_through : (own : Item → ℕ) (nonterminal callee kind : ℕ) → settled call_of nonterminal callee ≡ true → settled own callee kind ≡ true
      → settled own nonterminal kind ≡ true
  settled_through own nonterminal callee kind e f =
      settled_seen own nonterminal kind
      ∙ least_within (first_in call_of nulls callee) g (λ m. least (first_in own nulls kind) g m ≡ true) keeps nonterminal
      (sym (settled_seen call_of nonterminal callee) ∙ e)
    where
      keeps : (numbers : Numbers) → Each (λ m. least (first_in own nulls kind) g m ≡ true) numbers → (caller : ℕ) (p : Production) → Of g caller p
          → first_in call_of nulls callee numbers p.items ≡ true → least (first_in own nulls kind) g caller ≡ true
      keeps numbers hs caller p o h =
          least_closed (first_in own nulls kind) (first_more own nulls kind) g o
          (through_call own nulls callee kind numbers (least (first_in own nulls kind) g) hs (sym (settled_seen own callee kind) ∙ f) p.items h)

  -- ---------------------------------------------------------------- the closure has the same

  -- a nonterminal with a set is one of the 64
  small_owner : (sets : List ℕ) → length sets ≡ 64 → (nonterminal kind : ℕ) → in_set_of sets nonterminal kind ≡ true → nonterminal < 64
  small_owner sets many nonterminal kind e = by (dec_lt nonterminal 64)
    where
      by : Dec (nonterminal < 64) → nonterminal < 64
      by (yes l) = l
      by (no l) =
          absurd (false≢true (cc (get_or-eq_default {A = ℕ} sets 0 {n = nonterminal} (omega (arith, many)), has_none kind)))

  module _ (own : Item → ℕ) {calls sets : List ℕ} (closed_below : ClosedBelow 64 (one_round call_of) (one_round call_of) calls calls)
      (other : ClosedBelow 64 (one_round call_of) (one_round own) calls sets) where
    closed_many : length sets ≡ 64
    closed_many = other.as_many ∙ length_over own nulls g (replicate 64 0) ∙ length-replicate {A = ℕ} 64 0

    closed_settled : (nonterminal kind : ℕ) → in_set_of sets nonterminal kind ≡ true → settled own nonterminal kind ≡ true
    closed_settled = other.least (settled call_of) (settled own) (round_settled call_of) (round_settled own) (settled_through call_of) (settled_through own)

    settled_closed : (nonterminal kind : ℕ) → settled own nonterminal kind ≡ true → in_set_of sets nonterminal kind ≡ true
    settled_closed nonterminal kind e =
        least_within (first_in own nulls kind) g (λ m. in_set_of sets m kind ≡ true) keeps nonterminal (sym (settled_seen own nonterminal kind) ∙ e)
      where
        admitted : (either : Item → ℕ) (owner member : ℕ) (p : Production) → Of g owner p → first_in either nulls member nothing p.items ≡ true
            → in_set_of (one_round either) owner member ≡ true
        admitted either owner member p o h = round_is either owner member ∙ round_admits (first_in either nulls member) (first_more either nulls member) o h

        keeps : (numbers : Numbers) → Each (λ m. in_set_of sets m kind ≡ true) numbers → (caller : ℕ) (p : Production) → Of g caller p
            → first_in own nulls kind numbers p.items ≡ true → in_set_of sets caller kind ≡ true
        keeps numbers hs caller p o h =
            ⊎_elim (λ q. other.kept caller kind (admitted own caller kind p o q))
            (λ q.
            let k = q.callee in
            let given = hs k q.in_it in
            let small = small_owner sets closed_many k kind given in
            other.through caller k kind small (closed_below.kept caller k (admitted call_of caller k p o (q.stands small))) given)
            (by_parts own nulls kind numbers p.items h)

    same_sets : sets ≡ sets_of own nulls g
    same_sets =
        ext_get_or 0 sets (sets_of own nulls g) (closed_many ∙ sym (length-sets own nulls g)) (λ n l. both_in _ _ (closed_settled n) (settled_closed n))

  -- One round and the closure give the sets that the rounds settle.
  pub closed_sets : {kinds₀ calls₀ : List ℕ} → RoundTaken nulls g (replicate 64 0) (replicate 64 0) kinds₀ calls₀ → {kinds calls : List ℕ}
      → ClosedBoth 64 calls₀ kinds₀ calls kinds → BothSets nulls g kinds calls
  closed_sets r {kinds} {calls} c =
      let a : ClosedBelow 64 (one_round call_of) (one_round call_of) calls calls = rw r.calls_are at c.calls_closed in
      let x : ClosedBelow 64 (one_round call_of) (one_round opening_of) calls kinds = rw (r.calls_are, r.kinds_are) at c.kinds_closed in
      record { kinds_are = same_sets opening_of a x; calls_are = same_sets call_of a a }
