-- Laws of the closure: sets whose first numbers are replaced, and one callee more.
use Prim.Native.Nat.{ℕ, zero, suc, ◌+◌, ◌<◌, ◌≤◌}
use mathlib.Core.Path.{◌≡◌, refl, sym, ◌∙◌}
use mathlib.Core.Bool.{Bool, true, false, ◌&&◌, ◌||◌, false≢true, and-eq-true_iff, or-false}
use mathlib.Core.Logic.{◌⊎◌, inl, inr, ⊎_elim, dite}
use mathlib.Core.List.{List}
use native.Mathlib.Decide.{dec_lt, ℕ_discrete}
use native.Mathlib.Numerals.{add-one}
use native.Mathlib.Omega.{arith}
use lib.Bits.{bit_or}
use lib.Dec.{ltb}
use lib.ListN.{length, get_or, set, length-set}
use lib.Seq.{get_or-set_same, get_or-set_other}
use borrow.Author.Tests.{lt-ltb, ltb-true}
use Rattle.kinds.specs.Kinds.{has_kind}
use Rattle.kinds.proofs.KindsLaws.{has_none, has_join}
use Rattle.firsts.specs.SetCalls.{in_set_of, StepLent, union_of, Closable, joined_if, with_callee, CalleeJoined, CalleeTaken, ClosedBelow, ClosedBoth}
use Rattle.firsts.proofs.Rounds.{or_left, or_right, or_split}

-- ------------------------------------------------------------------ one callee, nonterminal by nonterminal

-- the code's test
pub joined_by : (set more : ℕ) {test same_test : Bool} → test ≡ same_test → {answer : Bool} → test ≡ answer
    → joined_if answer set more ≡ joined_if same_test set more
joined_by set more e f = cc

module _ {callee caller : ℕ} {calls sets new : List ℕ} (callee_joined : CalleeJoined callee caller calls sets new) where
  joined_next : caller < length sets → {value : ℕ} → value ≡ with_callee calls sets callee caller
      → CalleeJoined callee (caller + 1) calls sets (set new caller value)
  joined_next h {value} e =
      record {
        as_many = length-set new caller value ∙ callee_joined.as_many;
        done = λ i l. by i l (ℕ_discrete i caller);
        left = λ i l. get_or-set_other new caller i value 0 (λ z. omega arith) ∙ callee_joined.left i (omega arith);
      }
    where
      by : (place : ℕ) → place < caller + 1 → Dec (place ≡ caller) → get_or (set new caller value) place 0 ≡ with_callee calls sets callee place
      by place l (yes z) = rw z (get_or-set_same new caller value 0 (omega (arith, callee_joined.as_many)) ∙ e)
      by place l (no z) = get_or-set_other new caller place value 0 z ∙ callee_joined.done place (omega arith)

-- the nonterminals below `caller` of `many` are done
pub record Taking (many callee caller : ℕ) (calls₀ kinds₀ calls kinds : List ℕ) : Type 0 where
  -- `caller` is at most their number
  pub within : caller ≤ many
  -- there is a set for each of them
  pub lent : StepLent many calls kinds
  -- what the `callee` gives is joined to the sets of those below `caller`, and the others are as before
  pub taken : CalleeTaken callee caller calls₀ kinds₀ calls kinds

-- none is done at first
pub taking_start : {many : ℕ} (callee : ℕ) {calls kinds : List ℕ} → StepLent many calls kinds → Taking many callee 0 calls kinds calls kinds
taking_start callee {calls} {kinds} l =
    record { within = omega arith; lent = l; taken = record { calls_joined = none calls; kinds_joined = none kinds } }
  where
    none : (sets : List ℕ) → CalleeJoined callee 0 calls sets sets
    none sets = record { as_many = refl; done = λ i l. absurd (omega arith); left = λ i l. refl }

module _ {many callee caller : ℕ} {calls₀ kinds₀ calls kinds : List ℕ} (taking : Taking many callee caller calls₀ kinds₀ calls kinds) where
  -- the two sets of the next nonterminal, as the code computes them
  pub taking_next : caller < many → {more_calls more_kinds : ℕ} → more_calls ≡ get_or calls₀ callee 0 → more_kinds ≡ get_or kinds₀ callee 0
      → {joined_calls joined_kinds : ℕ} → joined_calls ≡ joined_if (has_kind (get_or calls caller 0) callee) (get_or calls caller 0) more_calls
      → joined_kinds ≡ joined_if (has_kind (get_or calls caller 0) callee) (get_or kinds caller 0) more_kinds
      → Taking many callee (caller + 1) calls₀ kinds₀ (set calls caller joined_calls) (set kinds caller joined_kinds)
  taking_next h ec ek {joined_calls} {joined_kinds} ev ew =
      let l = taking.lent in
      let a = taking.taken.calls_joined in
      let x = taking.taken.kinds_joined in
      let ea = a.left caller (omega arith) in
      record {
        within = omega arith;
        lent =
            record {
              lent = record {
                calls_many = length-set calls caller joined_calls ∙ l.lent.calls_many;
                kinds_many = length-set kinds caller joined_kinds
                    ∙ l.lent.kinds_many;
              };
              small = l.small;
            };
        taken =
            record {
              calls_joined = joined_next a (omega (arith, a.as_many, l.lent.calls_many, l.small)) (ev ∙ rw (ec, ea) refl);
              kinds_joined = joined_next x (omega (arith, x.as_many, l.lent.kinds_many, l.small)) (ew ∙ rw (ek, ea, x.left caller (omega arith)) refl);
            };
      }

  -- all are done
  pub taking_end : many ≤ caller → CalleeTaken callee many calls₀ kinds₀ calls kinds
  taking_end h = let z : caller ≡ many = omega (arith, taking.within) in rw z at taking.taken

-- ------------------------------------------------------------------ the closure, callee by callee

-- nothing is closed over no callee
pub closed_start : (calls sets : List ℕ) → ClosedBelow 0 calls sets calls sets
closed_start calls sets =
    record { as_many = refl; kept = λ n b e. e; through = λ n k b l. absurd (omega arith); least = λ R S a s t u. s }

-- a nonterminal that has no set at first has none in the closure
no_set : {many limit : ℕ} {calls₀ sets₀ calls sets : List ℕ} → ClosedBelow limit calls₀ sets₀ calls sets
    → ((caller : ℕ) → many ≤ caller → get_or calls₀ caller 0 ≡ 0) → ((caller : ℕ) → many ≤ caller → get_or sets₀ caller 0 ≡ 0) → (caller kind : ℕ)
    → in_set_of sets caller kind ≡ true → caller < many
no_set {many} {calls₀ = calls₀} {sets₀ = sets₀} c no_calls no-sets caller kind e =
    ltb-true caller many
    (c.least (λ i j. ltb i many) (λ i j. ltb i many) (below calls₀ no_calls) (below sets₀ no-sets) (λ i j l p q. p) (λ i j l p q. p) caller kind e)
  where
    below : (sets : List ℕ) → ((caller : ℕ) → many ≤ caller → get_or sets caller 0 ≡ 0) → (caller kind : ℕ) → in_set_of sets caller kind ≡ true
        → ltb caller many ≡ true
    below sets none caller kind e = by (dec_lt caller many)
      where
        by : Dec (caller < many) → ltb caller many ≡ true
        by (yes l) = lt-ltb caller many l
        by (no l) = absurd (false≢true (cc (none caller (omega arith), has_none kind)))

-- one callee more
module _ {callee : ℕ} {calls₀ sets₀ calls sets : List ℕ} (calls' sets' : List ℕ)
    (came : (caller between : ℕ) → in_set_of calls' caller between ≡ true → (in_set_of calls caller between ≡ true)
    ⊎ ((in_set_of calls caller callee ≡ true) × (in_set_of calls callee between ≡ true)))
    (came_sets : (caller kind : ℕ) → in_set_of sets' caller kind ≡ true → (in_set_of sets caller kind ≡ true)
    ⊎ ((in_set_of calls caller callee ≡ true) × (in_set_of sets callee kind ≡ true)))
    (old : (caller kind : ℕ) → in_set_of sets caller kind ≡ true → in_set_of sets' caller kind ≡ true)
    (new : (caller kind : ℕ) → in_set_of calls caller callee ≡ true → in_set_of sets callee kind ≡ true → in_set_of sets' caller kind ≡ true)
    (closed_below : ClosedBelow callee calls₀ calls₀ calls calls) (other : ClosedBelow callee calls₀ sets₀ calls sets) where
  -- over `callee` itself
  over_last : (caller kind : ℕ) → in_set_of calls' caller callee ≡ true → in_set_of sets' callee kind ≡ true → in_set_of sets' caller kind ≡ true
  over_last caller kind e f = new caller kind (⊎_elim (λ p. p) (λ p. p.0) (came caller callee e)) (⊎_elim (λ p. p) (λ p. p.1) (came_sets callee kind f))

  -- over an earlier callee `between`
  over_earlier : (caller between kind : ℕ) → between < callee → in_set_of calls' caller between ≡ true → in_set_of sets' between kind ≡ true
      → in_set_of sets' caller kind ≡ true
  over_earlier caller between kind l e f = by (came caller between e) (came_sets between kind f)
    where
      by : (in_set_of calls caller between ≡ true) ⊎ ((in_set_of calls caller callee ≡ true) × (in_set_of calls callee between ≡ true))
          → (in_set_of sets between kind ≡ true) ⊎ ((in_set_of calls between callee ≡ true) × (in_set_of sets callee kind ≡ true)) → in_set_of sets' caller kind ≡ true
      by (inl p) (inl q) = old caller kind (other.through caller between kind l p q)
      by (inl p) (inr q) = new caller kind (closed_below.through caller between callee l p q.0) q.1
      by (inr p) (inl q) = new caller kind p.0 (other.through callee between kind l p.1 q)
      by (inr p) (inr q) = new caller kind p.0 q.1

  closed_step : length sets' ≡ length sets → ClosedBelow (callee + 1) calls₀ sets₀ calls' sets'
  closed_step many =
      record {
        as_many = many ∙ other.as_many;
        kept = λ n b e. old n b (other.kept n b e);
        through = λ n j b l e f. by n j b l e f (dec_lt j callee);
        least = λ R S ra sx tr ts n b e.
            ⊎_elim (λ p. other.least R S ra sx tr ts n b p)
            (λ p. ts n callee b (closed_below.least R R ra ra tr tr n callee p.0) (other.least R S ra sx tr ts callee b p.1)) (came_sets n b e);
      }
    where
      by : (caller between kind : ℕ) → between < callee + 1 → in_set_of calls' caller between ≡ true → in_set_of sets' between kind ≡ true → Dec (between < callee)
          → in_set_of sets' caller kind ≡ true
      by caller between kind l e f (yes h) = over_earlier caller between kind h e f
      by caller between kind l e f (no h) = let z : between ≡ callee = omega arith in over_last caller kind (rw (← z) e) (rw (← z) f)

-- what the code's turn for `callee` does to one of the two arrays
module _ {many callee : ℕ} {calls sets sets' : List ℕ} (callee_joined : CalleeJoined callee many calls sets sets')
    (none : (caller : ℕ) → in_set_of calls caller callee ≡ true → caller < many) where
  with_seen : (caller kind : ℕ)
      → has_kind (with_callee calls sets callee caller) kind ≡ (in_set_of sets caller kind || (in_set_of calls caller callee && in_set_of sets callee kind))
  with_seen caller kind = by (has_kind (get_or calls caller 0) callee) refl
    where
      by : (test : Bool) → has_kind (get_or calls caller 0) callee ≡ test
          → has_kind (with_callee calls sets callee caller) kind ≡ (in_set_of sets caller kind || (in_set_of calls caller callee && in_set_of sets callee kind))
      by true e = rw e (has_join (get_or sets caller 0) (get_or sets callee 0) kind)
      by false e = rw e (sym (or-false _))

  taken_came : (caller kind : ℕ) → in_set_of sets' caller kind ≡ true
      → (in_set_of sets caller kind ≡ true) ⊎ ((in_set_of calls caller callee ≡ true) × (in_set_of sets callee kind ≡ true))
  taken_came caller kind e = by (dec_lt caller many)
    where
      by : Dec (caller < many) → (in_set_of sets caller kind ≡ true) ⊎ ((in_set_of calls caller callee ≡ true) × (in_set_of sets callee kind ≡ true))
      by (yes l) =
          ⊎_elim inl (λ p. inr ((and-eq-true_iff _ _).0 p))
          (or_split (in_set_of sets caller kind) (cc (with_seen caller kind, callee_joined.done caller l)))
      by (no l) = inl (cc (callee_joined.left caller (omega arith)))

  taken_old : (caller kind : ℕ) → in_set_of sets caller kind ≡ true → in_set_of sets' caller kind ≡ true
  taken_old caller kind e = by (dec_lt caller many)
    where
      by : Dec (caller < many) → in_set_of sets' caller kind ≡ true
      by (yes l) = rw (callee_joined.done caller l) (with_seen caller kind ∙ or_left _ e)
      by (no l) = rw (callee_joined.left caller (omega arith)) e

  taken_new : (caller kind : ℕ) → in_set_of calls caller callee ≡ true → in_set_of sets callee kind ≡ true → in_set_of sets' caller kind ≡ true
  taken_new caller kind e f =
      rw (callee_joined.done caller (none caller e)) (with_seen caller kind ∙ or_right (in_set_of sets caller kind) ((and-eq-true_iff _ _).1 (e, f)))

-- ------------------------------------------------------------------ the loop

-- no callee is taken at first
pub both_start : (calls kinds : List ℕ) → ClosedBoth 0 calls kinds calls kinds
both_start calls kinds = record { calls_closed = closed_start calls calls; kinds_closed = closed_start calls kinds }

-- none of the first sets has what their union has not
union_covers : (count : ℕ) (sets : List ℕ) (caller kind : ℕ) → caller < count → in_set_of sets caller kind ≡ true → has_kind (union_of count sets) kind ≡ true
unfolding union_of
union_covers zero sets caller kind l e = absurd (omega arith)
union_covers (suc count) sets caller kind l e =
    has_join (union_of count sets) (get_or sets count 0) kind
    ∙ dite (ℕ_discrete caller count) (λ z. or_right (has_kind (union_of count sets) kind) (rw z at e))
    (λ z. or_left _ (union_covers count sets caller kind (omega arith) e))

-- the first `count` of `many` sets are joined
pub record Uniting (sets : List ℕ) (many all count : ℕ) : Type 0 where
  -- no more than there are
  pub within : count ≤ many
  -- what they have together
  pub so_far : all ≡ union_of count sets

-- none at first
pub uniting_start : {sets : List ℕ} {many : ℕ} → Uniting sets many 0 0
unfolding union_of
uniting_start = record { within = omega arith; so_far = refl }

module _ {sets : List ℕ} {many all count : ℕ} (uniting : Uniting sets many all count) where
  -- one set more
  pub uniting_next : count < many → {more : ℕ} → more ≡ bit_or all (get_or sets count 0) → Uniting sets many more (count + 1)
  unfolding union_of
  uniting_next h e = record { within = omega arith; so_far = cc (uniting.so_far, add-one count) }

  -- all of them
  pub uniting_end : many ≤ count → all ≡ union_of many sets
  uniting_end h = let z : count ≡ many = omega (arith, uniting.within) in rw z at uniting.so_far

module _ {many : ℕ} {calls₀ kinds₀ : List ℕ} (closable : Closable many calls₀ kinds₀) {callee : ℕ} {calls kinds : List ℕ}
    (closed_both : ClosedBoth callee calls₀ kinds₀ calls kinds) where
  -- the arrays stay as long as they were
  pub both_lent : StepLent many calls kinds
  both_lent =
      record {
        lent =
            record {
              calls_many = closed_both.calls_closed.as_many ∙ closable.lent.calls_many;
              kinds_many = closed_both.kinds_closed.as_many ∙ closable.lent.kinds_many;
            };
        small = closable.calls_below.small;
      }

  -- only nonterminals below `many` call
  callers : (caller kind : ℕ) → in_set_of calls caller kind ≡ true → caller < many
  callers caller kind e = no_set closed_both.calls_closed closable.calls_below.none closable.calls_below.none caller kind e

  -- one callee more
  pub both_next : {calls' kinds' : List ℕ} → CalleeTaken callee many calls kinds calls' kinds' → ClosedBoth (callee + 1) calls₀ kinds₀ calls' kinds'
  both_next {calls'} {kinds'} t =
      let none : (n : ℕ) → in_set_of calls n callee ≡ true → n < many = λ n e. callers n callee e in
      let a = t.calls_joined in
      let x = t.kinds_joined in
      record {
        calls_closed =
            closed_step calls' calls' (taken_came a none) (taken_came a none) (taken_old a none) (taken_new a none) closed_both.calls_closed
            closed_both.calls_closed a.as_many;
        kinds_closed =
            closed_step calls' kinds' (taken_came a none) (taken_came x none) (taken_old x none) (taken_new x none) closed_both.calls_closed
            closed_both.kinds_closed x.as_many;
      }

  -- who is called in the closure is called at first
  called_first : (caller between : ℕ) → in_set_of calls caller between ≡ true → has_kind (union_of many calls₀) between ≡ true
  called_first =
      closed_both.calls_closed.least (λ i j. has_kind (union_of many calls₀) j) (λ i j. has_kind (union_of many calls₀) j) at_first at_first (λ i j k p q. q)
      (λ i j k p q. q)
    where
      at_first : (caller between : ℕ) → in_set_of calls₀ caller between ≡ true → has_kind (union_of many calls₀) between ≡ true
      at_first caller between e =
          union_covers many calls₀ caller between
          (no_set (closed_start calls₀ calls₀) closable.calls_below.none closable.calls_below.none caller between e) e

  -- a callee that nobody calls gives nothing
  pub both_skip : {called : ℕ} {test : Bool} → called ≡ union_of many calls₀ → test ≡ has_kind called callee → test ≡ false
      → ClosedBoth (callee + 1) calls₀ kinds₀ calls kinds
  both_skip e f z = record { calls_closed = skip closed_both.calls_closed; kinds_closed = skip closed_both.kinds_closed }
    where
      skip : {sets₀ sets : List ℕ} → ClosedBelow callee calls₀ sets₀ calls sets → ClosedBelow (callee + 1) calls₀ sets₀ calls sets
      skip d =
          record {
            as_many = d.as_many;
            kept = d.kept;
            through =
                λ n k b l p q.
                dite (ℕ_discrete k callee) (λ y. absurd (false≢true (cc (called_first n k p)))) (λ y. d.through n k b (omega arith) p q);
            least = d.least;
          }

  -- the other callees give nothing
  pub both_end : many ≤ callee → ClosedBoth 64 calls₀ kinds₀ calls kinds
  both_end h =
      record {
        calls_closed = whole closed_both.calls_closed closable.calls_below.none;
        kinds_closed = whole closed_both.kinds_closed closable.kinds_below.none;
      }
    where
      whole : {sets₀ sets : List ℕ} → ClosedBelow callee calls₀ sets₀ calls sets → ((caller : ℕ) → many ≤ caller → get_or sets₀ caller 0 ≡ 0)
          → ClosedBelow 64 calls₀ sets₀ calls sets
      whole d none =
          record {
            as_many = d.as_many;
            kept = d.kept;
            through =
                λ n j b m e f.
                d.through n j b (let l : j < many = no_set d closable.calls_below.none none j b f in omega arith) e f;
            least = d.least;
          }
