-- Laws of the steps over the productions of an index.
use Prim.Native.Nat.{ℕ, zero, suc, ◌+◌, ◌-◌, ◌<◌, ◌≤◌}
use mathlib.Core.Path.{◌≡◌, refl, sym, ap, ◌∙◌}
use mathlib.Core.List.{List, [], ◌∷◌}
use mathlib.Core.Logic.{dite}
use native.Mathlib.Decide.{dec_lt}
use native.Mathlib.Nat.{sub-zero}
use native.Mathlib.Omega.{arith}
use lib.Bits.{bit_or}
use lib.ListN.{length, get_or, set, replicate, length-set, length-replicate, get_or-replicate, get_or-eq_default}
use lib.Seq.{set_out, get_or-set_other}
use Rattle.grammar.specs.Table.{Item}
use Rattle.grammar.specs.Lookup.{fields_at}
use Rattle.productions.specs.Normal.{Production}
use Rattle.firsts.specs.FirstSets.{rounds, over_all, opening_of, call_of, first_step, sets_of}
use Rattle.firsts.specs.declared.Gathered.{Gathered}
use Rattle.firsts.specs.SetCalls.{gathered, StepTaken, RoundTaken, UsedBelow, OwnersBelow, Closable}
use Rattle.productions.specs.Index.{items_of, Place, production_at, productions_at, places_from, productions_by}
use Rattle.productions.proofs.IndexLaws.{places_next, places_none}

-- ------------------------------------------------------------------ a loop over the productions

-- the steps of the productions from number `turn` on lead from `state` to where those of all lead from `state₀`
pub record Over {A : Type 0} (step : Production → A → A) (bs owners starts : List ℕ) (many : ℕ) (state₀ : A) (turn : ℕ) (state : A) : Type 0 where
  -- the productions left lead from `state` to where all lead from `state₀`
  pub rest : over_all step (productions_at bs (places_from (many - turn) owners starts turn)) state ≡ over_all step (productions_by many bs owners starts) state₀

-- all productions are left at first
pub over_start : {A : Type 0} (step : Production → A → A) (bs owners starts : List ℕ) (many : ℕ) (state₀ : A) → Over step bs owners starts many state₀ 0 state₀
over_start step bs owners starts many state₀ = record { rest = rw sub-zero refl }

module _ {A : Type 0} {step : Production → A → A} {bs owners starts : List ℕ} {many : ℕ} {state₀ : A} {turn : ℕ} {state : A}
    (over : Over step bs owners starts many state₀ turn state) where
  over_one : (ps : List Place) → places_from (many - turn) owners starts turn ≡ ps
      → over_all step (productions_at bs ps) state ≡ over_all step (productions_by many bs owners starts) state₀
  over_one ps e = rw e at over.rest

  -- one production more
  pub over_next : turn < many → {owner start : ℕ} → owner ≡ get_or owners turn 0 → start ≡ get_or starts turn 0 → {next : A}
      → next ≡ step (production_at bs owner start) state
      → Over step bs owners starts many state₀ (turn + 1) next
  unfolding over_all
  over_next h eo es ey =
      record {
        rest =
            rw (ey, eo, es) (over_one _ (places_next owners starts many turn h));
      }

  -- no production is left
  pub over_end : many ≤ turn → state ≡ over_all step (productions_by many bs owners starts) state₀
  unfolding over_all
  over_end h = over_one [] (places_none owners starts many turn h)

-- ------------------------------------------------------------------ first sets and left calls

-- past the last set nothing is joined
pub join_past : (sets : List ℕ) (owner value : ℕ) → length sets ≤ owner → sets ≡ set sets owner value
join_past sets owner value h = sym (set_out sets owner value h)

-- the sets of the nonterminal of one production
pub step_is : (nulls : ℕ) (bs : List ℕ) (owner start : ℕ) (kinds calls : List ℕ) {found : Gathered}
    → found ≡ gathered nulls kinds calls (items_of (fields_at bs start)) → {kinds' calls' : List ℕ}
    → kinds' ≡ set kinds owner (bit_or (get_or kinds owner 0) found.kinds) → calls' ≡ set calls owner (bit_or (get_or calls owner 0) found.calls)
    → StepTaken nulls (production_at bs owner start) kinds calls kinds' calls'
unfolding first_step production_at
step_is nulls bs owner start kinds calls e ek el = record { kinds_are = ek ∙ rw e refl; calls_are = el ∙ rw e refl }

-- there are always as many sets
length_step : (own : Item → ℕ) (nulls : ℕ) (p : Production) (sets : List ℕ) → length (first_step own nulls p sets) ≡ length sets
unfolding first_step
length_step own nulls p sets = length-set sets p.nonterminal _

-- a round keeps their number
pub length_over : (own : Item → ℕ) (nulls : ℕ) (g : List Production) (sets : List ℕ) → length (over_all (first_step own nulls) g sets) ≡ length sets
unfolding over_all
length_over own nulls [] sets = refl
length_over own nulls (p ∷ g) sets = length_over own nulls g _ ∙ length_step own nulls p sets

length_rounds : (times : ℕ) (step : List ℕ → List ℕ) → ((sets : List ℕ) → length (step sets) ≡ length sets) → (sets : List ℕ)
    → length (rounds times step sets) ≡ length sets
unfolding rounds
length_rounds zero step e sets = refl
length_rounds (suc times) step e sets = length_rounds times step e (step sets) ∙ e sets

-- 64 sets, whatever the grammar
pub length-sets : (own : Item → ℕ) (nulls : ℕ) (g : List Production) → length (sets_of own nulls g) ≡ 64
unfolding sets_of
length-sets own nulls g =
    length_rounds 64 (over_all (first_step own nulls) g) (length_over own nulls g) (replicate 64 0) ∙ length-replicate {A = ℕ} 64 0

-- the sets after the productions before number `turn`
pub record Joining (nulls : ℕ) (bs owners starts : List ℕ) (many : ℕ) (kinds₀ calls₀ : List ℕ) (turn : ℕ) (kinds calls : List ℕ) : Type 0 where
  -- the first sets so far, and the productions left, give those after a whole round
  pub kinds_over : Over (first_step opening_of nulls) bs owners starts many kinds₀ turn kinds
  -- so do the sets of left calls
  pub calls_over : Over (first_step call_of nulls) bs owners starts many calls₀ turn calls
  -- the first sets are as many as before
  pub kinds_many : length kinds ≡ length kinds₀
  -- so are the sets of left calls
  pub calls_many : length calls ≡ length calls₀

-- all productions are left at first
pub joining_start : (nulls : ℕ) (bs owners starts : List ℕ) (many : ℕ) (kinds calls : List ℕ) → Joining nulls bs owners starts many kinds calls 0 kinds calls
joining_start nulls bs owners starts many kinds calls =
    record {
      kinds_over = over_start (first_step opening_of nulls) bs owners starts many kinds;
      calls_over = over_start (first_step call_of nulls) bs owners starts many calls;
      kinds_many = refl;
      calls_many = refl;
    }

module _ {nulls : ℕ} {bs owners starts : List ℕ} {many : ℕ} {kinds₀ calls₀ : List ℕ} {turn : ℕ} {kinds calls : List ℕ}
    (joining : Joining nulls bs owners starts many kinds₀ calls₀ turn kinds calls) where
  -- one production more
  pub joining_next : turn < many → {owner start : ℕ} → owner ≡ get_or owners turn 0 → start ≡ get_or starts turn 0 → {kinds' calls' : List ℕ}
      → StepTaken nulls (production_at bs owner start) kinds calls kinds' calls' → Joining nulls bs owners starts many kinds₀ calls₀ (turn + 1) kinds' calls'
  joining_next h eo es e =
      record {
        kinds_over = over_next joining.kinds_over h eo es e.kinds_are;
        calls_over = over_next joining.calls_over h eo es e.calls_are;
        kinds_many = ap length e.kinds_are ∙ length_step opening_of nulls _ kinds ∙ joining.kinds_many;
        calls_many = ap length e.calls_are ∙ length_step call_of nulls _ calls ∙ joining.calls_many;
      }

  -- no production is left
  pub joining_end : many ≤ turn → RoundTaken nulls (productions_by many bs owners starts) kinds₀ calls₀ kinds calls
  joining_end h = record { kinds_are = over_end joining.kinds_over h; calls_are = over_end joining.calls_over h }

-- ------------------------------------------------------------------ nonterminals without productions

empty_at : (place : ℕ) → get_or {A = ℕ} (replicate 64 0) place 0 ≡ 0
empty_at place =
    dite (dec_lt place 64) (λ l. get_or-replicate 64 place 0 0 l)
    (λ l. get_or-eq_default {A = ℕ} (replicate 64 0) 0 {n = place} (omega (arith, length-replicate {A = ℕ} 64 0)))

-- a production of a nonterminal below `below` gives to no other
step_below : (own : Item → ℕ) (nulls : ℕ) {below : ℕ} (p : Production) (sets : List ℕ) → p.nonterminal < below → UsedBelow below sets
    → UsedBelow below (first_step own nulls p sets)
unfolding first_step
step_below own nulls p sets h u =
    record { small = u.small; none = λ n l. get_or-set_other sets p.nonterminal n _ 0 (λ e. omega arith) ∙ u.none n l }

module _ {below many : ℕ} {owners : List ℕ} (owners_below : OwnersBelow below many owners) (own : Item → ℕ) (nulls : ℕ) (bs starts : List ℕ) where
  over_below : (count from : ℕ) → from + count ≤ many → (sets : List ℕ) → UsedBelow below sets
      → UsedBelow below (over_all (first_step own nulls) (productions_at bs (places_from count owners starts from)) sets)
  unfolding over_all places_from production_at
  over_below zero from h sets u = u
  over_below (suc count) from h sets u =
      over_below count (from + 1) (omega arith) _ (step_below own nulls _ sets (owners_below.each from (omega arith)) u)

  abbrev round : List ℕ → List ℕ
  round sets = over_all (first_step own nulls) (productions_by many bs owners starts) sets

  rounds_below : (times : ℕ) (sets : List ℕ) → UsedBelow below sets → UsedBelow below (rounds times round sets)
  unfolding rounds
  rounds_below zero sets u = u
  rounds_below (suc times) sets u = rounds_below times (round sets) (over_below many 0 (omega arith) sets u)

  empty_below : UsedBelow below (replicate 64 0)
  empty_below = record { small = owners_below.small; none = λ n l. empty_at n }

  -- no round gives to a nonterminal that has no production
  pub round_below : UsedBelow below (round (replicate 64 0))
  round_below = over_below many 0 (omega arith) (replicate 64 0) empty_below

  -- nor do all
  pub sets_below : UsedBelow below (sets_of own nulls (productions_by many bs owners starts))
  unfolding sets_of
  sets_below = rounds_below 64 (replicate 64 0) empty_below

-- the sets of one round from empty ones
pub round_closable : {nulls : ℕ} (bs starts : List ℕ) {owners : List ℕ} {below many : ℕ} → OwnersBelow below many owners → {kinds calls : List ℕ}
    → RoundTaken nulls (productions_by many bs owners starts) (replicate 64 0) (replicate 64 0) kinds calls → Closable below calls kinds
round_closable {nulls} bs starts {owners} {below} {many} o r =
    let g : List Production = productions_by many bs owners starts in
    let size : (own : Item → ℕ) → length (over_all (first_step own nulls) g (replicate 64 0)) ≡ 64 =
    λ own. length_over own nulls g (replicate 64 0) ∙ length-replicate {A = ℕ} 64 0 in
    record {
      lent = record { calls_many = ap length r.calls_are ∙ size call_of; kinds_many = ap length r.kinds_are ∙ size opening_of };
      calls_below = rw r.calls_are (round_below o call_of nulls bs starts);
      kinds_below = rw r.kinds_are (round_below o opening_of nulls bs starts);
    }
