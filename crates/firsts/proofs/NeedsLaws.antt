-- Laws of the needs of productions: a production is nullable exactly if it has only locals and calls, and all its needs are nullable.
use Prim.Native.Nat.{ℕ, zero, suc, ◌+◌, ◌-◌, ◌<◌, ◌≤◌}
use mathlib.Core.Path.{◌≡◌, refl, sym, ap, ◌∙◌, fun_ext}
use mathlib.Core.Bool.{Bool, true, false, ◌&&◌, ◌||◌, false≢true, and-eq-true_iff}
use mathlib.Core.Logic.{⊎_elim, dite}
use mathlib.Core.List.{List, [], ◌∷◌}
use native.Mathlib.Decide.{dec_lt}
use native.Mathlib.Omega.{arith}
use lib.Bits.{bit_or, or_zero_r}
use lib.Dec.{eqb}
use lib.ListN.{length, get_or, set, replicate, length-set, length-replicate}
use lib.Seq.{get_or-set_same, get_or-set_other}
use borrow.Author.Tests.{eq-eqb, ne_eqb, eqb-true}
use Rattle.kinds.specs.Kinds.{has_kind, only}
use Rattle.kinds.proofs.KindsLaws.{has_none, has_join, has_own, has_above, only_bound}
use Rattle.grammar.specs.Table.{Item, terminal, local, call}
use Rattle.grammar.specs.Lookup.{fields_at}
use Rattle.productions.specs.Normal.{Production}
use Rattle.productions.specs.Index.{items_of, production_at, productions_by}
use Rattle.firsts.specs.declared.Gathered.{Gathered}
use Rattle.firsts.specs.FirstSets.{call_of, rounds, over_all, is_nullable, all_nullable, null_step, nullables, gather}
use Rattle.firsts.specs.SetCalls.{joined_if}
use Rattle.firsts.specs.Mentions.{mentioned}
use Rattle.firsts.specs.Needs.{every_one, mentioned_all, Nonterminals, need_step, need_pass, need_round, step_place, NeedsLent, NeedsHeld}
use Rattle.firsts.proofs.Rounds.{nothing, count, count-le, grows, or_left, or_right, or_split}
use Rattle.firsts.proofs.NullablesExactly.{nullable_exactly, nullables_settled}
use Rattle.firsts.proofs.FirstSetsExactly.{first_in, given, items_seen, only_has}
use Rattle.firsts.proofs.EqualSets.{same_set, both_in}
use Rattle.firsts.proofs.StepLaws.{Over, over_start, over_next, over_end}

-- ------------------------------------------------------------------ sets of nonterminals

-- the empty set
pub none_high : Nonterminals 0
none_high = record { none_above = λ n l. has_none n }

step-high : (owner needs : ℕ) {nulls : ℕ} → Nonterminals nulls → Nonterminals (need_step owner needs nulls)
step-high owner needs {nulls} h = record { none_above = λ n l. by n l (eqb (bit_or nulls needs) nulls) }
  where
    by : (nonterminal : ℕ) → 64 ≤ nonterminal → (test : Bool) → has_kind (joined_if test nulls (only owner)) nonterminal ≡ false
    by nonterminal l true =
        has_join nulls (only owner) nonterminal ∙ rw (h.none_above nonterminal l) (has_above 64 (only owner) nonterminal (only_bound owner) l)
    by nonterminal l false = h.none_above nonterminal l

pass_high : (place : ℕ → ℕ) (turn : ℕ) (owners needs : List ℕ) {nulls : ℕ} → Nonterminals nulls → Nonterminals (need_pass place turn owners needs nulls)
unfolding need_pass
pass_high place zero owners needs h = h
pass_high place (suc turn) owners needs h = step-high (get_or owners (place turn) 0) (get_or needs (place turn) 0) (pass_high place turn owners needs h)

-- a nonterminal in a set is below 64
small_in : {reached_set : ℕ} → Nonterminals reached_set → (nonterminal : ℕ) → has_kind reached_set nonterminal ≡ true → nonterminal < 64
small_in {reached_set} h nonterminal e = by (dec_lt nonterminal 64)
  where
    by : Dec (nonterminal < 64) → nonterminal < 64
    by (yes l) = l
    by (no l) = absurd (false≢true (sym (h.none_above nonterminal (omega arith)) ∙ e))

-- a test of each number below k
all_below : ℕ → (ℕ → Bool) → Bool
all_below zero t = true
all_below (suc k) t = t k && all_below k t

each_below : (bound : ℕ) (test : ℕ → Bool) → all_below bound test ≡ true → (below : ℕ) → below < bound → test below ≡ true
unfolding all_below
each_below zero test e below l = absurd (omega arith)
each_below (suc bound) test e below l =
    let both = (and-eq-true_iff (test bound) (all_below bound test)).0 e in
    dite (dec_lt below bound) (λ h. each_below bound test both.1 below h) (λ h. let z : below ≡ bound = omega arith in rw z both.0)

-- all are in the set of all
every_has : (nonterminal : ℕ) → nonterminal < 64 → has_kind every_one nonterminal ≡ true
unfolding has_kind all_below
every_has = each_below 64 (has_kind every_one) refl

every_small : (nonterminal : ℕ) → has_kind every_one nonterminal ≡ true → nonterminal < 64
every_small = small_in (record { none_above = λ n l. has_above 64 every_one n (omega arith) l })

-- joining adds nothing exactly if all is in already
joins_none : (reached_set other : ℕ) → ((nonterminal : ℕ) → has_kind other nonterminal ≡ true → has_kind reached_set nonterminal ≡ true)
    → eqb (bit_or reached_set other) reached_set ≡ true
joins_none reached_set other h =
    eq-eqb (bit_or reached_set other) reached_set
    (same_set (bit_or reached_set other) reached_set (λ n. has_join reached_set other n ∙ by (has_kind reached_set n) (has_kind other n) (h n)))
  where
    by : (first second : Bool) → (second ≡ true → first ≡ true) → (first || second) ≡ first
    by true second f = refl
    by false true f = sym (f refl)
    by false false f = refl

joined_in : (reached_set other : ℕ) → eqb (bit_or reached_set other) reached_set ≡ true → (nonterminal : ℕ) → has_kind other nonterminal ≡ true
    → has_kind reached_set nonterminal ≡ true
joined_in reached_set other e nonterminal f =
    cc (eqb-true (bit_or reached_set other) reached_set e, has_join reached_set other nonterminal, or_right (has_kind reached_set nonterminal) f)

-- ------------------------------------------------------------------ the items of a production

-- an item that is passed is passed with all nonterminals nullable
passed_every : {nulls : ℕ} → Nonterminals nulls → (item : Item) → is_nullable nulls item ≡ true → is_nullable every_one item ≡ true
passed_every h (terminal t) e = e
passed_every h local e = e
passed_every h (call n ts) e = every_has n (small_in h n e)

-- what an item calls, where it is passed
passed_needs : (nulls kind : ℕ) (item : Item) → is_nullable nulls item ≡ true → given call_of kind nothing item ≡ true → has_kind nulls kind ≡ true
passed_needs nulls kind (terminal t) e f = absurd (false≢true e)
passed_needs nulls kind local e f = absurd (⊎_elim (λ p. false≢true (sym (has_none kind) ∙ p)) (λ p. false≢true p) (or_split (has_kind 0 kind) f))
passed_needs nulls kind (call n ts) e f = rw (only_has n kind (⊎_elim (λ p. p) (λ p. absurd (false≢true p)) (or_split (has_kind (only n) kind) f))).0 e

needs_passed : (nulls : ℕ) (item : Item) → is_nullable every_one item ≡ true → ((kind : ℕ) → given call_of kind nothing item ≡ true → has_kind nulls kind ≡ true)
    → is_nullable nulls item ≡ true
needs_passed nulls (terminal t) e h = e
needs_passed nulls local e h = e
needs_passed nulls (call n ts) e h = h n (or_left _ (has_own n (every_small n e)))

abbrev Needed : ℕ → List Item → Type 0
Needed nulls is = (b : ℕ) → first_in call_of every_one b nothing is ≡ true → has_kind nulls b ≡ true

all_every : {nulls : ℕ} → Nonterminals nulls → (is : List Item) → all_nullable nulls is ≡ true → all_nullable every_one is ≡ true
unfolding all_nullable
all_every h [] e = e
all_every h (i ∷ is) e =
    let p = (and-eq-true_iff _ _).0 e in
    (and-eq-true_iff _ _).1 (passed_every h i p.0, all_every h is p.1)

all_needed : (nulls : ℕ) (is : List Item) → all_nullable nulls is ≡ true → Needed nulls is
unfolding all_nullable first_in
all_needed nulls [] e b f = absurd (false≢true f)
all_needed nulls (i ∷ is) e b f =
    let p = (and-eq-true_iff (is_nullable nulls i) (all_nullable nulls is)).0 e in
    ⊎_elim (passed_needs nulls b i p.0) (λ q. all_needed nulls is p.1 b ((and-eq-true_iff (is_nullable every_one i) _).0 q).1)
    (or_split (given call_of b nothing i) f)

needed_all : (nulls : ℕ) (is : List Item) → all_nullable every_one is ≡ true → Needed nulls is → all_nullable nulls is ≡ true
unfolding all_nullable first_in
needed_all nulls [] e h = e
needed_all nulls (i ∷ is) e h =
    let p = (and-eq-true_iff (is_nullable every_one i) (all_nullable every_one is)).0 e in
    (and-eq-true_iff _ _).1 (
      needs_passed nulls i p.0 (λ b q. h b (or_left _ q)),
      needed_all nulls is p.1 (λ b q. h b (or_right (given call_of b nothing i) ((and-eq-true_iff _ _).1 (p.0, q)))),
    )

-- ------------------------------------------------------------------ a step

module _ (is : List Item) where
  abbrev needs_of : ℕ
  needs_of = gather call_of every_one [] is 0

  needs_seen : (kind : ℕ) → has_kind needs_of kind ≡ first_in call_of every_one kind nothing is
  needs_seen kind = items_seen call_of every_one kind [] is ∙ ap (λ s. first_in call_of every_one kind s is) (fun_ext (λ n. has_none kind))

  -- with only locals and calls, the needs decide
  test_is : all_nullable every_one is ≡ true → (nulls : ℕ) → eqb (bit_or nulls needs_of) nulls ≡ all_nullable nulls is
  test_is e nulls = by _ _ refl refl
    where
      by : (first second : Bool) → eqb (bit_or nulls needs_of) nulls ≡ first → all_nullable nulls is ≡ second
          → eqb (bit_or nulls needs_of) nulls ≡ all_nullable nulls is
      by true second ea eb = ea ∙ sym (needed_all nulls is e (λ n f. joined_in nulls needs_of ea n (needs_seen n ∙ f)))
      by false true ea eb = joins_none nulls needs_of (λ n f. all_needed nulls is eb n (sym (needs_seen n) ∙ f)) ∙ sym eb
      by false false ea eb = ea ∙ sym eb

-- the test of the definition, with the code's
by_cases : (owner nulls : ℕ) (test : Bool) → joined_if test nulls (only owner) ≡ (elim test [ true ↦ bit_or nulls (only owner) | false ↦ nulls ])
by_cases owner nulls true = refl
by_cases owner nulls false = refl

-- where all items are locals and calls, what they mention is what they need
mentioned_needs : (is : List Item) (found : ℕ) → all_nullable every_one is ≡ true → mentioned call_of is found ≡ gather call_of every_one [] is found
unfolding mentioned gather all_nullable
mentioned_needs [] found e = refl
mentioned_needs (terminal t ∷ is) found e = absurd (false≢true e)
mentioned_needs (local ∷ is) found e = rw (or_zero_r (bit_or found 0)) (mentioned_needs is (bit_or found 0) e)
mentioned_needs (call n ts ∷ is) found e =
    let p = (and-eq-true_iff (has_kind every_one n) (all_nullable every_one is)).0 e in
    rw (p.0, gather, or_zero_r (bit_or found (only n))) (mentioned_needs is (bit_or found (only n)) p.1)

module _ (bs : List ℕ) (owner start : ℕ) {found : Gathered} (ef : found ≡ mentioned_all (items_of (fields_at bs start))) where
  abbrev items : List Item
  items = items_of (fields_at bs start)

  -- a production that is held is nullable by its needs
  pub held_step : found.nullable ≡ true → (nulls : ℕ) → need_step owner found.calls nulls ≡ null_step (production_at bs owner start) nulls
  unfolding null_step production_at
  held_step e nulls =
      rw (ef, mentioned_needs items 0 (rw ef at e), test_is items (rw ef at e) nulls) (by_cases owner nulls (all_nullable nulls items))

  -- one that is not held never is
  pub other_step : found.nullable ≡ false → {nulls : ℕ} → Nonterminals nulls → nulls ≡ null_step (production_at bs owner start) nulls
  unfolding null_step production_at
  other_step e {nulls} h =
      let none : all_nullable nulls items ≡ false = by (all_nullable nulls items) refl in
      rw (none, null_step) refl
    where
      by : (test : Bool) → all_nullable nulls items ≡ test → all_nullable nulls items ≡ false
      by true f =
          absurd (false≢true (sym (rw ef at e) ∙ all_every h items f))
      by false f = f

-- ------------------------------------------------------------------ the productions that are held

-- what is written behind the first `many` changes nothing for these
round_kept : (place : ℕ) {many : ℕ} → place ≤ many → (owners needs : List ℕ) (owner needed nulls : ℕ)
    → need_round place (set owners many owner) (set needs many needed) nulls ≡ need_round place owners needs nulls
unfolding need_pass
round_kept zero l owners needs owner needed nulls = refl
round_kept (suc place) {many} l owners needs owner needed nulls =
    let ne : (place ≡ many → ⊥) = λ e. omega arith in
    rw (
      get_or-set_other owners many place owner 0 ne,
      get_or-set_other needs many place needed 0 ne,
      round_kept place {many = many} (omega arith) owners needs owner needed nulls,
    ) refl

-- one production more
round_one : (many : ℕ) (owners needs : List ℕ) (owner needed nulls : ℕ) → many < length owners → many < length needs
    → need_round (suc many) (set owners many owner) (set needs many needed) nulls ≡ need_step owner needed (need_round many owners needs nulls)
unfolding need_pass
round_one many owners needs owner needed nulls h l =
    rw (get_or-set_same owners many owner 0 h, get_or-set_same needs many needed 0 l, round_kept many {many = many} (omega arith) owners needs owner needed nulls)
    refl

-- the productions before number `turn` are held, `total` of them, as far as they have only locals and calls
pub record Holding (bs owners starts : List ℕ) (many : ℕ) (whose₀ needs₀ : List ℕ) (total turn : ℕ) (whose needs : List ℕ) : Type 0 where
  -- no more are held than were looked at
  pub few : total ≤ turn
  -- the arrays have room for all productions
  pub lent : NeedsLent many whose needs
  -- the array of owners keeps its length
  pub whose_many : length whose ≡ length whose₀
  -- the array of needs keeps its length
  pub needs_many : length needs ≡ length needs₀
  -- a round over those held is one over the productions looked at
  pub over : (nulls : ℕ) → Nonterminals nulls → Over null_step bs owners starts many nulls turn (need_round total whose needs nulls)

-- room for 256 is enough
pub needs_lent : {many : ℕ} → many ≤ 256 → NeedsLent many (replicate 256 0) (replicate 256 0)
needs_lent h = record { owners_many = omega (arith, h, length-replicate {A = ℕ} 256 0); needs_many = omega (arith, h, length-replicate {A = ℕ} 256 0) }

-- none is held at first
pub holding_start : (bs owners starts : List ℕ) (many : ℕ) {whose needs : List ℕ} → NeedsLent many whose needs
    → Holding bs owners starts many whose needs 0 0 whose needs
unfolding need_pass
holding_start bs owners starts many l =
    record { few = omega arith; lent = l; whose_many = refl; needs_many = refl; over = λ nulls h. over_start null_step bs owners starts many nulls }

module _ {bs owners starts : List ℕ} {many : ℕ} {whose₀ needs₀ : List ℕ} {total turn : ℕ} {whose needs : List ℕ}
    (holding : Holding bs owners starts many whose₀ needs₀ total turn whose needs) where
  -- there is room for one owner more
  pub holding_whose : turn < many → total < length whose
  holding_whose h = omega (arith, holding.few, holding.lent.owners_many)

  -- and for its needs
  pub holding_needs : turn < many → total < length needs
  holding_needs h = omega (arith, holding.few, holding.lent.needs_many)

  module _ (below : turn < many) {owner start : ℕ} (eo : owner ≡ get_or owners turn 0) (es : start ≡ get_or starts turn 0) {found : Gathered}
      (ef : found ≡ mentioned_all (items_of (fields_at bs start))) where
    -- a production that is held
    pub holding_held : found.nullable ≡ true → Holding bs owners starts many whose₀ needs₀ (total + 1) (turn + 1) (set whose total owner)
        (set needs total found.calls)
    holding_held e =
        let z : total + 1 ≡ suc total = omega arith in
        record {
          few = omega (arith, holding.few);
          lent =
              record {
                owners_many = omega (arith, holding.lent.owners_many, length-set whose total owner);
                needs_many = omega (arith, holding.lent.needs_many, length-set needs total found.calls);
              };
          whose_many = length-set whose total owner ∙ holding.whose_many;
          needs_many = length-set needs total found.calls ∙ holding.needs_many;
          over =
              λ nulls n.
              over_next (holding.over nulls n) below eo es
              (rw z (round_one total whose needs owner found.calls nulls (holding_whose below) (holding_needs below))
              ∙ held_step bs owner start ef e (need_round total whose needs nulls));
        }

    -- one that is not
    pub holding_other : found.nullable ≡ false → Holding bs owners starts many whose₀ needs₀ total (turn + 1) whose needs
    holding_other e =
        record {
          few = omega (arith, holding.few);
          lent = holding.lent;
          whose_many = holding.whose_many;
          needs_many = holding.needs_many;
          over = λ nulls n. over_next (holding.over nulls n) below eo es (other_step bs owner start ef e (pass_high (λ i. i) total whose needs n));
        }

  -- all productions were looked at
  pub holding_end : many ≤ turn → NeedsHeld (productions_by many bs owners starts) total whose needs
  holding_end h = record { same = λ nulls n. over_end (holding.over nulls n) h }

-- ------------------------------------------------------------------ a pass

-- `turn` of the `many` steps are done
pub record Passing (owners needs : List ℕ) (down : Bool) (nulls many turn set : ℕ) : Type 0 where
  -- `turn` is at most `many`
  pub within : turn ≤ many
  -- the set is what these steps make of the one before
  pub done : set ≡ need_pass (step_place down many) turn owners needs nulls

-- no step is done at first
pub passing_start : (owners needs : List ℕ) (down : Bool) (nulls many : ℕ) → Passing owners needs down nulls many 0 nulls
unfolding need_pass
passing_start owners needs down nulls many = record { within = omega arith; done = refl }

module _ {owners needs : List ℕ} {down : Bool} {nulls many turn set : ℕ} (passing : Passing owners needs down nulls many turn set) where
  -- one step more
  pub passing_next : turn < many → {place owner needed result : ℕ} → place ≡ step_place down many turn → owner ≡ get_or owners place 0
      → needed ≡ get_or needs place 0 → result ≡ need_step owner needed set
      → Passing owners needs down nulls many (turn + 1) result
  unfolding need_pass
  passing_next h ei eo ev er =
      let z : turn + 1 ≡ suc turn = omega arith in
      record { within = omega arith; done = rw z (er ∙ rw (passing.done, eo, ev, ei) refl) }

  -- all steps are done
  pub passing_end : many ≤ turn → set ≡ need_pass (step_place down many) many owners needs nulls
  passing_end h = let z : turn ≡ many = omega (arith, passing.within) in rw z at passing.done

-- needs that are all nullable bring in the owner
pub need_taken : (owner needs nulls : ℕ) {both : ℕ} → both ≡ bit_or nulls needs → both ≡ nulls → {own_set : ℕ} → own_set ≡ only owner → {joined : ℕ}
    → joined ≡ bit_or nulls own_set → joined ≡ need_step owner needs nulls
need_taken owner needs nulls e f eo er =
    rw (eq-eqb (bit_or nulls needs) nulls (sym e ∙ f)) (cc)

-- needs that are not all nullable change nothing
pub need_left : (owner needs nulls : ℕ) {both : ℕ} → both ≡ bit_or nulls needs → (both ≡ nulls → ⊥) → nulls ≡ need_step owner needs nulls
need_left owner needs nulls e f = rw (ne_eqb (bit_or nulls needs) nulls (λ g. f (e ∙ g))) refl

-- ------------------------------------------------------------------ passes

-- each nonterminal of s is in t
abbrev In : ℕ → ℕ → Type 0
In s t = (n : ℕ) → has_kind s n ≡ true → has_kind t n ≡ true

step_adds : (owner needs nulls : ℕ) → In nulls (need_step owner needs nulls)
step_adds owner needs nulls n e = by (eqb (bit_or nulls needs) nulls)
  where
    by : (test : Bool) → has_kind (joined_if test nulls (only owner)) n ≡ true
    by true = has_join nulls (only owner) n ∙ or_left _ e
    by false = e

step_more : (owner needs reached_set other : ℕ) → In reached_set other → In (need_step owner needs reached_set) (need_step owner needs other)
step_more owner needs reached_set other h n = by (eqb (bit_or reached_set needs) reached_set) refl
  where
    by : (test : Bool) → eqb (bit_or reached_set needs) reached_set ≡ test → has_kind (joined_if test reached_set (only owner)) n ≡ true
        → has_kind (need_step owner needs other) n ≡ true
    by true e f =
        rw (joins_none other needs (λ m g. h m (joined_in reached_set needs e m g)))
        (has_join other (only owner) n
        ∙ ⊎_elim (λ p. or_left _ (h n p)) (λ p. or_right (has_kind other n) p)
        (or_split (has_kind reached_set n) (sym (has_join reached_set (only owner) n) ∙ f)))
    by false e f = step_adds owner needs other n (h n f)

module _ (place : ℕ → ℕ) (owners needs : List ℕ) where
  -- step j
  abbrev step_at : ℕ → ℕ → ℕ
  step_at i nulls = need_step (get_or owners i 0) (get_or needs i 0) nulls

  pass_adds : (turn nulls : ℕ) → In nulls (need_pass place turn owners needs nulls)
  unfolding need_pass
  pass_adds zero nulls n e = e
  pass_adds (suc turn) nulls n e =
      step_adds (get_or owners (place turn) 0) (get_or needs (place turn) 0) (need_pass place turn owners needs nulls) n (pass_adds turn nulls n e)

  pass_more : (turn reached_set other : ℕ) → In reached_set other → In (need_pass place turn owners needs reached_set) (need_pass place turn owners needs other)
  unfolding need_pass
  pass_more zero reached_set other h = h
  pass_more (suc turn) reached_set other h = step_more (get_or owners (place turn) 0) (get_or needs (place turn) 0) _ _ (pass_more turn reached_set other h)

  -- a pass that changes nothing has no step that does
  pass_fixes : (turn reached_set : ℕ) → need_pass place turn owners needs reached_set ≡ reached_set → (turn_before : ℕ) → turn_before < turn
      → step_at (place turn_before) reached_set ≡ reached_set
  unfolding need_pass
  pass_fixes zero reached_set e turn_before l = absurd (omega arith)
  pass_fixes (suc turn) reached_set e turn_before l =
      let r : ℕ = need_pass place turn owners needs reached_set in
      let back : In r reached_set = λ n h. rw e at (step_adds (get_or owners (place turn) 0) (get_or needs (place turn) 0) r n h) in
      let same : r ≡ reached_set = both_in r reached_set back (pass_adds turn reached_set) in
      dite (dec_lt turn_before turn) (λ h. pass_fixes turn reached_set same turn_before h)
      (λ h. let z : turn_before ≡ turn = omega arith in rw z (ap (step_at (place turn)) (sym same) ∙ e))

  fixed_pass : (turn reached_set : ℕ) → ((turn_before : ℕ) → turn_before < turn → step_at (place turn_before) reached_set ≡ reached_set)
      → need_pass place turn owners needs reached_set ≡ reached_set
  unfolding need_pass
  fixed_pass zero reached_set h = refl
  fixed_pass (suc turn) reached_set h = ap (step_at (place turn)) (fixed_pass turn reached_set (λ i l. h i (omega arith))) ∙ h turn (omega arith)

-- the code's test
pub place_by : (total turn : ℕ) {down downwards : Bool} → down ≡ downwards → step_place downwards total turn ≡ step_place down total turn
place_by total turn e = rw e refl

place_below : (down : Bool) (total turn : ℕ) → turn < total → step_place down total turn < total
place_below true total turn h = omega arith
place_below false total turn h = h

-- each place has its step
place_step : (down : Bool) (total place : ℕ) → place < total → (turn : ℕ) × (turn < total) × (step_place down total turn ≡ place)
place_step true total place h = (total - 1 - place, omega arith, omega arith)
place_step false total place h = (place, h, refl)

-- what was found is nullable
pub record Found (g : List Production) (nulls : ℕ) : Type 0 where
  -- it has nonterminals only
  pub high : Nonterminals nulls
  -- each of them is nullable
  pub nullable : (nonterminal : ℕ) → has_kind nulls nonterminal ≡ true → has_kind (nullables g) nonterminal ≡ true

-- nothing is found at first
pub found_start : (g : List Production) → Found g 0
found_start g = record { high = none_high; nullable = λ n e. absurd (false≢true (sym (has_none n) ∙ e)) }

module _ {g : List Production} {many : ℕ} {owners needs : List ℕ} (held : NeedsHeld g many owners needs) where
  nullables_high : Nonterminals (nullables g)
  nullables_high = record { none_above = λ n l. by n l (has_kind (nullables g) n) refl }
    where
      by : (nonterminal : ℕ) → 64 ≤ nonterminal → (test : Bool) → has_kind (nullables g) nonterminal ≡ test → has_kind (nullables g) nonterminal ≡ false
      by nonterminal l true e = let s : nonterminal < 64 = ((nullable_exactly g nonterminal).0 e).of.small in absurd (omega arith)
      by nonterminal l false e = e

  -- no step changes the nullables
  nullables_fixed : (place : ℕ) → place < many → need_step (get_or owners place 0) (get_or needs place 0) (nullables g) ≡ nullables g
  nullables_fixed = pass_fixes (λ j. j) owners needs many (nullables g) (held.same (nullables g) nullables_high ∙ nullables_settled g)

  -- where no step changes a set, rounds from what is in it stay in it
  rounds_in : (closed_set : ℕ) → need_round many owners needs closed_set ≡ closed_set → (times reached : ℕ) → Nonterminals reached → In reached closed_set
      → In (rounds times (over_all null_step g) reached) closed_set
  unfolding rounds
  rounds_in closed_set e zero reached h i = i
  rounds_in closed_set e (suc times) reached h i =
      let ex : over_all null_step g reached ≡ need_round many owners needs reached = sym (held.same reached h) in
      rounds_in closed_set e times (over_all null_step g reached) (rw ex (pass_high (λ j. j) many owners needs h))
      (λ n f. rw e at (pass_more (λ j. j) owners needs many reached closed_set i n (rw ex at f)))

  nullables_in : (reached_set : ℕ) → need_round many owners needs reached_set ≡ reached_set → In (nullables g) reached_set
  unfolding nullables
  nullables_in reached_set e = rounds_in reached_set e 64 0 none_high (λ n f. absurd (false≢true (sym (has_none n) ∙ f)))

  module _ {nulls : ℕ} (found : Found g nulls) (down : Bool) {more : ℕ} (em : more ≡ need_pass (step_place down many) many owners needs nulls) where
    -- what a pass finds is nullable
    pub found_next : Found g more
    found_next =
        record {
          high = rw em (pass_high (step_place down many) many owners needs found.high);
          nullable =
              let stays = fixed_pass (step_place down many) owners needs many (nullables g) (λ j l. nullables_fixed _ (place_below down many j l)) in
              λ n e. rw stays at (pass_more (step_place down many) owners needs many nulls (nullables g) found.nullable n (rw em at e));
        }

    -- a pass that changes something finds more
    pub found_less : (more ≡ nulls → ⊥) → 64 - count 64 (has_kind more) < 64 - count 64 (has_kind nulls)
    found_less ne =
        let adds : In nulls more = λ n e. rw em (pass_adds (step_place down many) owners needs many nulls n e) in
        let above : (n : ℕ) → 64 ≤ n → has_kind more n ≡ has_kind nulls n = λ n l. found_next.high.none_above n l ∙ sym (found.high.none_above n l) in
        ⊎_elim
        (λ m. absurd (ne (same_set more nulls (λ n. dite (dec_lt n 64) (m.0 n) (λ l. above n (omega arith))))))
        (λ l. omega (arith, l, count-le 64 (has_kind more))) (grows 64 adds)

    -- a pass that changes nothing has found all
    pub found_stop : more ≡ nulls → nulls ≡ nullables g
    found_stop e = both_in nulls (nullables g) found.nullable (nullables_in nulls (fixed_pass (λ j. j) owners needs many nulls fixed))
      where
        fixed : (place : ℕ) → place < many → need_step (get_or owners place 0) (get_or needs place 0) nulls ≡ nulls
        fixed place l =
            let p = place_step down many place l in
            rw (← p.2) (pass_fixes (step_place down many) owners needs many nulls (sym em ∙ e) p.0 p.1)
