-- A bit of the computed sets is there exactly if the rules give it: the nonterminals that are reached, and the keywords in their alternatives.
use Prim.Native.Nat.{ℕ, ◌<◌, ◌≤◌}
use mathlib.Core.Path.{◌≡◌, refl, sym, ap, ◌∙◌}
use mathlib.Core.Bool.{Bool, true, false, false≢true}
use mathlib.Core.Logic.{◌↔◌, ◌⊎◌, inl, inr, ⊎_elim}
use mathlib.Core.List.{List, [], ◌∷◌}
use native.Mathlib.Decide.{dec_lt, ℕ_discrete}
use native.Mathlib.Omega.{arith}
use lib.Bits.{bit_or}
use lib.ListN.{length, get_or, replicate, length-set, length-replicate, get_or-replicate, get_or-eq_default}
use lib.Seq.{get_or-set_same, get_or-set_other, set_out}
use Rattle.kinds.specs.Kinds.{has_kind, keyword_kind}
use Rattle.kinds.proofs.KindsLaws.{has_none, has_join}
use Rattle.grammar.specs.Table.{Terminal, keyword, ide, number, place, kind_of, Item, terminal, call}
use Rattle.decoding.specs.Within.{Among, among_first, among_later}
use Rattle.productions.specs.Normal.{Production}
use Rattle.firsts.specs.FirstSets.{over_all, opening_of, call_of}
use Rattle.firsts.specs.Mentions.{mentioned, noted, notes}
use Rattle.firsts.specs.Reach.{reached_by, kinds_reached}
use Rattle.firsts.specs.Rules.{Of, IsNonterminal, IsKind, Reads, reads, Calls, calls}
use Rattle.firsts.proofs.Rounds.{or_left, or_right, or_split}
use Rattle.firsts.proofs.FirstSetsExactly.{reads_exactly, calls_exactly}
use Rattle.reach.specs.Reached.{Reached, reached_start, reached_call, KeywordReached}
use Rattle.reach.proofs.ReachLaws.{Small, start_in_lem, calls_in, reached_least, union_one, one_union}

-- ------------------------------------------------------------------ what items give

-- some item gives b by itself
pub record Gives (own : Item → ℕ) (is : List Item) (b : ℕ) : Type 0 where
  -- the item
  pub item : Item
  -- it is one of them
  pub among : Among is item
  -- it gives b
  pub gives : has_kind (own item) b ≡ true

-- as many sets as before
noted_many : (own : Item → ℕ) (p : Production) (sets : List ℕ) → length (noted own p sets) ≡ length sets
unfolding noted
noted_many own p sets = length-set sets p.nonterminal _

-- a set for each of the 64 nonterminals
pub notes_many : (own : Item → ℕ) (g : List Production) → length (notes own g) ≡ 64
unfolding notes over_all
notes_many own g = over g (replicate 64 0) ∙ length-replicate {A = ℕ} 64 0
  where
    over : (g : List Production) (sets : List ℕ) → length (over_all (noted own) g sets) ≡ length sets
    over [] sets = refl
    over (p ∷ g) sets = over g (noted own p sets) ∙ noted_many own p sets

module _ (own : Item → ℕ) (b : ℕ) where
  mentioned_given : (is : List Item) (found : ℕ) → has_kind (mentioned own is found) b ≡ true → (has_kind found b ≡ true) ⊎ Gives own is b
  unfolding mentioned
  mentioned_given [] found e = inl e
  mentioned_given (i ∷ is) found e =
      ⊎_elim
      (λ a. ⊎_elim (λ old. inl old) (λ new. inr (record { item = i; among = among_first; gives = new }))
      (or_split (has_kind found b) (sym (has_join found (own i) b) ∙ a)))
      (λ g. inr (record { item = g.item; among = among_later g.among; gives = g.gives }))
      (mentioned_given is (bit_or found (own i)) e)

  mentioned_kept : (is : List Item) (found : ℕ) → has_kind found b ≡ true → has_kind (mentioned own is found) b ≡ true
  unfolding mentioned
  mentioned_kept [] found e = e
  mentioned_kept (i ∷ is) found e = mentioned_kept is (bit_or found (own i)) (has_join found (own i) b ∙ or_left _ e)

  given_mentioned : {is : List Item} {item : Item} → Among is item → (found : ℕ) → has_kind (own item) b ≡ true → has_kind (mentioned own is found) b ≡ true
  unfolding mentioned
  given_mentioned (among_first {x = i} {xs = is}) found e = mentioned_kept is (bit_or found (own i)) (has_join found (own i) b ∙ or_right (has_kind found b) e)
  given_mentioned (among_later {y = i} {xs = is} m) found e = given_mentioned m (bit_or found (own i)) e

  -- ------------------------------------------------------------------ what is noted

  -- an alternative of n mentions b
  pub record Mentions (g : List Production) (n : ℕ) : Type 0 where
    -- the alternative
    pub production : Production
    -- it is one of n
    pub of : Of g n production
    -- an item of it gives b
    pub gives : Gives own production.items b

  -- the set of n has b where the set was there before, or from a production
  noted_has : (p : Production) (sets : List ℕ) (n : ℕ) → has_kind (get_or (noted own p sets) n 0) b ≡ true
      → (has_kind (get_or sets n 0) b ≡ true) ⊎ ((p.nonterminal ≡ n) × (n < length sets) × Gives own p.items b)
  unfolding noted
  noted_has p sets n e = by (ℕ_discrete n p.nonterminal) (dec_lt p.nonterminal (length sets))
    where
      value : ℕ
      value = bit_or (get_or sets p.nonterminal 0) (mentioned own p.items 0)

      by : Dec (n ≡ p.nonterminal) → Dec (p.nonterminal < length sets)
          → (has_kind (get_or sets n 0) b ≡ true) ⊎ ((p.nonterminal ≡ n) × (n < length sets) × Gives own p.items b)
      by (no q) l = inl (rw (get_or-set_other sets p.nonterminal n (bit_or (get_or sets p.nonterminal 0) (mentioned own p.items 0)) 0 q) at e)
      by (yes q) (no l) = inl (rw (set_out sets p.nonterminal (bit_or (get_or sets p.nonterminal 0) (mentioned own p.items 0)) (omega arith)) at e)
      by (yes q) (yes l) =
          let joined : has_kind (bit_or (get_or sets p.nonterminal 0) (mentioned own p.items 0)) b ≡ true
          = rw (q, get_or-set_same sets p.nonterminal (bit_or (get_or sets p.nonterminal 0) (mentioned own p.items 0)) 0 l) at e in
          ⊎_elim (λ old. inl (rw q old))
          (λ new. ⊎_elim (λ none. absurd (false≢true (sym (has_none b) ∙ none))) (λ g. inr (sym q, omega (arith, q, l), g)) (mentioned_given p.items 0 new))
          (or_split (has_kind (get_or sets p.nonterminal 0) b) (sym (has_join _ (mentioned own p.items 0) b) ∙ joined))

  noted_kept : (p : Production) (sets : List ℕ) (n : ℕ) → has_kind (get_or sets n 0) b ≡ true → has_kind (get_or (noted own p sets) n 0) b ≡ true
  unfolding noted
  noted_kept p sets n e = by (ℕ_discrete n p.nonterminal) (dec_lt p.nonterminal (length sets))
    where
      by : Dec (n ≡ p.nonterminal) → Dec (p.nonterminal < length sets) → has_kind (get_or (noted own p sets) n 0) b ≡ true
      by (no q) l = rw (get_or-set_other sets p.nonterminal n (bit_or (get_or sets p.nonterminal 0) (mentioned own p.items 0)) 0 q) e
      by (yes q) (no l) = rw (set_out sets p.nonterminal (bit_or (get_or sets p.nonterminal 0) (mentioned own p.items 0)) (omega arith)) e
      by (yes q) (yes l) =
          rw (q, get_or-set_same sets p.nonterminal (bit_or (get_or sets p.nonterminal 0) (mentioned own p.items 0)) 0 l)
          (has_join (get_or sets p.nonterminal 0) (mentioned own p.items 0) b ∙ or_left _ (rw q at e))

  noted_own : (p : Production) (sets : List ℕ) → p.nonterminal < length sets → Gives own p.items b
      → has_kind (get_or (noted own p sets) p.nonterminal 0) b ≡ true
  unfolding noted
  noted_own p sets l g =
      rw (get_or-set_same sets p.nonterminal (bit_or (get_or sets p.nonterminal 0) (mentioned own p.items 0)) 0 l)
      (has_join (get_or sets p.nonterminal 0) (mentioned own p.items 0) b
      ∙ or_right (has_kind (get_or sets p.nonterminal 0) b) (given_mentioned g.among 0 g.gives))

  over_has : (part : List Production) (sets : List ℕ) (n : ℕ) → length sets ≡ 64 → has_kind (get_or (over_all (noted own) part sets) n 0) b ≡ true
      → (has_kind (get_or sets n 0) b ≡ true) ⊎ Mentions part n
  unfolding over_all
  over_has [] sets n many e = inl e
  over_has (p ∷ part) sets n many e =
      ⊎_elim
      (λ a. ⊎_elim (λ old. inl old)
      (λ new. inr (record { production = p; of = record { member = among_first; owned = new.0; small = omega (arith, many, new.1) }; gives = new.2 }))
      (noted_has p sets n a))
      (λ m. inr (record {
        production = m.production;
        of = record { member = among_later m.of.member; owned = m.of.owned; small = m.of.small };
        gives = m.gives;
      }))
      (over_has part (noted own p sets) n (noted_many own p sets ∙ many) e)

  over_kept : (part : List Production) (sets : List ℕ) (n : ℕ) → has_kind (get_or sets n 0) b ≡ true → has_kind (get_or (over_all (noted own) part sets) n 0) b ≡ true
  unfolding over_all
  over_kept [] sets n e = e
  over_kept (p ∷ part) sets n e = over_kept part (noted own p sets) n (noted_kept p sets n e)

  over_own : {part : List Production} {p : Production} → Among part p → (sets : List ℕ) → length sets ≡ 64 → p.nonterminal < 64 → Gives own p.items b
      → has_kind (get_or (over_all (noted own) part sets) p.nonterminal 0) b ≡ true
  unfolding over_all
  over_own (among_first {x = p} {xs = part}) sets many l g = over_kept part (noted own p sets) p.nonterminal (noted_own p sets (omega (arith, many, l)) g)
  over_own (among_later {y = q} {xs = part} m) sets many l g = over_own m (noted own q sets) (noted_many own q sets ∙ many) l g

  none_yet : (n : ℕ) → ◌≡◌ {A = ℕ} (get_or (replicate 64 0) n 0) 0
  none_yet n = by (dec_lt n 64)
    where
      by : Dec (n < 64) → ◌≡◌ {A = ℕ} (get_or (replicate 64 0) n 0) 0
      by (yes l) = get_or-replicate {A = ℕ} 64 n 0 0 l
      by (no l) = get_or-eq_default {A = ℕ} (replicate 64 0) 0 {n = n} (omega (arith, length-replicate {A = ℕ} 64 0))

  -- The set of a nonterminal has b exactly if one of its alternatives mentions b.
  pub notes_exactly : (g : List Production) (n : ℕ) → (has_kind (get_or (notes own g) n 0) b ≡ true) ↔ Mentions g n
  unfolding notes
  notes_exactly g n = (
    λ e.
        ⊎_elim (λ old. absurd (false≢true (sym (has_none b) ∙ (rw (none_yet n) at old)))) (λ m. m)
        (over_has g (replicate 64 0) n (length-replicate {A = ℕ} 64 0) e),
    λ m.
        rw (← m.of.owned)
        (over_own m.of.member (replicate 64 0) (length-replicate {A = ℕ} 64 0) (rw m.of.owned m.of.small) m.gives),
  )

-- ------------------------------------------------------------------ the nonterminals that are reached

module _ (g : List Production) where
  call_noted : (n m : ℕ) → has_kind (get_or (notes call_of g) n 0) m ≡ true → (found : Mentions call_of m g n) × Calls found.gives.item m
  call_noted n m e = let f = (notes_exactly call_of m g n).0 e in (f, (calls_exactly f.gives.item m).0 f.gives.gives)

  -- what is called is a nonterminal
  pub calls_small : Small (notes call_of g)
  calls_small = record { none_above = λ n b l. by n b l (has_kind (get_or (notes call_of g) n 0) b) refl }
    where
      below : (item : Item) (b : ℕ) → Calls item b → b < 64
      below _ _ (calls l) = l

      by : (n b : ℕ) → 64 ≤ b → (test : Bool) → has_kind (get_or (notes call_of g) n 0) b ≡ test → has_kind (get_or (notes call_of g) n 0) b ≡ false
      by n b l true e = absurd (omega (arith, l, below _ b (call_noted n b e).1))
      by n b l false e = e

  module _ (start : ℕ) where
    small : {n : ℕ} → Reached g start n → IsNonterminal n
    small (reached_start l) = l
    small (reached_call r o a l) = l

    called : (n m : ℕ) → Reached g start n → has_kind (get_or (notes call_of g) n 0) m ≡ true → Reached g start m
    called n m r e = let f = call_noted n m e in by f.0.gives.item f.0.gives.among f.1
      where
        by : (item : Item) → Among (call_noted n m e).0.production.items item → Calls item m → Reached g start m
        by _ among (calls l) = reached_call r (call_noted n m e).0.of among l

    -- Bit n is there exactly if nonterminal n is reached by the rules.
    pub reached_exactly : (n : ℕ) → (has_kind (reached_by (notes call_of g) start) n ≡ true) ↔ Reached g start n
    reached_exactly n = (reached_least calls_small start (Reached g start) reached_start called n, complete)
      where
        complete : {n : ℕ} → Reached g start n → has_kind (reached_by (notes call_of g) start) n ≡ true
        complete (reached_start l) = start_in_lem calls_small start l
        complete (reached_call {n = n} {m = m} {p = p} {ts = ts} r o a l) =
            calls_in calls_small start n m (complete r)
            ((notes_exactly call_of m g n).1
            (record { production = p; of = o; gives = record { item = call m ts; among = a; gives = (calls_exactly (call m ts) m).1 (calls l) } }))

    -- ---------------------------------------------------------------- keywords

    -- Bit k + 2 is there exactly if keyword k occurs in an alternative that is reached, by the rules.
    pub keywords_exactly : (k : ℕ) → (has_kind (kinds_reached g start) (keyword_kind k) ≡ true) ↔ KeywordReached g start k
    unfolding kinds_reached
    keywords_exactly k = (
      λ e. sound (union_one (reached_by (notes call_of g) start) (notes opening_of g) (keyword_kind k) e),
      λ r.
          one_union (reached_by (notes call_of g) start) (notes opening_of g) (keyword_kind k) r.nonterminal ((reached_exactly r.nonterminal).1 r.reached)
          ((notes_exactly opening_of (keyword_kind k) g r.nonterminal).1
          (record {
            production = r.production;
            of = r.of;
            gives =
                record {
                  item = terminal (keyword k);
                  among = r.occurs;
                  gives = (reads_exactly (terminal (keyword k)) (keyword_kind k)).1 (reads {t = keyword k} r.small);
                };
          })),
    )
      where
        by_kind : (t : Terminal) → kind_of t < 64 → kind_of t ≡ keyword_kind k → t ≡ keyword k
        by_kind (keyword j) l e = let z : j ≡ k = omega (arith, e) in ap keyword z
        by_kind (ide s) l e = absurd (omega (arith, e))
        by_kind number l e = absurd (omega (arith, e))
        by_kind (place s) l e = absurd (omega arith)

        read : (item : Item) (kind : ℕ) → kind ≡ keyword_kind k → Reads item kind → (item ≡ terminal (keyword k)) × IsKind (keyword_kind k)
        read _ _ e (reads {t = t} l) = (ap terminal (by_kind t l e), omega (arith, l, e))

        sound : (n : ℕ) × (has_kind (reached_by (notes call_of g) start) n ≡ true) × (has_kind (get_or (notes opening_of g) n 0) (keyword_kind k) ≡ true)
            → KeywordReached g start k
        sound (n, r, e) =
            let f = (notes_exactly opening_of (keyword_kind k) g n).0 e in
            let i = read f.gives.item (keyword_kind k) refl ((reads_exactly f.gives.item (keyword_kind k)).0 f.gives.gives) in
            record {
              nonterminal = n;
              reached = (reached_exactly n).0 r;
              production = f.production;
              of = f.of;
              occurs = rw (← i.0) f.gives.among;
              small = i.1;
            }
