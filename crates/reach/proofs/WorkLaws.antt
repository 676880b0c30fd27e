-- The loop that takes one nonterminal after the other: what is reached by then, what is done, and the kinds found.
use Prim.Native.Nat.{ℕ, zero, suc, ◌-◌, ◌/◌, ◌%◌, ◌^◌, ◌<◌}
use mathlib.Core.Path.{◌≡◌, refl, sym, ap, ap₂, ◌∙◌}
use mathlib.Core.Bool.{Bool, true, false, not, ◌||◌, false≢true}
use mathlib.Core.Logic.{◌⊎◌, inl, inr, ⊎_elim}
use mathlib.Core.List.{List}
use native.Mathlib.Omega.{arith}
use lib.Bits.{bit_or, bit_xor, xor_shr, xor_mod, xor_lt}
use lib.Count.{count_trailing_zeros}
use lib.Dec.{eqb}
use lib.ListN.{get_or}
use Rattle.kinds.specs.Kinds.{has_kind, only}
use Rattle.kinds.proofs.KindsLaws.{has_none, has_join, has_own, has_above, lowest_bound, lowest_has}
use Rattle.firsts.specs.Reach.{union_over, reached_by, kinds_by}
use Rattle.firsts.proofs.Rounds.{count, count-le, grows, or_left, or_right, or_split}
use Rattle.firsts.proofs.FirstSetsExactly.{only_has}
use Rattle.firsts.proofs.EqualSets.{same_set, both_in}
use Rattle.reach.proofs.ReachLaws.{Small, start_in_lem, calls_in, reached_least, union_one, one_union}

-- ------------------------------------------------------------------ the lowest bit in which two sets differ

abbrev differs : Bool → Bool → Bool
differs true second = not second
differs false second = second

digit : (number : ℕ) → (number % 2 ≡ 0) ⊎ (number % 2 ≡ 1)
digit number = by (number % 2) (omega arith)
  where
    by : (remainder : ℕ) → remainder < 2 → (remainder ≡ 0) ⊎ (remainder ≡ 1)
    by zero h = inl refl
    by (suc zero) h = inr refl
    by (suc (suc remainder)) h = absurd (omega arith)

-- a kind is in one of two sets and not in the other
pub has_differ : (set other kind : ℕ) → has_kind (bit_xor set other) kind ≡ differs (has_kind set kind) (has_kind other kind)
unfolding has_kind
has_differ set other kind =
    cc (
      xor_shr set other kind,
      xor_mod (set / 2 ^ kind) (other / 2 ^ kind) 1,
      by (set / 2 ^ kind % 2) (other / 2 ^ kind % 2) (digit (set / 2 ^ kind))
          (digit (other / 2 ^ kind)),
    )
  where
    by : (bit second : ℕ) → (bit ≡ 0) ⊎ (bit ≡ 1) → (second ≡ 0) ⊎ (second ≡ 1) → eqb (bit_xor bit second) 1 ≡ differs (eqb bit 1) (eqb second 1)
    by bit second (inl e) (inl f) = rw (e, f) refl
    by bit second (inl e) (inr f) = rw (e, f) refl
    by bit second (inr e) (inl f) = rw (e, f) refl
    by bit second (inr e) (inr f) = rw (e, f) refl

-- ------------------------------------------------------------------ the loop

-- sets of 64-bit numbers
pub small_sets : (sets : List ℕ) → ((n : ℕ) → get_or sets n 0 < 2 ^ 64) → Small sets
small_sets sets h = record { none_above = λ n b l. has_above 64 (get_or sets n 0) b (h n) l }

-- what is reached and done by now, and the kinds found
pub record Working (kinds calls : List ℕ) (start now done found : ℕ) : Type 0 where
  -- what is reached by now is reached
  pub sound : (n : ℕ) → has_kind now n ≡ true → has_kind (reached_by calls start) n ≡ true
  -- the start is among it
  pub begins : start < 64 → has_kind now start ≡ true
  -- what is done is reached
  pub inside : (n : ℕ) → has_kind done n ≡ true → has_kind now n ≡ true
  -- what is called by what is done is reached
  pub closed : (n m : ℕ) → has_kind done n ≡ true → has_kind (get_or calls n 0) m ≡ true → has_kind now m ≡ true
  -- what it reads is found
  pub reads : found ≡ union_over done 0 kinds
  -- what is reached by now is a set of 64 bits
  pub now_small : now < 2 ^ 64
  -- and so is what is done
  pub done_small : done < 2 ^ 64

module _ {kinds calls : List ℕ} (small : Small calls) {start : ℕ} where
  -- nothing is done at first
  pub work_start : {first : ℕ} → first ≡ only start → first < 2 ^ 64 → Working kinds calls start first 0 0
  work_start {first} e l =
      record {
        sound = λ n h. let k = only_has start n (rw e at h) in rw k.0 (start_in_lem small start (omega (arith, k.0, k.1)));
        begins = λ l. rw e (has_own start l);
        inside = λ n h. absurd (false≢true (sym (has_none n) ∙ h));
        closed = λ n m h q. absurd (false≢true (sym (has_none n) ∙ h));
        reads = both_in 0 (union_over 0 0 kinds) (λ b h. absurd (false≢true (sym (has_none b) ∙ h)))
            (λ b h. absurd (false≢true (sym (has_none (union_one 0 kinds b h).0) ∙ (union_one 0 kinds b h).1)));
        now_small = l;
        done_small = omega arith;
      }

  module _ {now done found : ℕ} (work : Working kinds calls start now done found) (differ : done ≡ now → ⊥) where
    -- the next nonterminal is one that is reached and not yet done
    pub record Next (n : ℕ) : Type 0 where
      -- it is a nonterminal
      pub below : n < 64
      -- it is reached
      pub in_now : has_kind now n ≡ true
      -- it is not done
      pub not_done : has_kind done n ≡ false

    left_some : bit_xor now done ≡ 0 → ⊥
    left_some e = differ (same_set done now (λ k. by k (has_kind now k) (has_kind done k) refl refl))
      where
        by : (k : ℕ) (one two : Bool) → has_kind now k ≡ one → has_kind done k ≡ two → has_kind done k ≡ has_kind now k
        by k true true p q = q ∙ sym p
        by k false false p q = q ∙ sym p
        by k true false p q =
            absurd (false≢true (sym (has_none k) ∙ ap (λ (x : ℕ). has_kind x k) (sym e) ∙ has_differ now done k ∙ ap₂ differs p q))
        by k false true p q =
            absurd (false≢true (sym (has_none k) ∙ ap (λ (x : ℕ). has_kind x k) (sym e) ∙ has_differ now done k ∙ ap₂ differs p q))

    next_is : {n : ℕ} → n ≡ count_trailing_zeros 64 (bit_xor now done) → Next n
    next_is {n} e =
        let low = lowest_bound 64 (bit_xor now done) (xor_lt 64 now done work.now_small work.done_small) left_some in
        let has : has_kind (bit_xor now done) n ≡ true = rw e (lowest_has 64 (bit_xor now done) low) in
        by (has_kind now n) (has_kind done n) refl refl (sym (has_differ now done n) ∙ has) (omega (arith, e, low))
      where
        by : (one two : Bool) → has_kind now n ≡ one → has_kind done n ≡ two → differs (has_kind now n) (has_kind done n) ≡ true → n < 64 → Next n
        by true false p q h l = record { below = l; in_now = p; not_done = q }
        by true true p q h l = absurd (false≢true (ap₂ differs (sym p) (sym q) ∙ h))
        by false true p q h l = absurd (false≢true (sym p ∙ work.inside n q))
        by false false p q h l = absurd (false≢true (ap₂ differs (sym p) (sym q) ∙ h))

    -- it is a nonterminal
    pub next_below : {n : ℕ} → n ≡ count_trailing_zeros 64 (bit_xor now done) → n < 64
    next_below e = (next_is e).below

    module _ {n own done' read found' called now' : ℕ} (at : n ≡ count_trailing_zeros 64 (bit_xor now done)) (eo : own ≡ only n) (ed : done' ≡ bit_or done own)
        (er : read ≡ get_or kinds n 0) (ef : found' ≡ bit_or found read) (ec : called ≡ get_or calls n 0) (en : now' ≡ bit_or now called) where
      done_is : (k : ℕ) → has_kind done' k ≡ (has_kind done k || has_kind (only n) k)
      done_is k = rw (ed, eo) (has_join done (only n) k)

      now_is : (k : ℕ) → has_kind now' k ≡ (has_kind now k || has_kind (get_or calls n 0) k)
      now_is k = rw (en, ec) (has_join now (get_or calls n 0) k)

      done_split : (k : ℕ) → has_kind done' k ≡ true → (has_kind done k ≡ true) ⊎ (k ≡ n)
      done_split k h = ⊎_elim (λ a. inl a) (λ a. inr (only_has n k a).0) (or_split (has_kind done k) (sym (done_is k) ∙ h))

      done_more : (k : ℕ) → has_kind done k ≡ true → has_kind done' k ≡ true
      done_more k h = done_is k ∙ or_left _ h

      done_this : has_kind done' n ≡ true
      done_this = done_is n ∙ or_right (has_kind done n) (has_own n (next_below at))

      now_more : (k : ℕ) → has_kind now k ≡ true → has_kind now' k ≡ true
      now_more k h = now_is k ∙ or_left _ h

      -- one nonterminal more is done
      pub work_next : now' < 2 ^ 64 → done' < 2 ^ 64 → Working kinds calls start now' done' found'
      work_next ln ld =
          record {
            sound =
                λ k h.
                ⊎_elim (work.sound k) (calls_in small start n k (work.sound n (next_is at).in_now)) (or_split (has_kind now k) (sym (now_is k) ∙ h));
            begins = λ l. now_more start (work.begins l);
            inside = λ k h. now_more k (⊎_elim (work.inside k) (λ e. rw e (next_is at).in_now) (done_split k h));
            closed =
                λ k c h q.
                ⊎_elim (λ a. now_more c (work.closed k c a q)) (λ e. now_is c ∙ or_right (has_kind now c) (rw e at q)) (done_split k h);
            reads = rw (ef, er, work.reads) (both_in (bit_or (union_over done 0 kinds) (get_or kinds n 0)) (union_over done' 0 kinds) into onto);
            now_small = ln;
            done_small = ld;
          }
        where
          into : (b : ℕ) → has_kind (bit_or (union_over done 0 kinds) (get_or kinds n 0)) b ≡ true → has_kind (union_over done' 0 kinds) b ≡ true
          into b h =
              ⊎_elim (λ a. let o = union_one done kinds b a in one_union done' kinds b o.0 (done_more o.0 o.1) o.2)
              (λ a. one_union done' kinds b n done_this a)
              (or_split (has_kind (union_over done 0 kinds) b) (sym (has_join (union_over done 0 kinds) (get_or kinds n 0) b) ∙ h))

          onto : (b : ℕ) → has_kind (union_over done' 0 kinds) b ≡ true → has_kind (bit_or (union_over done 0 kinds) (get_or kinds n 0)) b ≡ true
          onto b h =
              let o = union_one done' kinds b h in
              has_join (union_over done 0 kinds) (get_or kinds n 0) b
              ∙ ⊎_elim (λ a. or_left _ (one_union done kinds b o.0 a o.2))
              (λ e. or_right (has_kind (union_over done 0 kinds) b) (rw e at o.2)) (done_split o.0 o.1)

      -- fewer are left to be done
      pub work_less : 64 - count 64 (has_kind done') < 64 - count 64 (has_kind done)
      work_less =
          ⊎_elim
          (λ same. absurd (false≢true (sym (next_is at).not_done ∙ sym (same.0 n (next_below at)) ∙ done_this)))
          (λ less. omega (arith, less, count-le 64 (has_kind done'))) (grows 64 {numbers = has_kind done} {others = has_kind done'} done_more)

  -- Where all that is reached is done, the kinds found are those that the definition gives.
  pub work_end : {now done found : ℕ} → Working kinds calls start now done found → done ≡ now → found ≡ kinds_by kinds calls start
  work_end {now} {done} {found} work e =
      let all : now ≡ reached_by calls start
      = both_in now (reached_by calls start) work.sound
      (reached_least small start (λ n. has_kind now n ≡ true) work.begins (λ n m h q. work.closed n m (rw e h) q)) in
      work.reads ∙ rw (e, all) refl
