-- The check of a table accepts exactly the tables that pass, and gives the first refusal otherwise.
use Rattle.std.specs.Prelude.{Ok, Err}
use Prim.Native.Nat.{ℕ, ◌<◌}
use mathlib.Core.Path.{◌≡◌, refl, sym, ap, ◌∙◌}
use mathlib.Core.Bool.{Bool, true, false, true≢false, ◌&&◌, ◌||◌}
use native.Mathlib.Omega.{arith}
use mathlib.Core.Logic.{◌↔◌, ◌⊎◌, inl, inr}
use mathlib.Core.List.{List, [], ◌∷◌, Memᴰ}
use lib.ListN.{get_or}
use lib.Dec.{eqb, leb}
use borrow.Author.Tests.{eqb-true, leb-true}
use Rattle.spellings.proofs.BytesLaws.{by_test}
use Rattle.answers.specs.Refusals.{refusal, Verdict}
use Rattle.decoding.proofs.RefusalNumbers.{is_layout_number, decode_answers}
use Rattle.clashes.specs.Clashes.{Never, Lowest, LeftRecursive, Clashes}
use Rattle.clashes.specs.Named.{Names}
use Rattle.answers.specs.declared.Refusal.{Refusal}
use Rattle.answers.specs.Checked.{Checked, ok, bad, ◌>>=◌, ◌>>◌, verdict}
use Rattle.grammar.specs.Table.{Table}
use Rattle.grammar.specs.Written.{Written}
use Rattle.decoding.specs.Decode.{decode}
use Rattle.decoding.proofs.LayoutTheorems.{decode_exactly}
use Rattle.decoding.proofs.Inverse.{decode_encoded}
use Rattle.elaboration.specs.CheckSequence.{check_sorts}
use Rattle.elaboration.proofs.SortTheorems.{sorts_exactly, sort_refusals}
use Rattle.clashes.specs.CheckFirsts.{check_firsts}
use Rattle.clashes.proofs.ClashTheorems.{passes_exactly, left_recursion_lowest, clash_lowest}
use Rattle.checker.specs.Syntax.{Syntax, syntax_of}
use Rattle.checker.specs.Check.{passed_table, check}
use Rattle.checker.specs.Passes.{grammar_of, Passes}
use Rattle.checker.specs.Laid.{Laid}

-- the table's rules, checked in order
abbrev firsts_of : Table → Checked Syntax
firsts_of t = check_firsts (grammar_of t) >> ok (syntax_of t)

abbrev rules : Written → Checked Syntax
rules t = check_sorts t >>= firsts_of

-- a refusal is no pass
pub never : {A : Type 0} (cause : Refusal) → ◌≡◌ {A = Verdict} (Err cause) (Ok tt) → A
never cause e = let z : ◌≡◌ {A = ℕ} 0 1 = cc in absurd (omega arith)

-- both checks of a table passed
both : (sorted : Checked Table) → verdict (sorted >>= firsts_of) ≡ Ok tt → (table : Table) × (sorted ≡ ok table) × (check_firsts (grammar_of table) ≡ ok tt)
both (ok t) e = (t, refl, by (check_firsts (grammar_of t)) e)
  where
    by : (checked : Checked (Unit {0})) → verdict (checked >> ok (syntax_of t)) ≡ Ok tt → checked ≡ ok tt
    by (ok u) e = refl
    by (bad r) e = never r e
both (bad r) e = never r e

module _ (bs : List ℕ) where
  -- ------------------------------------------------------------------ the first refusal

  -- bytes that are not decoded are refused as decoding refuses them
  pub refused_by_layout : (cause : Refusal) → decode bs ≡ bad cause → check bs ≡ Err cause
  unfolding check passed_table
  refused_by_layout cause e = cc

  -- then a table is refused as the check of sorts refuses it
  pub refused_by_sorts : (table : Written) (cause : Refusal) → decode bs ≡ ok table → check_sorts table ≡ bad cause → check bs ≡ Err cause
  unfolding check passed_table
  refused_by_sorts table cause e s = cc

  -- and then as the check of first sets refuses it
  pub refused_by_firsts : (table : Written) (made : Table) (cause : Refusal) → decode bs ≡ ok table → check_sorts table ≡ ok made
      → check_firsts (grammar_of made) ≡ bad cause → check bs ≡ Err cause
  unfolding check passed_table
  refused_by_firsts table made cause e s f = cc

  -- ------------------------------------------------------------------ the bytes that pass

  -- the table that was decoded, and what its check of sorts answered, with both checks passed
  accepted : (checked : Checked Written) → decode bs ≡ checked → verdict (checked >>= rules) ≡ Ok tt
      → (table : Written) × (made : Table) × (decode bs ≡ ok table) × (check_sorts table ≡ ok made) × (check_firsts (grammar_of made) ≡ ok tt)
  accepted (ok t) e h = let (u, s, f) = both (check_sorts t) h in (t, u, e, s, f)
  accepted (bad r) e h = never r h

  accepts : (table : Written) (made : Table) → decode bs ≡ ok table → check_sorts table ≡ ok made → check_firsts (grammar_of made) ≡ ok tt → check bs ≡ Ok tt
  unfolding check passed_table
  accepts table made e s f = cc

  module _ (bytes : (place : ℕ) → get_or bs place 0 < 256) where
    passing : check bs ≡ Ok tt → Passes bs
    unfolding check passed_table
    passing h =
        let (table, made, d, s, firsts) = accepted (decode bs) refl h in
        let (encoded, within) = (decode_exactly bs bytes table).0 d in
        let f = (passes_exactly (grammar_of made)).0 firsts in
        record {
          written = table;
          table = made;
          encoded = encoded;
          within = within;
          meets = record { elaborates = (sorts_exactly table made within).0 s; not_left_recursive = f.0; without_clash = f.1 };
        }

    passed : Passes bs → check bs ≡ Ok tt
    passed p =
        accepts p.written p.table ((decode_exactly bs bytes p.written).1 (p.encoded, p.within))
        ((sorts_exactly p.written p.table p.within).1 p.meets.elaborates)
        ((passes_exactly (grammar_of p.table)).1 (p.meets.not_left_recursive, p.meets.without_clash))

    -- the bytes that pass are exactly those of a table that meets the demands
    pub check_exactly : (check bs ≡ Ok tt) ↔ Passes bs
    check_exactly = (passing, passed)

    -- the same of any verdict that is the check's
    pub verdict_exactly : {given_verdict : Verdict} → given_verdict ≡ check bs → (given_verdict ≡ Ok tt) ↔ Passes bs
    verdict_exactly e = (λ h. passing (sym e ∙ h), λ p. e ∙ passed p)

-- ------------------------------------------------------------------ 12 and 13

-- neither the layout nor the sorts refuse with 12 or 13
not_layout : {A : Type 0} {number : ℕ} → 11 < number → is_layout_number number ≡ true → A
not_layout {number = number} h e =
    by_test (eqb number 10) (λ q. absurd (omega (arith, eqb-true number 10 q)))
    (λ q. by_test (leb number 6) (λ l. absurd (omega (arith, leb-true number 6 l))) (λ l. absurd (true≢false (sym e ∙ rw (l, q) (no_front (leb 1 number))))))
  where
    no_front : (test : Bool) → ((test && false) || false) ≡ false
    no_front true = refl
    no_front false = refl

not_sort : {A : Type 0} {number : ℕ} → 11 < number → Memᴰ number (7 ∷ 8 ∷ 9 ∷ 11 ∷ []) → A
not_sort h (Memᴰ.head e) = absurd (omega (arith, e))
not_sort h (Memᴰ.tail (Memᴰ.head e)) = absurd (omega (arith, e))
not_sort h (Memᴰ.tail (Memᴰ.tail (Memᴰ.head e))) = absurd (omega (arith, e))
not_sort h (Memᴰ.tail (Memᴰ.tail (Memᴰ.tail (Memᴰ.head e)))) = absurd (omega (arith, e))
not_sort h (Memᴰ.tail (Memᴰ.tail (Memᴰ.tail (Memᴰ.tail x)))) = elim x [ ]

module _ (bs : List ℕ) (bytes : (place : ℕ) → get_or bs place 0 < 256) where
  -- A refusal over 11 is exactly that of the first sets, of a table that is laid out and sorted.
  pub refused_over_11 : (cause : Refusal) → 11 < cause.number
      → (check bs ≡ Err cause) ↔ ((laid : Laid bs) × (check_firsts (grammar_of laid.table) ≡ bad cause))
  unfolding check passed_table
  refused_over_11 cause over = (from, back)
    where
      same : {other : Refusal} → ◌≡◌ {A = Verdict} (Err other) (Err cause) → other ≡ cause
      same e = cc

      passed_never : {A : Type 0} → ◌≡◌ {A = Verdict} (Ok tt) (Err cause) → A
      passed_never e = never cause (sym e)

      by_firsts : (table : Written) (made : Table) → decode bs ≡ ok table → check_sorts table ≡ ok made → (checked : Checked (Unit {0}))
          → check_firsts (grammar_of made) ≡ checked → verdict (checked >> ok (syntax_of made)) ≡ Err cause
          → (laid : Laid bs) × (check_firsts (grammar_of laid.table) ≡ bad cause)
      by_firsts table made d s (ok u) e h = passed_never h
      by_firsts table made d s (bad q) e h =
          let w = (decode_exactly bs bytes table).0 d in (
            record { written = table; table = made; encoded = w.0; within = w.1; elaborates = (sorts_exactly table made w.1).0 s },
            e ∙ ap bad (same h),
          )

      by_sorts : (table : Written) → decode bs ≡ ok table → (checked : Checked Table) → check_sorts table ≡ checked
          → verdict (checked >>= firsts_of) ≡ Err cause → (laid : Laid bs) × (check_firsts (grammar_of laid.table) ≡ bad cause)
      by_sorts table d (ok made) e h = by_firsts table made d e (check_firsts (grammar_of made)) refl h
      by_sorts table d (bad q) e h =
          not_sort {number = q.number} (omega (arith, over, ap (λ (x : Refusal). x.number) (same h)))
          (sort_refusals table q ((decode_exactly bs bytes table).0 d).1 e).0

      by_layout : (checked : Checked Written) → decode bs ≡ checked → verdict (checked >>= rules) ≡ Err cause
          → (laid : Laid bs) × (check_firsts (grammar_of laid.table) ≡ bad cause)
      by_layout (ok t) e h = by_sorts t e (check_sorts t) refl h
      by_layout (bad q) e h = go (decode_answers bs)
        where
          go : ((table : Written) × (decode bs ≡ ok table))
              ⊎ ((given_refusal : Refusal) × (decode bs ≡ bad given_refusal) × (is_layout_number given_refusal.number ≡ true))
              → (laid : Laid bs) × (check_firsts (grammar_of laid.table) ≡ bad cause)
          go (inl a) = let z : ok a.0 ≡ bad q = sym a.1 ∙ e in let z' : ◌≡◌ {A = ℕ} 0 1 = cc in absurd (omega arith)
          go (inr a) =
              let z : a.0 ≡ cause = cc (a.1, e, same h) in
              not_layout {number = a.0.number} (omega (arith, over, ap (λ (x : Refusal). x.number) z)) a.2

      from : check bs ≡ Err cause → (laid : Laid bs) × (check_firsts (grammar_of laid.table) ≡ bad cause)
      from h = by_layout (decode bs) refl h

      back : ((laid : Laid bs) × (check_firsts (grammar_of laid.table) ≡ bad cause)) → check bs ≡ Err cause
      back p =
          refused_by_firsts bs p.0.written p.0.table cause ((decode_exactly bs bytes p.0.written).1 (p.0.encoded, p.0.within))
          ((sorts_exactly p.0.written p.0.table p.0.within).1 p.0.elaborates) p.1

  -- 12 is given, with `nonterminal`, exactly to a table that is laid out and sorted and whose lowest nonterminal that reaches itself is `nonterminal`.
  pub refused_12 : (nonterminal : ℕ) → (check bs ≡ Err (refusal 12 nonterminal 0 0))
      ↔ ((laid : Laid bs) × Lowest (LeftRecursive (grammar_of laid.table)) nonterminal)
  refused_12 nonterminal =
      let k = refused_over_11 (refusal 12 nonterminal 0 0) (omega arith) in (
        λ h. let p = k.0 h in (p.0, (left_recursion_lowest (grammar_of p.0.table) nonterminal).0 p.1),
        λ p. k.1 (p.0, (left_recursion_lowest (grammar_of p.0.table) nonterminal).1 p.1),
      )

  -- 13 with `nonterminal` and `kind`, exactly if none does, `nonterminal` is the lowest of which two alternatives clash, and `kind` the lowest kind
  -- that any two of it share.
  pub refused_13 : (nonterminal kind : ℕ) → (check bs ≡ Err (refusal 13 nonterminal kind 0))
      ↔ ((laid : Laid bs) × Never (LeftRecursive (grammar_of laid.table)) × Lowest (Clashes (grammar_of laid.table)) nonterminal
      × Names (grammar_of laid.table) nonterminal kind)
  refused_13 nonterminal kind =
      let k = refused_over_11 (refusal 13 nonterminal kind 0) (omega arith) in (
        λ h. let p = k.0 h in let q = (clash_lowest (grammar_of p.0.table) nonterminal kind).0 p.1 in (p.0, q.0, q.1, q.2),
        λ p. k.1 (p.0, (clash_lowest (grammar_of p.0.table) nonterminal kind).1 (p.1, p.2, p.3)),
      )

-- ------------------------------------------------------------------ the table of bytes that pass

-- Of bytes that pass the check hands on what an expansion needs of the table whose rules they meet.
pub passed_table_lem : (bs : List ℕ) (passes : Passes bs) → passed_table bs ≡ ok (syntax_of passes.table)
unfolding passed_table
passed_table_lem bs passes =
    rw (
      passes.encoded,
      decode_encoded passes.written passes.within,
      (sorts_exactly passes.written passes.table passes.within).1 passes.meets.elaborates,
      (passes_exactly (grammar_of passes.table)).1 (passes.meets.not_left_recursive, passes.meets.without_clash),
    )
