-- A table is refused exactly as the rules say: what is proved of refusals 1 to 13, for every list of bytes. Each statement has one sentence above it.
use Rattle.std.specs.Prelude.{Ok, Err}
use Prim.Native.Nat.{ℕ, ◌<◌, ◌≤◌}
use mathlib.Core.Path.{◌≡◌, refl, sym, ap, ◌∙◌, subst⁻¹}
use mathlib.Core.Bool.{Bool, true, false, true≢false, ◌&&◌, ◌||◌}
use mathlib.Core.Logic.{◌↔◌, ◌⊎◌, inl, inr}
use mathlib.Core.List.{List, [], ◌∷◌, Memᴰ}
use native.Mathlib.Omega.{arith}
use lib.Dec.{eqb, leb}
use lib.ListN.{get_or}
use borrow.Author.Tests.{eqb-true, leb-true}
use Rattle.spellings.proofs.BytesLaws.{by_test}
use Rattle.answers.specs.declared.Refusal.{Refusal}
use Rattle.answers.specs.Refusals.{Verdict}
use Rattle.answers.specs.Checked.{Checked, ok, bad, ◌>>=◌, ◌>>◌, verdict}
use Rattle.grammar.specs.Table.{Table, Definition}
use Rattle.grammar.specs.Written.{Written}
use Rattle.grammar.specs.Values.{Field}
use Rattle.grammar.specs.Encode.{encode}
use Rattle.decoding.specs.Decode.{decode}
use Rattle.decoding.specs.Within.{Among, Within}
use Rattle.decoding.proofs.LayoutTheorems.{decode_exactly}
use Rattle.decoding.proofs.RefusalNumbers.{is_layout_number, decode_answers}
use Rattle.elaboration.specs.CheckSequence.{check_sorts}
use Rattle.elaboration.specs.Elaboration.{Elaborates}
use Rattle.elaboration.proofs.Elaborated.{Headed, heads_derived}
use Rattle.elaboration.proofs.SortTheorems.{sorts_exactly, sort_refusals}
use Rattle.productions.specs.Normal.{Production, normalized}
use Rattle.clashes.specs.CheckFirsts.{check_firsts}
use Rattle.clashes.specs.FirstRefusals.{Says}
use Rattle.clashes.proofs.ClashTheorems.{result_exactly}
use Rattle.checker.specs.Syntax.{syntax_of}
use Rattle.checker.specs.Check.{passed_table, check}
use Rattle.checker.specs.Passes.{grammar_of, Passes}
use Rattle.checker.specs.Laid.{Laid}
use Rattle.checker.proofs.Passing.{never, check_exactly, refused_by_layout, refused_by_sorts, refused_by_firsts}
use Rattle.causes.specs.Misplaced.{Reaches, Misplaced}
use Rattle.causes.specs.Beginnings.{Begins}
use Rattle.causes.specs.Missorted.{Missorted}
use Rattle.causes.specs.Normalizing.{in_order, Normal, Remains, RemainsInBlocks}
use Rattle.causes.specs.Unlaid.{Unlaid, by_layout, by_sorts, RefusesTable, unlaid, left_recursive, clashing}
use Rattle.causes.proofs.LayoutWalk as layout
use Rattle.causes.proofs.Beginnings as beginnings
use Rattle.causes.proofs.SortStops as sorting
use Rattle.causes.proofs.NormalLaws as normalizing
use Rattle.causes.proofs.BlockLaws as blocks

-- ------------------------------------------------------------------ parts

-- The decoder refuses exactly as the rules of the layout do: 1 to 6 and 10.
pub misplaced_exactly : (bs : List ℕ) → ((place : ℕ) → get_or bs place 0 < 256) → (cause : Refusal) → (decode bs ≡ bad cause) ↔ Misplaced bs cause
misplaced_exactly = layout.misplaced_exactly

-- A 4 never comes too late: fields that are reached are the first fields of some table.
pub reached_begins : {bs : List ℕ} {at : ℕ} {before : List Field} {rest : List ℕ} → Reaches bs at before rest → Begins before
reached_begins = beginnings.reached_begins

-- The check of sorts refuses exactly as the rules of the sorts do: 7, 8, 9 and 11.
pub missorted_exactly : (table : Written) → Within table → (cause : Refusal) → (check_sorts table ≡ bad cause) ↔ Missorted table cause
missorted_exactly = sorting.missorted_exactly

-- The normalized grammar of blocks is the one that the rules give, in table order.
pub normal_exactly : (blocks : List (List Definition)) (g : List Production) → (g ≡ normalized blocks) ↔ Normal (in_order blocks) g
normal_exactly = normalizing.normal_exactly

-- A production is one of the normalized grammar exactly if it is an alternative of a definition whose nonterminal no later one updates.
pub normalized_member : (blocks : List (List Definition)) (p : Production) → Among (normalized blocks) p ↔ Remains p (in_order blocks)
normalized_member = normalizing.normalized_member

-- In an elaborated table that is one whose nonterminal no later block updates.
pub normalized_in_blocks : (table : Written) (made : Table) → Elaborates table made → (p : Production)
    → Among (normalized made.blocks) p ↔ RemainsInBlocks p made.blocks
normalized_in_blocks table made elaborates p =
    let (to, back) = normalized_member made.blocks p in
    let (hs, headed, is) = heads_derived elaborates.sequence in
    let whole : Headed [] made.blocks = subst⁻¹ (Headed []) (elaborates.same_blocks ∙ is) headed in (
      λ m. blocks.to_blocks made.blocks (to m),
      λ r. back (blocks.from_blocks whole r),
    )

-- ------------------------------------------------------------------ the whole check

same : {cause other : Refusal} → ◌≡◌ {A = Verdict} (Err other) (Err cause) → other ≡ cause
same e = cc

module _ (bs : List ℕ) (bytes : (place : ℕ) → get_or bs place 0 < 256) where
  -- what the check refuses, part by part
  from_firsts : (table : Written) (made : Table) {cause : Refusal} → decode bs ≡ ok table → check_sorts table ≡ ok made → (checked : Checked (Unit {0}))
      → check_firsts (grammar_of made) ≡ checked → verdict (checked >> ok (syntax_of made)) ≡ Err cause → RefusesTable bs cause
  from_firsts table made {cause} d s (ok u) e h = never cause (sym h)
  from_firsts table made {cause} d s (bad q) e h =
      let (encoded, within) = (decode_exactly bs bytes table).0 d in
      by encoded within ((sorts_exactly table made within).0 s) ((result_exactly (grammar_of made) (bad _)).0 (e ∙ ap bad (same h)))
    where
      by : bs ≡ encode table → Within table → Elaborates table made → Says (grammar_of made) (bad cause) → RefusesTable bs cause
      by encoded within elaborates (inl says) = subst⁻¹ (RefusesTable bs) says.answer (left_recursive encoded within elaborates says.lowest)
      by encoded within elaborates (inr says) =
          subst⁻¹ (RefusesTable bs) says.answer (clashing encoded within elaborates says.earlier says.lowest says.shared)

  from_sorts : (table : Written) {cause : Refusal} → decode bs ≡ ok table → (checked : Checked Table) → check_sorts table ≡ checked
      → verdict (checked >>= λ u. check_firsts (grammar_of u) >> ok (syntax_of u)) ≡ Err cause → RefusesTable bs cause
  from_sorts table d (ok made) e h = from_firsts table made d e (check_firsts (grammar_of made)) refl h
  from_sorts table d (bad q) e h =
      let (encoded, within) = (decode_exactly bs bytes table).0 d in
      unlaid (by_sorts encoded within ((missorted_exactly table within _).0 (e ∙ ap bad (same h))))

  from_layout : {cause : Refusal} (checked : Checked Written) → decode bs ≡ checked
      → verdict (checked >>= λ t. check_sorts t >>= λ u. check_firsts (grammar_of u) >> ok (syntax_of u)) ≡ Err cause → RefusesTable bs cause
  from_layout (ok t) e h = from_sorts t e (check_sorts t) refl h
  from_layout (bad q) e h = unlaid (by_layout ((misplaced_exactly bs bytes _).0 (e ∙ ap bad (same h))))

  refuses : {cause : Refusal} → check bs ≡ Err cause → RefusesTable bs cause
  unfolding check passed_table
  refuses h = from_layout (decode bs) refl h

  refused_unlaid : {cause : Refusal} → Unlaid bs cause → check bs ≡ Err cause
  refused_unlaid {cause} (by_layout m) = refused_by_layout bs cause ((misplaced_exactly bs bytes cause).1 m)
  refused_unlaid {cause} (by_sorts {t} e w m) =
      refused_by_sorts bs t cause ((decode_exactly bs bytes t).1 (e, w)) ((missorted_exactly t w cause).1 m)

  of_firsts : (table : Written) (made : Table) (cause : Refusal) → bs ≡ encode table → Within table → Elaborates table made
      → Says (grammar_of made) (bad cause) → check bs ≡ Err cause
  of_firsts table made cause encoded within elaborates says =
      refused_by_firsts bs table made cause ((decode_exactly bs bytes table).1 (encoded, within)) ((sorts_exactly table made within).1 elaborates)
      ((result_exactly (grammar_of made) (bad cause)).1 says)

  refused : {cause : Refusal} → RefusesTable bs cause → check bs ≡ Err cause
  refused (unlaid u) = refused_unlaid u
  refused (left_recursive {t} {u} {n} encoded within elaborates lowest) =
      of_firsts t u _ encoded within elaborates (inl (record { nonterminal = n; answer = refl; lowest = lowest }))
  refused (clashing {t} {u} {n} {bit} encoded within elaborates earlier lowest shared) =
      of_firsts t u _ encoded within elaborates
      (inr (record { nonterminal = n; kind = bit; answer = refl; earlier = earlier; lowest = lowest; shared = shared }))

  -- The check gives a refusal exactly if the rules of 1 to 13 do.
  pub refused_exactly : (cause : Refusal) → (check bs ≡ Err cause) ↔ RefusesTable bs cause
  refused_exactly cause = (refuses, refused)

  -- All bytes pass or are refused by these rules.
  pub passes_or_refuses : Passes bs ⊎ ((cause : Refusal) × RefusesTable bs cause)
  passes_or_refuses = by (check bs) refl
    where
      by : (given : Verdict) → check bs ≡ given → Passes bs ⊎ ((cause : Refusal) × RefusesTable bs cause)
      by (Ok tt) e = inl ((check_exactly bs bytes).0 e)
      by (Err cause) e = inr (cause, refuses e)

  -- They never give two.
  pub refused_once : (cause other : Refusal) → RefusesTable bs cause → RefusesTable bs other → cause ≡ other
  refused_once cause other r s = same (sym (refused r) ∙ refused s)

  -- numbers of the rules
  laid_number : {number : ℕ} → is_layout_number number ≡ true → number ≤ 11
  laid_number {number} e =
      by_test (eqb number 10) (λ q. omega (arith, eqb-true number 10 q))
      (λ q. by_test (leb number 6) (λ l. omega (arith, leb-true number 6 l)) (λ l. absurd (true≢false (sym e ∙ rw (l, q) (no_front (leb 1 number))))))
    where
      no_front : (test : Bool) → ((test && false) || false) ≡ false
      no_front true = refl
      no_front false = refl

  sort_number : {number : ℕ} → Memᴰ number (7 ∷ 8 ∷ 9 ∷ 11 ∷ []) → number ≤ 11
  sort_number (Memᴰ.head e) = omega (arith, e)
  sort_number (Memᴰ.tail (Memᴰ.head e)) = omega (arith, e)
  sort_number (Memᴰ.tail (Memᴰ.tail (Memᴰ.head e))) = omega (arith, e)
  sort_number (Memᴰ.tail (Memᴰ.tail (Memᴰ.tail (Memᴰ.head e)))) = omega (arith, e)
  sort_number (Memᴰ.tail (Memᴰ.tail (Memᴰ.tail (Memᴰ.tail x)))) = elim x [ ]

  unlaid_number : {cause : Refusal} → Unlaid bs cause → cause.number ≤ 11
  unlaid_number {cause} (by_layout m) = by (decode_answers bs)
    where
      e : decode bs ≡ bad cause
      e = (misplaced_exactly bs bytes cause).1 m

      by : ((table : Written) × (decode bs ≡ ok table)) ⊎ ((other : Refusal) × (decode bs ≡ bad other) × (is_layout_number other.number ≡ true))
          → cause.number ≤ 11
      by (inl a) = let z : ◌≡◌ {A = ℕ} 0 1 = cc (e, a.1) in absurd (omega arith)
      by (inr a) = let z : a.0 ≡ cause = cc (e, a.1) in laid_number (rw z at a.2)
  unlaid_number {cause} (by_sorts {t} e w m) = sort_number (sort_refusals t cause w ((missorted_exactly t w cause).1 m)).0

  -- The check gives a refusal of 1 to 11 exactly if the rules of 1 to 11 do.
  pub unlaid_exactly : (cause : Refusal) → ((check bs ≡ Err cause) × (cause.number ≤ 11)) ↔ Unlaid bs cause
  unlaid_exactly cause = (λ h. by (refuses h.0) h.1, λ u. (refused_unlaid u, unlaid_number u))
    where
      by : {other : Refusal} → RefusesTable bs other → other.number ≤ 11 → Unlaid bs other
      by (unlaid u) small = u
      by (left_recursive encoded within elaborates lowest) small = absurd (omega arith)
      by (clashing encoded within elaborates earlier lowest shared) small = absurd (omega arith)

  -- Bytes that are laid out and sorted are not refused by 1 to 11.
  pub laid_not_unlaid : Laid bs → (cause : Refusal) → ¬ Unlaid bs cause
  laid_not_unlaid laid cause u = by u
    where
      d : decode bs ≡ ok laid.written
      d = (decode_exactly bs bytes laid.written).1 (laid.encoded, laid.within)

      by : Unlaid bs cause → ⊥
      by (by_layout m) = let z : ◌≡◌ {A = ℕ} 0 1 = cc (d, (misplaced_exactly bs bytes cause).1 m) in omega arith
      by (by_sorts {t} e w m) =
          let same_table : t ≡ laid.written = cc (d, (decode_exactly bs bytes t).1 (e, w)) in
          let passed = (sorts_exactly laid.written laid.table laid.within).1 laid.elaborates in
          let z : ◌≡◌ {A = ℕ} 0 1 = cc (same_table, (missorted_exactly t w cause).1 m, passed) in
          omega arith

  -- All others are, by one.
  pub laid_or_unlaid : Laid bs ⊎ ((cause : Refusal) × Unlaid bs cause)
  laid_or_unlaid = by (decode bs) refl
    where
      by_table : (table : Written) → decode bs ≡ ok table → (checked : Checked Table) → check_sorts table ≡ checked
          → Laid bs ⊎ ((cause : Refusal) × Unlaid bs cause)
      by_table table d (ok u) e =
          let (encoded, within) = (decode_exactly bs bytes table).0 d in
          inl (record { written = table; table = u; encoded = encoded; within = within; elaborates = (sorts_exactly table u within).0 e })
      by_table table d (bad q) e =
          let (encoded, within) = (decode_exactly bs bytes table).0 d in
          inr (q, by_sorts encoded within ((missorted_exactly table within q).0 e))

      by : (checked : Checked Written) → decode bs ≡ checked → Laid bs ⊎ ((cause : Refusal) × Unlaid bs cause)
      by (ok t) e = by_table t e (check_sorts t) refl
      by (bad q) e = inr (q, by_layout ((misplaced_exactly bs bytes q).0 e))
