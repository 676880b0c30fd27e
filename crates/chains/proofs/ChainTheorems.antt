-- Document 02, C-18: no long chains between two tokens. For every table that passes, all tokens and all cells lent, at each moment of the
-- expansion, of one that is refused too.
use Prim.Native.Nat.{ℕ, ◌+◌, ◌*◌, ◌≤◌}
use mathlib.Core.Path.{◌≡◌, subst}
use mathlib.Core.Bool.{true}
use mathlib.Core.List.{List, []}
use native.Mathlib.Omega.{arith}
use lib.ListN.{length}
use Rattle.grammar.specs.Table.{Table}
use Rattle.decoding.specs.Within.{Each, each_none, each_more, Among, ItemWithin}
use Rattle.decoding.proofs.Spelled.{each_map}
use Rattle.tokens.specs.declared.Token.{Token}
use Rattle.productions.specs.Normal.{Production}
use Rattle.checker.specs.Passes.{grammar_of}
use Rattle.terms.specs.Cells.{rows_lent}
use Rattle.answers.specs.Refusals.{refusal}
use Rattle.expansion.specs.Run.{halt}
use Rattle.expansion.specs.Expansion.{input_of, initial_state, run}
use Rattle.expansion.specs.Limits.{most_open}
use Rattle.soundness.specs.Passing.{Passing}
use Rattle.elaboration.proofs.Normalizing.{each_at}
use Rattle.soundness.proofs.Normalizing.{each_fits}
use Rattle.chains.specs.Moments.{Moment, moments_of, Apart, apart_none, has_production, defined_in}
use Rattle.chains.proofs.Counting.{few_calls, below_among, owner_defined}
use Rattle.chains.proofs.Chains.{Parted, outermost_parted}
use Rattle.chains.proofs.Deepest.{Deep, run_deep}

module _ (table : Table) (passing : Passing table) (tokens : List Token) (cells : List ℕ) where
  -- a moment of the expansion
  abbrev pub IsMoment : Moment → Type 0
  IsMoment m = Among (moments_of (input_of (grammar_of table) tokens cells) table.root cells) m

  abbrev items_within : (p : Production) → Among (grammar_of table) p → Each ItemWithin p.items
  items_within p m = (each_fits passing.within passing.meets.elaborates p m).items

  abbrev IsParted : Moment → Type 0
  IsParted = Parted (grammar_of table) items_within passing.meets.not_left_recursive (λ is. 0) tokens (rows_lent (length cells))

  all_parted : (m : Moment) → IsMoment m → IsParted m
  all_parted m h =
      each_at
      (each_more (record { apart = apart_none; since = each_none })
      (outermost_parted (grammar_of table) items_within passing.meets.not_left_recursive (λ is. 0) tokens (rows_lent (length cells)) most_open table.root
      (omega (arith, passing.within.root, passing.meets.elaborates.same_root)) [] initial_state cells))
      h

  -- 1. The calls open that began at one token index are of different nonterminals.
  pub no_chain : (m : Moment) → IsMoment m → Apart m.stack
  no_chain m h = (all_parted m h).apart

  -- 2. With n tokens taken and m nonterminals defined, no more than (n + 1) × m calls are open.
  pub few_open : (m : Moment) → IsMoment m → length m.stack ≤ (m.taken + 1) * length (defined_in (grammar_of table))
  few_open m h =
      few_calls m.taken (defined_in (grammar_of table)) (no_chain m h)
      (each_map
      (λ c s. (
        s.began,
        below_among 64 (has_production (grammar_of table)) c.nonterminal s.of.small
            (subst (λ n. has_production (grammar_of table) n ≡ true) s.of.owned (owner_defined s.of.member)),
      ))
      (all_parted m h).since)

  -- 3. An expansion that is refused with 19 came to a moment at which 1,024 calls were open, at the token index that 19 names.
  pub deepest : {taken : ℕ} {cells' : List ℕ} → run (input_of (grammar_of table) tokens cells) table.root cells ≡ halt (refusal 19 taken 0 0) cells'
      → Deep most_open taken (moments_of (input_of (grammar_of table) tokens cells) table.root cells)
  deepest e = run_deep (input_of (grammar_of table) tokens cells) table.root cells e

  -- 4. So it needs tokens: with m nonterminals defined, 19 at token index n means that (n + 1) × m is 1,024 at least.
  pub deep_needs_tokens : {taken : ℕ} {cells' : List ℕ} → run (input_of (grammar_of table) tokens cells) table.root cells ≡ halt (refusal 19 taken 0 0) cells'
      → most_open ≤ (taken + 1) * length (defined_in (grammar_of table))
  deep_needs_tokens {taken} e =
      let d = deepest e in
      subst (λ n. most_open ≤ (n + 1) * length (defined_in (grammar_of table))) d.taken_are
      (subst (λ n. n ≤ (d.at.taken + 1) * length (defined_in (grammar_of table))) d.deep (few_open d.at d.among))
