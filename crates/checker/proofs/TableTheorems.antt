-- A table passes if and only if it meets the rules: what is proved of the check of a table, for every list of bytes and every table.
use Rattle.std.specs.Prelude.{Ok, Err}
use Prim.Native.Nat.{ℕ, ◌<◌}
use mathlib.Core.Path.{◌≡◌}
use mathlib.Core.Logic.{◌↔◌}
use mathlib.Core.Bool.{true}
use mathlib.Core.List.{List}
use lib.ListN.{get_or}
use Rattle.answers.specs.declared.Refusal.{Refusal}
use Rattle.answers.specs.Refusals.{Verdict, refusal}
use Rattle.answers.specs.Checked.{ok, bad}
use Rattle.kinds.specs.Kinds.{has_kind}
use Rattle.grammar.specs.Table.{Table}
use Rattle.grammar.specs.Written.{Written}
use Rattle.grammar.specs.Encode.{encode}
use Rattle.decoding.specs.Within.{Within}
use Rattle.decoding.specs.Decode.{decode}
use Rattle.decoding.proofs.LayoutTheorems as layout
use Rattle.elaboration.specs.Elaboration.{Elaborates}
use Rattle.elaboration.specs.CheckSequence.{check_sorts}
use Rattle.elaboration.proofs.Ranges.{table_fine}
use Rattle.elaboration.proofs.SortTheorems as sorting
use Rattle.productions.specs.Normal.{Production}
use Rattle.clashes.specs.CheckFirsts.{check_firsts}
use Rattle.firsts.specs.FirstSets.{nullables, first_sets, left_calls}
use Rattle.firsts.specs.Rules.{Nullable, Opens, LeftReaches}
use Rattle.clashes.specs.Clashes.{Never, Lowest, LeftRecursive, Clashes}
use Rattle.clashes.specs.Named.{Names}
use Rattle.firsts.proofs.FirstsTheorems as firsts
use Rattle.clashes.proofs.ClashTheorems as clashes
use Rattle.checker.specs.Check.{check}
use Rattle.checker.specs.Passes.{grammar_of, Passes}
use Rattle.checker.specs.Laid.{Laid}
use Rattle.checker.proofs.Passing as passing

-- ------------------------------------------------------------------ 1. layout

-- The decoder gives a table exactly if the bytes are its encoding and it is within document 01's counts, spellings and ranges.
pub decode_exactly : (bs : List ℕ) → ((place : ℕ) → get_or bs place 0 < 256) → (table : Written)
    → (decode bs ≡ ok table) ↔ ((bs ≡ encode table) × Within table)
decode_exactly = layout.decode_exactly

-- Two tables never share an encoding.
pub encode_injective : (table other : Written) → Within table → Within other → encode table ≡ encode other → table ≡ other
encode_injective = layout.encode_injective

-- ------------------------------------------------------------------ 2. sorts

-- None of 7, 8, 9 and 11 is given to a table within the counts and ranges, and `made` is answered, exactly if the judgements of 001 derive the sequence and
-- elaborate it to that of `made`, and the root is defined, without parameters, of sort Term.
pub sorts_exactly : (table : Written) (made : Table) → Within table → (check_sorts table ≡ ok made) ↔ Elaborates table made
sorts_exactly = sorting.sorts_exactly

-- A table is elaborated in one way.
pub elaborated_once : {table : Written} {made other : Table} → Within table → Elaborates table made → Elaborates table other → made ≡ other
elaborated_once w = sorting.elaborated_once (table_fine w)

-- ------------------------------------------------------------------ 3. nullables and first sets

module _ (g : List Production) where
  -- A bit of the computed sets is set exactly if the least relation holds.
  pub nullable_exactly : (nonterminal : ℕ) → (has_kind (nullables g) nonterminal ≡ true) ↔ Nullable g nonterminal
  nullable_exactly = firsts.nullable_exactly g

  -- `kind` is in the computed first set of `nonterminal` exactly if it opens `nonterminal` by the rules.
  pub opens_exactly : (nonterminal kind : ℕ) → (has_kind (get_or (first_sets (nullables g) g) nonterminal 0) kind ≡ true) ↔ Opens g nonterminal kind
  opens_exactly = firsts.opens_exactly g

  -- `callee` is in the computed set of `nonterminal`'s left calls exactly if `nonterminal` reaches `callee` by left calls, by the rules.
  pub reaches_exactly : (nonterminal callee : ℕ) → (has_kind (get_or (left_calls (nullables g) g) nonterminal 0) callee ≡ true) ↔ LeftReaches g nonterminal callee
  reaches_exactly = firsts.reaches_exactly g

  -- 12 is given, with `nonterminal`, exactly if `nonterminal` is the lowest nonterminal that reaches itself by left calls.
  pub left_recursion_lowest : (nonterminal : ℕ) → (check_firsts g ≡ bad (refusal 12 nonterminal 0 0)) ↔ Lowest (LeftRecursive g) nonterminal
  left_recursion_lowest = clashes.left_recursion_lowest g

  -- 13 is given exactly if none does, `nonterminal` is the lowest nonterminal of which two alternatives clash, and `kind` the lowest kind that any two of it
  -- share; else 65 plus the lowest sort of a pattern place that they share; 64 if they share neither.
  pub clash_lowest : (nonterminal kind : ℕ)
      → (check_firsts g ≡ bad (refusal 13 nonterminal kind 0))
      ↔ (Never (LeftRecursive g) × Lowest (Clashes g) nonterminal × Names g nonterminal kind)
  clash_lowest = clashes.clash_lowest g

-- ------------------------------------------------------------------ 4. passing

module _ (bs : List ℕ) where
  -- The check accepts exactly the bytes that pass: encodings of tables within the bounds that meet the rules.
  pub check_exactly : ((place : ℕ) → get_or bs place 0 < 256) → (check bs ≡ Ok tt) ↔ Passes bs
  check_exactly = passing.check_exactly bs

  -- Otherwise it gives one refusal, the first in document 01's order: the layout's, else the sorts', else that of 12 and 13.
  pub refused_by_layout : (cause : Refusal) → decode bs ≡ bad cause → check bs ≡ Err cause
  refused_by_layout = passing.refused_by_layout bs

  -- A table that decodes has the refusal of its sorts, if they give one.
  pub refused_by_sorts : (table : Written) (cause : Refusal) → decode bs ≡ ok table → check_sorts table ≡ bad cause → check bs ≡ Err cause
  refused_by_sorts = passing.refused_by_sorts bs

  -- A well sorted table has the refusal of its first sets, 12 or 13, if they give one.
  pub refused_by_firsts : (table : Written) (made : Table) (cause : Refusal) → decode bs ≡ ok table → check_sorts table ≡ ok made
      → check_firsts (grammar_of made) ≡ bad cause → check bs ≡ Err cause
  refused_by_firsts = passing.refused_by_firsts bs

  -- 12 is given, with `nonterminal`, exactly if the bytes are a well sorted table and `nonterminal` is the lowest nonterminal that reaches itself by
  -- left calls.
  pub refused_12 : ((place : ℕ) → get_or bs place 0 < 256) → (nonterminal : ℕ)
      → (check bs ≡ Err (refusal 12 nonterminal 0 0)) ↔ ((laid : Laid bs) × Lowest (LeftRecursive (grammar_of laid.table)) nonterminal)
  refused_12 = passing.refused_12 bs

  -- 13 is given, with `nonterminal` and `kind`, exactly if they are one where none does, `nonterminal` is the lowest nonterminal of which two
  -- alternatives clash, and `kind` what 13 names for it.
  pub refused_13 : ((place : ℕ) → get_or bs place 0 < 256) → (nonterminal kind : ℕ)
      → (check bs ≡ Err (refusal 13 nonterminal kind 0))
      ↔ ((laid : Laid bs) × Never (LeftRecursive (grammar_of laid.table)) × Lowest (Clashes (grammar_of laid.table)) nonterminal
      × Names (grammar_of laid.table) nonterminal kind)
  refused_13 = passing.refused_13 bs

  -- ------------------------------------------------------------------ 5. the call

  -- A verdict as `check_table` promises it accepts exactly the bytes that pass; this is the call's third promise.
  pub call_exactly : ((place : ℕ) → get_or bs place 0 < 256) → {verdict : Verdict} → verdict ≡ check bs → (verdict ≡ Ok tt) ↔ Passes bs
  call_exactly = passing.verdict_exactly bs
