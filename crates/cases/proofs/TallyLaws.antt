-- The cases of a file, one by one: what is left gives what the whole file gives.
use Prim.Native.Nat.{ℕ, suc, ◌+◌, ◌-◌, ◌≤◌}
use mathlib.Core.Path.{◌≡◌, refl, sym, ap, ◌∙◌}
use mathlib.Core.Bool.{Bool, true, false}
use mathlib.Core.List.{List, [], ◌∷◌}
use native.Mathlib.Nat.{add-zero, zero-add}
use native.Mathlib.Omega.{arith}
use lib.ListN.{length}
use Rattle.std.specs.Prelude.{Option, Some, None, Result, Ok, Err}
use Rattle.spellings.specs.Bytes.{one_if}
use Rattle.reports.specs.Lines.{Tally}
use Rattle.cases.specs.declared.case.Case.{Case}
use Rattle.cases.specs.declared.case.Broken.{Broken}
use Rattle.cases.specs.Cases.{next_at}
use Rattle.cases.specs.Tallies.{Cases, before, cases_from, cases_in, count, tally, tallied}
use Rattle.cases.proofs.CaseLaws.{next_within}

-- what cases come to behind others, of which there are `cases` and `differ` differ
unfoldable pub tally_behind : (Case → Bool) → ℕ → ℕ → List Case → Bool → Tally
tally_behind test cases differ each true = Ok (cases + length each, differ + count test each)
tally_behind test cases differ each false = Err (cases + length each)

-- the same of the cases of a file, which is read to its end or broken off
abbrev pub tallied_behind : (Case → Bool) → ℕ → ℕ → Cases → Tally
tallied_behind test cases differ rest = tally_behind test cases differ rest.each rest.whole

-- `cases` cases stand before an offset, of which `differ` differ, and what is left gives what the whole file gives
pub record Tallying (test : Case → Bool) (file : List ℕ) (at cases differ : ℕ) : Type 0 where
  -- the offset is within the file
  pub within : at ≤ length file
  -- each case takes a byte at least
  pub few : cases ≤ at
  -- no more differ than were read
  pub fewer : differ ≤ cases
  -- the cases left, behind those read, come to what all come to
  pub rest : tallied_behind test cases differ (cases_from (suc (length file - cases)) file at) ≡ tallied test (cases_in file)

at_most_one : (test : Bool) → one_if test ≤ 1
at_most_one true = omega arith
at_most_one false = omega arith

none_behind : (test : Case → Bool) (each : List Case) (whole : Bool) → tally_behind test 0 0 each whole ≡ tally test each whole
unfolding tally_behind tally
none_behind test each true = cc (zero-add (length each), zero-add (count test each))
none_behind test each false = cc (zero-add (length each))

-- none is read yet
pub tallying_start : (test : Case → Bool) (file : List ℕ) → Tallying test file 0 0 0
unfolding cases_in
tallying_start test file =
    let all : suc (length file - 0) ≡ suc (length file) = omega arith in
    record { within = omega arith; few = omega arith; fewer = omega arith; rest = rw all (none_behind test _ _) }

one_behind : (test : Case → Bool) (cases differ : ℕ) (c : Case) (each : List Case) (whole : Bool)
    → tally_behind test cases differ (c ∷ each) whole ≡ tally_behind test (cases + 1) (differ + one_if (test c)) each whole
unfolding tally_behind count
one_behind test cases differ c each true =
    let more : cases + suc (length each) ≡ cases + 1 + length each = omega arith in
    let differing : differ + (one_if (test c) + count test each) ≡ differ + one_if (test c) + count test each = omega arith in
    cc
one_behind test cases differ c each false =
    let more : cases + suc (length each) ≡ cases + 1 + length each = omega arith in
    cc

module _ {test : Case → Bool} {file : List ℕ} {at cases differ : ℕ} (tallying : Tallying test file at cases differ) {next : Result (Option Case) Broken}
    (met : next ≡ next_at file at) where
  -- one case more
  pub tallying_next : {c : Case} {one : ℕ} → next ≡ Ok (Some c) → one ≡ one_if (test c) → Tallying test file c.places.end (cases + 1) (differ + one)
  unfolding cases_from
  tallying_next {c} {one} whole e =
      let stands : next_at file at ≡ Ok (Some c) = sym met ∙ whole in
      let inside = next_within file at stands in
      let left : suc (length file - (cases + 1)) ≡ length file - cases = omega (arith, inside.begins, inside.ends, tallying.few) in
      let stepped : cases_from (suc (length file - cases)) file at ≡ before c (cases_from (length file - cases) file c.places.end) =
      rw (stands, cases_from) refl in
      record {
        within = inside.ends;
        few = omega (arith, inside.begins, tallying.few);
        fewer = omega (arith, tallying.fewer, at_most_one (test c));
        rest = rw (left, e) (sym (one_behind test cases differ c _ _) ∙ ap (tallied_behind test cases differ) (sym stepped) ∙ tallying.rest);
      }

  -- there is none left
  pub tallying_end : next ≡ Ok None → Ok (cases, differ) ≡ tallied test (cases_in file)
  unfolding cases_from tally_behind count
  tallying_end end =
      let stepped : cases_from (suc (length file - cases)) file at ≡ record { each = []; whole = true } = rw (← met, end, cases_from) refl in
      rw (stepped, add-zero cases, add-zero differ) at tallying.rest

  -- the next one cannot be read
  pub tallying_broken : {fault : Broken} → next ≡ Err fault → Err cases ≡ tallied test (cases_in file)
  unfolding cases_from tally_behind
  tallying_broken broken =
      let stepped : cases_from (suc (length file - cases)) file at ≡ record { each = []; whole = false } = rw (← met, broken, cases_from) refl in
      rw (stepped, add-zero cases) at tallying.rest

-- that a case cannot be read does not depend on which cases differ
pub broken_either : (test other : Case → Bool) (each : List Case) (whole : Bool) {index : ℕ} → Err index ≡ tally test each whole
    → Err index ≡ tally other each whole
unfolding tally
broken_either test other each true e = cc
broken_either test other each false e = e
