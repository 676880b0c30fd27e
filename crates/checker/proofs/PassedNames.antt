-- The names of a table that passes: those of the table as written, so that its counts and spellings hold of them.
use Prim.Native.Nat.{◌≤◌}
use mathlib.Core.Path.{◌≡◌, subst⁻¹}
use mathlib.Core.Bool.{true}
use native.Mathlib.Omega.{arith}
use lib.ListN.{length}
use Rattle.spellings.specs.Bytes.{is_word}
use Rattle.grammar.specs.Limits.{most}
use Rattle.grammar.specs.Table.{Table}
use Rattle.grammar.specs.Written.{Written}
use Rattle.decoding.specs.Within.{Each, Different, Within}
use Rattle.keywords.proofs.KeptLaws.{kept_many}
use Rattle.firsts.specs.Reach.{kinds_reached}
use Rattle.checker.specs.Keywords.{lexicon_of_table}
use Rattle.checker.specs.Passes.{grammar_of, Meets}

-- What an elaborated table has of a table as written, beside its blocks.
pub record NamesWithin (table : Written) (made : Table) : Type 0 where
  -- the same keywords
  pub same_keywords : made.keywords ≡ table.keywords
  -- no more than there may be
  pub keyword_count : length made.keywords ≤ most.keywords
  -- no keyword stands twice
  pub keywords_differ : Different made.keywords
  -- the same outside names
  pub same_outsides : made.outsides ≡ table.outsides
  -- they are words
  pub outsides : Each (λ o. is_word o ≡ true) made.outsides
  -- none stands twice
  pub outsides_differ : Different made.outsides
  -- no more than there may be
  pub outside_count : length made.outsides ≤ most.outsides
  -- the same root
  pub same_root : made.root ≡ table.root

-- A table that meets the rules keeps them.
pub names_within : {table : Written} {made : Table} → Within table → Meets table made → NamesWithin table made
names_within w meets =
    let e = meets.elaborates in
    record {
      same_keywords = e.same_keywords;
      keyword_count = rw e.same_keywords w.keyword_count;
      keywords_differ = subst⁻¹ Different e.same_keywords w.keywords_differ;
      same_outsides = e.same_outsides;
      outsides = subst⁻¹ (Each (λ o. is_word o ≡ true)) e.same_outsides w.outsides;
      outsides_differ = subst⁻¹ Different e.same_outsides w.outsides_differ;
      outside_count = rw e.same_outsides w.outside_count;
      same_root = e.same_root;
    }

-- Each of its keywords keeps its number among those that its scanner knows, so that there are at most 62.
pub few_keywords : {table : Written} {made : Table} → Within table → Meets table made → length (lexicon_of_table made).keywords ≤ most.keywords
few_keywords {made = made} within meets =
    omega (arith, kept_many (kinds_reached (grammar_of made) made.root) 0 made.keywords, (names_within within meets).keyword_count)
