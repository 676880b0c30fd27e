-- Refusals 1 to 6 and 10: the layout of a table, field by field. Document 01, "Phrase table" and "Causes, by number".
use Rattle.std.specs.Prelude.{ℕ, ◌+◌}
use mathlib.Core.{Bool.Bool, Bool.true, Bool.false, Bool.not, Bool.◌&&◌, Bool.◌||◌, List.List, List.[], List.◌∷◌}
use lib.{Dec.eqb, Dec.leb, Dec.ltb, ListN.length, ListN.get_or, ListN.drop}
use Rattle.answers.specs.Refusals.{refusal}
use Rattle.answers.specs.Checked.{Checked, ok, bad, ◌>>=◌, ◌>>◌, need}
use Rattle.spellings.specs.Bytes.{one_if, is_word, is_keyword, same, every}
use Rattle.grammar.specs.SortTests.{is_sort, is_ide_sort}
use Rattle.grammar.specs.Limits.{most}
use Rattle.grammar.specs.Values.{Field, field}
use Rattle.grammar.specs.Fields.{RawFields, end, cut, next, fields_of}
use Rattle.decoding.specs.declared.Progress.{Progress}
use Rattle.decoding.specs.Prefix.{templates_of, is_templates, is_template}

-- ------------------------------------------------------------------ 3: known tag, length and value

abbrev pub is_empty : List ℕ → Bool
is_empty v = eqb (length v) 0

abbrev pub is_nonterminal : ℕ → Bool
is_nonterminal n = ltb n most.nonterminals

-- a definition's head: nonterminal, mode, result sort, parameter sorts
unfoldable pub is_head : List ℕ → Bool
is_head v = leb 3 (length v) && leb (length v) (3 + most.parameters) && is_nonterminal (get_or v 0 0) && leb (get_or v 1 0) 2 && every is_sort (drop 2 v)

-- an item's kind and operand; only a call has more bytes
unfoldable pub is_item : List ℕ → Bool
is_item v =
    (eqb (get_or v 0 0) 0 && eqb (length v) 2)
    || (eqb (get_or v 0 0) 1 && eqb (length v) 2 && is_ide_sort (get_or v 1 0))
    || (eqb (get_or v 0 0) 2 && eqb (length v) 2 && eqb (get_or v 1 0) 0)
    || (eqb (get_or v 0 0) 3 && eqb (length v) 2 && eqb (get_or v 1 0) 0)
    || (eqb (get_or v 0 0) 4 && leb 2 (length v) && is_nonterminal (get_or v 1 0))

unfoldable pub is_root : List ℕ → Bool
is_root v = eqb (length v) 1 && is_nonterminal (get_or v 0 0)

unfoldable pub is_known : ℕ → List ℕ → Bool
is_known tag v =
    eqb tag 1
    || eqb tag 2
    || (eqb tag 3 && is_empty v)
    || (eqb tag 4 && is_head v)
    || (eqb tag 5 && is_empty v)
    || (eqb tag 6 && is_item v)
    || eqb tag 7
    || (eqb tag 8 && is_root v)

-- ------------------------------------------------------------------ 4: order

-- which tag may follow which; `last` is 0 at the start
unfoldable pub follows : ℕ → ℕ → Bool
follows tag last =
    (eqb tag 1 && leb last 1)
    || (eqb tag 2 && leb last 2)
    || (eqb tag 3 && (leb last 3 || eqb last 7))
    || (eqb tag 4 && (eqb last 3 || eqb last 7))
    || (eqb tag 5 && (eqb last 4 || eqb last 7))
    || (eqb tag 6 && (eqb last 5 || eqb last 6))
    || (eqb tag 7 && (eqb last 5 || eqb last 6))
    || (eqb tag 8 && (leb last 3 || eqb last 7))

-- ------------------------------------------------------------------ 5: spellings

-- a field of this tag and value stands among those before
unfoldable pub is_repeated : ℕ → List ℕ → List Field → Bool
is_repeated tag v [] = false
is_repeated tag v (f ∷ fs) = (eqb f.tag tag && same f.value v) || is_repeated tag v fs

unfoldable pub is_spelled : ℕ → List ℕ → List Field → Bool
is_spelled tag v before =
    (not (eqb tag 1) || (is_keyword v && not (is_repeated 1 v before)))
    && (not (eqb tag 2) || (is_word v && not (is_repeated 2 v before)))

-- ------------------------------------------------------------------ 6: counts

-- there is room for one more field of this tag
unfoldable pub has_room : ℕ → Progress → Bool
has_room tag s =
    (not (eqb tag 1) || ltb s.keywords most.keywords)
    && (not (eqb tag 2) || ltb s.outsides most.outsides)
    && (not (eqb tag 3) || ltb s.blocks most.blocks)
    && (not (eqb tag 5) || ltb s.alternatives most.alternatives)
    && (not (eqb tag 6) || ltb s.items most.items)

-- one field further; an alternative's items are counted from its beginning
unfoldable pub passed : ℕ → Progress → Progress
passed tag s =
    record {
      last = tag;
      keywords = s.keywords + one_if (eqb tag 1);
      outsides = s.outsides + one_if (eqb tag 2);
      blocks = s.blocks + one_if (eqb tag 3);
      alternatives = s.alternatives + one_if (eqb tag 5);
      items = elim (eqb tag 5) [ true ↦ 0 | false ↦ s.items + one_if (eqb tag 6) ];
    }

-- ------------------------------------------------------------------ 10: templates

-- a call's bytes after the nonterminal are whole templates, a result's bytes are one
unfoldable pub is_whole : ℕ → List ℕ → Bool
is_whole tag v =
    (not (eqb tag 6) || not (eqb (get_or v 0 0) 4) || is_templates (templates_of (drop 2 v)))
    && (not (eqb tag 7) || is_template (templates_of v))

-- ------------------------------------------------------------------ field by field

-- one field at the offset `at`, after those before it
unfoldable pub check_field : List Field → ℕ → ℕ → List ℕ → Progress → Checked Progress
check_field before at tag v s = do
  need (is_known tag v) 3 at
  need (follows tag s.last) 4 at
  need (is_spelled tag v before) 5 at
  need (has_room tag s) 6 at
  need (is_whole tag v) 10 at
  ok (passed tag s)

-- the fields from the left; the root is last
unfoldable pub check_fields : RawFields → List Field → Progress → Checked (Unit {0})
check_fields (end at) before s = need (eqb s.last 8) 4 at
check_fields (cut at) before s = bad (refusal 2 at 0 0)
check_fields (next at tag v fs) before s =
    check_field before at tag v s >>= λ s'. check_fields fs (field tag v ∷ before) s'

abbrev pub initial_progress : Progress
initial_progress = record { last = 0; keywords = 0; outsides = 0; blocks = 0; alternatives = 0; items = 0 }

unfoldable pub layout : List ℕ → Checked (Unit {0})
layout bs =
    elim (leb (length bs) most.bytes) [ false ↦ bad (refusal 1 0 0 0) | true ↦ check_fields (fields_of bs) [] initial_progress ]
