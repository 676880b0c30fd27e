-- What a run reads its productions from, and what stands at an offset of it. The contracts of the run speak of this and not of bytes. These
-- definitions mirror code: nobody needs them to believe `expand`.
use Rattle.std.specs.Prelude.{ℕ, ◌+◌, ◌*◌, ◌≤◌, ◌≡◌, true, false, ◌&&◌, ◌⊎◌, List, [], map, eqb, leb, length, get_or, drop}
use Rattle.grammar.specs.Table.{Template, variable, Alternative, Item}
use Rattle.grammar.specs.Fields.{RawFields, end, cut, next}
use Rattle.grammar.specs.Lookup.{fields_at}
use Rattle.decoding.specs.Prefix.{templates_of, is_templates, is_template}
use Rattle.productions.specs.Normal.{Production}
use Rattle.productions.specs.Index.{Place, places_of, items_of, result_of}
use Rattle.steps.specs.HeldTexts.{text_at, TextHangs}

-- the bytes of a table, where its results that are texts are held, and what reads a `$` variable first in items (document 02, C-14)
pub record Source : Type 0 where
  pub bytes : List ℕ
  pub texts : List ℕ
  pub patterns : List Item → ℕ

abbrev pub source_of : List ℕ → List ℕ → (List Item → ℕ) → Source
source_of bs texts patterns = record { bytes = bs; texts = texts; patterns = patterns }

-- for a formula, which has no variables, and a table without texts
abbrev pub source : List ℕ → Source
source bs = source_of bs [] (λ is. 0)

-- the result behind the items: of a field 09 the template of its text, of any other that of its bytes
unfoldable pub result_in : List ℕ → RawFields → Template
result_in texts (end at) = variable 0
result_in texts (cut at) = variable 0
result_in texts (next at tag v fs) =
    elim (eqb tag 6) [
      | true ↦ result_in texts fs
      | false ↦ elim (eqb tag 9) [ true ↦ text_at texts at | false ↦ result_of (next at tag v fs) ]
    ]

-- what is left of a production at an offset: its items from there on, and its result
unfoldable pub alternative_at : Source → ℕ → Alternative
alternative_at S at = record { items = items_of (fields_at S.bytes at); result = result_in S.texts (fields_at S.bytes at) }

-- the production at a place, and all of a source, in order
abbrev pub production_from : Source → Place → Production
production_from S p =
    record { nonterminal = p.nonterminal; items = (alternative_at S p.start).items; result = (alternative_at S p.start).result }

abbrev pub productions_from : Source → List Production
productions_from S = map (production_from S) (places_of S.bytes)

-- ------------------------------------------------------------------ where a production goes on

-- a field that is a result: a whole template, or a text whose template hangs together
abbrev pub IsResult : List ℕ → (at tag : ℕ) → List ℕ → Type 0
IsResult texts at tag v = ((tag ≡ 7) × (is_template (templates_of v) ≡ true)) ⊎ ((tag ≡ 9) × TextHangs texts at)

-- fields that are what is left of an alternative: items with whole templates, then a result
unfoldable pub Complete : List ℕ → RawFields → Type 0
Complete texts (end at) = ⊥
Complete texts (cut at) = ⊥
Complete texts (next at tag v fs) =
    elim (eqb tag 6) [
      | true ↦ ((leb 2 (length v) && is_templates (templates_of (drop 2 v))) ≡ true) × Complete texts fs
      | false ↦ IsResult texts at tag v
    ]

-- the size of the value of a field at an offset
abbrev pub size_at : List ℕ → ℕ → ℕ
size_at bs at = get_or bs (at + 1) 0 * 256 + get_or bs (at + 2) 0

-- a production goes on at an offset: such fields stand there, the first of them inside
pub record GoesOn (S : Source) (at : ℕ) : Type 0 where
  pub complete_there : Complete S.texts (fields_at S.bytes at)
  pub inside : at + 3 + size_at S.bytes at ≤ length S.bytes

-- ------------------------------------------------------------------ sources of what is lent

-- Code has the bytes of a source, and its texts where it needs them. What it asks holds of some source of these; what it promises, of every one of which
-- what it asks holds.
pub record SomeSource (bs : List ℕ) (P : Source → Type 0) : Type 0 where
  pub texts : List ℕ
  pub patterns : List Item → ℕ
  pub holds : P (source_of bs texts patterns)

abbrev pub EachSource : List ℕ → (Source → Type 0) → (Source → Type 0) → Type 0
EachSource bs P Q = (texts : List ℕ) (patterns : List Item → ℕ) → P (source_of bs texts patterns) → Q (source_of bs texts patterns)

pub record SomeLent (bs texts : List ℕ) (P : Source → Type 0) : Type 0 where
  pub patterns : List Item → ℕ
  pub holds : P (source_of bs texts patterns)

abbrev pub EachLent : (bs texts : List ℕ) → (Source → Type 0) → (Source → Type 0) → Type 0
EachLent bs texts P Q = (patterns : List Item → ℕ) → P (source_of bs texts patterns) → Q (source_of bs texts patterns)
