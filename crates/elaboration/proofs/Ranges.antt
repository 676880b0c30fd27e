-- What the check of sorts asks of a table before it: the ranges and counts that a table within the layout has, and texts no longer than a formula, none where a
-- Unit is asked: no template has that sort.
use Prim.Native.Nat.{ℕ, ◌<◌, ◌≤◌}
use mathlib.Core.List.{List}
use lib.ListN.{length}
use Rattle.grammar.specs.Limits.{most}
use Rattle.grammar.specs.Table.{Template}
use Rattle.grammar.specs.Written.{WrittenResult, template, text, WrittenAlternative, WrittenDefinition, Written}
use Rattle.decoding.specs.Within.{Each, each_none, each_more, TemplateWithin, ItemWithin, ResultWithin, template_within, AlternativeWithin, DefinitionWithin}
use Rattle.decoding.specs.Within.{Within}
use Rattle.tokens.specs.Tokens.{longest_formula}

-- A result: a template within the ranges, or a text that can be scanned.
pub data ResultFine : WrittenResult → Type 0 where
  template_fine : {t : Template} → TemplateWithin t → ResultFine (template t)
  text_fine : {n : ℕ} {bs : List ℕ} → length bs ≤ longest_formula → ResultFine (text n bs)

-- An alternative.
pub record AlternativeFine (a : WrittenAlternative) : Type 0 where
  -- its items are within the ranges
  pub items : Each ItemWithin a.items
  -- they are few
  pub item_count : length a.items ≤ most.items
  -- its result
  pub result : ResultFine a.result

-- The parameters of a definition and its result: sorts, and few.
pub record HeadFine (d : WrittenDefinition) : Type 0 where
  -- nonterminals are few
  pub nonterminal : d.nonterminal < most.nonterminals
  -- the result is a sort
  pub result : d.signature.result ≤ 6
  -- and so is each parameter
  pub params : Each (λ s. s ≤ 6) d.signature.params
  -- there are four at most
  pub param_count : length d.signature.params ≤ most.parameters

-- A definition.
pub record DefinitionFine (d : WrittenDefinition) : Type 0 where
  -- its head
  pub head : HeadFine d
  -- each of its alternatives
  pub alternatives : Each AlternativeFine d.alternatives

-- A table.
pub record TableFine (t : Written) : Type 0 where
  -- keywords are few
  pub keyword_count : length t.keywords ≤ most.keywords
  -- and so are outside names
  pub outside_count : length t.outsides ≤ most.outsides
  -- each definition
  pub blocks : Each (Each DefinitionFine) t.blocks

each_finer : {A : Type 0} {P Q : A → Type 0} → ((x : A) → P x → Q x) → {xs : List A} → Each P xs → Each Q xs
each_finer f each_none = each_none
each_finer f (each_more {x = x} h hs) = each_more (f x h) (each_finer f hs)

result_fine : (r : WrittenResult) → ResultWithin r → ResultFine r
result_fine (template t) (template_within w) = template_fine w
result_fine (text _ _) x = elim x [ ]

alternative_fine : (a : WrittenAlternative) → AlternativeWithin a → AlternativeFine a
alternative_fine a w = record { items = w.items; item_count = w.item_count; result = result_fine a.result w.result }

-- A definition within the ranges is fine.
pub definition_fine : (d : WrittenDefinition) → DefinitionWithin d → DefinitionFine d
definition_fine d w =
    record {
      head = record { nonterminal = w.nonterminal; result = w.result; params = w.params; param_count = w.param_count };
      alternatives = each_finer alternative_fine w.alternatives;
    }

-- So are blocks,
pub blocks_fine : {gs : List (List WrittenDefinition)} → Each (Each DefinitionWithin) gs → Each (Each DefinitionFine) gs
blocks_fine = each_finer (λ g. each_finer definition_fine)

-- and a table.
pub table_fine : {t : Written} → Within t → TableFine t
table_fine w =
    record { keyword_count = w.keyword_count; outside_count = w.outside_count; blocks = blocks_fine w.blocks }
