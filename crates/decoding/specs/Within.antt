-- Tables within the counts, spellings and ranges of document 01, "Phrase table".
use Rattle.std.specs.Prelude.{ℕ, zero, suc, ◌+◌, ◌≤◌, ◌<◌, ◌≡◌, true, List, [], ◌∷◌, length}
use Rattle.spellings.specs.Bytes.{is_word, is_keyword}
use Rattle.grammar.specs.Sorts.{arity}
use Rattle.grammar.specs.Table.{Template, Templates, variable, outside_var, outside_label, make, none, more, Terminal, keyword, ide, number}
use Rattle.grammar.specs.Table.{Item, terminal, local, call}
use Rattle.grammar.specs.Written.{WrittenResult, template, WrittenAlternative, WrittenDefinition, Written}
use Rattle.grammar.specs.Encode.{encode}
use Rattle.grammar.specs.Limits.{most}

-- every member has the property
pub data Each {A : Type 0} (P : A → Type 0) : List A → Type 0 where
  each_none : Each P []
  each_more : {x : A} {xs : List A} → P x → Each P xs → Each P (x ∷ xs)

-- x is a member
pub data Among {A : Type 0} : List A → A → Type 0 where
  among_first : {x : A} {xs : List A} → Among (x ∷ xs) x
  among_later : {x y : A} {xs : List A} → Among xs x → Among (y ∷ xs) x

-- no spelling stands twice
pub data Different : List (List ℕ) → Type 0 where
  different_none : Different []
  different_more : {s : List ℕ} {rest : List (List ℕ)} → Each (λ r. s ≡ r → ⊥) rest → Different rest → Different (s ∷ rest)

-- how many templates there are
unfoldable pub count : Templates → ℕ
count none = zero
count (more t ts) = suc (count ts)

-- 00 to 0F a variable; 10 and 11 a byte that numbers a name; 20 to 27 a constructor with its arguments; a Unit is not written
mutual
  pub data TemplateWithin : Template → Type 0 where
    variable_within : {i : ℕ} → i ≤ 0x0F → TemplateWithin (variable i)
    outside_within : {n : ℕ} → n < 256 → TemplateWithin (outside_var n)
    label_within : {n : ℕ} → n < 256 → TemplateWithin (outside_label n)
    make_within : {c : ℕ} {ts : Templates} → 0x20 ≤ c → c ≤ 0x27 → count ts ≡ arity c → TemplatesWithin ts
        → TemplateWithin (make c ts)

  pub data TemplatesWithin : Templates → Type 0 where
    none_within : TemplatesWithin none
    more_within : {t : Template} {ts : Templates} → TemplateWithin t → TemplatesWithin ts → TemplatesWithin (more t ts)

-- a keyword's number is a byte, an identifier's sort 1 to 3; a pattern place is not written
pub data TerminalWithin : Terminal → Type 0 where
  keyword_within : {k : ℕ} → k < 256 → TerminalWithin (keyword k)
  ide_within : {s : ℕ} → 1 ≤ s → s ≤ 3 → TerminalWithin (ide s)
  number_within : TerminalWithin number

-- 06: a terminal, a fresh name, or a nonterminal with arguments
pub data ItemWithin : Item → Type 0 where
  terminal_within : {t : Terminal} → TerminalWithin t → ItemWithin (terminal t)
  local_within : ItemWithin local
  call_within : {n : ℕ} {ts : Templates} → n < most.nonterminals → TemplatesWithin ts → ItemWithin (call n ts)

-- 07: a template; the layout passes no text
pub data ResultWithin : WrittenResult → Type 0 where
  template_within : {t : Template} → TemplateWithin t → ResultWithin (template t)

-- 05 to 07
pub record AlternativeWithin (a : WrittenAlternative) : Type 0 where
  pub items : Each ItemWithin a.items
  pub item_count : length a.items ≤ most.items
  pub result : ResultWithin a.result

-- 04: sorts 0 to 6, one alternative or more
pub record DefinitionWithin (d : WrittenDefinition) : Type 0 where
  pub nonterminal : d.nonterminal < most.nonterminals
  pub result : d.signature.result ≤ 6
  pub params : Each (λ s. s ≤ 6) d.signature.params
  pub param_count : length d.signature.params ≤ most.parameters
  pub alternatives : Each AlternativeWithin d.alternatives
  pub alternative_count : 1 ≤ length d.alternatives

-- the alternatives of a block, and of all blocks
unfoldable pub alternatives_of : List WrittenDefinition → ℕ
alternatives_of [] = 0
alternatives_of (d ∷ ds) = length d.alternatives + alternatives_of ds

unfoldable pub alternatives_in : List (List WrittenDefinition) → ℕ
alternatives_in [] = 0
alternatives_in (b ∷ bs) = alternatives_of b + alternatives_in bs

-- The spellings under each of 01 and 02, the counts, the ranges of every part, and the length of the whole, which bounds that of every value.
pub record Within (t : Written) : Type 0 where
  pub keywords : Each (λ k. is_keyword k ≡ true) t.keywords
  pub keywords_differ : Different t.keywords
  pub keyword_count : length t.keywords ≤ most.keywords
  pub outsides : Each (λ o. is_word o ≡ true) t.outsides
  pub outsides_differ : Different t.outsides
  pub outside_count : length t.outsides ≤ most.outsides
  pub blocks : Each (Each DefinitionWithin) t.blocks
  pub block_count : length t.blocks ≤ most.blocks
  pub alternative_count : alternatives_in t.blocks ≤ most.alternatives
  pub root : t.root < most.nonterminals
  pub size : length (encode t) ≤ most.bytes
