-- The phrase table as data: a sequence of grammars, its blocks, over keywords and outside names, with a root.
-- Document 01, "Phrase table"; 001, section 4.1: productions p, definitions with their operators a, grammars g, sequences gseq.
use Rattle.std.specs.Prelude.{ℕ, List}
use Rattle.kinds.specs.Kinds.{word_kind, number_kind, keyword_kind}
use Rattle.kinds.specs.TextKinds.{variable_kind}
use Rattle.grammar.specs.Sorts.{Signature}

-- a template: a variable of the alternative, an outside name as Var (001's global(x)) or as Label, a constructor applied, or a text's Unit (02, C-14)
mutual
  pub data Template : Type 0 where
    variable : ℕ → Template
    outside_var : ℕ → Template
    outside_label : ℕ → Template
    make : ℕ → Templates → Template
    unit : Template

  pub data Templates : Type 0 where
    none : Templates
    more : Template → Templates → Templates

-- a terminal reads one token: "x", ide(B), number (01's addition), or a pattern place of a sort (document 02, C-14), which reads a variable of it
pub data Terminal : Type 0 where
  keyword : ℕ → Terminal
  ide : ℕ → Terminal
  number : Terminal
  place : ℕ → Terminal

-- the kind of token that it reads
abbrev pub kind_of : Terminal → ℕ
kind_of (keyword k) = keyword_kind k
kind_of (ide s) = word_kind
kind_of number = number_kind
kind_of (place s) = variable_kind s

-- an item: a terminal, local, or a nonterminal applied to arguments
pub data Item : Type 0 where
  terminal : Terminal → Item
  local : Item
  call : ℕ → Templates → Item

-- an alternative: its items from the left, then its result
pub record AlternativeOf (R : Type 0) : Type 0 where
  pub items : List Item
  pub result : R

abbrev pub Alternative : Type 0
Alternative = AlternativeOf Template

-- 001, 3.2, the operators: == add, |== extend, := update
pub data Mode : Type 0 where
  add : Mode
  extend : Mode
  update : Mode

-- the definition of a nonterminal: one alternative or more
pub record DefinitionOf (R : Type 0) : Type 0 where
  pub nonterminal : ℕ
  pub mode : Mode
  pub signature : Signature
  pub alternatives : List (AlternativeOf R)

abbrev pub Definition : Type 0
Definition = DefinitionOf Template

pub record TableOf (R : Type 0) : Type 0 where
  pub keywords : List (List ℕ)
  pub outsides : List (List ℕ)
  pub blocks : List (List (DefinitionOf R))
  pub root : ℕ

abbrev pub Table : Type 0
Table = TableOf Template

-- what a scan goes by: a table's keywords and its outside names, each in table order, and the sorts of `$` variables (document 02, C-14), none for a formula
pub record Lexicon : Type 0 where
  pub keywords : List (List ℕ)
  pub outsides : List (List ℕ)
  pub variables : List ℕ
