-- The judgements of 001, section 4.1, over grammars as written, each with what it is elaborated to (⇝): the same with a template for each result.
-- Document 02, C-14. What has no result is in Judgements. `used` counts the rows that the texts before made; behind a part stands the count with its own.
use Rattle.std.specs.Prelude.{ℕ, ◌+◌, ◌≡◌, true, List, [], ◌∷◌, length}
use Rattle.grammar.specs.Sorts.{Signature, term}
use Rattle.grammar.specs.Table.{Template, Alternative, Definition, Table}
use Rattle.grammar.specs.Written.{WrittenResult, template, text, WrittenAlternative, WrittenDefinition, Written, with_alternatives}
use Rattle.tokens.specs.Variables.{dollars_below}
use Rattle.productions.specs.Normal.{normalized}
use Rattle.clashes.specs.Clashes.{Never, LeftRecursive, Clashes}
use Rattle.judgements.specs.Scopes.{Env, Scope}
use Rattle.judgements.specs.Judgements.{Newest, Fits, Sorted, Numbered, Defines, scope}
use Rattle.texts.specs.Reading.{TextRead}
use Rattle.texts.specs.ReadingRules.{ReadText, rows_read}
use Rattle.elaboration.specs.Contexts.{Before, at_first, behind_block, scope_after, context_of}

-- E; L ⊢ r : B ⇝ t: a result, where the sort B is asked; P has what stands before its block. A text is read from a nonterminal that the blocks before declare
-- without parameters, and these blocks can be read by their next token.
pub data ResultSorted (G : Scope) (P : Before) (L : List ℕ) (B used : ℕ) : WrittenResult → TextRead → Type 0 where
  by_template : {t : Template} {A : ℕ}
      → Sorted G.outsides L t A
      → Fits A B
      → ResultSorted G P L B used (template t) (record { template = t; used = used })
  by_text : {n : ℕ} {bs : List ℕ} {S : Signature} {t : Template}
      → Newest P.env n S
      → S.params ≡ []
      → dollars_below (length L) bs ≡ true
      → Never (LeftRecursive (normalized P.blocks))
      → Never (Clashes (normalized P.blocks))
      → (r : ReadText (context_of P used) L n bs t)
      → Fits S.result B
      → ResultSorted G P L B used (text n bs) (record { template = t; used = used + rows_read r })

-- p1 | p2 ⇝ q1 | q2: under the parameters each alternative numbers its variables, and its result has the sort
pub data Bodies (G : Scope) (P : Before) (S : Signature) : ℕ → List WrittenAlternative → List Alternative → ℕ → Type 0 where
  no_alternative : {used : ℕ} → Bodies G P S used [] [] used
  by_choice : {a : WrittenAlternative} {rest : List WrittenAlternative} {L : List ℕ} {r : TextRead} {others : List Alternative} {used used' : ℕ}
      → Numbered G S.params a.items L
      → ResultSorted G P L S.result used a.result r
      → Bodies G P S r.used rest others used'
      → Bodies G P S used (a ∷ rest) (record { items = a.items; result = r.template } ∷ others) used'

-- E ⊢ g ok ⇝ g': each body has the sort of its definition
pub data Ok (G : Scope) (P : Before) : ℕ → List WrittenDefinition → List Definition → ℕ → Type 0 where
  ok_empty : {used : ℕ} → Ok G P used [] [] used
  ok_definition : {d : WrittenDefinition} {ds : List WrittenDefinition} {choices : List Alternative} {es : List Definition} {used next used' : ℕ}
      → Bodies G P d.signature used d.alternatives choices next
      → Ok G P next ds es used'
      → Ok G P used (d ∷ ds) (with_alternatives d choices ∷ es) used'

-- ⊢ gseq ⇒ E ⇝ gseq': what stands behind the grammars of a sequence, from what stands before it on
pub data Sequence : Before → List (List WrittenDefinition) → Before → Type 0 where
  no_grammar : {P : Before} → Sequence P [] P
  by_grammar : {P P' : Before} {own : Env} {g : List WrittenDefinition} {h : List Definition} {gs : List (List WrittenDefinition)} {used : ℕ}
      → Defines P.env [] g own
      → Ok (scope_after P own) P P.used g h used
      → Sequence (behind_block P own h used) gs P'
      → Sequence P (g ∷ gs) P'

-- t ⇝ u: a table's sequence is derivable and elaborated so, the rest stays, and its root is defined, without parameters, of sort Term
pub record Elaborates (t : Written) (u : Table) : Type 0 where
  pub last : Before
  pub sequence : Sequence (at_first t) t.blocks last
  pub same_keywords : u.keywords ≡ t.keywords
  pub same_outsides : u.outsides ≡ t.outsides
  pub same_blocks : u.blocks ≡ last.blocks
  pub same_root : u.root ≡ t.root
  pub signature : Signature
  pub defined : Newest last.env u.root signature
  pub without : signature.params ≡ []
  pub of_term : signature.result ≡ term

-- the scope in which its bodies are sorted: its keywords, its outside names and its last environment
abbrev pub scope_of : {t : Written} {u : Table} → Elaborates t u → Scope
scope_of {t} e = scope (length t.keywords) (length t.outsides) e.last.env
