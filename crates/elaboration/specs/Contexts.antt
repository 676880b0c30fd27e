-- What a result is elaborated under. Document 02, C-14: a text is read "under the blocks before its own", "given 16,384 rows for all texts together".
use Rattle.std.specs.Prelude.{ℕ, List, [], ◌∷◌, ◌++◌, length}
use Rattle.grammar.specs.Table.{Definition}
use Rattle.grammar.specs.Written.{Written}
use Rattle.productions.specs.Normal.{normalized}
use Rattle.judgements.specs.Scopes.{Env, Scope}
use Rattle.texts.specs.Reading.{TextContext}

-- what stands before a block: the table's spellings, the environment that the blocks before it give, these blocks with a template for each result, and the
-- rows that their texts made
pub record Before : Type 0 where
  pub keywords : List (List ℕ)
  pub outsides : List (List ℕ)
  pub env : Env
  pub blocks : List (List Definition)
  pub used : ℕ

-- nothing stands before the first block
abbrev pub at_first : Written → Before
at_first t = record { keywords = t.keywords; outsides = t.outsides; env = []; blocks = []; used = 0 }

-- what stands behind a block that gives the signatures `own` and is elaborated to h, where so many rows are made
abbrev pub behind_block : Before → Env → List Definition → ℕ → Before
behind_block P own h used =
    record { keywords = P.keywords; outsides = P.outsides; env = own ++ P.env; blocks = P.blocks ++ (h ∷ []); used = used }

-- what the bodies of a block with the signatures `own` are sorted under
abbrev pub scope_after : Before → Env → Scope
scope_after P own = record { keywords = length P.keywords; outsides = length P.outsides; env = own ++ P.env }

-- what a text is read under where the texts before it made so many rows
abbrev pub context_of : Before → ℕ → TextContext
context_of P used = record { keywords = P.keywords; outsides = P.outsides; productions = normalized P.blocks; used = used }
