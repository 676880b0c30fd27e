-- The static check of a grammar sequence: its results, its alternatives and its blocks, with the order and places of refusals 7, 8, 9 and 11, and for texts of
-- 12, 13 and 26 to 28 (document 02, C-14). A check answers what it checked with a template for each result. 001, section 4.1: E ⊢ g ok, and ⊢ gseq ⇒ E. `at` is
-- always the place of the part's first field.
use Rattle.std.specs.Prelude.{ℕ, ◌+◌, ◌&&◌, List, [], ◌∷◌, ◌++◌}
use lib.{Dec.eqb, ListN.length}
use Rattle.answers.specs.Checked.{Checked, ok, ◌>>=◌, ◌>>◌, need}
use Rattle.grammar.specs.Sorts.{Signature, term}
use Rattle.grammar.specs.SortTests.{fits}
use Rattle.grammar.specs.Table.{Alternative, Definition, Table}
use Rattle.grammar.specs.Written.{WrittenResult, template, text, WrittenAlternative, WrittenDefinition, Written, with_alternatives}
use Rattle.grammar.specs.Values.{head_value}
use Rattle.tokens.specs.Variables.{dollars_below}
use Rattle.tokens.specs.Scan.{scan}
use Rattle.productions.specs.Normal.{normalized}
use Rattle.clashes.specs.CheckFirsts.{check_firsts}
use Rattle.judgements.specs.Sizes.{field_size, spellings_size, items_size, alternative_size, definition_size, definitions_size, blocks_size}
use Rattle.judgements.specs.Scopes.{Env, Scope}
use Rattle.judgements.specs.CheckSorts.{is_defined, signature_of, collect, is_closed, sort_of, is_sorted, check_items}
use Rattle.texts.specs.Reading.{lexicon_for, TextRead, check_reading}
use Rattle.elaboration.specs.Contexts.{Before, at_first, behind_block, scope_after, context_of}

-- ------------------------------------------------------------------ E; L ⊢ r : B ⇝ t, refusals 9 and 11

-- what some part is elaborated to, with the rows that all texts up to its end made
pub record Elaborated (A : Type 0) : Type 0 where
  pub value : A
  pub used : ℕ

-- nothing yet, and one more
abbrev pub none_yet : {A : Type 0} → ℕ → Elaborated (List A)
none_yet used = record { value = []; used = used }

abbrev pub and_then : {A : Type 0} → Elaborated (List A) → A → ℕ → Elaborated (List A)
and_then done x used = record { value = done.value ++ (x ∷ []); used = used }

-- a text read from n where the sort B is asked, in an alternative whose variables have the sorts L: 9 for the nonterminal and each `$`, 11 if it has
-- parameters, 12 and 13 of the blocks before, then the reading
unfoldable pub check_text : Before → List ℕ → ℕ → ℕ → ℕ → ℕ → List ℕ → Checked TextRead
check_text P L B used at n bs =
    need (is_defined P.env n && dollars_below (length L) bs) 9 at
    >> need (eqb (length (signature_of P.env n).params) 0) 11 at
    >> check_firsts (normalized P.blocks)
    >> check_reading (context_of P used) n (signature_of P.env n).result B at (scan (lexicon_for (context_of P used) L n) bs)

-- a result where the sort B is asked
abbrev pub check_result : Scope → Before → List ℕ → ℕ → ℕ → ℕ → WrittenResult → Checked TextRead
check_result G P L B used at (template t) =
    need (is_closed t G (length L)) 9 at >> need (is_sorted t L && fits (sort_of t L) B) 11 at >> ok (record { template = t; used = used })
check_result G P L B used at (text n bs) = check_text P L B used at n bs

unfoldable pub check_alternative : Scope → Before → Signature → ℕ → ℕ → WrittenAlternative → Checked (Elaborated Alternative)
check_alternative G P S used at a =
    check_items G S.params (at + 3) a.items
    >>= λ L. check_result G P L S.result used (at + 3 + items_size a.items) a.result
    >>= λ r. ok (record { value = record { items = a.items; result = r.template }; used = r.used })

-- `done` has what was checked before
unfoldable pub check_alternatives :
    Scope → Before → Signature → Elaborated (List Alternative) → ℕ → List WrittenAlternative → Checked (Elaborated (List Alternative))
check_alternatives G P S done at [] = ok done
check_alternatives G P S done at (a ∷ rest) =
    check_alternative G P S done.used at a >>= λ b. check_alternatives G P S (and_then done b.value b.used) (at + alternative_size a) rest

-- ------------------------------------------------------------------ E ⊢ g ok, and ⊢ gseq ⇒ E

unfoldable pub check_bodies : Scope → Before → Elaborated (List Definition) → ℕ → List WrittenDefinition → Checked (Elaborated (List Definition))
check_bodies G P done at [] = ok done
check_bodies G P done at (d ∷ ds) =
    check_alternatives G P d.signature (none_yet done.used) (at + field_size (head_value d)) d.alternatives
    >>= λ e. check_bodies G P (and_then done (with_alternatives d e.value) e.used) (at + definition_size d) ds

-- what stands behind the blocks
unfoldable pub check_blocks : Before → ℕ → List (List WrittenDefinition) → Checked Before
check_blocks P at [] = ok P
check_blocks P at (b ∷ bs) =
    collect P.env [] (at + 3) b
    >>= λ own. check_bodies (scope_after P own) P (none_yet P.used) (at + 3) b
    >>= λ e. check_blocks (behind_block P own e.value e.used) (at + 3 + definitions_size b) bs

-- the root is defined, has no parameters and gives a Term
unfoldable pub check_root : Env → ℕ → ℕ → Checked (Unit {0})
check_root E at n =
    need (is_defined E n) 9 at >> need (eqb (length (signature_of E n).params) 0 && eqb (signature_of E n).result term) 11 at

-- the whole table
unfoldable pub check_sorts : Written → Checked Table
check_sorts t =
    let first : ℕ = spellings_size t.keywords + spellings_size t.outsides in
    check_blocks (at_first t) first t.blocks
    >>= λ P. check_root P.env (first + blocks_size t.blocks) t.root
    >> ok (record { keywords = t.keywords; outsides = t.outsides; blocks = P.blocks; root = t.root })
