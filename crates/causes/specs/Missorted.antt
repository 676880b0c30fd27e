-- Where the sorts of a table fail, by rules: refusals 7, 8, 9 and 11, each at its place. Document 01, "Phrase table" and "Causes, by number".
-- 01, "Checks: .. then for each block 7 and 8, then its bodies, at each field 9 before 11; then the root 9 and 11": a part is reached if every part
-- that is tested before it passes, by the judgements of 001 (judgements/specs/Judgements); a part that is reached is refused by the first test that
-- it fails. Its place is the length of what is encoded before it.
use Rattle.std.specs.Prelude.{ℕ, ◌≤◌, ◌≡◌, List, [], ◌∷◌, ◌++◌, length}
use Rattle.answers.specs.declared.Refusal.{Refusal}
use Rattle.answers.specs.Refusals.{refusal}
use Rattle.grammar.specs.Sorts.{Signature, gives, term}
use Rattle.grammar.specs.Table.{Template, Templates, variable, outside_var, outside_label, make, more, keyword, Item, terminal, call, Alternative, add}
use Rattle.grammar.specs.Table.{Definition}
use Rattle.grammar.specs.Written.{WrittenResult, template, WrittenAlternative, WrittenDefinition, Written}
use Rattle.grammar.specs.Values.{Field, field, head_value}
use Rattle.grammar.specs.Encode.{field_bytes, spellings_then, items_then, alternatives_then, definitions_then, blocks_then}
use Rattle.judgements.specs.Scopes.{Env, Scope}
use Rattle.judgements.specs.Judgements.{Newest, Undeclared, Fits, Sorted, ItemSorted, Numbered, Defines}
use Rattle.elaboration.specs.Contexts.{Before, at_first, scope_after}
use Rattle.elaboration.specs.Elaboration.{Bodies, Ok, Sequence}

-- ------------------------------------------------------------------ 9: what is not defined

-- "nonterminal not defined in this or an earlier block; undefined keyword, name or variable"
-- in a template, where N outside names are defined and n variables are numbered already
mutual
  pub data Undefined (N n : ℕ) : Template → Type 0 where
    no_variable : {i : ℕ} → n ≤ i → Undefined N n (variable i)
    no_name : {x : ℕ} → N ≤ x → Undefined N n (outside_var x)
    no_label : {x : ℕ} → N ≤ x → Undefined N n (outside_label x)
    in_argument : {c : ℕ} {ts : Templates} → SomeUndefined N n ts → Undefined N n (make c ts)

  pub data SomeUndefined (N n : ℕ) : Templates → Type 0 where
    this_one : {t : Template} {ts : Templates} → Undefined N n t → SomeUndefined N n (more t ts)
    a_later_one : {t : Template} {ts : Templates} → SomeUndefined N n ts → SomeUndefined N n (more t ts)

-- in an item
pub data UndefinedItem (G : Scope) (n : ℕ) : Item → Type 0 where
  no_keyword : {k : ℕ} → G.keywords ≤ k → UndefinedItem G n (terminal (keyword k))
  no_nonterminal : {x : ℕ} {ts : Templates} → Undeclared G.env x → UndefinedItem G n (call x ts)
  in_arguments : {x : ℕ} {ts : Templates} → SomeUndefined G.outsides n ts → UndefinedItem G n (call x ts)

-- ------------------------------------------------------------------ one part

-- What is tested: the head of a definition, where E has the signatures of earlier blocks and `own` those before it in its block; an item or, where the
-- sort B is asked, a result, in a scope G where L has the sorts of the variables numbered already; the root. A result is elaborated under P, what stands
-- before its block, where the texts before it used so many rows.
pub data Part : Type 0 where
  head : (E own : Env) → WrittenDefinition → Part
  item : (G : Scope) (L : List ℕ) → Item → Part
  result : (G : Scope) (P : Before) (L : List ℕ) (B used : ℕ) → WrittenResult → Part
  root : (E : Env) → ℕ → Part

-- the refusal of a part at a place, by the first test that it fails
pub data Fails (at : ℕ) : Part → Refusal → Type 0 where
  -- "add of a number in use, in this or an earlier block"
  in_use : {E own : Env} {d : WrittenDefinition} {S : Signature}
      → d.mode ≡ add
      → Newest (own ++ E) d.nonterminal S
      → Fails at (head E own d) (refusal 7 at 0 0)
  -- "extend or update: defined already in this block, no earlier one, or other signature"
  again : {E own : Env} {d : WrittenDefinition} {S : Signature}
      → ¬ (d.mode ≡ add)
      → Newest own d.nonterminal S
      → Fails at (head E own d) (refusal 8 at 0 0)
  no_earlier : {E own : Env} {d : WrittenDefinition} → ¬ (d.mode ≡ add) → Undeclared E d.nonterminal → Fails at (head E own d) (refusal 8 at 0 0)
  other_signature : {E own : Env} {d : WrittenDefinition} {S : Signature}
      → ¬ (d.mode ≡ add)
      → Newest E d.nonterminal S
      → ¬ (S ≡ d.signature)
      → Fails at (head E own d) (refusal 8 at 0 0)
  -- "sort or argument count wrong": all is defined, and no judgement gives the item a sort, or the result one that fits
  undefined_item : {G : Scope} {L : List ℕ} {i : Item} → UndefinedItem G (length L) i → Fails at (item G L i) (refusal 9 at 0 0)
  unsorted_item : {G : Scope} {L : List ℕ} {i : Item}
      → ¬ UndefinedItem G (length L) i
      → ((A : ℕ) → ¬ ItemSorted G L i A)
      → Fails at (item G L i) (refusal 11 at 0 0)
  undefined_result : {G : Scope} {P : Before} {L : List ℕ} {B used : ℕ} {t : Template}
      → Undefined G.outsides (length L) t
      → Fails at (result G P L B used (template t)) (refusal 9 at 0 0)
  unsorted_result : {G : Scope} {P : Before} {L : List ℕ} {B used : ℕ} {t : Template}
      → ¬ Undefined G.outsides (length L) t
      → ((A : ℕ) → Sorted G.outsides L t A → ¬ Fits A B)
      → Fails at (result G P L B used (template t)) (refusal 11 at 0 0)
  -- "root with parameters or not Term"
  undefined_root : {E : Env} {n : ℕ} → Undeclared E n → Fails at (root E n) (refusal 9 at 0 0)
  unfit_root : {E : Env} {n : ℕ} {S : Signature} → Newest E n S → ¬ (S ≡ gives [] term) → Fails at (root E n) (refusal 11 at 0 0)

-- ------------------------------------------------------------------ part by part

-- a list at one of its members
pub record At {A : Type 0} (xs : List A) : Type 0 where
  pub before : List A
  pub this : A
  pub behind : List A
  pub whole : xs ≡ before ++ (this ∷ behind)

-- what is tested after some items of an alternative: the next item; behind all of them the result, where the sort B is asked
pub data Next (G : Scope) (P : Before) (L : List ℕ) (B used : ℕ) (a : WrittenAlternative) : List Item → Part → Type 0 where
  next_item : (i : At a.items) → Next G P L B used a i.before (item G L i.this)
  the_result : Next G P L B used a a.items (result G P L B used a.result)

module _ (t : Written) where
  -- blocks from the first on are derived, and P stands behind them
  abbrev pub Derived : List (List WrittenDefinition) → Before → Type 0
  Derived = Sequence (at_first t)

  -- the place behind the keywords, the outside names, some blocks, and some fields of the next
  abbrev pub place_behind : List (List WrittenDefinition) → List Field → ℕ
  place_behind bs follow = length (field_bytes (spellings_then 1 t.keywords (spellings_then 2 t.outsides (blocks_then bs follow))))

  -- that of a definition's head, and that behind some items of an alternative
  abbrev pub head_place : (b : At t.blocks) → At b.this → ℕ
  head_place b d = place_behind b.before (field 3 [] ∷ definitions_then d.before [])

  abbrev pub body_place : (b : At t.blocks) (d : At b.this) → At d.this.alternatives → List Item → ℕ
  body_place b d a is =
      place_behind b.before
      (field 3 [] ∷ definitions_then d.before (field 4 (head_value d.this) ∷ alternatives_then a.before (field 5 [] ∷ items_then is [])))

  -- The place of a part that is reached. All blocks before its own are derived. For a head, so are the heads before it in its block; for what stands in a
  -- body, all heads of its block, the bodies and the alternatives before its own, and the items before it. For the root, all blocks.
  pub data Reaches : ℕ → Part → Type 0 where
    at_head : {P : Before} {own : Env} (b : At t.blocks) (d : At b.this)
        → Derived b.before P
        → Defines P.env [] d.before own
        → Reaches (head_place b d) (head P.env own d.this)
    in_body : {P : Before} {own : Env} {L : List ℕ} {is : List Item} {p : Part} {es : List Definition} {others : List Alternative} {next used : ℕ}
        (b : At t.blocks) (d : At b.this) (a : At d.this.alternatives)
        → Derived b.before P
        → Defines P.env [] b.this own
        → Ok (scope_after P own) P P.used d.before es next
        → Bodies (scope_after P own) P d.this.signature next a.before others used
        → Numbered (scope_after P own) d.this.signature.params is L
        → Next (scope_after P own) P L d.this.signature.result used a.this is p
        → Reaches (body_place b d a is) p
    at_root : {P : Before} → Derived t.blocks P → Reaches (place_behind t.blocks []) (root P.env t.root)

  pub data Missorted : Refusal → Type 0 where
    fails : {at : ℕ} {p : Part} {r : Refusal} → Reaches at p → Fails at p r → Missorted r
