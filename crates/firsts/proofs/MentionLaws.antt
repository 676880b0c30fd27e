-- Laws of the loops that note what productions mention: over the items of an alternative, and over the productions.
use Rattle.std.specs.Prelude.{None, Some}
use Prim.Native.Nat.{ℕ, ◌+◌, ◌-◌, ◌<◌, ◌≤◌}
use mathlib.Core.Path.{◌≡◌, refl, sym, ap, ◌∙◌}
use mathlib.Core.Bool.{Bool, false, ◌&&◌, and-true, and-false, and_assoc}
use mathlib.Core.List.{List, [], ◌∷◌}
use lib.Bits.{bit_or, or_zero_r}
use lib.ListN.{length, get_or, set, replicate, length-set}
use Rattle.kinds.specs.Kinds.{has_kind, only}
use Rattle.grammar.specs.Table.{keyword, ide, number, place, kind_of, Item, terminal, local, call}
use Rattle.grammar.specs.Lookup.{field_at, fields_at}
use Rattle.productions.specs.Index.{items_of, production_at, productions_by}
use Rattle.productions.specs.declared.Terminal.{Terminal}
use Rattle.productions.specs.declared.Symbol.{Symbol}
use Rattle.productions.specs.declared.Symbol.TheVariants.{Read, Local, Call}
use Rattle.productions.specs.Symbols.{terminal_in, symbol_of, with_symbol, symbol_step}
use Rattle.productions.proofs.SymbolLaws.{stepped, step_less}
use Rattle.firsts.specs.declared.Gathered.{Gathered}
use Rattle.firsts.specs.FirstSets.{is_nullable, all_nullable, opening_of, call_of}
use Rattle.firsts.specs.Mentions.{mentioned, noted, notes}
use Rattle.firsts.specs.Needs.{every_one, with_mention, mentioned_all, NoteTaken, NotesLent, Noted}
use Rattle.firsts.proofs.ItemsLaws.{nothing_found}
use Rattle.firsts.proofs.StepLaws.{Over, over_start, over_next, over_end}

-- ------------------------------------------------------------------ one item

module _ (found : Gathered) where
  -- what is mentioned looks at the symbol alone
  mention_by : (item : Item) → with_mention (with_symbol (symbol_of item)) found ≡ with_mention item found
  mention_by (terminal (keyword k)) = refl
  mention_by (terminal (ide s)) = refl
  mention_by (terminal number) = refl
  mention_by (terminal (place s)) = refl
  mention_by local = refl
  mention_by (call n ts) = refl

  -- a terminal gives its kind
  pub mention_read : {symbol : Symbol} {read : Terminal} → symbol ≡ Read read → {kind set more : ℕ} → kind ≡ kind_of (terminal_in read) → set ≡ only kind
      → more ≡ bit_or found.kinds set
      → record { kinds = more; calls = found.calls; nullable = false } ≡ with_mention (with_symbol symbol) found
  mention_read es ek e em = rw (es, em, e, ek, or_zero_r found.calls, and-false found.nullable) refl

  -- a local gives nothing
  pub mention_local : {symbol : Symbol} → symbol ≡ Local → found ≡ with_mention (with_symbol symbol) found
  mention_local es = rw (es, or_zero_r found.kinds, or_zero_r found.calls, and-true found.nullable) refl

  module _ {symbol : Symbol} {nonterminal : ℕ} (es : symbol ≡ Call nonterminal) {own called : ℕ} (eo : own ≡ only nonterminal)
      (ec : called ≡ bit_or found.calls own) {test : Bool} (et : test ≡ has_kind every_one nonterminal) where
    -- a call gives its nonterminal; one that there cannot be is never nullable
    pub mention_call : record { kinds = found.kinds; calls = called; nullable = found.nullable && test } ≡ with_mention (with_symbol symbol) found
    mention_call = rw (es, or_zero_r found.kinds, ec, eo, et) refl

-- ------------------------------------------------------------------ all items

-- what is mentioned with more items, behind what was mentioned before
abbrev mentioned_with : List Item → Gathered → Gathered
mentioned_with is found =
    record {
      kinds = mentioned opening_of is found.kinds;
      calls = mentioned call_of is found.calls;
      nullable = found.nullable && all_nullable every_one is;
    }

with_one : (i : Item) (is : List Item) (found : Gathered) → mentioned_with (i ∷ is) found ≡ mentioned_with is (with_mention i found)
unfolding mentioned all_nullable
with_one i is found = rw (and_assoc found.nullable (is_nullable every_one i) (all_nullable every_one is)) refl

-- what is mentioned with the items from `at` on is what all mention
pub record Mentioning (bs : List ℕ) (start : ℕ) (found : Gathered) (at : ℕ) : Type 0 where
  -- what is left gives what the whole gives
  pub rest : mentioned_with (items_of (fields_at bs at)) found ≡ mentioned_all (items_of (fields_at bs start))

-- nothing is mentioned at first
pub mention_start : (bs : List ℕ) (start : ℕ) → Mentioning bs start nothing_found start
mention_start bs start = record { rest = refl }

module _ {bs : List ℕ} {start : ℕ} {found : Gathered} {at : ℕ} (mentioning : Mentioning bs start found at) where
  mention_none : items_of (fields_at bs at) ≡ [] → found ≡ mentioned_all (items_of (fields_at bs start))
  unfolding mentioned all_nullable
  mention_none e = sym (rw (e, and-true found.nullable) refl) ∙ mentioning.rest

  -- no item is left
  pub mention_done : None ≡ symbol_step bs (field_at bs at) → found ≡ mentioned_all (items_of (fields_at bs start))
  mention_done e = mention_none (stepped bs at e)

  module _ {symbol : Symbol} {after : ℕ} (equal : Some (symbol, after) ≡ symbol_step bs (field_at bs at)) where
    -- behind an item less is left
    pub mention_less : length bs - after < length bs - at
    mention_less = step_less bs at equal

    -- past an item
    pub mention_next : {more : Gathered} → more ≡ with_mention (with_symbol symbol) found → Mentioning bs start more after
    mention_next em =
        let item : Item = (stepped bs at equal).item in
        let finds = rw (stepped bs at equal).symbol at em ∙ mention_by found item in
        record { rest = rw finds (sym (with_one item _ found) ∙ rw (stepped bs at equal).items at mentioning.rest) }

-- ------------------------------------------------------------------ the productions

-- one production is noted
pub note_taken : (bs : List ℕ) (owner start : ℕ) (kinds calls : List ℕ) {found : Gathered} → found ≡ mentioned_all (items_of (fields_at bs start))
    → {kinds' calls' : List ℕ} → kinds' ≡ set kinds owner (bit_or (get_or kinds owner 0) found.kinds)
    → calls' ≡ set calls owner (bit_or (get_or calls owner 0) found.calls)
    → NoteTaken bs owner start kinds calls kinds' calls' found
unfolding noted production_at
note_taken bs owner start kinds calls ef ek ec = record { found_is = ef; kinds_are = ek ∙ rw ef refl; calls_are = ec ∙ rw ef refl }

-- what the productions before number `turn` read and call is noted
pub record Noting (bs owners starts : List ℕ) (many : ℕ) (kinds₀ calls₀ : List ℕ) (turn : ℕ) (kinds calls : List ℕ) : Type 0 where
  -- the array of kinds keeps its length
  pub kinds_many : length kinds ≡ length kinds₀
  -- and so does that of calls
  pub calls_many : length calls ≡ length calls₀
  -- the productions left lead to what all read
  pub reading : Over (noted opening_of) bs owners starts many (replicate 64 0) turn kinds
  -- and to what all call
  pub calling : Over (noted call_of) bs owners starts many (replicate 64 0) turn calls

-- nothing is noted at first
pub noting_start : (bs owners starts : List ℕ) (many : ℕ) {kinds calls : List ℕ} → NotesLent kinds calls
    → Noting bs owners starts many kinds calls 0 kinds calls
noting_start bs owners starts many lent =
    record {
      kinds_many = refl;
      calls_many = refl;
      reading = rw lent.no_kinds (over_start (noted opening_of) bs owners starts many (replicate 64 0));
      calling = rw lent.no_calls (over_start (noted call_of) bs owners starts many (replicate 64 0));
    }

module _ {bs owners starts : List ℕ} {many : ℕ} {kinds₀ calls₀ : List ℕ} {turn : ℕ} {kinds calls : List ℕ}
    (noting : Noting bs owners starts many kinds₀ calls₀ turn kinds calls) where
  -- one production more
  pub noting_next : turn < many → {owner start : ℕ} → owner ≡ get_or owners turn 0 → start ≡ get_or starts turn 0 → {found : Gathered} {kinds' calls' : List ℕ}
      → NoteTaken bs owner start kinds calls kinds' calls' found
      → Noting bs owners starts many kinds₀ calls₀ (turn + 1) kinds' calls'
  unfolding noted production_at
  noting_next below {owner} eo es note =
      record {
        kinds_many = ap length note.kinds_are ∙ length-set kinds owner _ ∙ noting.kinds_many;
        calls_many = ap length note.calls_are ∙ length-set calls owner _ ∙ noting.calls_many;
        reading = over_next noting.reading below eo es note.kinds_are;
        calling = over_next noting.calling below eo es note.calls_are;
      }

  -- all productions are noted
  pub noting_end : many ≤ turn → Noted (productions_by many bs owners starts) kinds calls
  unfolding notes
  noting_end h = record { kinds_are = over_end noting.reading h; calls_are = over_end noting.calling h }
