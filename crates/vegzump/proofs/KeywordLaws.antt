-- The keywords that count under a passed table, by rules; and tables of which every keyword counts.
use Prim.Native.Nat.{ℕ, ◌+◌, ◌<◌}
use mathlib.Core.Path.{◌≡◌, refl, sym, ap, ◌∙◌}
use mathlib.Core.Bool.{Bool, true, false}
use mathlib.Core.Logic.{◌↔◌}
use mathlib.Core.List.{List, []}
use native.Mathlib.Decide.{dec_lt}
use native.Mathlib.Omega.{arith}
use lib.ListN.{length, get_or, get_or-eq_default}
use Rattle.kinds.specs.Kinds.{keyword_kind, has_kind}
use Rattle.answers.specs.Checked.{Checked, ok, bad, ◌>>=◌, ◌>>◌}
use Rattle.answers.specs.Refusals.{refusal}
use Rattle.grammar.specs.Table.{Table}
use Rattle.grammar.specs.Written.{Written}
use Rattle.grammar.specs.Encode.{encode}
use Rattle.decoding.specs.Decode.{decode}
use Rattle.decoding.specs.Within.{Different, Within}
use Rattle.decoding.proofs.Split.{Bytes}
use Rattle.decoding.proofs.LayoutTheorems.{decode_exactly}
use Rattle.keywords.proofs.KeptLaws.{kept_many, kept_at, all_kept}
use Rattle.elaboration.specs.CheckSequence.{check_sorts}
use Rattle.elaboration.specs.Elaboration.{Elaborates}
use Rattle.elaboration.proofs.SortTheorems.{sorts_exactly}
use Rattle.productions.specs.Normal.{Production, normalized}
use Rattle.firsts.specs.Reach.{kinds_reached}
use Rattle.reach.specs.Reached.{KeywordReached}
use Rattle.reach.proofs.Exactly.{keywords_exactly}
use Rattle.clashes.specs.CheckFirsts.{check_firsts}
use Rattle.checker.specs.Keywords.{lexicon_of_table}
use Rattle.checker.specs.Syntax.{Syntax, syntax_of}
use Rattle.checker.specs.Check.{passed_table}
use Rattle.tokens.specs.Tiling.{FirstAt, NotIn}
use Rattle.terms.specs.Term.{Name, Term}
use Rattle.portions.specs.Portions.{portions_of, are_counts}
use Rattle.meaning.specs.Expand.{Expanded, refused, checked_first, expand_by}
use Rattle.handover.proofs.Naming.{different_once}
use Rattle.vegzump.specs.Portions.{portions}
use Rattle.vegzump.specs.EveryKeyword.{syntax_every, passed_every, expand_every, portions_every}

-- ------------------------------------------------------------------ a table

module _ (table : Table) where
  abbrev g : List Production
  g = normalized table.blocks

  abbrev kinds : ℕ
  kinds = kinds_reached g table.root

  -- each keyword keeps its number
  pub numbers_kept : length (lexicon_of_table table).keywords ≡ length table.keywords
  numbers_kept = kept_many kinds 0 table.keywords

  spelled_at : (k : ℕ) (counts : Bool) → has_kind kinds (keyword_kind k) ≡ counts
      → get_or (lexicon_of_table table).keywords k [] ≡ elim counts as (λ b. List ℕ) [ true ↦ get_or table.keywords k [] | false ↦ [] ]
  spelled_at k counts t = let z : 0 + k ≡ k = omega arith in kept_at kinds 0 table.keywords k counts (rw z t)

  -- one that is reached has its spelling
  reached_spelled : (k : ℕ) → KeywordReached g table.root k → get_or (lexicon_of_table table).keywords k [] ≡ get_or table.keywords k []
  reached_spelled k r = spelled_at k true ((keywords_exactly g table.root k).1 r)

  -- one that has a spelling is reached
  spelled_reached : {s : List ℕ} → 0 < length s → (k : ℕ) → get_or (lexicon_of_table table).keywords k [] ≡ s
      → KeywordReached g table.root k × (get_or table.keywords k [] ≡ s)
  spelled_reached {s} some k e = by (has_kind kinds (keyword_kind k)) refl
    where
      by : (test : Bool) → has_kind kinds (keyword_kind k) ≡ test → KeywordReached g table.root k × (get_or table.keywords k [] ≡ s)
      by true t =
          let same : get_or table.keywords k [] ≡ s = sym (spelled_at k true t) ∙ e in
          ((keywords_exactly g table.root k).0 t, same)
      by false t = let none : [] ≡ s = sym (spelled_at k false t) ∙ e in absurd (omega (arith, ap length none))

  -- a spelling of one byte or more is that of keyword k exactly if keyword k is reached and spelled so
  pub keyword_exactly : Different table.keywords → (s : List ℕ) → 0 < length s → (k : ℕ)
      → FirstAt s (lexicon_of_table table).keywords k ↔ (KeywordReached g table.root k × (get_or table.keywords k [] ≡ s))
  keyword_exactly differ s some k = (λ f. spelled_reached some k f.equal, λ r. first r.0 r.1)
    where
      inside : (j : ℕ) → get_or table.keywords j [] ≡ s → j < length table.keywords
      inside j e = by (dec_lt j (length table.keywords))
        where
          by : Dec (j < length table.keywords) → j < length table.keywords
          by (yes l) = l
          by (no l) = let none : [] ≡ s = sym (get_or-eq_default table.keywords [] {n = j} (omega arith)) ∙ e in absurd (omega (arith, ap length none))

      first : KeywordReached g table.root k → get_or table.keywords k [] ≡ s → FirstAt s (lexicon_of_table table).keywords k
      first r e =
          record {
            there = omega (arith, inside k e, numbers_kept);
            equal = reached_spelled k r ∙ e;
            none_before =
                λ j l q.
                let other = (spelled_reached some j q).1 in
                omega (arith, l, different_once differ j k (inside j other) (inside k e) (other ∙ sym e));
          }

  -- a spelling that no keyword has that is reached is no keyword's
  pub given_back : (s : List ℕ) → 0 < length s → ((k : ℕ) → KeywordReached g table.root k → get_or table.keywords k [] ≡ s → ⊥)
      → NotIn s (lexicon_of_table table).keywords
  given_back s some none = record { none = λ j l e. let r = spelled_reached some j e in none j r.0 r.1 }

  -- every keyword is reached
  abbrev pub AllReached : Type 0
  AllReached = (k : ℕ) → k < length table.keywords → KeywordReached g table.root k

  every_kept : AllReached → syntax_of table ≡ syntax_every table
  every_kept all = rw (all_kept kinds 0 table.keywords (λ k l. (keywords_exactly g table.root k).1 (all k (omega arith)))) refl

-- ------------------------------------------------------------------ from bytes to bytes

module _ (bs : List ℕ) (bytes : Bytes bs)
    (all : (written : Written) (table : Table) → bs ≡ encode written → Elaborates written table → AllReached table) where
  passed_same : passed_table bs ≡ passed_every bs
  unfolding passed_table passed_every
  passed_same = by (decode bs) refl
    where
      checks : (u : Table) → Syntax → Checked Syntax
      checks u syntax = check_firsts (normalized u.blocks) >> ok syntax

      sorted : (t : Written) → bs ≡ encode t → Within t → (answer : Checked Table) → check_sorts t ≡ answer
          → (answer >>= λ u. checks u (syntax_of u)) ≡ (answer >>= λ u. checks u (syntax_every u))
      sorted t read within (bad r) e = refl
      sorted t read within (ok u) e = ap (checks u) (every_kept u (all t u read ((sorts_exactly t u within).0 e)))

      by : (checked : Checked Written) → decode bs ≡ checked
          → (checked >>= λ t. check_sorts t >>= λ u. check_firsts (normalized u.blocks) >> ok (syntax_of u))
          ≡ (checked >>= λ t. check_sorts t >>= λ u. check_firsts (normalized u.blocks) >> ok (syntax_every u))
      by (bad r) e = refl
      by (ok t) e = let read = (decode_exactly bs bytes t).0 e in sorted t read.0 read.1 (check_sorts t) refl

  -- an expansion of any writing
  pub expands_same : (write : Term Name → List ℕ) (formula cells text : List ℕ)
      → expand_by write bs formula cells text ≡ expand_every write bs formula cells text
  unfolding expand_by expand_every
  expands_same write formula cells text = ap (λ (checked : Checked Syntax). checked_first write checked formula cells text) passed_same

  -- the list of portions
  pub portions_same : (written wanted : ℕ) (formula cells list : List ℕ)
      → portions written wanted bs formula cells list ≡ portions_every written wanted bs formula cells list
  unfolding portions portions_every
  portions_same written wanted formula cells list = by (are_counts written wanted)
    where
      told : Bool → Expanded → Expanded
      told counts expansion = elim counts as (λ b. Expanded) [ false ↦ refused (refusal 25 0 0 0) cells list | true ↦ expansion ]

      by : (counts : Bool) → told counts (expand_by (portions_of written wanted) bs formula cells list)
          ≡ told counts (expand_every (portions_of written wanted) bs formula cells list)
      by counts = ap (told counts) (expands_same (portions_of written wanted) formula cells list)
