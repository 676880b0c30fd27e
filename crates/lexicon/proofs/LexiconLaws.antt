-- Laws of entering a table's keywords and outside names.
use Rattle.std.specs.Prelude.{Some, None, Option}
use Prim.Native.Nat.{ℕ, suc, ◌+◌, ◌-◌, ◌*◌, ◌^◌, ◌<◌, ◌≤◌}
use mathlib.Core.Path.{◌≡◌, refl, sym, ap, ap₂, ◌∙◌}
use mathlib.Core.List.{List, [], ◌∷◌, ◌++◌, append_assoc, append-nil}
use native.Mathlib.Nat.{add-zero}
use native.Mathlib.Omega.{arith}
use lib.ListN.{length, get_or, set, take, drop, replicate, length-set, length-append, length-replicate, get_or-replicate, drop_of_length-le}
use lib.Seq.{sets, length-sets, take-nil, drop-cons, get_or-set_same, get_or-set_other}
use borrow.Author.Tests.{eq-eqb, ne_eqb}
use Rattle.spellings.specs.Bytes.{same}
use Rattle.spellings.proofs.BytesLaws.{by_test, same_true, same_false, equal_same, differ_same}
use Rattle.grammar.specs.declared.Front.{Front}
use Rattle.grammar.specs.declared.Front.TheVariants.{Nothing, Short, Field}
use Rattle.grammar.specs.Table.{Lexicon}
use Rattle.grammar.specs.Lookup.{leading, after_leading, lexicon_of, front_of, fields_at}
use Rattle.grammar.specs.Found.{found_in}
use Rattle.kinds.specs.Kinds.{keyword_kind, no_kind}
use mathlib.Core.Bool.{Bool, true, false}
use Rattle.keywords.specs.KeptSpellings.{spellings_kept}
use Rattle.keywords.specs.KeptSizes.{kept_if, kept_size}
use Rattle.keywords.proofs.KeptLaws.{kept_none, kept_one, kept_many}
use Rattle.lexicon.specs.LexiconRoom.{lexicon_by}
use Rattle.grammar.proofs.LookupLaws.{Stops, front_inside, fields_at_lem, found_nil, found_here, found_later, keywords_at, outsides_at, few_keywords, few_outsides}
use Rattle.grammar.specs.Limits.{most}
use Rattle.lexicon.specs.Places.{words_from, words_in}
use Rattle.lexicon.specs.Trees.{Planted, Searched, Linkable, links_with}
use Rattle.lexicon.specs.declared.trees.Spot.{Spot}
use Rattle.lexicon.specs.LexiconRoom.{most_spellings, symbol_end, symbols_at, keyword_count_at, spelling_count_at, lexicon_size, tree_mask, tree_size}
use Rattle.lexicon.specs.LexiconRoom.{SameBehind, Spelled, Enters, SpellingsEntered, kind_from, Marked, Symbols, SamePlaces, Unmarked, Blank, Lexical}
use Rattle.lexicon.proofs.PlaceLaws.{words_length, word_listed, words_alike, words_added, place_stored}
use Rattle.lexicon.proofs.TreeLaws.{zeros, tree_none, tree_with, linkable, links_long}

-- ------------------------------------------------------------------ one spelling

-- the room with the place of spelling e
abbrev pub placed_at : List ℕ → ℕ → ℕ → ℕ → List ℕ
placed_at room e from size = sets room (e * 2) (from ∷ size ∷ [])

module _ {table room links : List ℕ} {entries most : ℕ} (enters : Enters table room links entries most) where
  -- the spellings entered can be searched
  pub entered_planted : Planted table room links tree_mask entries
  entered_planted =
      let p = enters.spelled in
      record { tree = p.tree; placed = omega (arith, enters.enough, p.long); linked = omega (arith, enters.enough, p.wide) }

  -- where a search among them ended there is room for a link
  pub entered_linkable : (spelling : List ℕ) (spot : Spot) → Searched tree_mask (words_in table room entries) links spelling spot → Linkable links spot
  entered_linkable spelling spot f =
      linkable tree_mask (words_in table room entries) links spelling spot f
      (omega (arith, enters.enough, enters.spelled.wide, words_length entries table room 0))

  -- the second number of a place, after the first is stored
  pub place_inside : (place stored : ℕ) → entries * 2 + 1 < length (set room place stored)
  place_inside place stored = omega (arith, length-set room place stored, enters.spelled.long, enters.enough)

-- a spelling is entered
pub enter_one : (table room : List ℕ) {links links' : List ℕ} {entries : ℕ} (from size : ℕ) {spelling : List ℕ} (spot : Spot)
    → Enters table room links entries 1 → spelling ≡ take size (drop from table)
    → Searched tree_mask (words_in table room entries) links spelling spot
    → links' ≡ links_with links spot entries
    → Spelled table (placed_at room entries from size) links' (entries + 1)
enter_one table room {links} {entries = entries} from size {spelling} spot c read f z =
    let p = c.spelled in
    let counted : length (words_in table room entries) ≡ entries = words_length entries table room 0 in
    let added : words_in table (placed_at room entries from size) (entries + 1) ≡ words_in table room entries ++ (spelling ∷ [])
    = cc (words_added table room entries from size (omega (arith, c.enough, p.long))) in
    record {
      long = length-sets room (entries * 2) (from ∷ size ∷ []) ∙ p.long;
      wide = ap length z ∙ links_long links spot entries ∙ p.wide;
      tree =
          rw added (tree_with p.tree spelling spot f (entered_linkable c spelling spot f) (z ∙ ap (links_with links spot) (sym counted)));
    }

-- ------------------------------------------------------------------ the fields of one tag

module _ (table : List ℕ) (at tag : ℕ) where
  leading_stop : (front : Front) → front ≡ front_of (drop at table) → Stops tag front → leading tag (fields_at table at) ≡ []
  unfolding leading
  leading_stop Nothing e h = ap (leading tag) (fields_at_lem table at e)
  leading_stop Short e h = ap (leading tag) (fields_at_lem table at e)
  leading_stop (Field t n) e h = ap (leading tag) (fields_at_lem table at e) ∙ rw (ne_eqb t tag h, leading) refl

  leading_goes : (found size : ℕ) → Field found size ≡ front_of (drop at table) → found ≡ tag
      → leading tag (fields_at table at) ≡ take size (drop (at + 3) table) ∷ leading tag (fields_at table (at + 3 + size))
  unfolding leading
  leading_goes found size e h = ap (leading tag) (fields_at_lem table at e) ∙ rw (eq-eqb found tag h, leading) refl

-- the fields before the offset `at` are entered, spelling `first` to `entries`
pub record Entering (every : Bool) (kinds : ℕ) (table room₀ : List ℕ) (start tag most first : ℕ) (room links : List ℕ) (at entries : ℕ) : Type 0 where
  -- offsets of the table are 32-bit numbers
  pub short : length table < 2 ^ 32
  -- the rooms hold the most that may be entered
  pub enough : first + most ≤ most_spellings
  -- `entries` counts from `first` on
  pub from : first ≤ entries
  -- no more than `most` are entered
  pub upto : entries ≤ first + most
  -- the trees hold the spellings entered
  pub spelled : Spelled table room links entries
  -- the numbers behind the places stay
  pub behind : SameBehind room₀ room
  -- the spellings entered and those of the fields left are those asked for
  pub rest :
      words_in table room entries ++ kept_if every kinds (entries - first) (take (first + most - entries) (leading tag (fields_at table at)))
      ≡ words_in table room₀ first ++ kept_if every kinds 0 (take most (leading tag (fields_at table start)))

-- no field is entered yet
pub entering_start : (every : Bool) (kinds : ℕ) {table room links : List ℕ} {start tag most first : ℕ} → Enters table room links first most
    → Entering every kinds table room start tag most first room links start first
entering_start every kinds {table} {room} {start = start} {tag = tag} {most = most} {first = first} c =
    let z : first + most - first ≡ most = omega arith in
    let y : first - first ≡ 0 = omega arith in
    record {
      short = c.short;
      enough = c.enough;
      from = omega arith;
      upto = omega arith;
      spelled = c.spelled;
      behind = λ i l. refl;
      rest = cc;
    }

module _ {every : Bool} {kinds : ℕ} {table room₀ : List ℕ} {start tag most first : ℕ} {room links : List ℕ} {at entries : ℕ}
    (entering : Entering every kinds table room₀ start tag most first room links at entries) where
  entered : take (first + most - entries) (leading tag (fields_at table at)) ≡ []
      → SpellingsEntered table room₀ room links entries (words_in table room₀ first ++ kept_if every kinds 0 (take most (leading tag (fields_at table start))))
  entered z =
      let left : kept_if every kinds (entries - first) (take (first + most - entries) (leading tag (fields_at table at))) ≡ []
      = ap (kept_if every kinds (entries - first)) z ∙ kept_none every kinds (entries - first) in
      record {
        few = omega (arith, entering.upto, entering.enough);
        listed = cc (append-nil (words_in table room entries), entering.rest);
        spelled = entering.spelled;
        behind = entering.behind;
      }

  -- at a field of another tag, a cut one or none, all are entered
  pub entering_stop : (front : Front) → front ≡ front_of (drop at table) → Stops tag front
      → SpellingsEntered table room₀ room links entries (words_in table room₀ first ++ kept_if every kinds 0 (take most (leading tag (fields_at table start))))
  entering_stop front f h =
      entered (ap (take (first + most - entries)) (leading_stop table at tag front f h) ∙ take-nil (first + most - entries))

  -- where no more may be entered, all that count are
  pub entering_end : first + most ≤ entries
      → SpellingsEntered table room₀ room links entries (words_in table room₀ first ++ kept_if every kinds 0 (take most (leading tag (fields_at table start))))
  entering_end h =
      let z : first + most - entries ≡ 0 = omega arith in
      entered (cc)

  -- one more field's spelling is entered
  pub entering_next : entries < first + most → {found size : ℕ} → Field found size ≡ front_of (drop at table) → found ≡ tag → {room' links' : List ℕ}
      → {kept : ℕ} → kept ≡ kept_size every kinds (entries - first) size
      → room' ≡ placed_at room entries (at + 3) kept
      → Spelled table room' links' (entries + 1)
      → Entering every kinds table room₀ start tag most first room' links' (at + 3 + size) (entries + 1)
  entering_next h {found} {size} f tagged {room'} {kept = kept} ek er k =
      let w : words_in table room' (entries + 1) ≡ words_in table room entries ++ (take kept (drop (at + 3) table) ∷ [])
      = cc (words_added table room entries (at + 3) kept (omega (arith, entering.enough, entering.spelled.long))) in
      let z : first + most - entries ≡ suc (first + most - (entries + 1)) = omega arith in
      let rest : List (List ℕ) = take (first + most - (entries + 1)) (leading tag (fields_at table (at + 3 + size))) in
      let one : take (first + most - entries) (leading tag (fields_at table at)) ≡ take size (drop (at + 3) table) ∷ rest
      = cc (leading_goes table at tag found size f tagged) in
      let y : entries + 1 - first ≡ suc (entries - first) = omega (arith, entering.from) in
      let both : kept_if every kinds (entries - first) (take (first + most - entries) (leading tag (fields_at table at)))
      ≡ take kept (drop (at + 3) table) ∷ kept_if every kinds (entries + 1 - first) rest
      = ap (kept_if every kinds (entries - first)) one ∙ kept_one every kinds (entries - first) size (drop (at + 3) table) rest
      ∙ ap₂ (λ (a b : ℕ). take a (drop (at + 3) table) ∷ kept_if every kinds b rest) (sym ek) (sym y) in
      record {
        short = entering.short;
        enough = entering.enough;
        from = omega (arith, entering.from);
        upto = omega arith;
        spelled = k;
        behind =
            λ i l.
            cc (
              place_stored room (entries * 2) (at + 3) kept,
              get_or-set_other (set room (entries * 2) (at + 3)) (entries * 2 + 1) i kept 0 (λ q. omega (arith, q, entering.enough)),
              get_or-set_other room (entries * 2) i (at + 3) 0 (λ q. omega (arith, q, entering.enough)),
              entering.behind i l,
            );
        rest =
            ap (λ (vs : List (List ℕ)). vs ++ kept_if every kinds (entries + 1 - first) rest) w
            ∙ append_assoc (words_in table room entries) (take kept (drop (at + 3) table) ∷ []) (kept_if every kinds (entries + 1 - first) rest)
            ∙ ap (λ (vs : List (List ℕ)). words_in table room entries ++ vs) (sym both) ∙ entering.rest;
      }

  -- what it asks to enter one more
  pub entering_one : entries < first + most → Enters table room links entries 1
  entering_one h = record { short = entering.short; enough = omega (arith, entering.enough); spelled = entering.spelled }

  -- a whole field ends inside the table
  pub field_fits : {found size : ℕ} → Field found size ≡ front_of (drop at table) → at + 3 + size ≤ length table
  field_fits e = omega (arith, front_inside table at e)

-- ------------------------------------------------------------------ symbols

-- the kinds by one spelling more at the front
module _ (number : ℕ) (word : List ℕ) (vs : List (List ℕ)) (spelling : List ℕ) where
  kind_here : word ≡ spelling → kind_from number (word ∷ vs) spelling ≡ keyword_kind number
  unfolding kind_from
  kind_here e = rw (found_here spelling word vs (equal_same word spelling e), kind_from) (cc (add-zero number))

  kind_later : (word ≡ spelling → ⊥) → kind_from number (word ∷ vs) spelling ≡ kind_from (number + 1) vs spelling
  unfolding kind_from
  kind_later d = by_found (found_in spelling vs) refl
    where
      by_found : (found : Option ℕ) → found_in spelling vs ≡ found → kind_from number (word ∷ vs) spelling ≡ kind_from (number + 1) vs spelling
      by_found (Some j) e =
          let z : number + (1 + j) + 2 ≡ number + 1 + j + 2 = omega arith in
          rw (found_later spelling word vs (differ_same word spelling d), e, kind_from) z
      by_found None e = rw (found_later spelling word vs (differ_same word spelling d), e, kind_from) refl

-- the symbols are marked by the spellings from spelling `number` on
pub record Marking (table room₀ : List ℕ) (count : ℕ) (room : List ℕ) (number : ℕ) : Type 0 where
  -- there are no more keywords than there may be
  pub few : count ≤ most.keywords
  -- `number` counts the keywords not yet marked
  pub upto : number ≤ count
  -- the room has its size
  pub long₀ : length room₀ ≡ lexicon_size
  -- each symbol has its kind by the spellings from `number` on
  pub symbols : Symbols (words_in table room₀ count) number room
  -- the places of the spellings stay
  pub places : SamePlaces room₀ room

-- no spelling is marked yet
pub marking_start : (table room : List ℕ) (count : ℕ) → count ≤ most.keywords → Unmarked room → length room ≡ lexicon_size → Marking table room count room count
unfolding kind_from
marking_start table room count few u long =
    let past : length (words_in table room count) ≤ count = omega (arith, words_length count table room 0) in
    record {
      few = few;
      upto = omega arith;
      long₀ = long;
      symbols =
          λ b l. u b l ∙ sym (rw (drop_of_length-le (words_in table room count) past, found_nil (b ∷ []), kind_from) refl);
      places = record { same = λ i l. refl; same_length = refl };
    }

module _ {table room₀ : List ℕ} {count : ℕ} {room : List ℕ} {number : ℕ} (marking : Marking table room₀ count room number) (below : 0 < number) where
  module _ {at size : ℕ} {spelling room' : List ℕ} (ea : at ≡ get_or room ((number - 1) * 2) 0) (es : size ≡ get_or room ((number - 1) * 2 + 1) 0)
      (equal : spelling ≡ take size (drop at table)) (marked : Marked room room' spelling (number - 1)) where
    -- the spelling that the code reads
    spelling_is : spelling ≡ get_or (words_in table room₀ count) (number - 1) []
    spelling_is =
        let p : get_or room ((number - 1) * 2) 0 ≡ get_or room₀ ((number - 1) * 2) 0 = marking.places.same ((number - 1) * 2)
        (omega (arith, marking.few, marking.upto)) in
        let q : get_or room ((number - 1) * 2 + 1) 0 ≡ get_or room₀ ((number - 1) * 2 + 1) 0
        = marking.places.same ((number - 1) * 2 + 1) (omega (arith, marking.few, marking.upto)) in
        equal ∙ rw (ea, es, p, q) (sym (word_listed count table room₀ (number - 1) (omega (arith, marking.upto))))

    from_here : drop (number - 1) (words_in table room₀ count) ≡ spelling ∷ drop number (words_in table room₀ count)
    from_here =
        let z : suc (number - 1) ≡ number = omega arith in
        drop-cons (words_in table room₀ count) (number - 1) [] (omega (arith, marking.upto, words_length count table room₀ 0))
        ∙ rw (z, spelling_is) refl

    -- the spelling before is marked too, and it counts first
    pub marking_next : Marking table room₀ count room' (number - 1)
    marking_next =
        let z : number - 1 + 1 ≡ number = omega arith in
        record {
          few = marking.few;
          upto = omega (arith, marking.upto);
          long₀ = marking.long₀;
          symbols =
              λ b l.
              by_test (same spelling (b ∷ []))
              (λ t.
              let i : spelling ≡ b ∷ [] = same_true spelling (b ∷ []) t in
              marked.this b l i ∙ sym (rw from_here (kind_here (number - 1) spelling (drop number (words_in table room₀ count)) (b ∷ []) i)))
              (λ t.
              let d : spelling ≡ b ∷ [] → ⊥ = same_false spelling (b ∷ []) t in
              marked.others b l d ∙ marking.symbols b l
              ∙ sym (rw (from_here, kind_later (number - 1) spelling (drop number (words_in table room₀ count)) (b ∷ []) d, z) refl));
          places =
              record {
                same = λ i l. marked.before i l ∙ marking.places.same i l;
                same_length = marked.same_length ∙ marking.places.same_length;
              };
        }

-- ------------------------------------------------------------------ the lexicon

-- the rooms of a lexicon, before it is entered
pub blank : Blank (replicate lexicon_size no_kind) (replicate tree_size 0)
blank =
    record {
      long = length-replicate {A = ℕ} lexicon_size no_kind;
      wide = length-replicate {A = ℕ} tree_size 0;
      unmarked = λ b l. get_or-replicate {A = ℕ} lexicon_size (symbols_at + b) no_kind 0 (omega arith);
      unlinked = zeros tree_size;
    }

module _ (kinds : ℕ) {table room₀ links₀ : List ℕ} (given_blank : Blank room₀ links₀) (short : length table < 2 ^ 32) where
  -- blank rooms have room for all keywords
  pub first_enters : Enters table room₀ links₀ 0 most.keywords
  unfolding words_from
  first_enters =
      record {
        short = short;
        enough = omega arith;
        spelled = record { long = given_blank.long; wide = given_blank.wide; tree = tree_none tree_mask links₀ given_blank.unlinked };
      }

  module _ {room₁ links₁ : List ℕ} {number : ℕ}
      (spellings_entered₁ : SpellingsEntered table room₀ room₁ links₁ number
      (words_in table room₀ 0 ++ kept_if false kinds 0 (take most.keywords (leading 1 (fields_at table 0))))) where
    keywords_listed : words_in table room₁ number ≡ (lexicon_by kinds [] table).keywords
    unfolding words_from
    keywords_listed = spellings_entered₁.listed ∙ ap (spellings_kept kinds 0) (sym (keywords_at table))

    keywords_few : length (lexicon_by kinds [] table).keywords ≤ most.keywords
    keywords_few = omega (arith, kept_many kinds 0 (lexicon_of table).keywords, few_keywords table)

    keywords_counted : number ≡ length (lexicon_by kinds [] table).keywords
    keywords_counted = sym (words_length number table room₁ 0) ∙ ap length keywords_listed

    -- the keywords entered are no more than there may be
    pub few_marks : number ≤ most.keywords
    few_marks = omega (arith, keywords_counted, keywords_few)

    -- after the keywords are entered no symbol has a kind yet
    pub still_unmarked : Unmarked room₁
    still_unmarked i l = spellings_entered₁.behind (symbols_at + i) (omega arith) ∙ given_blank.unmarked i l

    module _ {room₂ : List ℕ} (marked : Symbols (words_in table room₁ number) 0 room₂ × SamePlaces room₁ room₂) where
      same_keywords : words_in table room₂ number ≡ words_in table room₁ number
      same_keywords = words_alike number table room₁ room₂ 0 (λ j l. marked.1.same j (omega (arith, few_marks)))

      -- behind the keywords there is room for all outside names
      pub second_enters : Enters table room₂ links₁ number most.outsides
      second_enters =
          let p = spellings_entered₁.spelled in
          record {
            short = short;
            enough = omega (arith, few_marks);
            spelled = record { long = marked.1.same_length ∙ p.long; wide = p.wide; tree = rw same_keywords p.tree };
          }

      module _ (names : ℕ) (equal : fields_at table names ≡ after_leading 1 (fields_at table 0)) {room₃ links₃ : List ℕ} {total : ℕ}
          (spellings_entered₂ : SpellingsEntered table room₂ room₃ links₃ total
          (words_in table room₂ number ++ kept_if true 0 0 (take most.outsides (leading 2 (fields_at table names)))))
        where
          room₄ : List ℕ
          room₄ = set (set room₃ keyword_count_at number) spelling_count_at total

          long₃ : length room₃ ≡ lexicon_size
          long₃ = spellings_entered₂.spelled.long

          before₄ : (place : ℕ) → place < keyword_count_at → get_or room₄ place 0 ≡ get_or room₃ place 0
          unfolding room₄
          before₄ place l =
              get_or-set_other (set room₃ keyword_count_at number) spelling_count_at place total 0 (λ e. omega (arith, e))
              ∙ get_or-set_other room₃ keyword_count_at place number 0 (λ e. omega (arith, e))

          keyword_count : get_or room₄ keyword_count_at 0 ≡ number
          unfolding room₄
          keyword_count =
              get_or-set_other (set room₃ keyword_count_at number) spelling_count_at keyword_count_at total 0 (λ e. omega (arith, e))
              ∙ get_or-set_same room₃ keyword_count_at number 0 (omega (arith, long₃))

          spelling_count : get_or room₄ spelling_count_at 0 ≡ total
          unfolding room₄
          spelling_count = get_or-set_same (set room₃ keyword_count_at number) spelling_count_at total 0
              (omega (arith, long₃, length-set room₃ keyword_count_at number))

          listed₃ : words_in table room₃ total ≡ (lexicon_by kinds [] table).keywords ++ (lexicon_by kinds [] table).outsides
          listed₃ =
              cc (spellings_entered₂.listed, same_keywords, keywords_listed, outsides_at table names equal)

          listed₄ : words_in table room₄ total ≡ words_in table room₃ total
          listed₄ = words_alike total table room₃ room₄ 0 (λ j l. before₄ j (omega (arith, spellings_entered₂.few)))

          symbols₄ : (byte : ℕ) → byte < symbol_end → get_or room₄ (symbols_at + byte) 0 ≡ kind_from 0 (lexicon_by kinds [] table).keywords (byte ∷ [])
          symbols₄ byte l =
              cc (before₄ (symbols_at + byte) (omega arith), spellings_entered₂.behind (symbols_at + byte) (omega arith), marked.0 byte l, keywords_listed)

          lexical₄ : Lexical (lexicon_by kinds [] table) table room₄ links₃
          unfolding room₄
          lexical₄ =
              let lex : Lexicon = lexicon_by kinds [] table in
              record {
                long = length-set (set room₃ keyword_count_at number) spelling_count_at total ∙ length-set room₃ keyword_count_at number ∙ long₃;
                wide = spellings_entered₂.spelled.wide;
                few_keywords = keywords_few;
                few_outsides = few_outsides table;
                keywords = keyword_count ∙ keywords_counted;
                spellings =
                    spelling_count ∙ sym (words_length total table room₃ 0) ∙ ap length listed₃ ∙ length-append lex.keywords lex.outsides;
                spelled = ap (words_in table room₄) spelling_count ∙ listed₄ ∙ listed₃;
                symbols = symbols₄;
                tree = rw listed₃ at spellings_entered₂.spelled.tree;
              }

          -- with both counts stored, the rooms hold the table's lexicon
          pub lexical : Lexical (lexicon_by kinds [] table) table (set (set room₃ keyword_count_at number) spelling_count_at total) links₃
          unfolding room₄
          lexical = lexical₄
