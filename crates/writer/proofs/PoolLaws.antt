-- Laws of the room of spellings: one more spelling, and the loops that store them.
use Prim.Native.Nat.{ℕ, zero, suc, ◌+◌, ◌-◌, ◌*◌, ◌<◌, ◌≤◌}
use mathlib.Core.Path.{◌≡◌, refl, sym, ap, ◌∙◌}
use mathlib.Core.Logic.{◌⊎◌, inl, inr}
use mathlib.Core.List.{List, [], ◌∷◌, ◌++◌, append_assoc, append-nil}
use mathlib.Core.Bool.{true, false}
use native.Mathlib.Numerals.{add-one}
use native.Mathlib.Omega.{arith}
use lib.Dec.{eqb, ltb}
use lib.ListN.{length, get_or, set, take, drop, replicate}
use lib.ListN.{length-append, length-take, length-drop, drop_of_length-le}
use lib.Seq.{sets, sets-eq, length-sets, get_or-set_other, ext_get_or}
use lib.Seq.{length-take-le, take_all, drop-drop, get_or-take, get_or-drop, drop_at, get_or_at, take-append_seam}
use borrow.Author.Tests.{eq-eqb, ne_eqb, eqb-true, eqb-false, lt-ltb, le-ltb, ltb-true, ltb-false}
use Rattle.spellings.proofs.BytesLaws.{by_test}
use Rattle.grammar.specs.declared.Front.{Front}
use Rattle.grammar.specs.declared.Front.TheVariants.{Nothing, Short, Field}
use Rattle.grammar.specs.Table.{Lexicon}
use Rattle.grammar.specs.Fields.{RawFields, next}
use Rattle.grammar.specs.Lookup.{leading, after_leading, lexicon_of, front_of, fields_at}
use Rattle.grammar.proofs.LookupLaws.{opened, fields_at_lem, Stops, outsides_at, few_outsides}
use Rattle.grammar.proofs.ReaderLaws.{get_d_past}
use Rattle.writer.specs.Pool.{spelling_room}
use Rattle.writer.specs.Pool.{first_word}
use Rattle.writer.specs.Pool.{spell_in}
use Rattle.tokens.specs.Tokens.{spelled}
use Rattle.writer.specs.Pool.{spanned, Pooled, none_of, one_of, Words, filled_to, stored_from, words_from, filled, spelled_by, Fillable}
use Rattle.rows.proofs.ListLaws.{zeros, sets_append}
use Rattle.writer.specs.Writing.{Written}
use Rattle.writer.proofs.Pieces.{remains, with_rest}

-- ------------------------------------------------------------------ one more spelling

get_d_sets_other : (vs room : List ℕ) (place other : ℕ) → (other < place) ⊎ (place + length vs ≤ other) → get_or (sets room place vs) other 0 ≡ get_or room other 0
get_d_sets_other [] room place other h = refl
get_d_sets_other (a ∷ vs) room place other (inl h) =
    get_d_sets_other vs (set room place a) (suc place) other (inl (omega arith)) ∙ get_or-set_other room place other a 0 (λ e. omega arith)
get_d_sets_other (a ∷ vs) room place other (inr h) =
    get_d_sets_other vs (set room place a) (suc place) other (inr (omega arith)) ∙ get_or-set_other room place other a 0 (λ e. omega arith)

-- a part is the same where its bytes are
same_part : (left right : List ℕ) (count start : ℕ) → length left ≡ length right
    → ((index : ℕ) → index < count → get_or left (start + index) 0 ≡ get_or right (start + index) 0) → take count (drop start left) ≡ take count (drop start right)
same_part left right count start e h =
    let le : length (take count (drop start left)) ≡ length (take count (drop start right)) = simp (length-take, length-drop, e) in
    ext_get_or 0 (take count (drop start left)) (take count (drop start right)) le
    (λ j b.
    let small : j < count = omega (arith, length-take count (drop start left)) in
    get_or-take count (drop start left) j 0 small ∙ get_or-drop start left j 0 ∙ h j small
    ∙ sym (get_or-take count (drop start right) j 0 small ∙ get_or-drop start right j 0))

module _ (pool spelling : List ℕ) (place : ℕ) (short : length spelling < spelling_room) (fits : place * spelling_room + spelling_room ≤ length pool) where
  stored : List ℕ
  stored = sets pool (place * spelling_room) (length spelling ∷ spelling)

  stored_is : stored ≡ take (place * spelling_room) pool ++ (length spelling ∷ spelling) ++ drop (place * spelling_room + suc (length spelling)) pool
  unfolding stored
  stored_is = sets-eq (length spelling ∷ spelling) pool (place * spelling_room) (omega arith)

  front_length : length (take (place * spelling_room) pool) ≡ place * spelling_room
  front_length = length-take-le (place * spelling_room) pool (omega arith)

  length_there : get_or stored (place * spelling_room) 0 ≡ length spelling
  length_there =
      cc (
        stored_is,
        append_assoc (take (place * spelling_room) pool) (length spelling ∷ spelling) (drop (place * spelling_room + suc (length spelling)) pool),
        get_or_at (take (place * spelling_room) pool) (length spelling) (spelling ++ drop (place * spelling_room + suc (length spelling)) pool) 0
            (place * spelling_room) front_length,
      )

  bytes_there : take (length spelling) (drop (place * spelling_room + 1) stored) ≡ spelling
  bytes_there =
      let rest : List ℕ = drop (place * spelling_room + suc (length spelling)) pool in
      let split : stored ≡ (take (place * spelling_room) pool ++ length spelling ∷ []) ++ (spelling ++ rest) =
      stored_is ∙ append_assoc (take (place * spelling_room) pool) (length spelling ∷ spelling) rest
      ∙ sym (append_assoc (take (place * spelling_room) pool) (length spelling ∷ []) (spelling ++ rest)) in
      let len : length (take (place * spelling_room) pool ++ length spelling ∷ []) ≡ place * spelling_room + 1 = cc (
        length-append (take (place * spelling_room) pool) (length spelling ∷ []),
        front_length,
      ) in
      cc (drop_at (take (place * spelling_room) pool ++ length spelling ∷ []) (spelling ++ rest) (place * spelling_room + 1) len, take-append_seam spelling rest)

  spelled_here : spell_in stored place ≡ spelling
  unfolding spell_in
  spelled_here = rw (length_there, bytes_there) refl

  apart_from : (number at_byte : ℕ) → (number ≡ place → ⊥) → number * spelling_room ≤ at_byte → at_byte < number * spelling_room + spelling_room
      → get_or stored at_byte 0 ≡ get_or pool at_byte 0
  unfolding stored
  apart_from number at_byte d a b =
      by_test (ltb number place)
      (λ e. get_d_sets_other (length spelling ∷ spelling) pool (place * spelling_room) at_byte (inl (omega (arith, ltb-true number place e))))
      (λ e. get_d_sets_other (length spelling ∷ spelling) pool (place * spelling_room) at_byte (inr (omega (arith, ltb-false number place e))))

  spelled_there : (number : ℕ) → (number ≡ place → ⊥) → get_or pool (number * spelling_room) 0 < spelling_room → spell_in stored number ≡ spell_in pool number
  unfolding spell_in stored
  spelled_there number d h =
      cc (
        apart_from number (number * spelling_room) d (omega arith) (omega arith),
        same_part stored pool (get_or pool (number * spelling_room) 0) (number * spelling_room + 1)
            (length-sets pool (place * spelling_room) (length spelling ∷ spelling))
            (λ j b. apart_from number (number * spelling_room + 1 + j) d (omega arith) (omega arith)),
      )

  module _ {spell_before spell_after : ℕ → List ℕ} (pooled : Pooled pool spell_before) (here : spell_after place ≡ spelling)
      (there : (number : ℕ) → (number ≡ place → ⊥) → spell_after number ≡ spell_before number) where
    small_by : (number : ℕ) → get_or stored (number * spelling_room) 0 < spelling_room
    small_by number =
        by_test (eqb number place)
        (λ e. rw (eqb-true number place e, length_there) short)
        (λ e. rw (apart_from number (number * spelling_room) (eqb-false number place e) (omega arith) (omega arith)) (pooled.small number))

    spelled_by_lem : (number : ℕ) → spell_in stored number ≡ spell_after number
    spelled_by_lem number =
        by_test (eqb number place)
        (λ e. ap (spell_in stored) (eqb-true number place e) ∙ spelled_here ∙ sym here ∙ ap spell_after (sym (eqb-true number place e)))
        (λ e. spelled_there number (eqb-false number place e) (pooled.small number) ∙ pooled.spelled number ∙ sym (there number (eqb-false number place e)))

    pooled_by : Pooled stored spell_after
    pooled_by = record { small = small_by; spelled = spelled_by_lem }

    pooled_store : {pool' : List ℕ} → pool' ≡ sets pool (place * spelling_room) (length spelling ∷ spelling) → Pooled pool' spell_after
    unfolding stored
    pooled_store e = rw e pooled_by

-- bytes that a writer put at the front of what remains of a room
put_sets : (room : List ℕ) (at : ℕ) {text rest : List ℕ} {count : ℕ} → at + length text ≤ length room
    → Written text (remains at room) count rest
    → with_rest at room rest ≡ sets room at text
put_sets room at {text} {rest} fits written =
    let all : length (drop at room) ≤ length room - at = omega (arith, length-drop at room) in
    let none : drop (length room - at) (drop at room) ≡ [] = drop_of_length-le (drop at room) all in
    cc (
      written.placed,
      take_all (length room - at) (drop at room) all,
      append-nil (text ++ drop (length text) (drop at room)),
      drop-drop (length text) at room,
      append_assoc (take at room) text (drop (at + length text) room),
      sets-eq text room at fits,
    )

-- the bytes as the code stores them: the length, then the rest
module _ (pool spelling : List ℕ) (at : ℕ) {size count : ℕ} {rest : List ℕ} (sized : size ≡ length spelling)
    (fits : at + suc (length spelling) ≤ length pool) (first : Written (size ∷ []) (remains at pool) count rest) where
  abbrev Sized : List ℕ
  Sized = with_rest at pool rest

  sized_is : Sized ≡ sets pool at (size ∷ [])
  sized_is = put_sets pool at (omega arith) first

  -- both stores give the length and the spelling behind it
  pub stored_both : {count' : ℕ} {rest' : List ℕ} → Written spelling (remains (at + count) Sized) count' rest'
      → with_rest (at + count) Sized rest' ≡ sets pool at (length spelling ∷ spelling)
  stored_both second =
      put_sets Sized (at + count) (omega (arith, first.counted, ap length sized_is, length-sets pool at (size ∷ []))) second
      ∙ cc (sized_is, first.counted, sized, sets_append pool at (size ∷ []) spelling)

-- a room of zeros has no spelling
pub pooled_none : (size : ℕ) → Pooled (replicate size 0) none_of
unfolding spell_in
pooled_none size =
    record {
      small = λ m. omega (arith, zeros size (m * spelling_room));
      spelled = λ m. cc (zeros size (m * spelling_room));
    }

-- ------------------------------------------------------------------ spellings stored one behind the other

-- the room keeps its length
stored_long : (spellings : List (List ℕ)) (place : ℕ) (pool : List ℕ) → length (stored_from pool place spellings) ≡ length pool
unfolding stored_from
stored_long [] place pool = refl
stored_long (s ∷ ss) place pool =
    stored_long ss (suc place) (sets pool (place * spelling_room) (length s ∷ s)) ∙ length-sets pool (place * spelling_room) (length s ∷ s)

-- the spellings of a room, with one stored at a number
with_one : (ℕ → List ℕ) → ℕ → List ℕ → ℕ → List ℕ
with_one spell place spelling number = elim (eqb number place) [ true ↦ spelling | false ↦ spell number ]

one_here : (spell : ℕ → List ℕ) (place : ℕ) (spelling : List ℕ) → with_one spell place spelling place ≡ spelling
unfolding with_one
one_here spell place spelling = rw (eq-eqb place place refl, with_one) refl

one_there : (spell : ℕ → List ℕ) (place : ℕ) (spelling : List ℕ) (number : ℕ) → (number ≡ place → ⊥) → with_one spell place spelling number ≡ spell number
unfolding with_one
one_there spell place spelling number d = rw (ne_eqb number place d, with_one) refl

-- a function gives the spellings stored from a number on, and elsewhere what another one gives
record Gives (spell spell' : ℕ → List ℕ) (place : ℕ) (spellings : List (List ℕ)) : Type 0 where
  stored_at : (index : ℕ) → index < length spellings → spell' (place + index) ≡ get_or spellings index []
  before_them : (number : ℕ) → number < place → spell' number ≡ spell number
  behind_them : (number : ℕ) → place + length spellings ≤ number → spell' number ≡ spell number

gives_next : {spell spell' : ℕ → List ℕ} {place : ℕ} {s : List ℕ} {ss : List (List ℕ)} → Gives spell spell' place (s ∷ ss)
    → Gives (with_one spell place s) spell' (suc place) ss
gives_next {spell} {spell'} {place} {s} {ss} g =
    record {
      stored_at =
          λ index l.
          let z : suc place + index ≡ place + suc index = omega arith in
          ap spell' z ∙ g.stored_at (suc index) (omega arith);
      before_them =
          λ number l.
          by_test (eqb number place)
          (λ e.
          let at : number ≡ place = eqb-true number place e in
          let first : place + 0 ≡ place = omega arith in
          cc (g.stored_at 0 (omega arith), one_here spell place s))
          (λ e. g.before_them number (omega (arith, eqb-false number place e)) ∙ sym (one_there spell place s number (eqb-false number place e)));
      behind_them =
          λ number l.
          g.behind_them number (omega arith) ∙ sym (one_there spell place s number (λ e. omega arith));
    }

-- a room with spellings stored has them at their numbers
stored_pooled : (spellings : List (List ℕ)) (place : ℕ) (pool : List ℕ) {spell spell' : ℕ → List ℕ} → Pooled pool spell → Gives spell spell' place spellings
    → ((index : ℕ) → length (get_or spellings index []) < spelling_room) → (place + length spellings) * spelling_room ≤ length pool
    → Pooled (stored_from pool place spellings) spell'
unfolding stored_from
stored_pooled [] place pool p g short fits =
    record {
      small = p.small;
      spelled =
          λ m.
          by_test (ltb m place)
          (λ e. p.spelled m ∙ sym (g.before_them m (ltb-true m place e)))
          (λ e. p.spelled m ∙ sym (g.behind_them m (omega (arith, ltb-false m place e))));
    }
stored_pooled (s ∷ ss) place pool {spell} p g short fits =
    stored_pooled ss (suc place) (sets pool (place * spelling_room) (length s ∷ s))
    (pooled_store pool s place (short 0) (omega arith) p (one_here spell place s) (one_there spell place s) refl)
    (gives_next g) (λ index. short (suc index)) (omega (arith, length-sets pool (place * spelling_room) (length s ∷ s)))

-- ------------------------------------------------------------------ the outside names

module _ (table : List ℕ) (at tag : ℕ) where
  stop_leading : (front : Front) → Stops tag front → leading tag (opened table at front) ≡ []
  unfolding leading
  stop_leading Nothing h = refl
  stop_leading Short h = refl
  stop_leading (Field t n) h = rw (ne_eqb t tag h, leading) refl

  one_leading : (found : ℕ) (value : List ℕ) (fs : RawFields) → found ≡ tag → leading tag (next at found value fs) ≡ value ∷ leading tag fs
  unfolding leading
  one_leading found value fs e = rw (eq-eqb found tag e, leading) refl

-- `count` outside names are stored, and the others stand from `at` on
pub record Filling (table pool₀ pool : List ℕ) (at count : ℕ) : Type 0 where
  -- there are no more than there may be
  pub few : count ≤ first_word
  -- the room keeps its length
  pub long : length pool ≡ length pool₀
  -- the others
  pub others : drop count (lexicon_of table).outsides ≡ take (first_word - count) (leading 2 (fields_at table at))
  -- storing them stores all
  pub rest : stored_from pool count (drop count (lexicon_of table).outsides) ≡ stored_from pool₀ 0 (lexicon_of table).outsides

-- no name is stored yet
pub filling_start : (table pool : List ℕ) (start : ℕ) → fields_at table start ≡ after_leading 1 (fields_at table 0) → Filling table pool pool start 0
filling_start table pool start st = record { few = omega arith; long = refl; others = outsides_at table start st; rest = refl }

module _ {table pool₀ pool : List ℕ} {at place : ℕ} (filling : Filling table pool₀ pool at place) where
  finished : take (first_word - place) (leading 2 (fields_at table at)) ≡ [] → pool ≡ stored_from pool₀ 0 (lexicon_of table).outsides
  unfolding stored_from
  finished e = rw (filling.others ∙ e) at filling.rest

  take_none : (size : ℕ) → take {A = List ℕ} size [] ≡ []
  take_none zero = refl
  take_none (suc size) = refl

  -- at a field of another tag, a cut one or none, all are stored
  pub filling_out : (front : Front) → front ≡ front_of (drop at table) → Stops 2 front → pool ≡ stored_from pool₀ 0 (lexicon_of table).outsides
  filling_out front e h = finished (cc (fields_at_lem table at e, stop_leading table at 2 front h, take_none (first_word - place)))

  -- where all that may be are stored, all that count are
  pub filling_end : first_word ≤ place → pool ≡ stored_from pool₀ 0 (lexicon_of table).outsides
  filling_end h = let z : first_word - place ≡ 0 = omega arith in finished cc

  module _ (below : place < first_word) {tag size : ℕ} (equal : Field tag size ≡ front_of (drop at table)) (tagged : tag ≡ 2) where
    abbrev Value : List ℕ
    Value = take size (drop (at + 3) table)

    abbrev Others : List (List ℕ)
    Others = take (first_word - (place + 1)) (leading 2 (fields_at table (at + 3 + size)))

    one_left : drop place (lexicon_of table).outsides ≡ Value ∷ Others
    one_left =
        let z : first_word - place ≡ suc (first_word - (place + 1)) = omega arith in
        filling.others
        ∙ ap (λ fs. take (first_word - place) (leading 2 fs)) (fields_at_lem table at equal)
        ∙ ap (take (first_word - place)) (one_leading table at 2 tag _ _ tagged)
        ∙ rw z refl

    -- the next name is short enough, if all are
    pub value_short : ((number : ℕ) → length (one_of (lexicon_of table).outsides number) < spelling_room) → {value : List ℕ} → value ≡ Value
        → length value < spelling_room
    value_short hs ev =
        let others = (lexicon_of table).outsides in
        let first : one_of others (place + 0) ≡ Value = sym (get_or-drop place others 0 []) ∙ ap (λ l. get_or l 0 []) one_left in
        omega (arith, hs (place + 0), ap length first, ap length ev)

    -- one more name is stored
    pub filling_next : {value pool' : List ℕ} → value ≡ Value → pool' ≡ sets pool (place * spelling_room) (length value ∷ value)
        → Filling table pool₀ pool' (at + 3 + size) (place + 1)
    unfolding stored_from
    filling_next {value} {pool'} ev ep =
        let outs = (lexicon_of table).outsides in
        let left : drop (place + 1) outs ≡ Others = sym (drop-drop 1 place outs) ∙ ap (drop 1) one_left in
        let stored : stored_from (sets pool (place * spelling_room) (length Value ∷ Value)) (suc place) Others ≡ stored_from pool₀ 0 outs
        = rw one_left at filling.rest in
        record {
          few = omega arith;
          long = ap length ep ∙ length-sets pool (place * spelling_room) (length value ∷ value) ∙ filling.long;
          others = left;
          rest = cc (left, stored, add-one place);
        }

-- ------------------------------------------------------------------ the words

module _ (formula room : List ℕ) where
  words_long : (count place : ℕ) → length (words_from formula room place count) ≡ count
  unfolding words_from
  words_long zero place = refl
  words_long (suc count) place = ap suc (words_long count (suc place))

  words_at : (count place index : ℕ) → index < count → get_or (words_from formula room place count) index [] ≡ spanned formula room (place + index)
  unfolding words_from
  words_at zero place index l = absurd (omega arith)
  words_at (suc count) place zero l = let z : place + 0 ≡ place = omega arith in ap (spanned formula room) (sym z)
  words_at (suc count) place (suc index) l =
      let z : suc place + index ≡ place + suc index = omega arith in
      words_at count (suc place) index (omega arith) ∙ ap (spanned formula room) z

  -- a word as the code reads it
  pub word_is : (place : ℕ) {at size : ℕ} {value : List ℕ} → at ≡ get_or room (place * 2) 0 → size ≡ get_or room (place * 2 + 1) 0
      → value ≡ take size (drop at formula) → value ≡ spanned formula room place
  word_is place ea es ev = cc

-- `done` words are stored
pub record Storing (formula room pool₀ pool : List ℕ) (count done : ℕ) : Type 0 where
  -- `done` is a word or the end
  pub inside : done ≤ count
  -- the room keeps its length
  pub long : length pool ≡ length pool₀
  -- storing the others stores all
  pub rest : stored_from pool (done + first_word) (words_from formula room done (count - done)) ≡ stored_from pool₀ first_word (words_from formula room 0 count)

module _ {formula room pool₀ pool : List ℕ} {count done : ℕ} (storing : Storing formula room pool₀ pool count done) where
  -- one more word is stored
  pub storing_next : done < count → {spelling pool' : List ℕ} → spelling ≡ spanned formula room done
      → pool' ≡ sets pool ((done + first_word) * spelling_room) (length spelling ∷ spelling)
      → Storing formula room pool₀ pool' count (done + 1)
  unfolding stored_from words_from
  storing_next l {spelling} {pool'} es ep =
      let z : count - done ≡ suc (count - (done + 1)) = omega arith in
      let up : done + 1 + first_word ≡ suc (done + first_word) = omega arith in
      record {
        inside = omega arith;
        long = ap length ep ∙ length-sets pool ((done + first_word) * spelling_room) (length spelling ∷ spelling) ∙ storing.long;
        rest = rw (up, ep, es, add-one done) (rw (z, add-one done) at storing.rest);
      }

  -- where no word is left, all are stored
  pub storing_end : (table pool₁ : List ℕ) → pool₀ ≡ stored_from pool₁ 0 (lexicon_of table).outsides → count ≤ done
      → pool ≡ filled table formula room count pool₁
  unfolding stored_from words_from filled
  storing_end table pool₁ e l =
      let z : count - done ≡ 0 = omega arith in
      rw z at storing.rest ∙ ap (λ p. stored_from p first_word (words_from formula room 0 count)) e

-- ------------------------------------------------------------------ a room that is filled

module _ (outs : List (List ℕ)) (formula room : List ℕ) where
  near : (count number : ℕ) → number < first_word → filled_to outs formula room count number ≡ get_or outs number []
  unfolding filled_to
  near count number h = rw (lt-ltb number first_word h, filled_to) refl

  stored_word : (count number : ℕ) → first_word ≤ number → number - first_word < count
      → filled_to outs formula room count number ≡ spanned formula room (number - first_word)
  unfolding filled_to
  stored_word count number h l = rw (le-ltb number first_word h, filled_to) (rw (lt-ltb (number - first_word) count l) refl)

  -- Behind the words nothing is spelled.
  pub further : (count number : ℕ) → first_word ≤ number → count ≤ number - first_word → filled_to outs formula room count number ≡ []
  unfolding filled_to
  further count number h l = rw (le-ltb number first_word h, filled_to) (rw (le-ltb (number - first_word) count l) refl)

  outsides_given : Gives none_of (one_of outs) 0 outs
  outsides_given =
      record {
        stored_at = λ index l. let z : 0 + index ≡ index = omega arith in ap (one_of outs) z;
        before_them = λ number l. absurd (omega arith);
        behind_them = λ number l. get_d_past outs number [] (omega arith);
      }

  words_given : length outs ≤ first_word → (count : ℕ) → Gives (one_of outs) (filled_to outs formula room count) first_word (words_from formula room 0 count)
  words_given few count =
      record {
        stored_at =
            λ index l.
            let small : index < count = omega (arith, words_long formula room count 0) in
            let z : first_word + index - first_word ≡ 0 + index = omega arith in
            stored_word count (first_word + index) (omega arith) (omega arith) ∙ ap (spanned formula room) z ∙ sym (words_at formula room count 0 index small);
        before_them = λ number l. near count number l;
        behind_them =
            λ number l.
            further count number (omega arith) (omega (arith, words_long formula room count 0)) ∙ sym (get_d_past outs number [] (omega arith));
      }

-- a word of a list, or none, is short enough, if all are
words_short : (formula room : List ℕ) (count : ℕ) → ((index : ℕ) → index < count → length (spanned formula room index) < spelling_room) → (index : ℕ)
    → length (get_or (words_from formula room 0 count) index []) < spelling_room
words_short formula room count hs index =
    by_test (ltb index count)
    (λ e.
    let l : index < count = ltb-true index count e in
    let z : 0 + index ≡ index = omega arith in
    omega (arith, hs index l, ap length (words_at formula room count 0 index l ∙ ap (spanned formula room) z)))
    (λ e. rw (get_d_past (words_from formula room 0 count) index [] (omega (arith, ltb-false index count e, words_long formula room count 0))) (omega arith))

-- A room that had no spelling and is filled has those of a table, a formula and the places of its words.
pub pooled_filled : {table formula words : List ℕ} {count : ℕ} {pool pool' : List ℕ} → Pooled pool none_of → Fillable table formula words count pool
    → pool' ≡ filled table formula words count pool → Pooled pool' (spelled_by table formula words count)
unfolding filled
pooled_filled {table} {formula} {words} {count} {pool} none f e =
    let outs = (lexicon_of table).outsides in
    rw e
    (stored_pooled (words_from formula words 0 count) first_word (stored_from pool 0 outs)
    (stored_pooled outs 0 pool none (outsides_given outs formula words) f.outsides_fit (omega (arith, f.room, few_outsides table)))
    (words_given outs formula words (few_outsides table) count) (words_short formula words count f.words_fit)
    (omega (arith, f.room, words_long formula words count 0, stored_long outs 0 pool)))

-- with all words stored, it is the spelling of a number by the lexicon and the words
pub filled_end : (lex : Lexicon) (formula room : List ℕ) {count : ℕ} (list : List (List ℕ)) → Words formula room count list → (number : ℕ)
    → filled_to lex.outsides formula room count number ≡ spelled lex list number
filled_end lex formula room {count} list w number =
    let outs = lex.outsides in
    by_test (ltb number first_word)
    (λ e. near outs formula room count number (ltb-true number first_word e) ∙ sym (rw (e, spelled) refl))
    (λ e.
    let far : first_word ≤ number = omega (arith, ltb-false number first_word e) in
    let there : spelled lex list number ≡ get_or list (number - first_word) [] = rw (e, spelled) refl in
    by_test (ltb (number - first_word) count)
    (λ t.
    stored_word outs formula room count number far (ltb-true (number - first_word) count t)
    ∙ sym (w.each (number - first_word) (ltb-true (number - first_word) count t))
    ∙ sym there)
    (λ t.
    let past : count ≤ number - first_word = omega (arith, ltb-false (number - first_word) count t) in
    further outs formula room count number far past ∙ sym (get_d_past list (number - first_word) [] (omega (arith, w.many))) ∙ sym there))
