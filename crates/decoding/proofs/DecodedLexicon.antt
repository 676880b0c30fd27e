-- The keywords and outside names at the front of a table's bytes are those of the decoded table.
use Prim.Native.Nat.{ℕ, ◌-◌, ◌≤◌}
use mathlib.Core.Path.{◌≡◌, refl, sym, ap, ◌∙◌, subst⁻¹}
use mathlib.Core.Bool.{true, false, or-false}
use mathlib.Core.List.{List, [], ◌∷◌}
use native.Mathlib.Omega.{arith}
use lib.Dec.{eqb, leb}
use lib.ListN.{length}
use lib.Seq.{take_all}
use borrow.Author.Tests.{leb-true}
use Rattle.answers.specs.Checked.{ok}
use Rattle.spellings.proofs.BytesLaws.{by_test}
use Rattle.grammar.specs.Limits.{most}
use Rattle.grammar.specs.Written.{Written}
use Rattle.grammar.specs.Values.{Field, field}
use Rattle.grammar.specs.Fields.{RawFields, end, cut, next, fields_of}
use Rattle.grammar.specs.Lookup.{leading, after_leading, lexicon_of}
use Rattle.decoding.specs.declared.Progress.{Progress}
use Rattle.decoding.specs.Layout.{is_known, follows, passed, initial_progress, check_fields}
use Rattle.decoding.specs.Decode.{Decoded, put, decode_fields, decode}
use Rattle.decoding.proofs.Accept.{Passes, Accepts, accepted, by_tag}
use Rattle.decoding.proofs.Sound.{keyword_has_room, outside_has_room}
use Rattle.decoding.proofs.Inverse.{layout_parts, decoded_layout}

-- ------------------------------------------------------------------ leading fields

leading_not : (tag at found : ℕ) (value : List ℕ) (fs : RawFields) → eqb found tag ≡ false → leading tag (next at found value fs) ≡ []
unfolding leading
leading_not tag at found value fs e = rw (e, leading) refl

after_not : (tag at found : ℕ) (value : List ℕ) (fs : RawFields) → eqb found tag ≡ false → after_leading tag (next at found value fs) ≡ next at found value fs
unfolding after_leading
after_not tag at found value fs e = rw (e, after_leading) refl

leading_one : (tag at found : ℕ) (value : List ℕ) (fs : RawFields) → eqb found tag ≡ true → leading tag (next at found value fs) ≡ value ∷ leading tag fs
unfolding leading
leading_one tag at found value fs e = rw (e, leading) refl

-- nothing is left out after no leading field
after_none : (tag : ℕ) (fs : RawFields) → leading tag fs ≡ [] → after_leading tag fs ≡ fs
unfolding after_leading
after_none tag (end at) e = refl
after_none tag (cut at) e = refl
after_none tag (next at t v fs) e =
    by_test (eqb t tag) (λ h. let z : ◌≡◌ {A = ℕ} 0 1 = cc (leading_one tag at t v fs h) in absurd (omega arith))
    (λ h. after_not tag at t v fs h)

-- ------------------------------------------------------------------ field by field

-- the leading spellings of fields are those that are built, none after the last place for them, and there is room for them
record Spells (progress : Progress) (fs : RawFields) : Type 0 where
  keywords : leading 1 fs ≡ (decode_fields fs).keywords
  outsides : leading 2 (after_leading 1 fs) ≡ (decode_fields fs).outsides
  keywords_over : 2 ≤ progress.last → (decode_fields fs).keywords ≡ []
  outsides_over : 3 ≤ progress.last → (decode_fields fs).outsides ≡ []
  keyword_room : length (decode_fields fs).keywords ≤ most.keywords - progress.keywords
  outside_room : length (decode_fields fs).outsides ≤ most.outsides - progress.outsides

abbrev Step : ℕ → Type 0
Step tag = (at : ℕ) (v : List ℕ) (fs : RawFields) (before : List Field) (s : Progress) → Passes before tag v s → Spells (passed tag s) fs
    → Spells s (next at tag v fs)

follows_keyword : (last : ℕ) → follows 1 last ≡ leb last 1
unfolding follows
follows_keyword last = simp or-false

follows_outside : (last : ℕ) → follows 2 last ≡ leb last 2
unfolding follows
follows_outside last = simp or-false

step_keyword : Step 1
unfolding leading after_leading decode_fields put passed
step_keyword at v fs before s p h =
    let early : s.last ≤ 1 = leb-true s.last 1 (sym (follows_keyword s.last) ∙ p.ordered) in
    let room = keyword_has_room s p.room in
    record {
      keywords = cc h.keywords;
      outsides = h.outsides;
      keywords_over = λ l. absurd (omega arith);
      outsides_over = λ l. absurd (omega arith);
      keyword_room = omega (arith, h.keyword_room);
      outside_room = omega (arith, h.outside_room);
    }

step_outside : Step 2
unfolding leading after_leading decode_fields put passed
step_outside at v fs before s p h =
    let early : s.last ≤ 2 = leb-true s.last 2 (sym (follows_outside s.last) ∙ p.ordered) in
    let room = outside_has_room s p.room in
    let over = h.keywords_over (omega arith) in
    record {
      keywords = sym over;
      outsides = cc (after_none 1 fs (h.keywords ∙ over), h.outsides);
      keywords_over = λ l. over;
      outsides_over = λ l. absurd (omega arith);
      keyword_room = omega (arith, h.keyword_room);
      outside_room = omega (arith, h.outside_room);
    }

-- a field of another tag
step_later : (tag : ℕ) → 3 ≤ tag → eqb tag 1 ≡ false → eqb tag 2 ≡ false
    → ((value : List ℕ) (decoded : Decoded) → (put tag value decoded).keywords ≡ decoded.keywords)
    → ((value : List ℕ) (decoded : Decoded) → (put tag value decoded).outsides ≡ decoded.outsides)
    → Step tag
unfolding decode_fields passed
step_later tag l k o pk po at v fs before s p h =
    let ks = pk v (decode_fields fs) ∙ h.keywords_over (omega arith) in
    let os = po v (decode_fields fs) ∙ h.outsides_over l in
    record {
      keywords = leading_not 1 at tag v fs k ∙ sym ks;
      outsides = ap (leading 2) (after_not 1 at tag v fs k) ∙ leading_not 2 at tag v fs o ∙ sym os;
      keywords_over = λ z. ks;
      outsides_over = λ z. os;
      keyword_room = rw ks (omega arith);
      outside_room = rw os (omega arith);
    }

steps : (tag : ℕ) (value : List ℕ) → is_known tag value ≡ true → Step tag
unfolding put
steps =
    by_tag Step step_keyword step_outside (step_later 3 (omega arith) refl refl (λ v b. refl) (λ v b. refl))
    (step_later 4 (omega arith) refl refl (λ v b. refl) (λ v b. refl))
    (step_later 5 (omega arith) refl refl (λ v b. refl) (λ v b. refl))
    (step_later 6 (omega arith) refl refl (λ v b. refl) (λ v b. refl))
    (step_later 7 (omega arith) refl refl (λ v b. refl) (λ v b. refl))
    (step_later 8 (omega arith) refl refl (λ v b. refl) (λ v b. refl))

spells : (fs : RawFields) (before : List Field) (progress : Progress) → check_fields fs before progress ≡ ok tt → Spells progress fs
unfolding check_fields leading after_leading decode_fields
spells (end at) before progress h =
    record {
      keywords = refl;
      outsides = refl;
      keywords_over = λ l. refl;
      outsides_over = λ l. refl;
      keyword_room = omega arith;
      outside_room = omega arith;
    }
spells (cut at) before progress h = absurd (subst⁻¹ Accepts h tt)
spells (next at tag v fs) before progress h =
    let both = accepted at tag v fs before progress h in
    steps tag v both.0.known at v fs before progress both.0 (spells fs (field tag v ∷ before) (passed tag progress) both.1)

-- The spellings that lead the fields of bytes that are decoded as a table are the table's.
pub leading_decoded : (bs : List ℕ) (table : Written) → decode bs ≡ ok table
    → (leading 1 (fields_of bs) ≡ table.keywords) × (leading 2 (after_leading 1 (fields_of bs)) ≡ table.outsides)
leading_decoded bs table h =
    let right = decoded_layout bs table h in
    let w = spells (fields_of bs) [] initial_progress (layout_parts bs right.0).1 in
    (cc (w.keywords, right.1), cc (w.outsides, right.1))

-- The lexicon of bytes that are decoded as a table is the table's.
pub lexicon_decoded : (bs : List ℕ) (table : Written) → decode bs ≡ ok table
    → lexicon_of bs ≡ record { keywords = table.keywords; outsides = table.outsides; variables = [] }
unfolding lexicon_of
lexicon_decoded bs table h =
    let right = decoded_layout bs table h in
    let w = spells (fields_of bs) [] initial_progress (layout_parts bs right.0).1 in
    let b = decode_fields (fields_of bs) in
    cc (w.keywords, take_all most.keywords b.keywords w.keyword_room, w.outsides, take_all most.outsides b.outsides w.outside_room, right.1)
