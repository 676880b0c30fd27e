-- The bytes of a table up to a block's field can be indexed where the table's fields are whole, and have the table's keywords and outside names.
use Prim.Native.Nat.{ℕ, ◌<◌, ◌≤◌}
use mathlib.Core.Path.{◌≡◌, refl, sym, ap, ◌∙◌}
use mathlib.Core.Bool.{Bool, true, false, ◌&&◌}
use mathlib.Core.List.{List, [], ◌∷◌}
use native.Mathlib.Omega.{arith}
use lib.Dec.{eqb}
use lib.ListN.{get_or, take, drop, length-take}
use borrow.Author.Tests.{eq-eqb, ne_eqb, eqb-true}
use Rattle.spellings.proofs.BytesLaws.{by_test}
use Rattle.grammar.specs.Limits.{most}
use Rattle.grammar.specs.Fields.{RawFields, end, cut, next, fields_of}
use Rattle.grammar.specs.Lookup.{leading, after_leading, lexicon_of}
use Rattle.decoding.specs.Decode.{mode_of}
use Rattle.decoding.specs.Prefix.{templates_of, is_templates}
use Rattle.decoding.specs.Within.{Each, each_none}
use Rattle.decoding.proofs.Values.{and_left, and_right}
use Rattle.productions.specs.Index.{Place, places_by, whole_body, Whole, alternative_fields}
use Rattle.productions.specs.IndexCalls.{FitsIndex}
use Rattle.productions.proofs.Places.{Stands, stands, each_kept, each_snoc}
use Rattle.elaborator.specs.PreparedTexts.{Indexable}
use Rattle.elaborator.proofs.FieldsBefore.{BlockAt, block_here, block_later, fields_before, fields_before_lem}

-- fields of which each head is of a nonterminal, and each alternative is whole
abbrev pub WholeFields : RawFields → Type 0
WholeFields (end at) = Unit {0}
WholeFields (cut at) = Unit {0}
WholeFields (next at tag v fs) = (tag ≡ 4 → get_or v 0 0 < most.nonterminals) × (whole_body (next at tag v fs) ≡ true) × WholeFields fs

first_whole : (fs : RawFields) → WholeFields fs → whole_body fs ≡ true
unfolding whole_body
first_whole (end at) w = refl
first_whole (cut at) w = refl
first_whole (next at tag v fs) w = w.1

-- ------------------------------------------------------------------ the fields before

body_before : (block : ℕ) (fs : RawFields) → whole_body fs ≡ true → whole_body (fields_before block fs) ≡ true
unfolding whole_body fields_before
body_before block (end at) h = refl
body_before block (cut at) h = refl
body_before block (next at tag v fs) h =
    let rest = body_before block fs in
    let whole : Bool = is_templates (templates_of (drop 2 v)) in
    by_test (eqb at block) (λ e. rw (e, fields_before) refl)
    (λ e. by_test (eqb tag 6)
    (λ s. let both : (whole && whole_body fs) ≡ true = rw (s, whole_body) at h in
    rw (e, fields_before, s, whole_body, and_left whole (whole_body fs) both) (rest (and_right whole (whole_body fs) both)))
    (λ s. rw (e, fields_before, s, whole_body) (rw (s, whole_body) at h)))

whole_before : (block : ℕ) (fs : RawFields) → WholeFields fs → WholeFields (fields_before block fs)
unfolding fields_before
whole_before block (end at) w = tt
whole_before block (cut at) w = tt
whole_before block (next at tag v fs) w =
    let rest = whole_before block fs w.2 in
    let here = body_before block (next at tag v fs) w.1 in
    by_test (eqb at block) (λ e. rw (e, fields_before) tt)
    (λ e. rw (e, fields_before) (w.0, rw (e, fields_before) at here, rest))

fewer_before : (block : ℕ) (fs : RawFields) → alternative_fields (fields_before block fs) ≤ alternative_fields fs
unfolding alternative_fields fields_before
fewer_before block (end at) = omega arith
fewer_before block (cut at) = omega arith
fewer_before block (next at tag v fs) =
    let rest = fewer_before block fs in
    by_test (eqb at block) (λ e. rw (e, fields_before) (omega arith))
    (λ e. by_test (eqb tag 5)
    (λ f. rw (e, fields_before, f, alternative_fields) (omega (arith, rest)))
    (λ f. rw (e, fields_before, f, alternative_fields) rest))

-- ------------------------------------------------------------------ the places there

places_whole : (bs : List ℕ) (fs : RawFields) → Stands bs fs → WholeFields fs → (nonterminal : ℕ) → nonterminal < most.nonterminals → (ps : List Place)
    → Each (Whole bs) ps → Each (Whole bs) (places_by fs nonterminal ps)
unfolding places_by
places_whole bs (end at) stand w nonterminal small ps each = each
places_whole bs (cut at) stand w nonterminal small ps each = each
places_whole bs (next at tag v fs) stand w nonterminal small ps each =
    let rest = places_whole bs fs stand.2 w.2 in
    by_test (eqb tag 4)
    (λ e. rw (e, places_by) (rest (get_or v 0 0) (w.0 (eqb-true tag 4 e)) _ (each_kept (mode_of (get_or v 1 0)) (get_or v 0 0) ps each)))
    (λ e. by_test (eqb tag 5)
    (λ f. rw (e, f, places_by)
    (rest nonterminal small _
    (each_snoc each (record { small = small; inside = stand.0; whole = ap whole_body stand.1 ∙ first_whole fs w.2 }))))
    (λ f. rw (e, f, places_by) (rest nonterminal small ps each)))

-- ------------------------------------------------------------------ the spellings

leading_before : (block tag : ℕ) → (tag ≡ 3 → ⊥) → {fs : RawFields} → BlockAt block fs → leading tag (fields_before block fs) ≡ leading tag fs
unfolding leading fields_before
leading_before block tag other block_here = rw (eq-eqb block block refl, fields_before, ne_eqb 3 tag (λ e. other (sym e)), leading) refl
leading_before block tag other (block_later {at = at} {tag = t} {v = v} {fs = fs} l b) =
    let rest = leading_before block tag other b in
    let before : eqb at block ≡ false = ne_eqb at block (λ e. omega (arith, l, e)) in
    by_test (eqb t tag) (λ e. rw (before, fields_before, e, leading) (ap (◌∷◌ v) rest)) (λ e. rw (before, fields_before, e, leading) refl)

after_block : (block tag : ℕ) → (tag ≡ 3 → ⊥) → {fs : RawFields} → BlockAt block fs → BlockAt block (after_leading tag fs)
unfolding after_leading
after_block block tag other block_here = rw (ne_eqb 3 tag (λ e. other (sym e)), after_leading) block_here
after_block block tag other (block_later {at = at} {tag = t} {v = v} {fs = fs} l b) =
    let rest = after_block block tag other b in
    by_test (eqb t tag) (λ e. rw (e, after_leading) rest) (λ e. rw (e, after_leading) (block_later l b))

after_before : (block tag : ℕ) → (tag ≡ 3 → ⊥) → {fs : RawFields} → BlockAt block fs
    → after_leading tag (fields_before block fs) ≡ fields_before block (after_leading tag fs)
unfolding after_leading fields_before
after_before block tag other block_here =
    rw (ne_eqb 3 tag (λ e. other (sym e)), after_leading, eq-eqb block block refl, fields_before) refl
after_before block tag other (block_later {at = at} {tag = t} {v = v} {fs = fs} l b) =
    let rest = after_before block tag other b in
    let before : eqb at block ≡ false = ne_eqb at block (λ e. omega (arith, l, e)) in
    by_test (eqb t tag) (λ e. rw (before, fields_before, e, after_leading) rest) (λ e. rw (e, after_leading, before, fields_before, e, after_leading) refl)

-- ------------------------------------------------------------------ the bytes before

module _ (bs : List ℕ) (block : ℕ) (reached : BlockAt block (fields_of bs)) where
  -- They can be indexed,
  pub indexable_before : FitsIndex bs → WholeFields (fields_of bs) → Indexable (take block bs)
  indexable_before fits w =
      let fields = fields_before_lem bs block reached in
      let bodies : WholeFields (fields_of (take block bs)) = rw fields (whole_before block (fields_of bs) w) in
      record {
        fits =
            record {
              short = omega (arith, fits.short, length-take block bs);
              few = rw fields (omega (arith, fits.few, fewer_before block (fields_of bs)));
            };
        whole = places_whole (take block bs) (fields_of (take block bs)) (stands (take block bs)) bodies 0 (omega arith) [] each_none;
      }

  -- and begin with the same keywords and outside names.
  pub lexicon_before : lexicon_of (take block bs) ≡ lexicon_of bs
  unfolding lexicon_of
  lexicon_before =
      let keyword : ◌≡◌ {A = ℕ} 1 3 → ⊥ = λ e. omega arith in
      let outside : ◌≡◌ {A = ℕ} 2 3 → ⊥ = λ e. omega arith in
      let fields = fields_before_lem bs block reached in
      let outsides : leading 2 (after_leading 1 (fields_before block (fields_of bs))) ≡ leading 2 (after_leading 1 (fields_of bs))
      = ap (leading 2) (after_before block 1 keyword reached) ∙ leading_before block 2 outside (after_block block 1 keyword reached) in
      rw (fields, leading_before block 1 keyword reached, outsides) refl
