-- Labels told apart by number and by spelling: where all are words, and a word has one number, the walks are the same.
use Prim.Native.Nat.{ℕ, zero, suc, ◌<◌}
use mathlib.Core.Path.{◌≡◌, refl, sym, ap, ap₂, ◌∙◌}
use mathlib.Core.Bool.{Bool, true, false, ◌&&◌, ◌||◌, and-eq-true_iff}
use mathlib.Core.List.{List, [], ◌∷◌, map}
use lib.Dec.{eqb}
use borrow.Author.Tests.{eqb-true, eqb-false}
use Rattle.std.specs.Prelude.{Option}
use Rattle.spellings.specs.Bytes.{same, is_word}
use Rattle.spellings.proofs.BytesLaws.{by_test, same_refl, differ_same}
use Rattle.terms.specs.Cells.{column}
use Rattle.terms.specs.Term.{Name, Term, Fields, size}
use Rattle.terms.specs.Names.{Distinct}
use Rattle.terms.specs.Occurrences.{is_word_name, is_worded, is_worded_fields}
use Rattle.terms.specs.Rows.{name_of, Constructor, var_row, fun_row, app_row, rcd_row, dot_row, nil_row, cons_row, num_row}
use Rattle.terms.specs.Rows.{constructor_of, term_by, is_cons, fields_by, term_at, field_list_at}
use Rattle.terms.specs.Loose.{Walk, loose, reached, and_then}
use Rattle.terms.specs.Labels.{is_among, stop_if, label_walk, label_walk_fields}
use Rattle.rows.specs.Sizes.{rows_held}
use Rattle.rows.proofs.SizeLaws.{size_spell}
use Rattle.labels.specs.Stamps.{single, numbered_term, numbered_fields, EachLabel, EachLabelFields, LabelsBelow}
use Rattle.labels.specs.Searches.{walk_of, Finds}
use Rattle.labels.proofs.StampLaws.{each_label}

-- a walk and what follows it
then_same : (first first' : Walk) (on on' : ℕ → Walk) → first ≡ first' → ((q : ℕ) → on q ≡ on' q) → and_then first on ≡ and_then first' on'
then_same first (loose p) on on' e f = rw e
then_same first (reached p) on on' e f = rw e (f p)

-- Spellings of which each word has one number.
module _ (spell : ℕ → List ℕ) (distinct : Distinct spell) where
  -- a word is spelled as another number is exactly if it is that number
  same_number : (label other : ℕ) → is_word (spell label) ≡ true → same (spell label) (spell other) ≡ same (single label) (single other)
  unfolding same
  same_number label other w =
      by_test (eqb label other)
      (λ e. rw e (ap (λ n. same (spell label) (spell n)) (sym (eqb-true label other e)) ∙ same_refl (spell label)))
      (λ e. rw e (differ_same (spell label) (spell other) (λ q. eqb-false label other e (distinct label other w q))))

  among_number : (label : ℕ) (earlier : List ℕ) → is_word (spell label) ≡ true
      → is_among (spell label) (map spell earlier) ≡ is_among (single label) (map single earlier)
  unfolding is_among
  among_number label [] w = refl
  among_number label (other ∷ earlier) w = ap₂ ◌||◌ (same_number label other w) (among_number label earlier w)

  -- the number of a word
  abbrev OfWord : ℕ → Type 0
  OfWord n = is_word (spell n) ≡ true

  -- a term by spellings and the same by numbers: one walk over the labels, which are words
  record SameTerm (t numbered : Term Name) : Type 0 where
    walks : (p : ℕ) → label_walk p t ≡ label_walk p numbered
    words : EachLabel OfWord numbered

  -- the same of field lists, behind the same labels
  record SameFields (f numbered : Fields Name) : Type 0 where
    walks : (earlier : List ℕ) (p : ℕ) → label_walk_fields (map spell earlier) p f ≡ label_walk_fields (map single earlier) p numbered
    words : EachLabelFields OfWord numbered

  module _ (cells : List ℕ) where
    abbrev Terms : ℕ → Type 0
    Terms bound = (row : ℕ) → is_worded (term_at bound spell cells row) ≡ true → SameTerm (term_at bound spell cells row) (numbered_term cells bound row)

    abbrev Lists : ℕ → Type 0
    Lists bound = (row : ℕ) → is_worded_fields (field_list_at bound spell cells row) ≡ true
        → SameFields (field_list_at bound spell cells row) (numbered_fields cells bound row)

    same_term_by : (bound row : ℕ) (constructor : Constructor) → Terms bound → Lists bound
        → is_worded (term_by constructor spell cells row (λ q. term_at bound spell cells q) (λ q. field_list_at bound spell cells q)) ≡ true
        → SameTerm (term_by constructor spell cells row (λ q. term_at bound spell cells q) (λ q. field_list_at bound spell cells q))
        (term_by constructor single cells row (λ q. numbered_term cells bound q) (λ q. numbered_fields cells bound q))
    unfolding label_walk is_worded EachLabel term_by
    same_term_by bound row var_row terms lists w = record { walks = λ p. refl; words = tt }
    same_term_by bound row fun_row terms lists w =
        let h = terms (column cells row 2) ((and-eq-true_iff (is_word_name (name_of spell (column cells row 1))) _).0 w).1 in
        record { walks = λ p. h.walks (suc p); words = h.words }
    same_term_by bound row app_row terms lists w =
        let both = (and-eq-true_iff (is_worded (term_at bound spell cells (column cells row 1))) _).0 w in
        let h = terms (column cells row 1) both.0 in
        let k = terms (column cells row 2) both.1 in
        record { walks = λ p. then_same _ _ _ _ (h.walks (suc p)) (λ q. k.walks q); words = (h.words, k.words) }
    same_term_by bound row rcd_row terms lists w =
        let h = lists (column cells row 1) w in
        record { walks = λ p. h.walks [] (suc p); words = h.words }
    same_term_by bound row dot_row terms lists w =
        let h = terms (column cells row 1) ((and-eq-true_iff (is_worded (term_at bound spell cells (column cells row 1))) _).0 w).0 in
        record { walks = λ p. h.walks (suc p); words = h.words }
    same_term_by bound row nil_row terms lists w = record { walks = λ p. refl; words = tt }
    same_term_by bound row cons_row terms lists w = record { walks = λ p. refl; words = tt }
    same_term_by bound row num_row terms lists w = record { walks = λ p. refl; words = tt }

    same_fields_by : (bound row : ℕ) (test : Bool) → Terms bound → Lists bound
        → is_worded_fields (fields_by test spell cells row (λ q. term_at bound spell cells q) (λ q. field_list_at bound spell cells q)) ≡ true
        → SameFields (fields_by test spell cells row (λ q. term_at bound spell cells q) (λ q. field_list_at bound spell cells q))
        (fields_by test single cells row (λ q. numbered_term cells bound q) (λ q. numbered_fields cells bound q))
    unfolding label_walk_fields is_worded_fields EachLabelFields fields_by
    same_fields_by bound row true terms lists w =
        let label = column cells row 1 in
        let both = (and-eq-true_iff (is_word (spell label) && is_worded (term_at bound spell cells (column cells row 2))) _).0 w in
        let front = (and-eq-true_iff (is_word (spell label)) _).0 both.0 in
        let h = terms (column cells row 2) front.1 in
        let k = lists (column cells row 3) both.1 in
        record {
          walks = λ earlier p.
              ap₂ (λ b on. stop_if b p on) (among_number label earlier front.0)
              (then_same _ _ _ _ (h.walks (suc p)) (λ q. k.walks (label ∷ earlier) q));
          words = (front.0, h.words, k.words);
        }
    same_fields_by bound row false terms lists w = record { walks = λ earlier p. refl; words = tt }

    mutual
      unfolding term_at field_list_at label_walk label_walk_fields EachLabel EachLabelFields

      same_term : (bound : ℕ) → Terms bound
      same_term zero row w = record { walks = λ p. refl; words = tt }
      same_term (suc bound) row w =
          same_term_by bound row (constructor_of (column cells row 0)) (λ part h. same_term bound part h) (λ part h. same_fields bound part h) w

      same_fields : (bound : ℕ) → Lists bound
      same_fields zero row w = record { walks = λ earlier p. refl; words = tt }
      same_fields (suc bound) row w =
          same_fields_by bound row (is_cons (constructor_of (column cells row 0))) (λ part h. same_term bound part h) (λ part h. same_fields bound part h) w

    module _ (bound root : ℕ) (worded : is_worded (term_at bound spell cells root) ≡ true) where
      -- The walk over a term's labels by spellings is that by numbers.
      pub walk_spelled : label_walk 0 (term_at bound spell cells root) ≡ label_walk 0 (numbered_term cells bound root)
      walk_spelled = (same_term bound root worded).walks 0

      -- The labels of its records have numbers below a count that all words have.
      pub labels_below : (count : ℕ) → ((n : ℕ) → is_word (spell n) ≡ true → n < count) → LabelsBelow count (numbered_term cells bound root)
      labels_below count few = each_label few (numbered_term cells bound root) (same_term bound root worded).words

    -- What a search finds by numbers is what the walk by spellings gives.
    pub found_spelled : {root : ℕ} {r : Option ℕ} → is_worded (term_at (rows_held cells) spell cells root) ≡ true → Finds cells root r
        → label_walk 0 (term_at (rows_held cells) spell cells root) ≡ walk_of r (size (term_at (rows_held cells) spell cells root))
    found_spelled {root} worded finds = walk_spelled (rows_held cells) root worded ∙ rw (size_spell (rows_held cells) spell single cells root) finds.walked
