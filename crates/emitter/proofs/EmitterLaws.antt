-- The steps of the last step joined: what is judged of a term, what is written of one that passes, and the rooms for marks.
use Prim.Native.Nat.{ℕ, ◌<◌, ◌≤◌}
use mathlib.Core.Path.{◌≡◌, refl, sym, ap, ap₂, ◌∙◌}
use mathlib.Core.List.{List}
use native.Mathlib.Omega.{arith}
use native.Mathlib.Decide.{dec_le}
use lib.Dec.{ltb}
use lib.ListN.{length, get_or, take, replicate, length-replicate, length-take}
use lib.Seq.{length-take-le, get_or-take}
use borrow.Author.Tests.{le-leb, lt-leb, ltb-true, ltb-false}
use Rattle.std.specs.Prelude.{⊤, Result, Ok, Err}
use Rattle.answers.specs.declared.Refusal.{Refusal}
use Rattle.answers.specs.Refusals.{Answer, accepted, Verdict, refusal}
use Rattle.answers.specs.Checked.{Checked, ok, bad, verdict}
use Rattle.spellings.specs.Buffers.{written_into}
use Rattle.spellings.proofs.BytesLaws.{by_test}
use Rattle.spellings.proofs.BuffersLaws.{written_fits, written_not}
use Rattle.grammar.proofs.ReaderLaws.{get_d_past}
use Rattle.terms.specs.Term as Term
use Rattle.terms.specs.Term.{Name, Term, size, largest_term}
use Rattle.terms.specs.Rows.{term_at}
use Rattle.terms.specs.Print.{print}
use Rattle.terms.specs.Emit.{text_of, judged, fitted}
use Rattle.terms.proofs.EmitLaws.{leaves, fitted_long, fitted_whole, judged_large, judged_loose, judged_passes, emitted_refused, emitted_fitted}
use Rattle.rows.specs.Sizes.{WholeRows, rows_held, no_spell, size_at}
use Rattle.rows.proofs.ListLaws.{zeros}
use Rattle.rows.proofs.SizeLaws.{size_spell}
use Rattle.resolver.specs.Numbers.{walk_of, Resolvable, Resolves}
use Rattle.writer.specs.Pool.{spelled_by}
use Rattle.printer.specs.Printed.{text_by, Printable, Prints}
use Rattle.portions.specs.Portions.{portions_of}
use Rattle.portions.specs.Lists.{entries_at, Portionable, Listed}
use Rattle.portions.proofs.ListLaws.{entries_portions}
use Rattle.emitter.specs.declared.Writing.{Writing}
use Rattle.emitter.specs.declared.Writing.TheVariants.{Text, Portions}
use Rattle.emitter.specs.Writing.{writes, lent_for, Writable, Emits}
use Rattle.emitter.specs.Emittable.{term_of, Emittable, Sized, Markable, JudgedAs, Judged, answer_by}

-- ------------------------------------------------------------------ what is judged

never : {A : Type 0} {cause : Refusal} → ◌≡◌ {A = Verdict} (Err cause) (Ok tt) → A
never e = let z : ◌≡◌ {A = ℕ} 0 1 = cc in absurd (omega arith)

module _ (cells : List ℕ) (root : ℕ) where
  sized : (spell : ℕ → List ℕ) → size_at cells (rows_held cells) root ≡ size (term_at (rows_held cells) spell cells root)
  sized spell = size_spell (rows_held cells) no_spell spell cells root

  -- 22
  pub judge_large : {marks : List ℕ} {constructors : ℕ} {cause : Refusal} → Sized cells root constructors → largest_term < constructors
      → cause ≡ refusal 22 (rows_held cells) 0 0 → Judged cells root marks marks (Err cause)
  judge_large s h e =
      record {
        long = refl;
        small = never;
        each =
            λ spell d w.
            record {
              answer = rw (judged_large (rows_held cells) (term_at (rows_held cells) spell cells root) (omega (arith, sized spell)), e) refl;
              named = never;
            };
      }

  module _ {marks marks' : List ℕ} {constructors : ℕ} {resolution : Result ⊤ ℕ} (s : Sized cells root constructors) (few : constructors ≤ largest_term)
      (resolved : Resolves cells (rows_held cells) root marks' resolution × (length marks' ≡ length marks))
    where
      -- 23
      pub judge_loose : {place : ℕ} {cause : Refusal} → resolution ≡ Err place → cause ≡ refusal 23 place 0 0
          → Judged cells root marks marks' (Err cause)
      judge_loose {place} en e =
          record {
            long = resolved.1;
            small = never;
            each =
                λ spell d w.
                let walked = (resolved.0 spell d w).answer ∙ ap (λ r. walk_of r (size (term_at (rows_held cells) spell cells root))) en in
                record {
                  answer = rw (judged_loose (rows_held cells) (term_at (rows_held cells) spell cells root) (omega (arith, sized spell)) walked, e) refl;
                  named = never;
                };
          }

      -- else the term passes, and its new names are numbered
      pub judge_passes : resolution ≡ Ok tt → Judged cells root marks marks' (Ok tt)
      judge_passes en =
          record {
            long = resolved.1;
            small = λ e. omega arith;
            each =
                λ spell d w.
                let walked = (resolved.0 spell d w).answer ∙ ap (λ r. walk_of r (size (term_at (rows_held cells) spell cells root))) en in
                record {
                  answer = rw (judged_passes (rows_held cells) (term_at (rows_held cells) spell cells root) (omega (arith, sized spell)) walked) refl;
                  named = λ e. (resolved.0 spell d w).named en;
                };
          }

-- resolution is given what it asks
pub resolvable : {cells : List ℕ} {root size : ℕ} {marks : List ℕ} → Markable cells root size marks → size ≤ largest_term
    → Resolvable cells (rows_held cells) root marks
resolvable lent few =
    let long = lent.marked few in
    record {
      whole = lent.whole;
      rows_lie = omega (arith, lent.whole.whole);
      counted = long ∙ omega (arith, lent.sized);
      few = omega arith;
      blank = lent.blank;
    }

-- ------------------------------------------------------------------ what is written

module _ (made constructors needed room : ℕ) where
  -- a text longer than its buffer is refused with 24 and its length
  pub answer_long : room < needed → Err (refusal 24 needed 0 0) ≡ answer_by made constructors needed room
  unfolding answer_by
  answer_long h = sym (rw (lt-leb needed room h, answer_by))

  -- one that fits is accepted with its length
  pub answer_whole : needed ≤ room → accepted made constructors needed ≡ answer_by made constructors needed room
  unfolding answer_by
  answer_whole h = sym (rw (le-leb needed room h, answer_by))

-- what is written, if it fits, and the answer by its length
fitted_by : (made constructors : ℕ) (out text : List ℕ)
    → fitted made constructors out text ≡ leaves (answer_by made constructors (length out) (length text)) (written_into out text)
fitted_by made constructors out text = by (dec_le (length out) (length text))
  where
    by : Dec (length out ≤ length text)
        → fitted made constructors out text ≡ leaves (answer_by made constructors (length out) (length text)) (written_into out text)
    by (yes h) =
        fitted_whole made constructors out text h
        ∙ ap₂ leaves (answer_whole made constructors (length out) (length text) h) (sym (written_fits out text h))
    by (no n) =
        let h : length text < length out = omega arith in
        fitted_long made constructors out text h
        ∙ ap₂ leaves (answer_long made constructors (length out) (length text) h) (sym (written_not out text h))

-- 24 or what a walk writes, which answers how much it is
fitted_walk : (made constructors : ℕ) (out text : List ℕ) {text' : List ℕ} {needed : ℕ} {answer : Answer} → needed ≡ length out → text' ≡ written_into out text
    → answer ≡ answer_by made constructors needed (length text) → fitted made constructors out text ≡ leaves answer text'
fitted_walk made constructors out text {answer = answer} n p e =
    fitted_by made constructors out text ∙ ap₂ leaves (ap (λ n. answer_by made constructors n (length text)) (sym n) ∙ sym e) (sym p)

-- the text that is printed
pub written : (made constructors : ℕ) {out text text' : List ℕ} {needed : ℕ} {answer : Answer} → Prints out text text' needed
    → answer ≡ answer_by made constructors needed (length text) → fitted made constructors out text ≡ leaves answer text'
written made constructors {out} {text} p e = fitted_walk made constructors out text p.needed p.placed e

-- the entries that are listed
pub listed : (made constructors : ℕ) {out list list' : List ℕ} {needed : ℕ} {answer : Answer} → Listed out list list' needed
    → answer ≡ answer_by made constructors needed (length list) → fitted made constructors out list ≡ leaves answer list'
listed made constructors {out} {list} l e = fitted_walk made constructors out list l.needed l.placed e

-- ------------------------------------------------------------------ judged, then written

verdict_bad : (checked : Checked (Unit {0})) {cause : Refusal} → Err cause ≡ verdict checked → checked ≡ bad cause
verdict_bad (ok u) e = never e
verdict_bad (bad r) e = cc

verdict_ok : (checked : Checked (Unit {0})) → Ok tt ≡ verdict checked → checked ≡ ok tt
verdict_ok (ok u) e = refl
verdict_ok (bad r) e = never (sym e)

module _ {table formula words : List ℕ} {count : ℕ} {cells : List ℕ} {root size : ℕ} {marks marks' : List ℕ} {given_verdict : Verdict}
    (given : Emittable table formula words count cells root) (lent : Markable cells root size marks) (judges : Judged cells root marks marks' given_verdict)
  where
    abbrev spell : ℕ → List ℕ
    spell = spelled_by table formula words count

    abbrev T : Term Name
    T = term_of table formula words count cells root

    judges_as : JudgedAs (rows_held cells) T marks' given_verdict
    judges_as = judges.each spell given.distinct given.well_named

    -- what is judged refuses the term
    pub emit_refused : (writing : Writing) (text list : List ℕ) {cause : Refusal} → given_verdict ≡ Err cause
        → Emits writing (rows_held cells) T text list (Err cause) text list
    emit_refused writing text list e =
        record {
          wrote =
              emitted_refused (writes writing) (rows_held cells) T (lent_for writing text list)
              (verdict_bad (judged (rows_held cells) T) (sym e ∙ judges_as.answer));
          kept = refl;
        }

    -- a term that passes has a number for each of its constructors,
    counted : given_verdict ≡ Ok tt → length marks' ≡ size_at cells (rows_held cells) root
    counted e =
        let small = judges.small e in
        judges.long ∙ lent.marked (omega (arith, lent.sized)) ∙ omega (arith, lent.sized)

    -- can be printed,
    pub emit_printable : given_verdict ≡ Ok tt → Printable table formula words count cells (rows_held cells) root marks'
    emit_printable e =
        record {
          few = given.few;
          lie = given.lie;
          outsides_fit = given.outsides_fit;
          words_fit = given.words_fit;
          marked = omega (arith, counted e);
          small = omega (arith, counted e, judges.small e);
        }

    passed_is : given_verdict ≡ Ok tt → judged (rows_held cells) T ≡ ok tt
    passed_is e = verdict_ok (judged (rows_held cells) T) (sym e ∙ judges_as.answer)

    -- and its text is written
    pub emit_text : (text list : List ℕ) {text' : List ℕ} {answer : Answer} → given_verdict ≡ Ok tt → {writing : Writing} → writing ≡ Text
        → fitted (rows_held cells) (length marks') (text_by spell cells marks' (rows_held cells) root) text ≡ leaves answer text'
        → Emits writing (rows_held cells) T text list answer text' list
    unfolding text_by
    emit_text text list e is w =
        rw is
        (record {
          wrote =
              emitted_fitted text_of (rows_held cells) T text (passed_is e)
              ∙ sym (ap₂ (λ n out. fitted (rows_held cells) n out text) (counted e ∙ sized cells root spell) (ap print (judges_as.named e))) ∙ w;
          kept = refl;
        })

    -- Its portions can be listed,
    pub emit_portionable : given_verdict ≡ Ok tt → {writing : Writing} → Writable writing → (written wanted : ℕ) → writing ≡ Portions written wanted
        → Portionable written wanted cells root
    emit_portionable e may written wanted is = record { counts = may.counts written wanted is; small = judges.small e }

    -- and are written
    pub emit_portions : (text list : List ℕ) {list' : List ℕ} {answer : Answer} → given_verdict ≡ Ok tt → {writing : Writing} (written wanted : ℕ)
        → writing ≡ Portions written wanted
        → fitted (rows_held cells) size (entries_at written wanted cells (rows_held cells) root) list ≡ leaves answer list'
        → Emits writing (rows_held cells) T text list answer text list'
    emit_portions text list e written wanted is w =
        let small = judges.small e in
        let exact : size ≡ Term.size T = omega (arith, lent.sized, small, sized cells root spell) in
        rw is
        (record {
          wrote =
              emitted_fitted (portions_of written wanted) (rows_held cells) T list (passed_is e)
              ∙ sym (ap₂ (λ n out. fitted (rows_held cells) n out list) exact (entries_portions written wanted cells (rows_held cells) root spell)) ∙ w;
          kept = refl;
        })

-- ------------------------------------------------------------------ rooms for marks

-- the front of a room of zeros
zeros_front : (count size place : ℕ) → get_or {A = ℕ} (take size (replicate count 0)) place 0 ≡ 0
zeros_front count size place =
    by_test (ltb place size)
    (λ e. get_or-take {A = ℕ} size (replicate count 0) place 0 (ltb-true place size e) ∙ zeros count place)
    (λ e.
    get_d_past {A = ℕ} (take size (replicate count 0)) place 0
    (omega (arith, ltb-false place size e, length-take {A = ℕ} size (replicate count 0))))

module _ {cells : List ℕ} {root size : ℕ} (whole : WholeRows cells) (s : Sized cells root size) where
  -- A room of as many marks as the term has constructors, at the front of `count` zeros.
  pub markable : (count : ℕ) → size ≤ count → Markable cells root size (take size (replicate count 0))
  markable count l =
      record {
        whole = whole;
        sized = s;
        marked = λ h. length-take-le {A = ℕ} size (replicate count 0) (omega (arith, length-replicate {A = ℕ} count 0));
        blank = zeros_front count size;
      }

  -- For a term that is too large there is none.
  pub unmarked : (count : ℕ) → largest_term < size → Markable cells root size (take 0 (replicate count 0))
  unmarked count l = record { whole = whole; sized = s; marked = λ h. absurd (omega arith); blank = zeros_front count 0 }
