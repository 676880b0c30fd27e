-- Demand 3: every expansion of a passed table ends in one of 14 to 24 or in a hygienic text.
use Prim.Native.Nat.{ℕ, ◌+◌}
use mathlib.Core.Path.{◌≡◌, refl, subst}
use mathlib.Core.List.{List, [], ◌++◌}
use native.Mathlib.Omega.{arith}
use lib.ListN.{length, drop}
use Rattle.answers.specs.Refusals.{Answer, accepted}
use Rattle.grammar.specs.Table.{Table}
use Rattle.checker.specs.Syntax.{Syntax, syntax_of}
use Rattle.soundness.specs.Passing.{Passing, passing_of}
use Rattle.soundness.proofs.Placing.{parses_placed}
use Rattle.terms.specs.Term.{Name, Term}
use Rattle.terms.specs.Rename.{renames, rename}
use Rattle.terms.specs.Print.{print}
use Rattle.terms.specs.Emit.{text_of}
use Rattle.terms.specs.Occurrences.{occurrences, loose_places}
use Rattle.terms.proofs.Statements as terms
use Rattle.meaning.specs.Expand.{Expanded, expanded, expand_table, expand}
use Rattle.meaning.specs.Meaning.{Means, MeansWithin, cells_of}
use Rattle.meaning.specs.Meaning as Meaning
use Rattle.meaning.specs.Naming.{Named}
use Rattle.meaning.specs.Hygiene.{Hygienic, Ends, refuses, Demand3}
use Rattle.meaning.specs.Hygiene as Hygiene
use Rattle.meaning.proofs.Owners.{Says, occurs, loose_says, none_places, all_owned}
use Rattle.meaning.proofs.Naming.{rename_named}
use Rattle.meaning.proofs.Stages.{expand_passed, Finish, is_refused, too_long, prints, supplied, words_as_written, outsides_as_listed, worded, means_one}
use Rattle.meaning.proofs.Stages.{Stage, in_scan, in_parse, at_last, stages}

-- ------------------------------------------------------------------ demand 3

module _ (table : Table) (passing : Passing table) (formula cells text : List ℕ) where
  abbrev syntax : Syntax
  syntax = syntax_of table

  hygienic : {meant : Term Name} → Means syntax formula meant → loose_places (occurrences [] 0 meant) ≡ [] → Hygienic syntax formula meant (print (rename meant))
  hygienic {meant} M none =
      let words = worded table passing formula M.scans M.parsed in
      let placed = parses_placed M.parsed in
      let none_loose = subst (Says (occurrences [] 0 meant)) none (loose_says (occurrences [] 0 meant)) in
      record {
        means = M;
        only = λ w N. means_one table passing formula N M;
        sorted = placed;
        supplied = supplied table passing formula M.scans M.parsed;
        words_as_written = words_as_written table passing formula M.scans;
        outsides_as_listed = outsides_as_listed table passing formula M.scans;
        shown = rename meant;
        next_number = renames meant + 1;
        named = rename_named placed (occurs [] 0 meant) none_loose;
        printed = refl;
        reads_back = terms.reads_back meant words;
        same_constructors = terms.same_constructors meant words;
        labels_stay = terms.labels_stay meant;
        occurrences = occurrences [] 0 meant;
        occur = occurs [] 0 meant;
        owned = all_owned meant (occurs [] 0 meant) none_loose;
        whose = terms.whose_name_is_whose meant words;
      }

  abbrev EndsAs : Expanded → Type 0
  EndsAs x = Ends syntax formula cells text x.answer x.text

  ends_last : {meant : Term Name} {cells' : List ℕ} (means_within : MeansWithin syntax formula cells meant) {given_expanded : Expanded}
      → Finish text_of (cells_of means_within) meant cells' text given_expanded → EndsAs given_expanded
  ends_last means_within (is_refused j) = refuses (Meaning.is_judged means_within j)
  ends_last means_within (too_long p b) = refuses (Meaning.text_too_long means_within p b)
  ends_last means_within (prints p b) =
      Hygiene.prints (record { means = means_within; passes = p; fits = b; cells_are = refl; size_is = refl; length_is = refl })
      (hygienic means_within.means (none_places p.occur p.none_loose))

  ends_stage : {given_expanded : Expanded} → Stage table passing formula cells text_of text given_expanded → EndsAs given_expanded
  ends_stage (in_scan u) = refuses (Meaning.unscanned u)
  ends_stage (in_parse S e h) = refuses (Meaning.stopped S h)
  ends_stage (at_last E R f) = ends_last E f

  table_ends : EndsAs (expand_table text_of syntax formula cells text)
  table_ends = ends_stage (stages table passing formula cells text_of text)

-- Whatever an expansion answers, it meets demand 3.
pub demand_3 : (table formula cells text : List ℕ)
    → Demand3 table formula cells text (expand table formula cells text).answer (expand table formula cells text).text
demand_3 table formula cells text P =
    rw (expand_passed text_of table P formula cells text)
    (table_ends P.table (passing_of P) formula cells text)

-- So does every call that answers as `expand` does.
pub call_meets_demand_3 : {table formula cells text : List ℕ} {answer : Answer} {cells' text' : List ℕ}
    → expanded answer cells' text' ≡ expand table formula cells text
    → Demand3 table formula cells text answer text'
call_meets_demand_3 {table} {formula} {cells} {text} e = rw (← e) at (demand_3 table formula cells text)

-- The text of an acceptance is the term that the formula means with the names that the rules of specs/Naming give.
pub accepted_names : {syntax : Syntax} {formula cells text text' : List ℕ} {answer : Answer} → Ends syntax formula cells text answer text'
    → {made size bytes : ℕ} → answer ≡ accepted made size bytes → {meant : Term Name} → Means syntax formula meant
    → (shown : Term (List ℕ)) × (next : ℕ) × Named [] 1 meant shown next × (text' ≡ print shown ++ drop (length (print shown)) text)
accepted_names (refuses c) e M = let z : ◌≡◌ {A = ℕ} 0 1 = cc in absurd (omega arith)
accepted_names {text = text} (Hygiene.prints {u} {out} accepts h) e {meant} M =
    let is : meant ≡ u = h.only meant M in
    (h.shown, h.next_number, rw is h.named, rw (← h.printed) refl)
