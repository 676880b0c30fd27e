-- What is judged of a term by tests is what the rules say of it.
use Prim.Native.Nat.{ℕ, ◌≤◌, ◌<◌}
use mathlib.Core.Path.{◌≡◌, refl, subst}
use mathlib.Core.List.{List, [], ◌∷◌}
use native.Mathlib.Omega.{arith}
use native.Mathlib.Decide.{dec_le}
use Rattle.answers.specs.declared.Refusal.{Refusal}
use Rattle.answers.specs.Checked.{Checked, ok, bad}
use Rattle.terms.specs.Term.{Name, Term, size, largest_term}
use Rattle.terms.specs.Loose.{walk}
use Rattle.terms.specs.Occurrences.{occurrences, loose_places, stops_at_first}
use Rattle.terms.specs.Emit.{judged}
use Rattle.terms.proofs.EmitLaws.{judged_large, judged_loose, judged_passes}
use Rattle.terms.proofs.Statements as terms
use Rattle.meaning.specs.Meaning.{Judges, too_large, is_loose, PassesTests}
use Rattle.meaning.proofs.Owners.{occurs, Says, loose_says, none_places, first_places}

module _ (made : ℕ) (t : Term Name) where
  -- How a judgement ends: with a refusal in its case, or with a term that passes.
  pub data Judgement : Checked (Unit {0}) → Type 0 where
    refuses : {r : Refusal} → Judges made t r → Judgement (bad r)
    passes : PassesTests t → Judgement (ok tt)

  walks : {ps : List ℕ} → loose_places (occurrences [] 0 t) ≡ ps → walk [] 0 t ≡ stops_at_first ps (size t)
  walks e = rw (terms.first_loose t, e)

  says : {ps : List ℕ} → loose_places (occurrences [] 0 t) ≡ ps → Says (occurrences [] 0 t) ps
  says e = subst (Says (occurrences [] 0 t)) e (loose_says (occurrences [] 0 t))

  -- Every judgement ends so.
  pub judgement : Judgement (judged made t)
  judgement = by (dec_le (size t) largest_term) (loose_places (occurrences [] 0 t)) refl
    where
      by : Dec (size t ≤ largest_term) → (ps : List ℕ) → loose_places (occurrences [] 0 t) ≡ ps → Judgement (judged made t)
      by (no n) ps e = let h : largest_term < size t = omega arith in rw (judged_large made t h) (refuses (too_large (omega arith)))
      by (yes h) (p ∷ ps) e = rw (judged_loose made t h (walks e)) (refuses (is_loose h (occurs [] 0 t) (says e)))
      by (yes h) [] e =
          rw (judged_passes made t h (walks e))
          (passes (record { small = h; occurrences = occurrences [] 0 t; occur = occurs [] 0 t; none_loose = says e }))

  -- What the rules refuse the tests refuse,
  pub judges_bad : {r : Refusal} → Judges made t r → judged made t ≡ bad r
  judges_bad (too_large h) = judged_large made t h
  judges_bad (is_loose h o f) = judged_loose made t h (walks (first_places o f).1)

  -- and what passes by the rules passes the tests.
  pub passes_ok : PassesTests t → judged made t ≡ ok tt
  passes_ok p = judged_passes made t p.small (walks (none_places p.occur p.none_loose))

  -- So a term is refused in one way,
  pub judges_one : {r other : Refusal} → Judges made t r → Judges made t other → r ≡ other
  judges_one j k = cc (judges_bad j, judges_bad k)

  -- or passes.
  pub judges_not : {A : Type 0} {r : Refusal} → Judges made t r → PassesTests t → A
  judges_not j p = let z : ◌≡◌ {A = ℕ} 0 1 = cc (judges_bad j, passes_ok p) in absurd (omega arith)
