-- The scan goes by the rules: it follows a tiling to its end, and stops where the rules do.
use Rattle.std.specs.Prelude.{Ok, Err}
use Prim.Native.Nat.{ℕ, zero, suc, ◌+◌, ◌<◌, ◌≤◌}
use mathlib.Core.Path.{◌≡◌, refl, ap, ◌∙◌}
use mathlib.Core.Bool.{true}
use mathlib.Core.List.{List, [], ◌∷◌}
use native.Mathlib.Nat.{add-zero}
use native.Mathlib.Omega.{arith}
use lib.Dec.{leb}
use lib.ListN.{length, get_or, take, drop, length-drop, drop_of_length-le}
use lib.Seq.{drop-drop}
use borrow.Author.Tests.{lt-ltb, le-ltb, leb-true, leb-false}
use Rattle.answers.specs.declared.Refusal.{Refusal}
use Rattle.answers.specs.Refusals.{refusal}
use Rattle.spellings.specs.Bytes.{is_separator}
use Rattle.spellings.proofs.BytesLaws.{by_test}
use Rattle.grammar.specs.Table.{Lexicon}
use Rattle.tokens.specs.declared.Token.{Token}
use Rattle.tokens.specs.declared.Step.TheVariants.{Skip, Stop, Emit}
use Rattle.tokens.specs.Scanned.{Scanned}
use Rattle.tokens.specs.Scan.{Lexed, scan_ended, with_token, step_of, words_with, lex_from, scan}
use Rattle.tokens.specs.Tokens.{most_tokens, longest_formula}
use Rattle.tokens.specs.Tiling.{Stands, Tiled, here, past_separator, past_token}
use Rattle.tokens.specs.Unscanned.{Faulty, Unscans, formula_too_long, a_fault, too_many_tokens}
use Rattle.tokens.proofs.FrontLaws.{lexeme_separator, lexeme_fault}
use Rattle.tokens.proofs.StepLaws.{front_byte, step_by_lem, step_lies}
use Rattle.tokens.proofs.StandLaws.{Steps, stands_steps}
use Rattle.tokens.proofs.LexLaws.{emitted, lex_step, lex_end, scan_short, scan_long}
use Rattle.tokens.proofs.TokenLaws.{Halts, at_once, at_fault, at_token, Kept, scan_kept}

-- ------------------------------------------------------------------ along a tiling

-- what is found with tokens before it
abbrev prefixed : List Token → Lexed → Lexed
prefixed [] l = l
prefixed (t ∷ ts) l = with_token t (prefixed ts l)

prefixed_end : (ts : List Token) (scanned : Scanned) (words : List (List ℕ))
    → prefixed ts (scan_ended scanned words) ≡ record { answer = scanned; tokens = ts; words = words }
prefixed_end [] scanned words = refl
prefixed_end (t ∷ ts) scanned words = ap (with_token t) (prefixed_end ts scanned words)

prefixed_answer : (ts : List Token) (lexed : Lexed) → (prefixed ts lexed).answer ≡ lexed.answer
prefixed_answer [] lexed = refl
prefixed_answer (t ∷ ts) lexed = prefixed_answer ts lexed

module _ (lex : Lexicon) (few : length lex.outsides ≤ 64) (formula : List ℕ) where
  -- the scan from an offset on finds the tokens of a tiling and goes on at its end
  record Follows (steps at before : ℕ) (met : List (List ℕ)) (ts : List Token) (to : ℕ) (met' : List (List ℕ)) : Type 0 where
    fuel : ℕ
    enough : length formula ≤ to + fuel
    same : lex_from steps lex at (drop at formula) before met ≡ prefixed ts (lex_from fuel lex to (drop to formula) (before + length ts) met')

  follow : {at to : ℕ} {met met' : List (List ℕ)} {ts : List Token} → Tiled lex formula at met ts to met' → (fuel before : ℕ)
      → length formula ≤ at + fuel
      → before + length ts ≤ most_tokens
      → Follows fuel at before met ts to met'
  follow {at} {met = met} here fuel before enough small =
      record { fuel = fuel; enough = enough; same = cc (add-zero before) }
  follow (past_separator h s d) zero before enough small = absurd (omega arith)
  follow {at} {met = met} (past_separator h s d) (suc fuel) before enough small =
      let some : 0 < length (drop at formula) = omega (arith, length-drop at formula) in
      let e : Skip ≡ step_of lex met at (drop at formula)
      = step_by_lem lex met at (drop at formula) (lexeme_separator _ (drop at formula) (ap is_separator (front_byte formula at) ∙ s)) in
      let l : lex_from (suc fuel) lex at (drop at formula) before met ≡ lex_from fuel lex (at + 1) (drop (at + 1) formula) before met
      = cc (lex_step fuel lex at (drop at formula) before met Skip some e, drop-drop 1 at formula) in
      let f = follow d fuel before (omega arith) small in
      record { fuel = f.fuel; enough = f.enough; same = l ∙ f.same }
  follow (past_token h st d) zero before enough small = absurd (omega arith)
  follow {at} {to} {met} {met'} (past_token {met₁ = met₁} {t = t} {ts = ts} h st d) (suc fuel) before enough small =
      let rest : List ℕ = drop at formula in
      let some : 0 < length rest = omega (arith, length-drop at formula) in
      let m : Steps lex met at rest t met₁ = stands_steps few some st in
      let positive : 0 < t.size = (step_lies lex met at rest (Emit t) some m.emits).1 in
      let f = follow d fuel (before + 1) (omega arith) (omega arith) in
      let z : before + 1 + length ts ≡ before + suc (length ts) = omega arith in
      let l : lex_from (suc fuel) lex at rest before met
      ≡ with_token t (lex_from fuel lex (at + t.size) (drop t.size rest) (before + 1) (words_with met (take t.size rest) t))
      = lex_step fuel lex at rest before met (Emit t) some m.emits
      ∙ ap (emitted fuel lex at rest before met t) (lt-ltb before most_tokens (omega arith)) in
      record {
        fuel = f.fuel;
        enough = f.enough;
        same =
            l
            ∙ ap (with_token t)
            (cc (m.words, drop-drop t.size at formula, f.same));
      }

  -- A formula that is tiled by few enough tokens is scanned into these.
  pub tiled_scanned : {ts : List Token} {words : List (List ℕ)} → length formula ≤ longest_formula
      → Tiled lex formula 0 [] ts (length formula) words
      → length ts ≤ most_tokens
      → scan lex formula ≡ record { answer = Ok (length ts, length words); tokens = ts; words = words }
  tiled_scanned {ts} {words} short d small =
      let f = follow d (length formula) 0 (omega arith) (omega arith) in
      let z : 0 + length ts ≡ length ts = omega arith in
      let past : length formula ≤ length formula = omega arith in
      let none : drop (length formula) formula ≡ [] = drop_of_length-le formula past in
      cc (
        scan_short lex formula short,
        f.same,
        lex_end f.fuel lex (length formula) (0 + length ts) words,
        prefixed_end ts (Ok (0 + length ts, length words)) words,
      )

  -- ------------------------------------------------------------------ where the rules stop

  fault_answer : (fuel at before : ℕ) (met : List (List ℕ)) → length formula ≤ at + fuel → at < length formula → Faulty (drop at formula)
      → (lex_from fuel lex at (drop at formula) before met).answer ≡ Err (refusal 15 at 0 0)
  fault_answer zero at before met enough h f = absurd (omega arith)
  fault_answer (suc fuel) at before met enough h f =
      let e : Stop ≡ step_of lex met at (drop at formula) = step_by_lem lex met at (drop at formula) (lexeme_fault _ (drop at formula) f) in
      cc (lex_step fuel lex at (drop at formula) before met Stop (omega (arith, length-drop at formula)) e)

  token_answer : (fuel at before : ℕ) (met met' : List (List ℕ)) (token : Token) → length formula ≤ at + fuel → at < length formula → before ≡ most_tokens
      → Stands lex at (drop at formula) met token met'
      → (lex_from fuel lex at (drop at formula) before met).answer ≡ Err (refusal 16 0 0 0)
  token_answer zero at before met met' token enough h e st = absurd (omega arith)
  token_answer (suc fuel) at before met met' token enough h e st =
      let some : 0 < length (drop at formula) = omega (arith, length-drop at formula) in
      let m : Steps lex met at (drop at formula) token met' = stands_steps few some st in
      rw (lex_step fuel lex at (drop at formula) before met (Emit token) some m.emits, le-ltb before most_tokens (omega arith)) refl

  -- What the rules refuse, the scan refuses with the same refusal.
  pub unscans_answer : {cause : Refusal} → Unscans lex formula cause → (scan lex formula).answer ≡ Err cause
  unscans_answer (formula_too_long h) = simp (scan_long lex formula h)
  unscans_answer (a_fault {at = at} {ts = ts} {met = met} short d small h f) =
      let w = follow d (length formula) 0 (omega arith) (omega arith) in
      ap (λ (l : Lexed). l.answer) (scan_short lex formula short ∙ w.same) ∙ prefixed_answer ts _
      ∙ fault_answer w.fuel at (0 + length ts) met w.enough h f
  unscans_answer (too_many_tokens {at = at} {ts = ts} {met = met} {met' = met'} {t = t} short d full h st) =
      let w = follow d (length formula) 0 (omega arith) (omega arith) in
      ap (λ (l : Lexed). l.answer) (scan_short lex formula short ∙ w.same) ∙ prefixed_answer ts _
      ∙ token_answer w.fuel at (0 + length ts) met met' t w.enough h (omega arith) st

  -- ------------------------------------------------------------------ where the scan stops

  -- from an offset on, after `before` tokens and the words met
  data StopsFrom (at before : ℕ) (met : List (List ℕ)) : Refusal → Type 0 where
    long : longest_formula < length formula → StopsFrom at before met (refusal 14 0 0 0)
    fault : {to : ℕ} {ts : List Token} {met' : List (List ℕ)} → Tiled lex formula at met ts to met' → before + length ts ≤ most_tokens
        → to < length formula
        → Faulty (drop to formula)
        → StopsFrom at before met (refusal 15 to 0 0)
    full : {to : ℕ} {ts : List Token} {met' met'' : List (List ℕ)} {token : Token} → Tiled lex formula at met ts to met'
        → before + length ts ≡ most_tokens
        → to < length formula
        → Stands lex to (drop to formula) met' token met''
        → StopsFrom at before met (refusal 16 0 0 0)

  halts_stops : {at before : ℕ} {met : List (List ℕ)} {cause : Refusal} → Halts lex formula at before met cause → StopsFrom at before met cause
  halts_stops (at_once h) = long h
  halts_stops (at_fault h m f) = fault here (omega arith) h f
  halts_stops (at_token h m told) = full here (omega arith) h told.stands

  skip_stops : {at before : ℕ} {met : List (List ℕ)} {cause : Refusal} → at < length formula → is_separator (get_or formula at 0) ≡ true
      → StopsFrom (at + 1) before met cause
      → StopsFrom at before met cause
  skip_stops h s (long l) = long l
  skip_stops h s (fault d l h' f) = fault (past_separator h s d) l h' f
  skip_stops h s (full d l h' f) = full (past_separator h s d) l h' f

  emit_stops : {at before : ℕ} {met met₁ : List (List ℕ)} {token : Token} {cause : Refusal} → at < length formula
      → Stands lex at (drop at formula) met token met₁
      → StopsFrom (at + token.size) (before + 1) met₁ cause
      → StopsFrom at before met cause
  emit_stops h st (long l) = long l
  emit_stops h st (fault d l h' f) = fault (past_token h st d) (omega arith) h' f
  emit_stops h st (full d l h' f) = full (past_token h st d) (omega arith) h' f

  abbrev Refused : Scanned → (Refusal → Type 0) → Type 0
  Refused (Ok (m, count)) P = Unit {0}
  Refused (Err r) P = P r

  refused : (scanned : Scanned) {P Q : Refusal → Type 0} → ((cause : Refusal) → P cause → Q cause) → Refused scanned P → Refused scanned Q
  refused (Ok (m, count)) f p = tt
  refused (Err r) f p = f r p

  StoppedFrom : ℕ → ℕ → List (List ℕ) → Lexed → Type 0
  StoppedFrom at n met l = Refused l.answer (StopsFrom at n met)

  stopped_kept : Kept lex formula StoppedFrom
  unfolding StoppedFrom
  stopped_kept =
      record {
        ends = λ n met h. tt;
        stops = λ at n met r h. halts_stops h;
        skips = λ at n met l h s p. refused l.answer (λ r. skip_stops h s) p;
        emits = λ at n met t l h m told inside p. refused l.answer (λ r. emit_stops h told.stands) p;
      }

  stops_unscans : {cause : Refusal} → length formula ≤ longest_formula → StopsFrom 0 0 [] cause → Unscans lex formula cause
  stops_unscans short (long h) = formula_too_long h
  stops_unscans short (fault d l h f) = a_fault short d (omega arith) h f
  stops_unscans short (full d l h st) = too_many_tokens short d (omega arith) h st

  scan_unscans : Refused (scan lex formula).answer (Unscans lex formula)
  unfolding StoppedFrom
  scan_unscans =
      by_test (leb (length formula) longest_formula)
      (λ e.
      let short : length formula ≤ longest_formula = leb-true (length formula) longest_formula e in
      refused (scan lex formula).answer (λ r. stops_unscans short) (scan_kept lex few formula StoppedFrom stopped_kept))
      (λ e.
      let over : longest_formula < length formula = leb-false (length formula) longest_formula e in
      rw (scan_long lex formula over) (formula_too_long over))

  -- What the scan refuses, the rules refuse with the same refusal.
  pub answer_unscans : {cause : Refusal} → (scan lex formula).answer ≡ Err cause → Unscans lex formula cause
  answer_unscans e = rw (e) at scan_unscans
