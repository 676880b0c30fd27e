-- What a derivation that reads loosely says of its tokens, its counter and words at a Binder, and what a scan says of a text's tokens.
use Prim.Native.Nat.{ℕ, zero, suc, ◌/◌, ◌≤◌, ◌<◌}
use mathlib.Core.Path.{◌≡◌, refl, ap, ◌∙◌}
use mathlib.Core.Bool.{Bool, true, false, ◌||◌}
use mathlib.Core.List.{List, [], ◌∷◌}
use native.Mathlib.Omega.{arith}
use lib.ListN.{length, get_or}
use borrow.Author.Tests.{eq-eqb, ne_eqb}
use Rattle.spellings.specs.Bytes.{value_of}
use Rattle.kinds.specs.Kinds.{number_kind, no_kind}
use Rattle.kinds.specs.TextKinds.{outside_kind}
use Rattle.grammar.specs.Limits.{most}
use Rattle.grammar.specs.Table.{Template, Lexicon, Item}
use Rattle.terms.specs.Cells.{name_base}
use Rattle.tokens.specs.declared.Token.{Token}
use Rattle.tokens.specs.Tokens.{end_token}
use Rattle.tokens.specs.Variables.{variable_name}
use Rattle.tokens.specs.Tiling.{Stands, a_keyword, a_keyword_symbol, an_outside_name, a_word_again, a_new_word, a_number, a_symbol, a_variable}
use Rattle.tokens.specs.Tiling.{Tiled, here, past_separator, past_token}
use Rattle.productions.specs.Normal.{Production}
use Rattle.expansion.specs.Figure3.{by_end, by_terminal, by_call}
use Rattle.texts.specs.Reading.{has_number}
use Rattle.texts.specs.ReadingRules.{TextReads, by_keyword, by_variable, by_place, by_global, by_label}
use Rattle.texts.specs.Unread.{LooselyReads, by_text, by_word, by_local}
use Rattle.texts.proofs.SizeReading.{LooselyDerives}
use Rattle.texts.proofs.TextScan.{no_number}
use Rattle.texts.proofs.SameCosts.{SameCosts, same_end, same_terminal, same_call}
use Rattle.texts.proofs.TextTerminals.{NamedVariable, TextTokens}

-- ------------------------------------------------------------------ numbers and the counter

-- a token that is no number
number_past : (t : Token) (s : List Token) → (t.kind ≡ number_kind → ⊥) → has_number (t ∷ s) ≡ has_number s
unfolding has_number
number_past t s h = ap (λ b. b || has_number s) (ne_eqb t.kind number_kind h)

text_numbers : {s s' : List Token} {i i' : ℕ} {v : Template} {p : Item} → TextReads s i p s' i' v → has_number s ≡ has_number s'
text_numbers (by_keyword {t = t} {s = s} e) = number_past t s (λ z. omega (arith, e, z))
text_numbers (by_variable {t = t} {s = s} A n e f w) = number_past t s (λ z. omega (arith, e, z))
text_numbers (by_place {t = t} {s = s} n e f) = number_past t s (λ z. omega (arith, e, z))
text_numbers (by_global {t = t} {s = s} e l) = number_past t s (λ z. omega (arith, e, z))
text_numbers (by_label {t = t} {s = s} e l) = number_past t s (λ z. omega (arith, e, z))

terminal_numbers : {binders : Bool} {s s' : List Token} {i i' : ℕ} {v : Template} {p : Item} → LooselyReads binders s i p s' i' v
    → has_number s ≡ has_number s'
terminal_numbers (by_text r) = text_numbers r
terminal_numbers (by_word {t = t} {s = s} e f) = number_past t s (λ z. omega (arith, e, z))
terminal_numbers by_local = refl

-- What is read holds no number.
pub derived_numbers : {binders : Bool} {g : List Production} {M M' : List Template} {s s' : List Token} {i i' : ℕ} {ps : List Item}
    → LooselyDerives binders g M s i ps s' i' M' → has_number s ≡ has_number s'
derived_numbers by_end = refl
derived_numbers (by_terminal e d) = terminal_numbers e ∙ derived_numbers d
derived_numbers (by_call vs t d v d') = derived_numbers d ∙ derived_numbers d'

terminal_counts : {binders : Bool} {s s' : List Token} {i i' : ℕ} {v : Template} {p : Item} → LooselyReads binders s i p s' i' v → i ≤ i'
terminal_counts (by_text (by_keyword e)) = omega arith
terminal_counts (by_text (by_variable A n e f w)) = omega arith
terminal_counts (by_text (by_place n e f)) = omega arith
terminal_counts (by_text (by_global e l)) = omega arith
terminal_counts (by_text (by_label e l)) = omega arith
terminal_counts (by_word e f) = omega arith
terminal_counts by_local = omega arith

-- The counter does not fall.
pub derived_counts : {binders : Bool} {g : List Production} {M M' : List Template} {s s' : List Token} {i i' : ℕ} {ps : List Item}
    → LooselyDerives binders g M s i ps s' i' M' → i ≤ i'
derived_counts by_end = omega arith
derived_counts (by_terminal e d) = omega (arith, terminal_counts e, derived_counts d)
derived_counts (by_call vs t d v d') = omega (arith, derived_counts d, derived_counts d')

-- ------------------------------------------------------------------ words at a Binder

terminal_wider : {s s' : List Token} {i i' : ℕ} {v : Template} {p : Item} → LooselyReads false s i p s' i' v → LooselyReads true s i p s' i' v
terminal_wider (by_text r) = by_text r
terminal_wider (by_word e f) = by_word e (λ z. refl)
terminal_wider by_local = by_local

-- What is derived without a word at a Binder is so derived where words may stand there, at the same cost.
pub derived_wider : {g : List Production} {M M' : List Template} {s s' : List Token} {i i' : ℕ} {ps : List Item} (d : LooselyDerives false g M s i ps s' i' M')
    → SameCosts (LooselyReads true) d
derived_wider by_end = same_end
derived_wider (by_terminal e d) = same_terminal (terminal_wider e) (derived_wider d)
derived_wider (by_call vs t d v d') = same_call (derived_wider d) (derived_wider d')

-- ------------------------------------------------------------------ tokens of a scan

module _ (lex : Lexicon) (few_keywords : length lex.keywords ≤ most.keywords)
    (sorts : (n : ℕ) → n < length lex.variables → get_or lex.variables n 0 ≤ 6) where
  stands_small : {at : ℕ} {rest : List ℕ} {met met' : List (List ℕ)} {t : Token} → Stands lex at rest met t met' → t.kind < outside_kind
  stands_small (a_keyword w f) = omega (arith, f.there)
  stands_small (a_keyword_symbol y f) = omega (arith, f.there)
  stands_small (an_outside_name w n f) = omega arith
  stands_small (a_word_again w n o f) = omega arith
  stands_small (a_new_word w n o f) = omega arith
  stands_small (a_number d) = omega arith
  stands_small (a_symbol y n) = omega arith
  stands_small (a_variable {s = s} f) = omega (arith, sorts (value_of s) f.below)

  tiled_small : {formula : List ℕ} {at to : ℕ} {met met' : List (List ℕ)} {ts : List Token} → Tiled lex formula at met ts to met' → (place : ℕ)
      → (get_or ts place end_token).kind < outside_kind
  tiled_small here zero = omega arith
  tiled_small here (suc place) = omega arith
  tiled_small (past_separator l q d) place = tiled_small d place
  tiled_small (past_token l h d) zero = stands_small h
  tiled_small (past_token l h d) (suc place) = tiled_small d place

  module _ (short : length lex.variables ≤ name_base) where
    stands_variable : {at : ℕ} {rest : List ℕ} {met met' : List (List ℕ)} {t : Token} → Stands lex at rest met t met' → no_kind < t.kind
        → NamedVariable t.value
    stands_variable (a_keyword w f) h = absurd (omega (arith, f.there))
    stands_variable (a_keyword_symbol y f) h = absurd (omega (arith, f.there))
    stands_variable (an_outside_name w n f) h = absurd (omega arith)
    stands_variable (a_word_again w n o f) h = absurd (omega arith)
    stands_variable (a_new_word w n o f) h = absurd (omega arith)
    stands_variable (a_number d) h = absurd (omega arith)
    stands_variable (a_symbol y n) h = absurd (omega arith)
    stands_variable (a_variable {s = s} f) h = (value_of s, refl, eq-eqb (variable_name (value_of s) / name_base) 4 (omega (arith, f.below)))

    tiled_variable : {formula : List ℕ} {at to : ℕ} {met met' : List (List ℕ)} {ts : List Token} → Tiled lex formula at met ts to met' → (place : ℕ)
        → no_kind < (get_or ts place end_token).kind → NamedVariable (get_or ts place end_token).value
    tiled_variable here zero h = absurd (omega arith)
    tiled_variable here (suc place) h = absurd (omega arith)
    tiled_variable (past_separator l q d) place h = tiled_variable d place h
    tiled_variable (past_token l k d) zero h = stands_variable k h
    tiled_variable (past_token l k d) (suc place) h = tiled_variable d place h

  -- The tokens of a text that holds no number.
  pub tiled_tokens : length lex.variables ≤ name_base → {formula : List ℕ} {ts : List Token} {words : List (List ℕ)}
      → Tiled lex formula 0 [] ts (length formula) words → has_number ts ≡ false
      → TextTokens ts
  tiled_tokens short {ts = ts} d h =
      record { no_number = no_number lex few_keywords sorts ts h; small = tiled_small d; variable = tiled_variable short d }
