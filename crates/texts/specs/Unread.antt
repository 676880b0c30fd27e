-- Why a text is refused, by rules. Document 02, C-14: "26, the text holds a number or would meet one of 15 to 22, given 16,384 rows for all texts together; 27,
-- a word at a Binder; 28, its reading makes a fresh name"; 9, a word that tag 02 lacks; 11, the nonterminal's sort does not fit.
use Rattle.std.specs.Prelude.{ℕ, ◌+◌, ◌≤◌, ◌<◌, ◌≡◌, Bool, true, false, List, [], ◌∷◌, length}
use Rattle.kinds.specs.Kinds.{word_kind}
use Rattle.grammar.specs.Sorts.{binder}
use Rattle.grammar.specs.SortTests.{fits}
use Rattle.grammar.specs.Table.{Template, outside_var, none, ide, Item, terminal, local, call}
use Rattle.terms.specs.Term.{largest_term}
use Rattle.tokens.specs.declared.Token.{Token}
use Rattle.tokens.specs.Tokens.{most_tokens}
use Rattle.tokens.specs.Tiling.{Tiled}
use Rattle.expansion.specs.Figure3.{◌⊢⟨◌∣◌⟩◌⇒⟨◌∣◌⟩◌}
use Rattle.expansion.specs.Costs.{rows_of, Affords}
use Rattle.texts.specs.Substitution.{substitute, substitute_all, template_list}
use Rattle.texts.specs.Reading.{TextContext, lexicon_for, rows_left}
use Rattle.texts.specs.ReadingRules.{TextTaken, TextReads}

-- terminals as a text has them; and any word at Var and Label, if `binders` at Binder too, and a fresh name, which moves the counter i. Where these are read
-- the text is refused, so that what they stand for counts only by its size: it has no constructor.
pub data LooselyReads (binders : Bool) : List Token → ℕ → Item → List Token → ℕ → Template → Type 0 where
  by_text : {s s' : List Token} {i i' : ℕ} {p : Item} {v : Template}
      → TextReads s i p s' i' v
      → LooselyReads binders s i p s' i' v
  by_word : {t : Token} {s : List Token} {i B : ℕ}
      → t.kind ≡ word_kind
      → (B ≡ binder → binders ≡ true)
      → LooselyReads binders (t ∷ s) i (terminal (ide B)) s i (outside_var t.value)
  by_local : {s : List Token} {i : ℕ} → LooselyReads binders s i local s (i + 1) (outside_var i)

-- the text bs, from n, meets none of 15 to 22: it is tokens, read whole by one call of n within the limits and the rows that are left
pub record Readable (P : TextContext) (L : List ℕ) (n : ℕ) (bs : List ℕ) (binders : Bool) : Type 0 where
  pub tokens : List Token
  pub words : List (List ℕ)
  pub tiled : Tiled (lexicon_for P L n) bs 0 [] tokens (length bs) words
  pub few : length tokens ≤ most_tokens
  pub counter : ℕ
  pub template : Template
  pub derived : ◌⊢⟨◌∣◌⟩◌⇒⟨◌∣◌⟩◌ Template (LooselyReads binders) (TextTaken P.productions) (λ N t v. v ≡ substitute N t)
      (λ N ts vs. vs ≡ template_list (substitute_all N ts)) [] tokens 1 (call n none ∷ []) [] counter (template ∷ [])
  pub affords : Affords (rows_left P) 0 0 0 derived
  pub small : rows_of template ≤ largest_term

-- the text is refused with a number, where its nonterminal n has the sort A and B is asked; `words` are those that are no outside names
pub data Unread (P : TextContext) (L : List ℕ) (n A B : ℕ) (bs : List ℕ) : ℕ → Type 0 where
  unread_26 : (Readable P L n bs true → ⊥) → Unread P L n A B bs 26
  unread_27 : Readable P L n bs true → (Readable P L n bs false → ⊥) → Unread P L n A B bs 27
  unread_28 : (r : Readable P L n bs false) → 1 < r.counter → Unread P L n A B bs 28
  unread_9 : (r : Readable P L n bs false) → r.counter ≡ 1 → 0 < length r.words → Unread P L n A B bs 9
  unread_11 : (r : Readable P L n bs false) → r.counter ≡ 1 → length r.words ≡ 0 → fits A B ≡ false → Unread P L n A B bs 11
