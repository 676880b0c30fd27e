-- What is tested of a text that is read, test by test.
use Prim.Native.Nat.{ℕ, ◌+◌, ◌<◌, ◌≤◌}
use mathlib.Core.Path.{◌≡◌, refl, sym, ap, ◌∙◌}
use mathlib.Core.Bool.{Bool, true, false, not}
use mathlib.Core.List.{List}
use native.Mathlib.Omega.{arith}
use lib.Dec.{eqb, ltb}
use Rattle.std.specs.Prelude.{Ok, Err}
use borrow.Author.Tests.{eq-eqb, ne_eqb, lt-ltb, le-ltb}
use Rattle.answers.specs.Checked.{Checked, ok, ◌>>◌, need}
use Rattle.grammar.specs.SortTests.{fits}
use Rattle.expansion.specs.declared.State.{State}
use Rattle.copying.specs.RowTemplates.{text_template}
use Rattle.copying.specs.TemplateSizes.{is_small_text}
use Rattle.texts.specs.Reading.{TextRead}
use Rattle.reader.specs.declared.judging.TextFault.{TextFault}
use Rattle.reader.specs.declared.judging.TextFault.TheVariants.{Unread, WordAtBinder, MakesFresh, Undefined, WrongSort}
use Rattle.reader.specs.declared.judging.TextHead.{TextHead}
use Rattle.reader.specs.TextAnswers.{TextAnswer, cause_of, answered, ReadAs, Judges, because_of}

-- a value and rows that are answered are those of the answer
answered_parts : {x made x' made' : ℕ} → ◌≡◌ {A = TextAnswer} (Ok (x, made)) (Ok (x', made')) → (x' ≡ x) × (made' ≡ made)
answered_parts e = (ap (λ r. (parts r).0) (sym e), ap (λ r. (parts r).1) (sym e))
  where
    parts : TextAnswer → ℕ × ℕ
    parts (Ok both) = both
    parts (Err fault) = (0, 0)

-- the four tests in their order, by what each gives
abbrev tested_by : ℕ → TextRead → Bool → Bool → Bool → Bool → Checked TextRead
tested_by at r small fresh known fitting = need small 26 at >> need (not fresh) 28 at >> need known 9 at >> need fitting 11 at >> ok r

module _ (cells : List ℕ) (head : TextHead) (x : ℕ) (s : State) (others : ℕ) where
  abbrev text_read : ℕ → TextRead
  text_read used = record { template = text_template s.made cells head.sort x; used = used + s.made }

  abbrev small? : Bool
  small? = is_small_text cells s.made head.sort x

  by_tests : {small fresh known fitting : Bool} {r : TextAnswer} → small? ≡ small → ltb 1 s.fresh ≡ fresh → eqb others 0 ≡ known
      → fits head.sort head.asked ≡ fitting
      → ((used at : ℕ) → answered used head.sort at cells r ≡ tested_by at (text_read used) small fresh known fitting)
      → ((x' made : ℕ) → r ≡ Ok (x', made) → ReadAs x s x' made)
      → Judges cells head x s others r
  by_tests {small} {fresh} {known} {fitting} a b d e each read =
      record {
        judged =
            λ used at.
            each used at
            ∙ ap (λ (t : Bool). tested_by at (text_read used) t fresh known fitting) (sym a)
            ∙ ap (λ (t : Bool). tested_by at (text_read used) small? t known fitting) (sym b)
            ∙ ap (λ (t : Bool). tested_by at (text_read used) small? (ltb 1 s.fresh) t fitting) (sym d)
            ∙ ap (λ (t : Bool). tested_by at (text_read used) small? (ltb 1 s.fresh) (eqb others 0) t) (sym e);
        read_as = read;
      }

  refused : {fault : TextFault} (x' made : ℕ) → ◌≡◌ {A = TextAnswer} (Err fault) (Ok (x', made)) → ReadAs x s x' made
  refused x' made e = let z : ◌≡◌ {A = ℕ} 0 1 = cc in absurd (omega arith)

  module _ {small : Bool} (measured : small ≡ small?) where
    -- A text that is too large is refused with 26.
    pub judged_large : small ≡ false → Judges cells head x s others (Err Unread)
    judged_large a = by_tests (sym measured ∙ a) refl refl refl (λ used at. refl) refused

    module _ (fine : small ≡ true) where
      -- One that makes a fresh name, with 28.
      pub judged_fresh : 1 < s.fresh → Judges cells head x s others (Err MakesFresh)
      judged_fresh b = by_tests (sym measured ∙ fine) (lt-ltb 1 s.fresh b) refl refl (λ used at. refl) refused

      module _ (none : s.fresh ≤ 1) where
        no_fresh : ltb 1 s.fresh ≡ false
        no_fresh = le-ltb 1 s.fresh none

        -- One with a word that is no outside name, with 9.
        pub judged_unknown : (others ≡ 0 → ⊥) → Judges cells head x s others (Err Undefined)
        judged_unknown d = by_tests (sym measured ∙ fine) no_fresh (ne_eqb others 0 d) refl (λ used at. refl) refused

        module _ (known : others ≡ 0) {fitting : Bool} (fitted : fitting ≡ fits head.sort head.asked) where
          -- One of another sort, with 11.
          pub judged_sort : fitting ≡ false → Judges cells head x s others (Err WrongSort)
          judged_sort e = by_tests (sym measured ∙ fine) no_fresh (eq-eqb others 0 known) (sym fitted ∙ e) (λ used at. refl) refused

          -- Any other is read.
          pub judged_read : fitting ≡ true → Judges cells head x s others (Ok (x, s.made))
          judged_read e =
              by_tests (sym measured ∙ fine) no_fresh (eq-eqb others 0 known) (sym fitted ∙ e) (λ used at. refl)
              (λ x' made q. let same = answered_parts q in record { value-is = same.0; made_is = same.1; no_fresh = none })

module _ (cells : List ℕ) (sort x : ℕ) (s : State) {small : Bool} (measured : small ≡ is_small_text cells s.made sort x) where
  -- A text that is read with words, and is small enough, has a word at a Binder.
  pub because_binder : small ≡ true → cause_of WordAtBinder ≡ because_of sort x s cells
  because_binder e = ap (λ (t : Bool). elim t [ true ↦ 27 | false ↦ 26 ]) (sym (sym measured ∙ e))

  -- One that is not is not read either way.
  pub because_large : small ≡ false → cause_of Unread ≡ because_of sort x s cells
  because_large e = ap (λ (t : Bool). elim t [ true ↦ 27 | false ↦ 26 ]) (sym (sym measured ∙ e))
