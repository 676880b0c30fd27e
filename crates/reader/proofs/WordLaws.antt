-- Laws of a text's tokens in a room: a number among them, and words that are made outside names one by one.
use Prim.Native.Nat.{ℕ, zero, suc, ◌+◌, ◌*◌, ◌/◌, ◌<◌, ◌≤◌}
use mathlib.Core.Path.{◌≡◌, refl, sym, ap, ◌∙◌}
use mathlib.Core.Bool.{◌||◌}
use mathlib.Core.List.{List, map}
use native.Mathlib.Decide.{dec_lt}
use native.Mathlib.Omega.{arith}
use lib.Dec.{eqb}
use Rattle.std.specs.List.{list_any, range_with_len}
use lib.ListN.{length, get_or, set, length-set}
use lib.Seq.{get_or-set_same, get_or-set_other}
use borrow.Author.Tests.{eq-eqb, ne_eqb}
use Rattle.spellings.proofs.BytesLaws.{by_test}
use Rattle.kinds.specs.Kinds.{word_kind, number_kind}
use Rattle.kinds.specs.TextKinds.{outside_kind}
use Rattle.tokens.specs.declared.Token.{Token}
use Rattle.tokens.specs.Tokens.{token}
use Rattle.scanner.specs.Rooms.{row_of, tokens_from}
use Rattle.steps.specs.Steps.{token_count}
use Rattle.texts.specs.Reading.{as_outside, has_number}
use Rattle.reader.specs.Words.{MadeOutside}

-- ------------------------------------------------------------------ a number among tokens

-- A number among the kinds of tokens is one among the tokens.
pub any_number : (tokens : List ℕ) (count at : ℕ)
    → list_any (λ i. eqb (get_or tokens (i * 4) 0) number_kind) (range_with_len at count) ≡ has_number (tokens_from count tokens at)
unfolding has_number tokens_from
any_number tokens zero at = refl
any_number tokens (suc count) at =
    ap (λ rest. eqb (get_or tokens (at * 4) 0) number_kind || rest) (any_number tokens count (at + 1))

-- ------------------------------------------------------------------ words made outside names

-- the first tokens are made, the others are as they were
pub record Making (tokens₀ tokens : List ℕ) (count at : ℕ) : Type 0 where
  -- the room is as long as it was
  pub long : length tokens ≡ length tokens₀
  -- and has so many tokens
  pub counted : count * 4 ≤ length tokens₀
  -- none past the last is made
  pub within : at ≤ count
  -- the first
  pub made : (row : ℕ) → row < at → row_of tokens row ≡ as_outside (row_of tokens₀ row)
  -- the others
  pub kept : (row : ℕ) → at ≤ row → row_of tokens row ≡ row_of tokens₀ row

-- At first all are as they were.
pub making_start : (tokens : List ℕ) (count : ℕ) → count * 4 ≤ length tokens → Making tokens tokens count 0
making_start tokens count l = record { long = refl; counted = l; within = omega arith; made = λ row h. absurd (omega arith); kept = λ row h. refl }

-- another row than the one whose kind is set
row_other : (tokens : List ℕ) (at row kind : ℕ) → (row ≡ at → ⊥) → row_of (set tokens (at * 4) kind) row ≡ row_of tokens row
row_other tokens at row kind h =
    rw (
      get_or-set_other tokens (at * 4) (row * 4) kind 0 (λ e. h (omega arith)),
      get_or-set_other tokens (at * 4) (row * 4 + 1) kind 0 (λ e. omega arith),
      get_or-set_other tokens (at * 4) (row * 4 + 2) kind 0 (λ e. omega arith),
      get_or-set_other tokens (at * 4) (row * 4 + 3) kind 0 (λ e. omega arith),
    )
    refl

-- and that row
row_same : (tokens : List ℕ) (at kind : ℕ) → at * 4 < length tokens
    → row_of (set tokens (at * 4) kind) at ≡ token kind (row_of tokens at).at (row_of tokens at).size (row_of tokens at).value
row_same tokens at kind h =
    rw (
      get_or-set_same tokens (at * 4) kind 0 h,
      get_or-set_other tokens (at * 4) (at * 4 + 1) kind 0 (λ e. omega arith),
      get_or-set_other tokens (at * 4) (at * 4 + 2) kind 0 (λ e. omega arith),
      get_or-set_other tokens (at * 4) (at * 4 + 3) kind 0 (λ e. omega arith),
    )
    refl

outside_word : (t : Token) → t.kind ≡ word_kind → as_outside t ≡ token outside_kind t.at t.size t.value
outside_word t e = rw (eq-eqb t.kind word_kind e, as_outside) refl

outside_other : (t : Token) → (t.kind ≡ word_kind → ⊥) → as_outside t ≡ t
outside_other t h = rw (ne_eqb t.kind word_kind h, as_outside) refl

outside_value_lem : (t : Token) → (as_outside t).value ≡ t.value
outside_value_lem t = by_test (eqb t.kind word_kind) (λ e. rw (e, as_outside) refl) (λ e. rw (e, as_outside) refl)

-- rows that are equal one by one
tokens_made : (count at : ℕ) (tokens₀ tokens : List ℕ)
    → ((row : ℕ) → at ≤ row → row < at + count → row_of tokens row ≡ as_outside (row_of tokens₀ row))
    → tokens_from count tokens at ≡ map as_outside (tokens_from count tokens₀ at)
unfolding tokens_from
tokens_made zero at tokens₀ tokens h = refl
tokens_made (suc count) at tokens₀ tokens h =
    cc (h at (omega arith) (omega arith), tokens_made count (at + 1) tokens₀ tokens (λ row l m. h row (omega arith) (omega arith)))

module _ {tokens₀ tokens : List ℕ} {count at : ℕ} (making : Making tokens₀ tokens count at) where
  -- A word is made an outside name.
  pub making_word : at < count → get_or tokens (at * 4) 0 ≡ word_kind → Making tokens₀ (set tokens (at * 4) outside_kind) count (at + 1)
  making_word l e =
      record {
        long = length-set tokens (at * 4) outside_kind ∙ making.long;
        counted = making.counted;
        within = omega arith;
        made = λ row h. by row h (dec_lt row at);
        kept = λ row h. row_other tokens at row outside_kind (λ q. omega arith) ∙ making.kept row (omega arith);
      }
    where
      here : row_of (set tokens (at * 4) outside_kind) at ≡ as_outside (row_of tokens₀ at)
      here =
          row_same tokens at outside_kind (omega (arith, making.long, making.counted))
          ∙ sym (outside_word (row_of tokens at) e)
          ∙ ap as_outside (making.kept at (omega arith))

      by : (row : ℕ) → row < at + 1 → Dec (row < at) → row_of (set tokens (at * 4) outside_kind) row ≡ as_outside (row_of tokens₀ row)
      by row h (yes b) = row_other tokens at row outside_kind (λ q. omega arith) ∙ making.made row b
      by row h (no b) = let q : row ≡ at = omega arith in rw q here

  -- Any other token stays.
  pub making_other : at < count → (get_or tokens (at * 4) 0 ≡ word_kind → ⊥) → Making tokens₀ tokens count (at + 1)
  making_other l n =
      record {
        long = making.long;
        counted = making.counted;
        within = omega arith;
        made = λ row h. by row h (dec_lt row at);
        kept = λ row h. making.kept row (omega arith);
      }
    where
      here : row_of tokens at ≡ as_outside (row_of tokens₀ at)
      here = sym (outside_other (row_of tokens at) n) ∙ ap as_outside (making.kept at (omega arith))

      by : (row : ℕ) → row < at + 1 → Dec (row < at) → row_of tokens row ≡ as_outside (row_of tokens₀ row)
      by row h (yes b) = making.made row b
      by row h (no b) = let q : row ≡ at = omega arith in rw q here

  same_value : (row : ℕ) → row < at → get_or tokens (row * 4 + 3) 0 ≡ get_or tokens₀ (row * 4 + 3) 0
  same_value row h = ap (λ (t : Token). t.value) (making.made row h) ∙ outside_value_lem (row_of tokens₀ row)

  -- Where all are made the room is what is asked.
  pub making_end : count ≡ token_count tokens₀ → count ≤ at → MadeOutside tokens₀ tokens
  making_end e l =
      let same : token_count tokens ≡ count = ap (λ (k : ℕ). k / 4) making.long ∙ sym e in
      record {
        outside = rw (same, ← e) (tokens_made count 0 tokens₀ tokens (λ row h m. making.made row (omega (arith, making.within))));
        fit =
            λ fits.
            rw same
            (record {
              long = omega (arith, making.long, making.counted);
              few = omega (arith, fits.few, e);
              values =
                  λ row h.
                  rw (same_value row (omega (arith, making.within))) (fits.values row (omega (arith, e)));
            });
      }
