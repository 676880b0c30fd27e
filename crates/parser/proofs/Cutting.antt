-- Tokens, cut behind the last: the room that is lent to a run has as many as the scan found, and no more.
use Prim.Native.Nat.{ℕ, zero, suc, ◌+◌, ◌*◌, ◌/◌, ◌<◌, ◌≤◌}
use mathlib.Core.Path.{◌≡◌, refl, ap, ◌∙◌}
use mathlib.Core.List.{List}
use native.Mathlib.Nat.{mul-div_cancel}
use native.Mathlib.Omega.{arith}
use lib.ListN.{take}
use lib.Seq.{get_or-take, length-take-le}
use Rattle.scanner.specs.Rooms.{tokens_from, tokens_in, TokensFit}
use Rattle.steps.specs.Steps.{token_count, tokens_lent, LentTokens}

tokens_same : (many from : ℕ) (room : List ℕ) (most : ℕ) → (from + many) * 4 ≤ most → tokens_from many (take most room) from ≡ tokens_from many room from
unfolding tokens_from
tokens_same zero from room most h = refl
tokens_same (suc many) from room most h =
    rw (
      get_or-take most room (from * 4) 0 (omega arith),
      get_or-take most room (from * 4 + 1) 0 (omega arith),
      get_or-take most room (from * 4 + 2) 0 (omega arith),
      get_or-take most room (from * 4 + 3) 0 (omega arith),
      tokens_same many (from + 1) room most (omega arith),
    )

module _ {tokens : List ℕ} {many : ℕ} (fit : TokensFit tokens many) where
  cut_count : token_count (take (many * 4) tokens) ≡ many
  cut_count = ap (λ (k : ℕ). k / 4) (length-take-le (many * 4) tokens fit.long) ∙ (let four : 0 < 4 = omega arith in mul-div_cancel many four)

  -- They are the same tokens.
  pub cut_tokens : tokens_lent (take (many * 4) tokens) ≡ tokens_in tokens many
  cut_tokens = rw cut_count (tokens_same many 0 tokens (many * 4) (omega arith))

  -- They fit.
  pub cut_fits : LentTokens (take (many * 4) tokens)
  cut_fits =
      rw cut_count
      (record {
        long = omega (arith, length-take-le (many * 4) tokens fit.long);
        few = fit.few;
        values = λ i l. rw (get_or-take (many * 4) tokens (i * 4 + 3) 0 (omega arith)) (fit.values i l);
      })
