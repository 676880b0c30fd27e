-- The tokens of a scan tile the formula, and the answer counts them.
use Rattle.std.specs.Prelude.{Ok, Err}
use Prim.Native.Nat.{ℕ, suc, ◌+◌, ◌≤◌}
use mathlib.Core.Path.{◌≡◌}
use mathlib.Core.List.{List, []}
use native.Mathlib.Nat.{add-zero}
use native.Mathlib.Omega.{arith}
use lib.ListN.{length}
use Rattle.answers.proofs.OkLaws.{ok_values}
use Rattle.grammar.specs.Table.{Lexicon}
use Rattle.tokens.specs.Scanned.{Scanned}
use Rattle.tokens.specs.Scan.{Lexed, scan}
use Rattle.tokens.specs.Tiling.{Tiled, here, past_separator, past_token}
use Rattle.tokens.proofs.TokenLaws.{Kept, scan_kept}
use Rattle.tokens.specs.Tokens.{most_tokens}

-- ------------------------------------------------------------------ tiling

-- what holds where a scan is not refused
abbrev Unrefused : Scanned → Type 0 → Type 0
Unrefused (Ok (n, count)) A = A
Unrefused (Err r) A = Unit {0}

unrefused : (scanned : Scanned) {A B : Type 0} → (A → B) → Unrefused scanned A → Unrefused scanned B
unrefused (Ok (n, count)) f a = f a
unrefused (Err scanned) f a = tt

module _ (lex : Lexicon) (few : length lex.outsides ≤ 64) (formula : List ℕ) where
  TiledFrom : ℕ → ℕ → List (List ℕ) → Lexed → Type 0
  TiledFrom at n words l = Unrefused l.answer (Tiled lex formula at words l.tokens (length formula) l.words)

  tiled_kept : Kept lex formula TiledFrom
  unfolding TiledFrom
  tiled_kept =
      record {
        ends = λ n words h. here;
        stops = λ at n words r h. tt;
        skips = λ at n words l h s p. unrefused l.answer (past_separator h s) p;
        emits = λ at n words t l h m told inside p. unrefused l.answer (past_token h told.stands) p;
      }

  -- an accepted formula is tiled by the scan's tokens
  pub scan_tiled : {many count : ℕ} → (scan lex formula).answer ≡ Ok (many, count)
      → Tiled lex formula 0 [] (scan lex formula).tokens (length formula) (scan lex formula).words
  unfolding TiledFrom
  scan_tiled e =
      rw (e) at (scan_kept lex few formula TiledFrom tiled_kept)

  -- ------------------------------------------------------------------ counts

  CountedFrom : ℕ → ℕ → List (List ℕ) → Lexed → Type 0
  CountedFrom at n words l =
      Unrefused l.answer ((l.answer ≡ Ok (n + length l.tokens, length l.words)) × (n + length l.tokens ≤ most_tokens))

  counted_kept : Kept lex formula CountedFrom
  unfolding CountedFrom
  counted_kept =
      record {
        ends = λ n words h. (cc (add-zero n), omega arith);
        stops = λ at n words r h. tt;
        skips = λ at n words l h s p. p;
        emits =
            λ at n words t l h m told inside p.
            let z : n + 1 + length l.tokens ≡ n + suc (length l.tokens) = omega arith in
            rw (z) at p;
      }

  -- the answer counts the tokens, of which there are at most 4,096, and the words
  pub scan_counted : {many count : ℕ} → (scan lex formula).answer ≡ Ok (many, count)
      → (many ≡ length (scan lex formula).tokens) × (count ≡ length (scan lex formula).words) × (many ≤ most_tokens)
  unfolding CountedFrom
  scan_counted {many} {count} e =
      let l : Lexed = scan lex formula in
      let p : ◌≡◌ {A = Scanned} (Ok (many, count)) (Ok (0 + length l.tokens, length l.words)) × (0 + length l.tokens ≤ most_tokens)
      = rw (e) at (scan_kept lex few formula CountedFrom counted_kept) in
      let (a, b) = ok_values p.0 in
      (omega (arith, a), b, omega (arith, p.1))
