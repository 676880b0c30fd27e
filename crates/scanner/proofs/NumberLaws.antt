-- The number and values of a scan's answer are those of the rules for 14, 15 and 16.
use Rattle.std.specs.Prelude.{Ok, Err}
use Prim.Native.Nat.{ℕ}
use mathlib.Core.Path.{◌≡◌, refl}
use mathlib.Core.List.{List}
use lib.ListN.{length}
use Rattle.grammar.specs.Table.{Lexicon}
use Rattle.grammar.proofs.LookupLaws.{few_outsides}
use Rattle.lexicon.specs.LexiconRoom.{lexicon_by}
use Rattle.tokens.specs.Scanned.{Scanned}
use Rattle.tokens.specs.Scan.{Lexed, scan}
use Rattle.tokens.proofs.ScannerTheorems.{accepted_exactly, refused_exactly, tokens_counted}
use Rattle.scanner.specs.Rooms.{filled, scan_into}
use Rattle.scanner.specs.Numbered.{numbered_scan, Numbers, no_refusal, a_refusal, Scans}

module _ (kinds : ℕ) (sorts table formula : List ℕ) where
  lex : Lexicon
  lex = lexicon_by kinds sorts table

  numbered_by : (scanned : Scanned) → (scan lex formula).answer ≡ scanned → Numbers lex formula (numbered_scan scanned)
  unfolding lex
  numbered_by (Ok (many, count)) e =
      let lexed : Lexed = scan lex formula in
      let counted = tokens_counted lex (few_outsides table) formula e in
      let answer : lexed.answer ≡ Ok (length lexed.tokens, length lexed.words) = cc in
      let tiled = (accepted_exactly lex (few_outsides table) formula lexed.tokens lexed.words).0 (rw (← answer) refl) in
      no_refusal tiled.0 tiled.1 tiled.2
  numbered_by (Err cause) e = a_refusal ((refused_exactly lex (few_outsides table) formula cause).0 e)

  -- An answer and rooms that are those of the definition are what a scan promises.
  pub scans : {tokens words tokens' words' : List ℕ} {scanned : Scanned}
      → filled scanned tokens' words' ≡ scan_into (lexicon_by kinds sorts table) formula tokens words
      → Scans (lexicon_by kinds sorts table) formula tokens words scanned tokens' words'
  unfolding lex scan_into
  scans {scanned = scanned} e = record { fills = e; numbered_is = numbered_by scanned cc }
