-- `as_outside`: the tokens before the present one are made, the others are as they were.
use native.Mathlib.Omega.{arith}
use Rattle.reader.proofs.WordLaws as laws
use Rattle.reader.proofs.words.as_outside.Goals as goal
use Rattle.reader.proofs.words.as_outside.Goals.{then-tokens-at-eq-WORD_KIND, else-tokens-at-eq-WORD_KIND}

pub loop-i-init : goal.loop-i-init
loop-i-init c = laws.making_start _ _ (omega arith)

pub loop-i-preserved : goal.loop-i-preserved
loop-i-preserved c =
    elim c.if-tokens-at-eq-WORD_KIND.branch [
      | then-tokens-at-eq-WORD_KIND w ↦ rw w.tokens-is (search laws.making_word)
      | else-tokens-at-eq-WORD_KIND w ↦ rw w.tokens-is (search laws.making_other)
    ]

pub returns : goal.returns
returns c = search laws.making_end
