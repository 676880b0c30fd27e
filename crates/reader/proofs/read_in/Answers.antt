-- `read_in`: a text that is not scanned, one that is answered, or one of which it is asked why it is not read.
use mathlib.Core.Path.{sym}
use native.Mathlib.Omega.{arith}
use lib.Seq.{length-take-le}
use borrow.Author.Rules.{rules}
use Rattle.steps.specs.Source.{source_of}
use Rattle.parser.proofs.Cutting.{cut_fits}
use Rattle.reader.proofs.ReadingLaws as laws
use Rattle.reader.proofs.read_in.Goals as goal

pub scan-requires : goal.scan-requires
scan-requires c = laws.text_lent c.requires

pub overflow_mul-end : goal.overflow_mul-end
overflow_mul-end c = omega (arith, (laws.text_fits c.requires c.args.head c.scan.ensures c.in-Ok.is).few)

pub slice_bounds-read_tokens-end : goal.slice_bounds-read_tokens-end
slice_bounds-read_tokens-end c = omega (arith, (laws.text_fits c.requires c.args.head c.scan.ensures c.in-Ok.is).long)

pub slice_bounds-read_tokens-end-2 : goal.slice_bounds-read_tokens-end-2
slice_bounds-read_tokens-end-2 c =
    sym (length-take-le _ _ (laws.text_fits c.requires c.args.head c.scan.ensures c.in-Ok.is).long)

pub read_tokens-attempt-requires : goal.read_tokens-attempt-requires
read_tokens-attempt-requires c =
    let fits = laws.text_fits c.requires c.args.head c.scan.ensures c.in-Ok.is in
    record { patterns = _; holds = record { ready = c.requires.holds.readable.ready; tokens_fit = cut_fits fits } }

pub returns-in_default : goal.returns-in_default
returns-in_default c =
    λ patterns ready.
    laws.read_unscanned (source_of c.args.table.now c.args.texts.now patterns) _ _ c.args.head
    (laws.text_refused c.requires c.args.head c.scan.ensures c.in_default.is) _

pub explain_in-requires : goal.explain_in-requires
explain_in-requires c =
    record { patterns = _; holds = laws.rooms_again c.requires.holds (search rules) (search rules) }

pub returns-in-Some : goal.returns-in-Some
returns-in-Some c =
    λ patterns ready.
    laws.read_answered (source_of c.args.table.now c.args.texts.now patterns) _ _ c.args.head
    (laws.text_holds c.requires c.args.head c.scan.ensures c.in-Ok.is)
    (rw c.in-Some.is at (c.read_tokens-attempt.ensures patterns ready))

pub returns-in-None : goal.returns-in-None
returns-in-None c =
    λ patterns ready.
    laws.read_explained (source_of c.args.table.now c.args.texts.now patterns) _ _ c.args.head
    (laws.text_holds c.requires c.args.head c.scan.ensures c.in-Ok.is)
    (rw c.in-None.is at (c.read_tokens-attempt.ensures patterns ready)) c.read_tokens-attempt.auto.cells
    (c.explain_in.ensures patterns ready)
