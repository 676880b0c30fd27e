-- `explain_in`: the text is scanned once more, and its tokens are run as they are.
use mathlib.Core.Path.{sym}
use native.Mathlib.Omega.{arith}
use lib.Seq.{length-take-le}
use Rattle.steps.specs.Source.{source_of}
use Rattle.parser.proofs.Cutting.{cut_fits}
use Rattle.reader.proofs.ReadingLaws as laws
use Rattle.reader.proofs.explain_in.Goals as goal

pub scan-requires : goal.scan-requires
scan-requires c = laws.text_lent c.requires

pub overflow_mul-end : goal.overflow_mul-end
overflow_mul-end c = omega (arith, (laws.text_fits c.requires c.args.head c.scan.ensures c.in-Ok.is).few)

pub slice_bounds-explain-end : goal.slice_bounds-explain-end
slice_bounds-explain-end c = omega (arith, (laws.text_fits c.requires c.args.head c.scan.ensures c.in-Ok.is).long)

pub slice_bounds-explain-end-2 : goal.slice_bounds-explain-end-2
slice_bounds-explain-end-2 c =
    sym (length-take-le _ _ (laws.text_fits c.requires c.args.head c.scan.ensures c.in-Ok.is).long)

pub explain-requires : goal.explain-requires
explain-requires c =
    let fits = laws.text_fits c.requires c.args.head c.scan.ensures c.in-Ok.is in
    record { patterns = _; holds = record { ready = c.requires.holds.readable.ready; tokens_fit = cut_fits fits } }

pub returns-in_default : goal.returns-in_default
returns-in_default c =
    λ patterns ready.
    laws.explain_unscanned (source_of c.args.table.now c.args.texts.now patterns) _ _ c.args.head
    (laws.text_refused c.requires c.args.head c.scan.ensures c.in_default.is) _ _

pub returns : goal.returns
returns c =
    λ patterns ready.
    laws.explain_scanned (source_of c.args.table.now c.args.texts.now patterns) _ _ c.args.head
    (laws.text_holds c.requires c.args.head c.scan.ensures c.in-Ok.is)
    (c.explain.ensures patterns ready)
