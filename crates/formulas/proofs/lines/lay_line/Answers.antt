-- `lay_line`: the expansion in used rooms is told as one in new ones.
use mathlib.Core.Path.{◌≡◌, ap}
use native.Mathlib.Omega.{arith}
use lib.ListN.{length}
use borrow.Author.Rules.{rules}
use Rattle.decoding.proofs.Split.{Bytes}
use Rattle.formulas.proofs.LineLaws.{line_told, line_text}
use Rattle.formulas.proofs.lines.lay_line.Goals as goal

pub returns : goal.returns
returns c =
    let bytes : Bytes c.args.table.now = λ i. omega (arith, c.type_inv.table i) in
    let args = c.args in
    let many : length args.cells.now ≡ 16384 = search rules in
    let long : length args.text.now ≡ 65536 = search rules in
    let e = c.expand_checked-answer.ensures in
    let same = line_told args.table.now bytes args.line.now args.cells.now args.text.now many long e in
    let left = line_text args.table.now args.line.now args.cells.now args.text.now e in record {
      lays = rw same at c.lay_told.ensures.lays;
      line_len_bound = omega (arith, c.lay_told.ensures.text_in_bounds, ap length same, left, long);
    }
