-- A comparison in C's layout. Document 02, C-12: "A public call on any two runs of bytes tells this, and how many comparisons it took".
use Rattle.spellings.specs.Bytes.{one_if}
use Rattle.spellings.specs.declared.Comparison.{Comparison}
use Rattle.vegzump_c.specs.declared.ComparisonReply.{ComparisonReply}

-- 1 for equal runs and else 0, and the count
abbrev pub comparison_reply : Comparison → ComparisonReply
comparison_reply c = record { equal = one_if c.equal; count = c.count }
