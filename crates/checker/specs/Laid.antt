-- What is left when refusals 1 to 11 are not given: of these bytes 12 and 13 are stated by rules.
use Rattle.std.specs.Prelude.{ℕ, ◌≡◌, List}
use Rattle.grammar.specs.Table.{Table}
use Rattle.grammar.specs.Written.{Written}
use Rattle.grammar.specs.Encode.{encode}
use Rattle.decoding.specs.Within.{Within}
use Rattle.elaboration.specs.Elaboration.{Elaborates}

-- bytes that are the encoding of a well sorted table within the counts, spellings and ranges; `table` is what it is elaborated to
pub record Laid (bs : List ℕ) : Type 0 where
  pub written : Written
  pub table : Table
  pub encoded : bs ≡ encode written
  pub within : Within written
  pub elaborates : Elaborates written table
