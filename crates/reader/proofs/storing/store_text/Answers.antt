-- `store_text`: the pair first, then the rows.
use mathlib.Core.Path.{refl}
use Rattle.reader.proofs.StoreLaws as laws
use Rattle.reader.proofs.storing.store_text.Goals as goal

pub returns : goal.returns
returns c =
    laws.text_stored c.requires refl c.move_rows.ensures
