-- `read_with`: the rooms take all tokens and words of the text.
use Rattle.reader.proofs.read_with.Goals as goal

pub read_in-requires : goal.read_in-requires
read_in-requires g c =
    let given = c.requires.readable in
    record { patterns = given.patterns; holds = record { readable = given.holds; rooms = c.requires.rooms } }
