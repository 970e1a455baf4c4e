-- What the pieces of the program stand for.
use Rattle.std.specs.Prelude.{List, map}
use Rattle.adapt_tokens.specs.declared.piece.Piece.{Piece}
use Rattle.adapt_tokens.specs.Cuts.{Part}

abbrev pub part_of : Piece → Part
part_of p = record { kind = p.kind; text = p.text.now; start = p.start }

abbrev pub parts_of : List Piece → List Part
parts_of ps = map part_of ps
