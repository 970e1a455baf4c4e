-- What the parts of the program stand for.
use Rattle.std.specs.Prelude.{List, map}
use Rattle.mc_lex.specs.Tokens.{tok_of, toks_of}
use Rattle.reread_pieces.specs.declared.here.Here.{Here}
use Rattle.reread_pieces.specs.declared.piece.Piece.{Piece}
use Rattle.reread_pieces.specs.Words.{texts}
use Rattle.reread_pieces.specs.declared.without.Laid.{Laid}
use Rattle.reread_pieces.specs.Pieces as spec
use Rattle.reread_pieces.specs.Plain as plain

abbrev pub here_of : Here → spec.Here
here_of h = record {
  brackets = h.brackets.items;
  inside = h.inside;
  before = h.before;
  item = toks_of h.item.now;
  value = texts h.value.items;
}

abbrev pub mark_of : Piece → spec.Mark
mark_of p = record { row = p.what; token = tok_of p.token; word = p.word }

abbrev pub marks_of : List Piece → List spec.Mark
marks_of ps = map mark_of ps

abbrev pub laid_of : Laid → plain.Lay
laid_of l = record { token = tok_of l.token; opens = l.opens }
