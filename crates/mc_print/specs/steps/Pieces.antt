-- The texts of pieces.
use Rattle.std.specs.Prelude.{ℕ, List, map, decimal}
use Rattle.mc_print.specs.declared.pieces.Piece.{Piece}
use Rattle.mc_print.specs.declared.pieces.Piece.TheVariants as piece

abbrev pub text_of : Piece → List ℕ
text_of (piece.Word text) = text.now
text_of (piece.Number n) = decimal n

abbrev pub texts_of : List Piece → List (List ℕ)
texts_of pieces = map text_of pieces
