use Rattle.std.proofs.Common.{List, subst}
use Rattle.mc_lex.specs.declared.token.Token.{Token}
use Rattle.mc_lex.specs.Tokens.{toks_of}
use Rattle.reread_pieces.specs.declared.piece.Piece.{Piece}
use Rattle.reread_pieces.specs.Pieces.{ArePieces}
use Rattle.reread_pieces.specs.steps.Views.{marks_of}
use Rattle.mc_probe.specs.Trees.{tree_of}
use Rattle.reread_program.specs.Reading.{ReadsPieces}
use Rattle.reread_program.specs.Returned.{Gives}
use Rattle.reread_program.proofs.Judging.{through_text}
use Rattle.reread_program.proofs.Short.{pieces_few, pieces_short}
use Rattle.reread_program.proofs.text.read.Goals as goal

pub returns : goal.returns
returns c =
    through_text c.args.text.now (toks_of c.in_ok-tokens.tokens.items) (marks_of c.in_ok-pieces.pieces.items) c.read_pieces.result
    c.in_ok-tokens.ensures.lexes
    (subst (λ (tokens : List Token). ArePieces (toks_of tokens) (marks_of c.in_ok-pieces.pieces.items)) c.deref.ensures.value c.in_ok-pieces.ensures)
    (subst (λ (pieces : List Piece). Gives tree_of (ReadsPieces (marks_of pieces)) c.read_pieces.result) c.deref-2.ensures.value c.read_pieces.ensures)

pub read_pieces-requires-clause-short : goal.read_pieces-requires-clause-short
read_pieces-requires-clause-short c =
    pieces_short c.args.text.now c.in_ok-tokens.tokens.items c.deref.result.now c.in_ok-pieces.pieces.items c.deref-2.result.now c.requires
    c.in_ok-tokens.ensures.lexes c.deref.ensures.value c.in_ok-pieces.ensures c.deref-2.ensures.value c.in_ok-tokens.ensures.few

pub read_pieces-requires-clause-few : goal.read_pieces-requires-clause-few
read_pieces-requires-clause-few c =
    pieces_few c.args.text.now c.in_ok-tokens.tokens.items c.deref.result.now c.in_ok-pieces.pieces.items c.deref-2.result.now c.requires
    c.in_ok-tokens.ensures.lexes c.deref.ensures.value c.in_ok-pieces.ensures c.deref-2.ensures.value c.in_ok-tokens.ensures.few
