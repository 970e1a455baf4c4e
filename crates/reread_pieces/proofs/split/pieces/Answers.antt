use Rattle.std.proofs.Common.{◌+◌, length, arith}
use Rattle.std.proofs.lemmas.List.{length-map}
use Rattle.mc_lex.specs.Tokens.{tok_of, toks_of}
use Rattle.reread_pieces.proofs.Steps.{found_of, only_of}
use Rattle.reread_pieces.proofs.split.pieces.Goals as goal

pub returns-clause-found : goal.returns-clause-found
returns-clause-found c = found_of (length c.args.tokens.now + 1) (toks_of c.args.tokens.now) c.run.result c.run.ensures.pieces

pub returns-clause-only : goal.returns-clause-only
returns-clause-only c marks s =
    only_of (length c.args.tokens.now + 1) (toks_of c.args.tokens.now) marks c.run.result
    (omega (arith, length-map c.args.tokens.now tok_of)) c.run.ensures.pieces s
