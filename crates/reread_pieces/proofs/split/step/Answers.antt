use Rattle.std.proofs.Common.{rules, arith}
use Rattle.std.proofs.lemmas.Grind.{common_steps}
use Rattle.std.proofs.lemmas.List.{map_push}
use Rattle.mc_lex.specs.Tokens.{toks_of}
use Rattle.reread_pieces.specs.steps.Views.{here_of, mark_of, marks_of}
use Rattle.reread_pieces.proofs.Steps.{stepped, stuck, found_piece, no_piece}
use Rattle.reread_pieces.proofs.split.step.Goals as goal

pub returns-in_default-clause-pieces : goal.returns-in_default-clause-pieces
returns-in_default-clause-pieces c fuel =
    stuck fuel (here_of c.args.here.now) (toks_of c.args.here.now.left.now)
    (first_of (search rules, grind (arith, common_steps)))
    (no_piece (here_of c.args.here.now) (toks_of c.args.here.now.left.now) c.next.result c.next.ensures (first_of (search rules, grind (arith, common_steps))))

pub returns-clause-pieces : goal.returns-clause-pieces
returns-clause-pieces c fuel =
    stepped fuel (here_of c.args.here.now) (here_of c.pass.new.self) (toks_of c.args.here.now.left.now) (toks_of c.pass.new.self.left.now)
    (marks_of c.args.all.now.items) (marks_of c.push.new.self.items) (mark_of c.in-Some.piece)
    (found_piece (here_of c.args.here.now) (toks_of c.args.here.now.left.now) c.next.result c.in-Some.piece c.next.ensures c.in-Some.is)
    (first_of (search (rules, map_push), grind (arith, common_steps, map_push)))
    (first_of (search rules, grind (arith, common_steps)))
    (first_of (search rules, grind (arith, common_steps)))
