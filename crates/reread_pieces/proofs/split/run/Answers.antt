use Rattle.std.proofs.Common.{◌+◌, length, arith}
use Rattle.mc_lex.specs.Tokens.{toks_of}
use Rattle.reread_pieces.specs.Pieces.{start}
use Rattle.reread_pieces.specs.steps.Views.{here_of, marks_of}
use Rattle.reread_pieces.specs.steps.Runs.{run}
use Rattle.reread_pieces.proofs.Steps.{by_error, failed, turn_on}
use Rattle.reread_pieces.proofs.split.run.Goals as goal

pub returns-in_err-step-clause-pieces : goal.returns-in_err-step-clause-pieces
returns-in_err-step-clause-pieces c =
    let whole = run (length c.args.tokens.now + 1) (start (toks_of c.args.tokens.now)) (toks_of c.args.tokens.now) in
    by_error whole c.in_err-step.field-0.0 c.from_residual.result c.from_residual.ensures
    (failed whole (marks_of c.loop-turn.all.items) (length c.args.tokens.now + 1) c.loop-turn._turn (here_of c.loop-turn.here) (toks_of c.loop-turn.here.left.now)
    c.in_err-step.field-0.0 c.loop-turn.invariant (omega arith) c.in_err-step.ensures.pieces)

pub loop-turn-preserved : goal.loop-turn-preserved
loop-turn-preserved c =
    let whole = run (length c.args.tokens.now + 1) (start (toks_of c.args.tokens.now)) (toks_of c.args.tokens.now) in
    turn_on whole (marks_of c.loop-turn.all.items) (marks_of c.step.new.all.items) (length c.args.tokens.now + 1) c.loop-turn._turn
    (here_of c.loop-turn.here) (here_of c.step.new.here) (toks_of c.loop-turn.here.left.now) (toks_of c.step.new.here.left.now)
    c.loop-turn.invariant (omega arith) c.in_ok-step.ensures.pieces
