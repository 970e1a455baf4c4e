use Rattle.std.proofs.Common.{◌≡◌, ◌+◌, ◌-◌, length}
use Rattle.mc_lex.specs.Tokens.{toks_of}
use Rattle.reread_pieces.specs.Pieces.{start}
use Rattle.reread_pieces.specs.steps.Views.{here_of, marks_of}
use Rattle.reread_pieces.specs.steps.Runs.{added_to, run}
use Rattle.reread_pieces.proofs.split.run.Given as goal

abbrev pub invariant-loop-turn : goal.invariant-loop-turn
invariant-loop-turn l =
    run (length l.tokens + 1) (start (toks_of l.tokens)) (toks_of l.tokens)
    ≡ added_to (marks_of l.all.items) (run (l._turn-end - l._turn) (here_of l.here) (toks_of l.here.left.now))
