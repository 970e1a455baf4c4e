use Rattle.std.proofs.Common.{◌∙◌, ap}
use Rattle.mc_lex.specs.Tokens.{toks_of}
use Rattle.mc_probe.specs.Tree.{Tree}
use Rattle.station_replies.specs.Reply.{written}
use Rattle.mc_station.specs.Output.{program_pieces}
use Rattle.mc_station.proofs.commands.instrument.instrument.Goals as goal

pub returns-in-Ok : goal.returns-in-Ok
returns-in-Ok c =
    let tokens = toks_of c.in-Ok.tokens.items in
    (tokens, c.in-Ok.ensures, c.of_program.ensures ∙ ap (λ (t : Tree). written 0 (program_pieces tokens t)) c.requires.instrumented.tree.is_tree)
