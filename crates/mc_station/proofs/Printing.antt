-- The command `instrument` has one reply, which is an answer.
use Rattle.std.proofs.Common.{◌≡◌, ◌∙◌, List, None, sym, ap, subst}
use Rattle.mc_lex.specs.declared.token.Dialect.TheVariants.{Plain}
use Rattle.mc_lex.specs.Tokens.{Tok}
use Rattle.mc_lex.proofs.Scanning.{one_scan}
use Rattle.mc_probe.specs.Table.{instrumented}
use Rattle.station_replies.specs.Reply.{Reply, written}
use Rattle.mc_station.specs.Output.{program_pieces}
use Rattle.mc_station.specs.Laws.{IsLater}
use Rattle.mc_station.specs.Source.{Accepted}
use Rattle.mc_station.specs.commands.Instrument.{Instruments}
use Rattle.mc_station.proofs.Written.{written_later}

pub one_text : (accepted : Accepted) (r q : Reply) → Instruments accepted r → Instruments accepted q → r ≡ q
one_text accepted r q (tokens, lexes, is) (others, also, other) =
    let same : tokens ≡ others = (one_scan Plain accepted.source tokens others None None lexes also).0 in
    is ∙ ap (λ (ts : List Tok). written 0 (program_pieces ts (instrumented accepted.map accepted.program))) same ∙ sym other

pub text_keeps : (accepted : Accepted) (r : Reply) → Instruments accepted r → IsLater r
text_keeps accepted r (tokens, lexes, is) =
    subst IsLater (sym is) (written_later 0 (program_pieces tokens (instrumented accepted.map accepted.program)))
