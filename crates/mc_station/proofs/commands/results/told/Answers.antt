use Rattle.std.proofs.Common.{◌≡◌, ◌∙◌, ℕ, List, ap, map}
use Rattle.interp_trail.specs.Traced.{Traced}
use Rattle.mc_port.specs.Lines.{bytes_of}
use Rattle.mc_probe.specs.BitMaps.{map_of}
use Rattle.mc_results.proofs.Plain.{states_are_plain}
use Rattle.mc_tests.specs.Seen.{seen_plans}
use Rattle.mc_typed.specs.declared.plans.TestState.{TestState}
use Rattle.results_lines.specs.Lines.{results_lines, results_of}
use Rattle.station_replies.specs.Reply.{written}
use Rattle.mc_station.specs.Seen.{seen_accepted}
use Rattle.mc_station.specs.Tests.{states, status_where}
use Rattle.mc_station.proofs.commands.results.told.Goals as goal

pub returns : goal.returns
returns c =
    let a = seen_accepted c.args.accepted.now in
    let plans = seen_plans c.args.plans.now in
    let number : c.number_of.result ≡ status_where (states a.program plans) =
    c.number_of.ensures ∙ ap status_where (c.deref.ensures.value ∙ c.in_ok-states.ensures ∙ ap (map (λ (t : Traced). t.state)) c.requires.traces ∙ states_are_plain a.program plans) in
    let lines : bytes_of c.in_ok-lines.lines.items ≡ results_of a.source a.map a.program plans =
    c.in_ok-lines.ensures ∙ ap (results_lines a.source a.map plans) c.requires.traces in
    c.of_lines.ensures ∙ (λ i. written (number i) (lines i))
