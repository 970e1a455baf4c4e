use Rattle.std.proofs.Common.{◌∙◌, ◌*◌, ℕ, ap, sym}
use Rattle.std.proofs.lemmas.List.{length-map}
use Rattle.mc_port.specs.Lines.{bytes_of}
use Rattle.mc_station.specs.Replied.{seen_reply}
use Rattle.mc_tests.specs.Seen.{seen_plans}
use Rattle.mc_typed.specs.Plans.{plan_of}
use Rattle.mc_station.specs.Seen.{seen_accepted}
use Rattle.mc_station.specs.commands.Watch.{watch_lines}
use Rattle.mc_station.proofs.Watching.{watches}
use Rattle.mc_station.proofs.commands.watch.watched.Goals as goal

pub returns : goal.returns
returns c =
    let a = seen_accepted c.args.accepted.now in
    let plans = c.args.plans.now in
    let recorded = c.pairs-recorded.result in
    let lines =
    c.in_ok-lines.ensures ∙ ap (λ (n : ℕ). watch_lines c.args.counts.now recorded (a.map.bits * n)) (sym (length-map plans plan_of)) in
    watches c.args.looks a (seen_plans plans) c.args.ran.now c.args.counts.now recorded c.number_of.result (bytes_of c.in_ok-lines.lines.items) (seen_reply c.of_lines.result)
    c.requires.run c.requires.looked c.pairs-recorded.ensures (rw c.deref.ensures.value at c.number_of.ensures) lines c.of_lines.ensures
