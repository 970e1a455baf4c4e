use Rattle.std.proofs.Common.{ap, map}
use Rattle.mc_meaning.specs.Seen.{told_of}
use Rattle.mc_oblige.specs.Shown.{HasEvent}
use Rattle.mc_port.specs.Lines.{bytes_of}
use Rattle.mc_station.specs.Replied.{seen_reply}
use Rattle.mc_station.specs.Seen.{seen_accepted}
use Rattle.mc_station.proofs.Reported.{are_present, lists}
use Rattle.mc_station.proofs.commands.vectors.listed.Goals as goal

-- each path is one of its decision, and its test one of the tests
pub vectors_lines-requires-clause-paths : goal.vectors_lines-requires-clause-paths
vectors_lines-requires-clause-paths c =
    let a = seen_accepted c.args.accepted.now in
    let ran = c.args.ran.now in
    let paths = c.in_ok-paths.paths.items in
    rw (c.deref.ensures.value, c.deref-4.ensures.value, c.deref-5.ensures.value)
    (are_present a ran.names.items ran.states.items (map told_of ran.results.items) paths ran.matrix (ap (λ s. s.tests) c.requires.told.shape) c.in_ok-paths.ensures)

pub returns : goal.returns
returns c =
    let a = seen_accepted c.args.accepted.now in
    let ran = c.args.ran.now in
    let paths = c.in_ok-paths.paths.items in
    let lines =
    rw (c.deref.ensures.value, c.deref-2.ensures.value, c.deref-3.ensures.value, c.deref-4.ensures.value, c.deref-5.ensures.value) at c.in_ok-lines.ensures in
    lists a ran.names.items ran.states.items (map told_of ran.results.items) (HasEvent a.map ran.matrix) paths c.number_of.result (bytes_of c.in_ok-lines.lines.items) (seen_reply c.of_lines.result)
    c.in_ok-paths.ensures (rw c.deref-6.ensures.value at c.number_of.ensures) lines c.of_lines.ensures
