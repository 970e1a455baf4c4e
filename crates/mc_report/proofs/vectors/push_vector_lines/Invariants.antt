use Rattle.std.proofs.Common.{◌≡◌, ◌++◌, drop, map}
use Rattle.mc_probe.specs.Mapped.{mapped_of}
use Rattle.mc_report.specs.Seen.{bytes_of}
use Rattle.mc_report.specs.VectorsText.{vector_line}
use Rattle.mc_report.proofs.vectors.push_vector_lines.Given as goal

abbrev pub invariant-loop-evaluated : goal.invariant-loop-evaluated
invariant-loop-evaluated l =
    let line = vector_line l.names (map mapped_of l.decisions) in
    bytes_of l.lines.items ++ map line (drop l.evaluated-index l.paths) ≡ bytes_of l.initial.lines.items ++ map line l.paths
