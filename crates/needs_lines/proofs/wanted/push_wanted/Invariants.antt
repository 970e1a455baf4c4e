use Rattle.std.proofs.Common.{◌≡◌, ◌++◌, drop, map}
use Rattle.std.specs.List.{concat}
use Rattle.mc_probe.specs.Mapped.{mapped_of}
use Rattle.needs_lines.specs.Wanted.{wanted_line}
use Rattle.needs_lines.proofs.wanted.push_wanted.Given as goal

abbrev pub invariant-loop-wanted : goal.invariant-loop-wanted
invariant-loop-wanted l =
    let line = wanted_line (map mapped_of l.decisions) in
    l.text.items ++ concat (map line (drop l.wanted-index l.all)) ≡ l.fn.text.items ++ concat (map line l.all)
