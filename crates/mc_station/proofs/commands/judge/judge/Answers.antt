use Rattle.std.proofs.Common.{◌≤◌, ℕ, List, length, ap, subst, sym}
use Rattle.mc_limits.specs.Limits.{most_source_bytes}
use Rattle.mc_report.specs.Report.{Report}
use Rattle.mc_station.proofs.commands.judge.judge.Goals as goal

pub told-requires-clause-short : goal.told-requires-clause-short
told-requires-clause-short c =
    let (verdicts, are, is) = c.in_ok-report.ensures.made in
    subst (λ (s : List ℕ). length s ≤ most_source_bytes) (sym (ap (λ (r : Report). r.source) is)) c.requires.instrumented.short
