use Rattle.std.proofs.Common.{◌≡◌, ℕ, List, Option, Bor, option_map, subst, sym}
use Rattle.std.specs.Prelude.{IfOk}
use Rattle.mc_functions.specs.Measured.{Measured}
use Rattle.mc_oblige.specs.Shown.{HasEvent}
use Rattle.mc_probe.specs.BitMaps.{map_of}
use Rattle.mc_report.specs.Report.{Report}
use Rattle.mc_report.specs.Seen.{report_of}
use Rattle.mc_station.specs.Replied.{seen_reply}
use Rattle.mc_station.specs.commands.Report.{NeedsIn, measured, parts_measured}
use Rattle.mc_station.proofs.Reporting.{as_many_verdicts}
use Rattle.mc_station.proofs.commands.needs.of_report.Goals as goal

pub told-requires-clause-many : goal.told-requires-clause-many
told-requires-clause-many c = rw (c.deref.ensures.value, c.deref-2.ensures.value) (sym (as_many_verdicts (report_of c.args.report.now) c.requires.report))

pub returns : goal.returns
returns c =
    let given : Option (List ℕ) = option_map (λ (name : Bor (List ℕ)). name.now) c.args.of in
    let r : Report = report_of c.args.report.now in
    let m = map_of c.args.report.now.map in
    let stands = HasEvent m c.args.matrix.now in
    let parts : Measured = parts_measured c.args.places.now.text.now c.deref.result.now c.deref-2.result.now c.deref-3.result.now (option_map (λ (b : Bor (List ℕ)). b.now) c.bytes_in-file.result) in
    let same : parts ≡ measured given r =
    λ i. record {
      source = c.requires.places i;
      obligations = c.deref.ensures.value i;
      verdicts = c.deref-2.ensures.value i;
      states = c.deref-3.ensures.value i;
      file = c.bytes_in-file.ensures i;
    } in
    subst (λ (names : List (List ℕ)). IfOk c.told.result (λ reply. NeedsIn stands m r.mode (measured given r) names (seen_reply reply))) c.deref-4.ensures.value
    (subst (λ (p : Measured). IfOk c.told.result (λ reply. NeedsIn stands m r.mode p c.deref-4.result.now (seen_reply reply))) same c.told.ensures)
