use Rattle.std.proofs.Common.{◌≡◌, ℕ, List, Option, Bor, option_map, subst, sym}
use Rattle.std.specs.Prelude.{IfOk}
use Rattle.mc_functions.specs.Measured.{Measured}
use Rattle.mc_functions.specs.Status as functions
use Rattle.mc_functions.specs.Text.{function_lines}
use Rattle.mc_report.specs.Seen.{report_of}
use Rattle.station_replies.specs.Reply.{written}
use Rattle.mc_station.specs.Replied.{seen_reply}
use Rattle.mc_station.specs.commands.Report.{measured, parts_measured}
use Rattle.mc_station.proofs.Reporting.{as_many_verdicts}
use Rattle.mc_station.proofs.commands.functions.functions.Goals as goal

pub of_parts-requires : goal.of_parts-requires
of_parts-requires c = rw (c.deref.ensures.value, c.deref-2.ensures.value) (sym (as_many_verdicts (report_of c.args.report.now) c.requires))

pub returns : goal.returns
returns c =
    let given : Option (List ℕ) = option_map (λ (name : Bor (List ℕ)). name.now) c.args.of in
    let told : Measured = parts_measured c.in_ok-places.places.text.now c.deref.result.now c.deref-2.result.now c.deref-3.result.now (option_map (λ (b : Bor (List ℕ)). b.now) c.bytes_in-file.result) in
    let same : told ≡ measured given (report_of c.args.report.now) =
    λ i. record {
      source = c.in_ok-places.ensures i;
      obligations = c.deref.ensures.value i;
      verdicts = c.deref-2.ensures.value i;
      states = c.deref-3.ensures.value i;
      file = c.bytes_in-file.ensures i;
    } in
    subst (λ (m : Measured). IfOk c.of_parts.result (λ reply. seen_reply reply ≡ written (functions.status_of m) (function_lines m))) same c.of_parts.ensures
