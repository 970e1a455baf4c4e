use Rattle.std.proofs.Common.{◌∙◌, ℕ, ap}
use Rattle.mc_report.specs.Seen.{report_of}
use Rattle.station_replies.specs.Reply.{written}
use Rattle.mc_station.specs.Output.{listing_pieces}
use Rattle.mc_station.proofs.Reporting.{as_many_verdicts}
use Rattle.mc_station.proofs.commands.list.listing.Goals as goal

pub of_listing-requires-clause-same : goal.of_listing-requires-clause-same
of_listing-requires-clause-same c = as_many_verdicts (report_of c.args.report) c.requires.report

pub returns : goal.returns
returns c =
    let r = report_of c.args.report in
    c.of_listing.ensures ∙ ap (λ (n : ℕ). written n (listing_pieces r.source r.obligations r.verdicts)) c.status-number.ensures
