-- What the program's reports and lines stand for.
use Rattle.std.specs.Prelude.{map, option_map}
pub use Rattle.mc_port.specs.Lines.{bytes_of}
use Rattle.mc_meaning.specs.Seen.{told_of}
use Rattle.mc_probe.specs.Mapped.{mapped_of}
use Rattle.mc_report.specs.declared.report.Report as code
use Rattle.mc_report.specs.Report.{Report}

abbrev pub report_of : code.Report → Report
report_of r = record {
  source = r.source.now;
  digest = r.digest;
  mode = r.mode;
  names = r.names.items;
  states = r.states.items;
  results = option_map (λ v. map told_of v.items) r.results;
  decisions = map mapped_of r.map.decisions.items;
  obligations = r.obligations.items;
  verdicts = r.verdicts.items;
}
