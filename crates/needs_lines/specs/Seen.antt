-- What the program's values stand for.
use Rattle.std.specs.Prelude.{map}
use Rattle.mc_lex.specs.Tokens.{toks_of}
use Rattle.mc_probe.specs.Mapped.{mapped_of}
use Rattle.needed_paths.specs.Seen.{needs_of}
use Rattle.needs_lines.specs.declared.report.NeedsReport as code
use Rattle.needs_lines.specs.Report.{NeedsReport}

abbrev pub report_of : code.NeedsReport → NeedsReport
report_of r = record {
  source = r.places.now.text.now;
  tokens = toks_of r.tokens.now;
  names = r.names.now;
  decisions = map mapped_of r.decisions.now;
  obligations = r.obligations.now;
  asked = r.asked.now;
  needs = needs_of r.needs.now;
}
