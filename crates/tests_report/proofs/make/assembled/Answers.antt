use Rattle.std.proofs.Common.{◌∙◌, sym, arith}
use Rattle.std.proofs.lemmas.List.{length-map}
use Rattle.mc_meaning.specs.Seen.{told_of}
use Rattle.tests_report.proofs.make.assembled.Goals as goal

pub returns-clause-report : goal.returns-clause-report
returns-clause-report c = record {
  short = omega arith;
  states = c.requires.states ∙ sym c.requires.names;
  results = length-map c.args.told.results.items told_of ∙ c.requires.results ∙ sym c.requires.names;
  judged = rw c.requires.names c.requires.judged;
}
