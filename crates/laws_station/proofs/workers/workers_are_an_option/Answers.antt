use Rattle.std.proofs.Common.{refl}
use Rattle.laws_station.specs.Workers.{plain_report}
use Rattle.laws_station.proofs.workers.workers_are_an_option.Goals as goal

pub returns : goal.returns
returns c = record {
  given = plain_report;
  workers = 64;
  first = c.reports_by_workers.ensures.first;
  second = c.reports_by_workers.ensures.second;
  files = refl;
  skipped = refl;
}
