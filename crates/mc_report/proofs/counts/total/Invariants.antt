use Rattle.std.proofs.Common.{◌≡◌, ◌≤◌, take}
use Rattle.std.specs.Prelude.{count_by}
use Rattle.mc_report.specs.Counts.{is_kind}
use Rattle.mc_report.proofs.counts.total.Given as goal

abbrev pub invariant-loop-obligation : goal.invariant-loop-obligation
invariant-loop-obligation l = record {
  same : l.count ≡ count_by (λ o. is_kind l.kind o.id) (take l.obligation-index l.obligations);
  few : l.count ≤ l.obligation-index;
}
