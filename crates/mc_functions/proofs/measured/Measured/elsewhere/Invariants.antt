use Rattle.std.proofs.Common.{◌≡◌, ◌≤◌, take}
use Rattle.std.specs.Prelude.{count_by, not}
use Rattle.mc_functions.specs.Measured.{is_counted}
use Rattle.mc_functions.specs.Seen.{measured_of}
use Rattle.mc_functions.proofs.measured.Measured.elsewhere.Given as goal

abbrev pub invariant-loop-obligation : goal.invariant-loop-obligation
invariant-loop-obligation l = record {
  same : l.count ≡ count_by (λ o. not (is_counted (measured_of l.self) o)) (take l.obligation-index l.self.obligations.now);
  few : l.count ≤ l.obligation-index;
}
