use Rattle.std.proofs.Common.{◌≡◌, ◌++◌, length}
use Rattle.std.specs.Prelude.{string_bytes}
use Rattle.mc_report.specs.Words.{hexadecimal}
use Rattle.mc_report.proofs.json_form.digest_text.Given as goal

abbrev pub invariant-loop-left : goal.invariant-loop-left
invariant-loop-left l = string_bytes l.text ++ hexadecimal l.left ≡ hexadecimal l.digest

abbrev pub decreases-loop-left : goal.decreases-loop-left
decreases-loop-left l = length l.left
