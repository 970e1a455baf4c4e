use Rattle.std.proofs.Common.{List, ℕ, arith, subst, sym}
use Rattle.std.specs.Prelude.{All, IsUtf8}
use Rattle.std.proofs.lemmas.List.Elements.{All-push}
use Rattle.tests_report.proofs.make.names.Goals as goal

pub loop-test-preserved : goal.loop-test-preserved
loop-test-preserved c = record {
  count = omega (arith, c.in_ok-push.ensures.len, c.loop-test.invariant.count);
  text = subst (λ (ns : List (List ℕ)). All IsUtf8 ns) (sym c.in_ok-push.ensures.items) (All-push IsUtf8 c.loop-test.all.items c.in_ok-name.field-0 c.loop-test.invariant.text c.in_ok-name.ensures);
}
