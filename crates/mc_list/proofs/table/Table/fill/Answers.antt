use Rattle.std.proofs.Common.{rules, arith}
use Rattle.std.proofs.lemmas.Grind.{common_steps}
use Rattle.mc_list.proofs.table.Table.fill.Goals as goal

pub loop-obligations_left-preserved : goal.loop-obligations_left-preserved
loop-obligations_left-preserved c = record {
  from = search rules;
  whole = search rules;
  same = search rules;
  each = λ k lt. (
      let old = c.loop-obligations_left.invariant.each k lt in
      let more = c.raise.ensures.marks k lt in
      grind (arith, common_steps)
      );
}
