use Rattle.std.proofs.Common.{◌≡◌, ◌≤◌, vec_len, vec_capacity}
use Rattle.mc_core.specs.Shape.{word_count}
use Rattle.mc_watch.specs.Looks.{AreGrowing, AreLooks}
use Rattle.mc_watch.proofs.watching.watch.Given as goal

abbrev pub invariant-loop-made : goal.invariant-loop-made
invariant-loop-made g l = record {
  own : l.pass.cover ≡ l.initial.pass.cover;
  kept : l.pass.view ≡ record l.initial.pass.view { seen = l.pass.view.seen };
  looked : AreLooks (word_count l.cover.shape) l.pass.view.seen l.counts.items;
  growing : AreGrowing l.pass.view.seen;
  count : vec_len l.counts ≡ l.made;
  room : l.looks ≤ vec_capacity l.counts;
}
