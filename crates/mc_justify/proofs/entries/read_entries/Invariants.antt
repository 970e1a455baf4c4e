use Rattle.std.proofs.Common.{◌≡◌, ◌+◌, [], length, drop}
use Rattle.serde_json.specs.View.{items_view}
use Rattle.mc_justify.specs.Justifications.{entries_from}
use Rattle.mc_justify.specs.Seen.{IsDraft}
use Rattle.mc_justify.proofs.entries.read_entries.Given as goal

abbrev pub invariant-loop-value : goal.invariant-loop-value
invariant-loop-value l = record {
  number : l.number ≡ l.value-index + 1;
  count : length l.draft.named.items ≡ length l.obligations;
  draft : IsDraft l.draft;
  left : entries_from l.source l.obligations 1 [] (items_view l.list) ≡ entries_from l.source l.obligations l.number l.draft.justifications.items (items_view (drop l.value-index l.list));
}
