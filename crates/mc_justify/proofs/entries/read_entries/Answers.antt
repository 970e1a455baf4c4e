use Rattle.serde_json.specs.View.{view}
use Rattle.mc_justify.specs.Seen.{seen_entry}
use Rattle.mc_justify.proofs.ById.{position_below}
use Rattle.mc_justify.proofs.Values.{reasoned}
use Rattle.mc_justify.proofs.entries.read_entries.Goals as goal

pub add-requires-clause-inside : goal.add-requires-clause-inside
add-requires-clause-inside c =
    let entry = seen_entry c.in-Some.entry in
    let placed = rw c.find-found.ensures at c.in_ok-position.ensures.position in
    rw c.loop-value.invariant.count (position_below c.args.source.now entry.id c.args.obligations.now c.loop-value.number entry c.in_ok-position.position placed)

pub add-requires-clause-some : goal.add-requires-clause-some
add-requires-clause-some c =
    reasoned (view c.value-item.result) (seen_entry c.in-Some.entry) c.in-Some.ensures
