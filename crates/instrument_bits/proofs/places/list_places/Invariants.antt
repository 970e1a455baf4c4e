-- What is listed, with what is still to come, is the whole.
use Rattle.std.proofs.Common.{◌≡◌, ◌++◌, drop, map, flat_map}
use Rattle.mc_typed.specs.Views.{function_of}
use Rattle.mc_probe.specs.Obligations.{exits, counted_spans_all, labels_all}
use Rattle.instrument_bits.proofs.places.list_places.Given as goal

abbrev pub invariant-loop-tree : goal.invariant-loop-tree
invariant-loop-tree l =
    (l.places.entries.items ++ map (λ f. f.name_span) (map function_of (drop l.tree-index l.tree-items)) ≡ map (λ f. f.name_span) (map function_of l.tree-items))
    × (l.places.exits.items ++ flat_map exits (map function_of (drop l.tree-index l.tree-items)) ≡ flat_map exits (map function_of l.tree-items))
    × (l.places.statements.items ++ flat_map (λ f. counted_spans_all f.body) (map function_of (drop l.tree-index l.tree-items)) ≡ flat_map (λ f. counted_spans_all f.body) (map function_of l.tree-items))
    × (l.places.labels.items ++ flat_map (λ f. labels_all f.body) (map function_of (drop l.tree-index l.tree-items)) ≡ flat_map (λ f. labels_all f.body) (map function_of l.tree-items))
