use Rattle.std.proofs.Common.{◌≡◌, length, get_or, refl, ◌<◌}
use Rattle.std.proofs.lemmas.Option.{slice_get-get_or}
use Rattle.mc_cond.specs.Tree.{tree_of}
use Rattle.mc_paths.specs.Paths.{increments}
use Rattle.mc_paths.proofs.Counting.{length_edges}
use Rattle.mc_paths.proofs.numbering.Numbering.on_false.Goals as goal

pub bounds-edges-k : goal.bounds-edges-k
bounds-edges-k c =
    let t = tree_of c.self.inside.tree in
    rw (c.as_slice-edges.ensures.value, c.self.invariant.edges, length_edges t 1 1) (rw (← c.self.view_is) at c.requires)

pub returns : goal.returns
returns c =
    let t = tree_of c.self.inside.tree in
    let read : get_or c.as_slice-edges.result.now c.args.k 0 ≡ get_or (increments t) c.args.k 0 = rw (c.as_slice-edges.ensures.value, c.self.invariant.edges) refl in
    let within : c.args.k < length (increments t) = rw (length_edges t 1 1) (rw (← c.self.view_is) at c.requires) in
    rw (← c.self.view_is, read) (slice_get-get_or (increments t) c.args.k 0 within)
