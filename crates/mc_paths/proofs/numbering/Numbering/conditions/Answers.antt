use Rattle.std.proofs.Common.{arith, refl, length, ◌≡◌}
use Rattle.mc_cond.specs.Tree.{tree_of, size}
use Rattle.mc_paths.proofs.Counting.{length_edges}
use Rattle.mc_paths.proofs.numbering.Numbering.conditions.Goals as goal

pub overflow_cast-result : goal.overflow_cast-result
overflow_cast-result c =
    let t = tree_of c.self.inside.tree in
    let count : length c.as_slice-edges.result.now ≡ size t = rw (c.as_slice-edges.ensures.value, c.self.invariant.edges, length_edges t 1 1) refl in
    omega (arith, count, c.self.invariant.numbered.few)

pub returns : goal.returns
returns c =
    let t = tree_of c.self.inside.tree in
    let count : length c.as_slice-edges.result.now ≡ size t = rw (c.as_slice-edges.ensures.value, c.self.invariant.edges, length_edges t 1 1) refl in
    rw (← c.self.view_is) count
