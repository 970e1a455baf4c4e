-- The bases of one decision.
use Rattle.std.proofs.Common.{◌≡◌, ℕ, ◌+◌, List, [], ◌∷◌, map, sym, subst}
use Rattle.mc_cond.specs.Tree.{tree_of}
use Rattle.mc_paths.specs.Paths.{count_of}
use Rattle.mc_probe.specs.declared.mapped.MappedDecision.{MappedDecision}
use Rattle.mc_probe.specs.Mapped.{mapped_of}
use Rattle.mc_probe.specs.Maps.{AreBased}

pub one_based : (ds : List MappedDecision) (d : MappedDecision) (from to : ℕ) → ds ≡ d ∷ [] → d.base ≡ from → from + count_of (tree_of d.decision.tree) ≡ to → AreBased (map mapped_of ds) from to
one_based ds d from to e base end =
    let P : List MappedDecision → Type 0 = λ xs. AreBased (map mapped_of xs) from to in
    subst P (sym e) (base, end)
