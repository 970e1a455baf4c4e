use Rattle.mc_cond.specs.Tree.{tree_of}
use Rattle.mc_paths.specs.Paths.{IsPath, IsInUse}
use Rattle.mc_paths.proofs.Numbers.{is_there, if_there}
use Rattle.mc_paths.proofs.numbering.Numbering.vector_of.Goals as goal

pub unwrap-requires : goal.unwrap-requires
unwrap-requires c =
    let used : IsInUse (tree_of c.self.inside.tree) c.args.path = rw (← c.self.view_is) at c.requires in
    is_there c.vector_at.result c.vector_at.ensures.idle used

pub returns : goal.returns
returns c =
    rw (← c.self.view_is) (if_there (λ v. IsPath (tree_of c.self.inside.tree) c.args.path v) c.vector_at.result c.unwrap.result c.vector_at.ensures.found c.unwrap.ensures)
