use Rattle.std.proofs.Common.{sym}
use Rattle.mc_interp.proofs.Kept.{kept_then}
use Rattle.mc_interp.proofs.Doings.{type_there}
use Rattle.mc_interp.proofs.initializers.store_structure.Goals as goal

pub returns-clause-kept : goal.returns-clause-kept
returns-clause-kept g c =
    let x = type_there _ c.args.cells c.requires.cells in
    kept_then _ _ _ _ _ c.in_ok-from.ensures.kept
    (c.copy.ensures.kept _ _ x.0 (sym x.2) (rw x.1 at c.in_ok-from.ensures.placed) (rw x.1 at c.requires.placed))
