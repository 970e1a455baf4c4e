use Rattle.std.proofs.Common.{◌≡◌, ℕ, subst, sym}
use Rattle.mc_typed.specs.Layout.{cells}
use Rattle.mc_interp.proofs.frame.Frame.copied.Goals as goal

pub returns-clause-kept : goal.returns-clause-kept
returns-clause-kept c d w u e p q = c.copy.ensures.kept d w u (subst (λ (n : ℕ). n ≡ cells u) (sym c.cells_of-cells.ensures) e) p q
