use Rattle.std.proofs.Common.{sym, subst, arith}
use Rattle.std.specs.Prelude.{[], Contains, ◌↔◌}
use Rattle.mc_core.specs.Matrix.{Holds, MatrixView}
use Rattle.mc_cover.specs.Closed.{HasHits, AreInRange}
use Rattle.mc_cover.specs.Model.{CoverView}
use Rattle.mc_cover.proofs.Closed.{no_spare, pairs}
use Rattle.mc_cover.proofs.calls.close.Goals as goal
use Rattle.mc_cover.proofs.calls.close.Goals.{After-closing_words}

in_range : (c : After-closing_words) → AreInRange c.cover.inside.shape c.args.pass.view.hits
in_range c = subst (λ (x : CoverView). AreInRange x.shape c.args.pass.view.hits) (sym c.cover.view_is) c.closing_words.ensures.in_range

bits : (c : After-closing_words) → HasHits c.cover.inside.shape c.args.pass.view.hits [] c.closing_words.result.items
bits c = subst (λ (x : CoverView). HasHits x.shape c.args.pass.view.hits [] c.closing_words.result.items) (sym c.cover.view_is) c.closing_words.ensures.bits

pub of_words-requires-clause-spare : goal.of_words-requires-clause-spare
of_words-requires-clause-spare c = let at = (goal.at.of_words-requires-clause-spare c).After-closing_words in no_spare c.cover.inside.shape c.args.pass.view.hits [] c.closing_words.result.items (in_range at) (bits at)

pub returns-clause-pairs : goal.returns-clause-pairs
returns-clause-pairs c b t =
    let at = (goal.at.returns-clause-pairs c).After-closing_words in
    let p = pairs c.cover.inside.shape c.args.pass.view.hits [] c.closing_words.result.items (in_range at) (bits at) b t in
    subst (λ (m : MatrixView). Holds m b t ↔ Contains c.args.pass.view.hits (b, t)) (sym c.of_words.ensures) ((λ h. (p.0 h).0), (λ h. p.1 (h, λ e. absurd (omega (arith, e.1)))))
