use Rattle.std.proofs.Common.{◌≡◌, ℕ, ◌+◌, ◌%◌, ◌<◌, ◌≤◌, sym, ap, ◌∙◌, subst, arith, refl}
use Rattle.std.specs.Prelude.{All, Contains}
use Rattle.std.specs.Int.{bit_at}
use mathlib.Core.Option.{none}
use Rattle.atomic_table.specs.Table.{step, Allows}
use Rattle.mc_core.specs.declared.shape.Shape.{Shape}
use Rattle.mc_core.specs.Shape.{place, word_count}
use Rattle.mc_cover.specs.declared.view.View.{View}
use Rattle.mc_cover.specs.Rule.{IsKept}
use Rattle.mc_cover.specs.Tells.{look_is}
use Rattle.mc_cover.specs.Model.{CoverView, PassView}
use Rattle.mc_cover.proofs.Looks.{looks}
use Rattle.mc_cover.proofs.calls.look.Goals as goal

pub load-requires : goal.load-requires
load-requires c =
    let k = c.cover.inside.shape in
    let z = c.cover.inside.table.shared.table_id in
    let p = c.pass.inside.seat in
    let sized = c.cover.invariant.words in
    let s = c.pass.view_is in
    let own = ap (λ (x : PassView). x.cover) s ∙ c.requires.own.0 ∙ sym (ap (λ (x : CoverView). x.cover) c.cover.view_is) in
    let seen_shape = ap (λ (x : CoverView). x.shape) c.cover.view_is in
    let shape = ap (λ (x : PassView). x.view.shape) s ∙ c.requires.own.1 ∙ sym seen_shape in
    let less = subst (λ (x : Shape). c.args.index < word_count x) (sym seen_shape) c.requires.in_range in (
      own,
      omega arith,
      subst (λ (key : Shape). Allows (IsKept key) z.slots p.id p.me (c.args.index + 1) (λ n. n) (look_is (step z.slots (c.args.index + 1) 0 0 none) p.me)) (sym c.cover.invariant.keyed)
          (looks k z.slots p.id p.me c.args.index c.pass.invariant.1 shape),
    )

pub returns-clause-no_less : goal.returns-clause-no_less
returns-clause-no_less c = subst (λ (x : PassView). All (λ y. y.0 ≡ c.args.index → (i : ℕ) → bit_at y.1 i ≤ bit_at c.load.result i) x.view.seen) c.pass.view_is (c.load.ensures.2.1 c.args.index refl).1

pub returns-clause-hits : goal.returns-clause-hits
returns-clause-hits c b t hit is =
    let told = (c.load.ensures.2.1 c.args.index refl).2 in
    let told' = subst (λ (x : PassView). (b t : ℕ) → Contains x.view.hits (b, t) → place x.view.shape b t ≡ c.args.index → bit_at c.load.result (t % 64) ≡ 1) c.pass.view_is told in
    told' b t hit (ap (λ (z : Shape). place z b t) c.requires.own.1 ∙ is)

pub invariant_of-pass : goal.invariant_of-pass
invariant_of-pass c = (c.load.ensures.2.0 ∙ c.pass.invariant.0, λ e. c.pass.invariant.1 (sym (ap (λ (v : View). v.role) (c.load.ensures.2.1 c.args.index refl).0) ∙ e))
