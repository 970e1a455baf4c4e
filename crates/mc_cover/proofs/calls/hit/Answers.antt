use Rattle.std.proofs.Common.{◌≡◌, ℕ, ◌+◌, ◌*◌, ◌^◌, ◌%◌, ◌<◌, sym, ap, ◌∙◌, subst, arith}
use Rattle.std.specs.Prelude.{bit_or, Contains}
use Rattle.std.proofs.lemmas.Nat.{one_shl}
use mathlib.Core.Option.{none}
use Rattle.atomic_table.specs.Table.{step, Allows}
use Rattle.mc_core.specs.declared.shape.Shape.{Shape}
use Rattle.mc_core.specs.Shape.{rows, place}
use Rattle.mc_cover.specs.declared.view.View.{View}
use Rattle.mc_cover.specs.Rule.{IsKept}
use Rattle.mc_cover.specs.Views.{after_hit}
use Rattle.mc_cover.specs.Tells.{hit_is}
use Rattle.mc_cover.specs.Model.{CoverView, PassView}
use Rattle.mc_cover.proofs.Bits.{place_within}
use Rattle.mc_cover.proofs.Hits.{hits}
use Rattle.mc_cover.proofs.calls.hit.Goals as goal
use Rattle.mc_cover.proofs.calls.hit.Goals.{After-fetch_or}

pub fetch_or-requires : goal.fetch_or-requires
fetch_or-requires c =
    let k = c.cover.inside.shape in
    let z = c.cover.inside.table.shared.table_id in
    let p = c.pass.inside.seat in
    let b : ℕ = c.args.bit in
    let t : ℕ = c.args.test in
    let w : ℕ = c.place-word.result + 1 in
    let mask : ℕ = 1 * 2 ^ (t % 64) % 2 ^ 64 in
    let s = c.pass.view_is in
    let seen_shape = ap (λ (x : CoverView). x.shape) c.cover.view_is in
    let shape = ap (λ (x : PassView). x.view.shape) s ∙ c.requires.own.1 ∙ sym seen_shape in
    let in_b : b < k.bits = subst (λ (x : Shape). b < x.bits) (sym seen_shape) c.requires.in_range.0 in
    let in_t : t < k.tests = subst (λ (x : Shape). t < x.tests) (sym seen_shape) c.requires.in_range.1 in
    let word : w ≡ place k b t + 1 = ap (λ (m : ℕ). m + 1) c.place-word.ensures in
    let wide = place_within k b t in_b (omega arith) in
    let sized = c.cover.invariant.words in (
      ap (λ (x : PassView). x.cover) s ∙ c.requires.own.0 ∙ sym (ap (λ (x : CoverView). x.cover) c.cover.view_is),
      omega arith,
      subst (λ (key : Shape). Allows (IsKept key) z.slots p.id p.me w (λ m. bit_or m mask) (hit_is (step z.slots w mask 0 none) p.me)) (sym c.cover.invariant.keyed)
          (hits k z.slots p.id p.me b t w mask c.pass.invariant.1 shape in_b in_t (subst (λ (x : PassView). Contains x.view.claims t) (sym s) c.requires.claimed) word (one_shl (t % 64) 64 (omega arith))),
    )

after : (c : After-fetch_or) → c.fetch_or.new.seat.me.0 ≡ after_hit c.pass.inside.seat.me.0 c.args.bit c.args.test
after c =
    let b : ℕ = c.args.bit in
    let t : ℕ = c.args.test in
    let k = c.cover.inside.shape in
    let seen_shape = ap (λ (x : CoverView). x.shape) c.cover.view_is in
    let shape = ap (λ (x : PassView). x.view.shape) c.pass.view_is ∙ c.requires.own.1 ∙ sym seen_shape in
    let in_b : b < k.bits = subst (λ (x : Shape). b < x.bits) (sym seen_shape) c.requires.in_range.0 in
    let in_t : t < k.tests = subst (λ (x : Shape). t < x.tests) (sym seen_shape) c.requires.in_range.1 in
    let wide : t < 64 * rows k = omega arith in
    let word = ap (λ (m : ℕ). m + 1) c.place-word.ensures ∙ ap (λ (z : Shape). place z b t + 1) (sym shape) in
    c.fetch_or.ensures.2.1 b t (subst (λ (z : Shape). b < z.bits) (sym shape) in_b) (subst (λ (z : Shape). t < 64 * rows z) (sym shape) wide) word (one_shl (t % 64) 64 (omega arith))

pub invariant_of-pass : goal.invariant_of-pass
invariant_of-pass c = (c.fetch_or.ensures.2.0 ∙ c.pass.invariant.0, λ e. c.pass.invariant.1 (sym (ap (λ (v : View). v.role) (after c)) ∙ e))

pub returns-clause-hit : goal.returns-clause-hit
returns-clause-hit c = after (goal.at.returns-clause-hit c).After-fetch_or ∙ ap (λ (x : PassView). after_hit x.view c.args.bit c.args.test) c.pass.view_is
