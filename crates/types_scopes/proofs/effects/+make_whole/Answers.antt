use Rattle.std.proofs.Common.{◌≡◌, ◌∙◌, Box, Global, sym, ap}
use Rattle.mc_span.specs.declared.span.Span.{Span}
use Rattle.mc_typed.specs.declared.effects.Effect.{Effect}
use Rattle.mc_typed.specs.declared.effects.Effect.TheVariants as effect
use Rattle.mc_typed.specs.declared.effects.Effect.TheOpen.{Effect-F}
use Rattle.mc_typed.specs.declared.effects.Effect.TheFolds.{fold-roll-Effect}
use Rattle.mc_typed.specs.Tree as t
use Rattle.mc_typed.specs.Views.{effect_of, node_effect}
use Rattle.types_rules.specs.Values as v
use Rattle.types_scopes.proofs.effects.+make_whole.Goals as goal

effect_of-Discard : (a : Box Effect Global) (span : Span)
    → effect_of (effect.Discard a span) ≡ t.Discard (effect_of a.value) span
effect_of-Discard a span =
    ap effect_of (sym (effect.rolls-Discard a span))
    ∙ fold-roll-Effect t.Effect node_effect (Effect-F.Discard a span)

pub returns-in-Discard : goal.returns-in-Discard
returns-in-Discard h c =
    let w = c.in-Discard in
    effect_of-Discard _ w.span
    ∙ ap (λ (e : t.Effect). t.Discard e w.span) (rw c.deref_mut.ensures.value at c.make_whole.ensures)
    ∙ sym (ap v.whole (ap effect_of w.is ∙ effect_of-Discard w.operand w.span))
