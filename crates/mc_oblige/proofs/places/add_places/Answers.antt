use Rattle.std.proofs.Common.{[], ◌∷◌, ◌++◌, get_or, ap, ◌∙◌}
use Rattle.mc_span.specs.declared.span.Span.{Span}
use Rattle.mc_oblige.specs.steps.Places.{id_of}
use Rattle.mc_oblige.proofs.Listed.{places_step}
use Rattle.mc_oblige.proofs.places.add_places.Goals as goal

pub loop-k-preserved : goal.loop-k-preserved
loop-k-preserved c =
    let blank : Span = record { start = 0; end = 0 } in
    let span : Span = get_or c.args.spans.now c.loop-k.k blank in
    places_step (id_of c.args.kind) c.args.spans.now c.loop-k.k blank c.loop-k-test.true c.args.all.now.items c.loop-k.all.items c.push.new.self.items c.loop-k.invariant
    (c.in_ok-push.ensures.items ∙ ap (λ i. c.loop-k.all.items ++ record { id = i; span = span } ∷ []) c.id.ensures)
