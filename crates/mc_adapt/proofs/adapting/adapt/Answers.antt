use Rattle.std.proofs.Common.{◌∙◌, ap, length, arith, rules}
use Rattle.std.proofs.lemmas.Grind.{common_steps}
use Rattle.adapt_tokens.specs.Seen.{parts_of}
use Rattle.mc_adapt.specs.States.{start}
use Rattle.mc_adapt.specs.Marks.{markings}
use Rattle.mc_adapt.specs.Texts.{text_of}
use Rattle.mc_adapt.specs.Outside.{all_refusals}
use Rattle.mc_adapt.specs.Seen.{markings_of}
use Rattle.mc_adapt.proofs.Giving.{gives_text, gives_faults}
use Rattle.mc_adapt.proofs.adapting.adapt.Goals as goal

pub returns-then-is_empty : goal.returns-then-is_empty
returns-then-is_empty c =
    gives_text c.args.source.now (parts_of c.in_ok-pieces.pieces.items) (markings_of c.in_ok-marked.marked.items) c.in_ok-faults.faults.items c.in_ok-pieces.ensures
    (c.in_ok-marked.ensures ∙ ap (λ l. markings start (parts_of l)) c.deref.ensures.value)
    (c.in_ok-faults.ensures ∙ ap (λ l. all_refusals (length c.args.source.now) (markings_of l)) c.deref-2.ensures.value)
    c.in_ok-text_of.field-0.items
    (c.in_ok-text_of.ensures ∙ ap (λ l. text_of (markings_of l)) c.deref-then-is_empty.ensures.value)
    (first_of (search rules, grind (arith, common_steps)))

pub returns : goal.returns
returns c =
    gives_faults c.args.source.now (parts_of c.in_ok-pieces.pieces.items) (markings_of c.in_ok-marked.marked.items) c.in_ok-faults.faults.items c.in_ok-pieces.ensures
    (c.in_ok-marked.ensures ∙ ap (λ l. markings start (parts_of l)) c.deref.ensures.value)
    (c.in_ok-faults.ensures ∙ ap (λ l. all_refusals (length c.args.source.now) (markings_of l)) c.deref-2.ensures.value)
    (first_of (search rules, grind (arith, common_steps)))
