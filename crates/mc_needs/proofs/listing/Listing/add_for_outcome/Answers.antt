use Rattle.std.proofs.Common.{◌≡◌, true, sym, ap, ◌∙◌}
use Rattle.std.proofs.lemmas.List.{get_or_default}
use Rattle.mc_needs.specs.declared.due.Due.{Due}
use Rattle.mc_needs.specs.steps.Due.{none_due, due_at, is_due}
use Rattle.mc_needs.specs.steps.Listing.{wide}
use Rattle.mc_needs.proofs.Reading.{if_ok}
use Rattle.mc_needs.proofs.listing.Listing.add_for_outcome.Goals as goal

pub returns : goal.returns
returns c =
    let l = c.args.self.now in
    let k = c.args.d in
    let own : c.index.result.now ≡ due_at l.due.items k =
    c.index.ensures ∙ get_or_default l.due.items k c.index.result.now none_due c.requires.decision in
    let yes : is_due (due_at l.due.items k) c.args.outcome ≡ true =
    ap (λ (y : Due). is_due y c.args.outcome) (sym own) ∙ sym c.has.ensures ∙ c.if-not-has.false in
    if_ok c.add.result (λ x added. wide yes c.least_with.ensures added) c.add.ensures
