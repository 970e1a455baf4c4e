use Rattle.std.proofs.Common.{List, ◌∙◌, ap, sym, map}
use Rattle.std.proofs.lemmas.List.{take-map}
use Rattle.decide_rules.specs.declared.decision.Decision.{Decision}
use Rattle.decide_rules.specs.Seen.{decision_of}
use Rattle.decide_walk.proofs.gathered.shorten.Goals as goal

pub returns : goal.returns
returns c =
    ap (λ (ds : List Decision). map decision_of ds) c.truncate.ensures.items
    ∙ sym (take-map decision_of c.args.count c.args.decisions.now.items)
