use Rattle.std.proofs.Common.{◌≡◌, ◌∙◌, ◌++◌, ◌∷◌, [], ap, rules}
use Rattle.std.proofs.lemmas.List.{map_push}
use Rattle.mc_port.specs.Lines.{bytes_of}
use Rattle.mutate_lines.specs.steps.Each.{each_given}
use Rattle.mutate_lines.proofs.Given.{same_lines}
use Rattle.mutate_lines.proofs.lines.mutant_lines.Goals as goal

pub returns : goal.returns
returns c =
    let given = each_given c.args.names.now 1 c.args.changes.now c.args.killers.now in
    let front : bytes_of c.new-lines.result.items ++ given ≡ given = search rules in
    let each = c.in_ok-push_each.ensures ∙ front ∙ same_lines c.args.names.now 1 c.args.changes.now c.args.killers.now in
    ap bytes_of c.in_ok-push.ensures.items ∙ map_push _ _ _ ∙ (λ i. each i ++ c.in_ok-line.ensures i ∷ [])
