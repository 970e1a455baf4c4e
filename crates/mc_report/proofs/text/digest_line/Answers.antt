use Rattle.std.proofs.Common.{◌∙◌, ◌++◌, ◌∷◌, [], ℕ, List, ap}
use Rattle.std.specs.Prelude.{codes}
use Rattle.mc_report.specs.Words.{hexadecimal}
use Rattle.mc_report.proofs.text.digest_line.Goals as goal

pub returns : goal.returns
returns c =
    let begun = c.in_ok-extend_from_slice.ensures.items ∙ ap (λ (l : List ℕ). l ++ codes "source sha256 ") c.new-line.ensures.items in
    let digits = c.in_ok-push_hexadecimal.ensures ∙ ap (λ (l : List ℕ). l ++ hexadecimal c.args.digest.now) begun in
    c.in_ok-push.ensures.items ∙ ap (λ (l : List ℕ). l ++ 10 ∷ []) digits
