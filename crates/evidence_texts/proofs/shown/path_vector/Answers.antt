use Rattle.std.proofs.Common.{◌∙◌, ◌++◌, ℕ, List, ap, sym}
use Rattle.evidence_texts.specs.Words.{vector_text}
use Rattle.evidence_texts.proofs.Paths.{path_numbered, vector_written}
use Rattle.evidence_texts.proofs.shown.path_vector.Goals as goal

pub vector_of-requires : goal.vector_of-requires
vector_of-requires c = path_numbered c.args.decisions.now c.args.d c.args.path c.index-decisions-d.result c.index-decisions-d.is c.requires

pub returns : goal.returns
returns c =
    let v = c.vector_of.result in
    let text = vector_written c.args.decisions.now c.args.d c.args.path c.index-decisions-d.result v c.index-decisions-d.is c.requires c.vector_of.ensures in
    c.in_ok-push_vector.ensures ∙ ap (λ (l : List ℕ). l ++ vector_text v) c.new-text.ensures.items ∙ sym text
