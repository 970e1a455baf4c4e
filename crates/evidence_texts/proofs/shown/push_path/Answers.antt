use Rattle.std.proofs.Common.{◌∙◌, ◌++◌, ◌∷◌, [], ℕ, List, ap, sym, append_assoc}
use Rattle.std.proofs.lemmas.Result.{on_ok_weaker}
use Rattle.evidence_texts.specs.Words.{vector_text}
use Rattle.evidence_texts.proofs.Paths.{path_numbered, path_written}
use Rattle.evidence_texts.proofs.shown.push_path.Goals as goal

pub vector_of-requires : goal.vector_of-requires
vector_of-requires c = path_numbered c.args.decisions.now c.args.d c.args.path c.index-decisions-d.result c.index-decisions-d.is c.requires

pub returns : goal.returns
returns c =
    let v = c.vector_of.result in
    let line = c.args.line.now.items in
    let text = path_written c.args.decisions.now c.args.d c.args.path c.index-decisions-d.result v c.index-decisions-d.is c.requires c.vector_of.ensures in
    on_ok_weaker c.push_vector.result
    (λ e. e
    ∙ ap (λ (l : List ℕ). l ++ vector_text v) c.in_ok-extend_from_slice.ensures.items
    ∙ append_assoc line (32 ∷ []) (vector_text v)
    ∙ ap (λ (l : List ℕ). line ++ l) (sym text))
    c.push_vector.ensures
