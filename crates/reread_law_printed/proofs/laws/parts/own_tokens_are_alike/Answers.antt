use Rattle.reread_law_printed.proofs.Parts.Marked.{alike_told}
use Rattle.reread_law_printed.proofs.laws.parts.own_tokens_are_alike.Goals as goal

pub returns : goal.returns
returns c text tokens tree scan h = alike_told text tokens tree scan h
