use Rattle.mc_lex.specs.Tokens.{toks_of}
use Rattle.std.proofs.Common.{[]}
use Rattle.needs_lines.specs.Remarks.{constants, one_texts}
use Rattle.needs_lines.proofs.Joined.{both}
use Rattle.needs_lines.proofs.remarks.push_remarks.Goals as goal

pub returns : goal.returns
returns c =
    let tokens = toks_of c.args.tokens.now in
    let spans = c.args.spans.now in
    both c.args.text.now.items c.push_one_texts.new.text.items c.push_constants.new.text.items (one_texts tokens [] 1 spans) (constants tokens 1 spans) c.in_ok-push_one_texts.ensures c.in_ok-push_constants.ensures
