use Rattle.std.proofs.Common.{◌∙◌, ap, length-drop, length, drop, ◌-◌, arith}
use Rattle.std.proofs.lemmas.List.{take_all}
use Rattle.mc_lex.specs.Tokens.{toks_of}
use Rattle.mc_print.proofs.Held.{drop_toks}
use Rattle.mc_print.proofs.pen.back.Goals as goal

pub returns : goal.returns
returns c =
    let n = c.args.count in
    let ts = c.args.tokens.now in
    ap toks_of (take_all (length ts - n) (drop n ts) (omega (arith, length-drop n ts))) ∙ drop_toks n ts
