use Rattle.std.proofs.Common.{◌∙◌, ap}
use Rattle.mc_lex.specs.steps.Scanner.{first_of}
use Rattle.mc_lex.proofs.Heads.{by_byte, by_nothing}
use Rattle.mc_lex.proofs.punctuator.punctuator_len.Goals as goal

pub returns-in-empty : goal.returns-in-empty
returns-in-empty c = by_nothing c.args.bytes.now c.in-empty.len_below

pub returns-in-len1-up : goal.returns-in-len1-up
returns-in-len1-up c =
    c.first_of.ensures ∙ ap (λ ts. first_of ts c.args.bytes.now) c.punctuators_from.ensures
    ∙ by_byte c.args.bytes.now c.in-len1-up.len_at_least
