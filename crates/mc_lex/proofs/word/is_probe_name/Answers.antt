use Rattle.std.proofs.Common.{◌∙◌, ap, refl}
use Rattle.mc_lex.specs.Words.{one_of, probe_names}
use Rattle.mc_lex.proofs.Heads.{one_by_byte, one_of_nothing}
use Rattle.mc_lex.proofs.word.is_probe_name.Goals as goal

pub returns-in-empty : goal.returns-in-empty
unfolding probe_names
returns-in-empty c = one_of_nothing probe_names c.args.text.now c.in-empty.len_below refl

pub returns-in-len1-up : goal.returns-in-len1-up
returns-in-len1-up c =
    c.is_one_of.ensures ∙ ap (λ ts. one_of ts c.args.text.now) c.probe_names_from.ensures
    ∙ one_by_byte probe_names c.args.text.now c.in-len1-up.len_at_least
