use Rattle.std.proofs.Common.{[]}
use Rattle.mc_report.proofs.json_form.obligations.name_text.Goals as goal

pub text_of-requires : goal.text_of-requires
text_of-requires c = rw c.name_of.ensures (c.requires.text c.args.test [] c.requires.there)
