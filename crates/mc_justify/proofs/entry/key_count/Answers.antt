use Rattle.std.proofs.Common.{◌∙◌, sym}
use Rattle.serde_json.specs.View.{view}
use Rattle.serde_json.proofs.Views.{members_len-members_view}
use Rattle.mc_justify.proofs.Values.{counted}
use Rattle.mc_justify.proofs.entry.key_count.Goals as goal

pub returns-in-Some : goal.returns-in-Some
returns-in-Some c =
    c.len.ensures.len ∙ sym (members_len-members_view _) ∙ counted (view c.args.value.now) _ c.in-Some.ensures
