use Rattle.std.proofs.Common.{◌∙◌, ap, sym, option_map}
use Rattle.types_scopes.specs.Views.{tag_of}
use Rattle.types_scopes.proofs.Mapped.{tagged_from}
use Rattle.types_scopes.proofs.scope.Scope.tag_here.Goals as goal

pub returns : goal.returns
returns c = ap (option_map tag_of) c.get_from.ensures ∙ sym (tagged_from c.args.self.now.tags_from c.args.tag.now.text.now c.args.self.now.tags)
