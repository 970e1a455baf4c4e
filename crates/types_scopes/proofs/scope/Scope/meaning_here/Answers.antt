use Rattle.std.proofs.Common.{◌∙◌, ap, sym, option_map}
use Rattle.types_scopes.specs.Views.{meaning_of}
use Rattle.types_scopes.proofs.Mapped.{named_from}
use Rattle.types_scopes.proofs.scope.Scope.meaning_here.Goals as goal

pub returns : goal.returns
returns c = ap (option_map meaning_of) c.get_from.ensures ∙ sym (named_from c.args.self.now.names_from c.args.name.now.text.now c.args.self.now.names)
