use Rattle.std.proofs.Common.{◌∙◌, ap, sym, option_map}
use Rattle.types_scopes.specs.Views.{meaning_of}
use Rattle.types_scopes.proofs.Mapped.{named}
use Rattle.types_scopes.proofs.scope.Scope.meaning.Goals as goal

pub returns : goal.returns
returns c = ap (option_map meaning_of) c.get.ensures ∙ sym (named c.args.name.now.text.now c.args.self.now.names)
