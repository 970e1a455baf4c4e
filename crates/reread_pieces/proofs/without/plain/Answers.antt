use Rattle.std.proofs.Common.{◌∙◌}
use Rattle.reread_pieces.specs.steps.Views.{marks_of}
use Rattle.reread_pieces.proofs.Backwards.{plain_is}
use Rattle.reread_pieces.proofs.without.plain.Goals as goal

pub returns : goal.returns
returns c =
    plain_is c.in_ok-laid.laid.items c.deref.result.now c.in_ok-all.all.items c.reverse-2.new.self.items (marks_of c.args.pieces.now)
    c.in_ok-laid.ensures (c.deref.ensures.value ∙ c.reverse.ensures.items) c.in_ok-all.ensures c.reverse-2.ensures.items
