use Rattle.std.proofs.Common.{sym, ◌∙◌}
use Rattle.std.specs.Prelude.{slice_get}
use Rattle.mc_interp.proofs.Rows.{signed_cell, unsigned_cell}
use Rattle.mc_interp.proofs.store.Store.word_at.Goals as goal

pub get_signed-requires-clause-signed : goal.get_signed-requires-clause-signed
get_signed-requires-clause-signed c =
    signed_cell c.args.of (slice_get c.args.self.now.cells.cells c.args.at) (sym c.is_signed.ensures ∙ c.if-is_signed.true) c.requires.typed

pub get_unsigned-requires-clause-unsigned : goal.get_unsigned-requires-clause-unsigned
get_unsigned-requires-clause-unsigned c =
    unsigned_cell c.args.of (slice_get c.args.self.now.cells.cells c.args.at) (sym c.is_signed.ensures ∙ c.if-is_signed.false) c.requires.typed
