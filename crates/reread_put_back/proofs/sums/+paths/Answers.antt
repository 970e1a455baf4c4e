use Rattle.std.proofs.Common.{◌∙◌, sym}
use Rattle.reread_put_back.proofs.Operands.{full_found, logic_found}
use Rattle.reread_put_back.proofs.sums.+paths.Goals as goal

pub returns-in-Some : goal.returns-in-Some
returns-in-Some t c =
    full_found c.args.register c.args.tree.now _ _ c.in-Binary.operator c.in-Some.operator c.in-Binary.of c.in-Binary.left c.in-Binary.right c.in-Binary.span _ _ _ c.in-Binary.is c.deref-in-Some.ensures c.deref-in-Some-2.ensures (sym c.bitwise.ensures ∙ c.in-Some.is) c.paths-in-Some.ensures c.paths-in-Some-2.ensures c.both.ensures

pub returns-in-Logic : goal.returns-in-Logic
returns-in-Logic t c =
    logic_found c.args.register c.args.tree.now _ _ c.in-Logic.operator c.in-Logic.left c.in-Logic.right c.in-Logic.span _ _ _ c.in-Logic.is c.deref-in-Logic.ensures c.deref-in-Logic-2.ensures c.paths-in-Logic.ensures c.paths-in-Logic-2.ensures c.joined.ensures
