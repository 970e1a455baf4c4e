use Rattle.std.proofs.Common.{refl}
use Rattle.mc_needs.proofs.Reading.{if_ok}
use Rattle.mc_needs.proofs.listing.Listing.add_both.Goals as goal

pub returns : goal.returns
returns c = if_ok c.add-2.result (λ x own. (c.add.new.self, c.in_ok-add.ensures, (c.add-2.new.self, own, refl))) c.add-2.ensures
