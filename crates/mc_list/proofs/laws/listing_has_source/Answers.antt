use Rattle.mc_list.proofs.Stripping.{source_back}
use Rattle.mc_list.proofs.laws.listing_has_source.Goals as goal

pub returns : goal.returns
returns c = λ source os vs short. source_back os vs source short
