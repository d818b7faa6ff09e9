use Rattle.std.proofs.Common.{sym, ◌∙◌}
use Rattle.assembler.proofs.listing_laws.one_listing.Goals as goal

pub returns : goal.returns
returns c text other d h k = h.listed ∙ sym k.listed
