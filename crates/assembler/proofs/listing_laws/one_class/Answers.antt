use Rattle.assembler.proofs.ListingLaws.{one_class}
use Rattle.assembler.proofs.listing_laws.one_class.Goals as goal

pub returns : goal.returns
returns c = one_class
