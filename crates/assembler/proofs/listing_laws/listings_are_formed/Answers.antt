use Rattle.assembler.proofs.ListingLaws.{listings_formed}
use Rattle.assembler.proofs.listing_laws.listings_are_formed.Goals as goal

pub returns : goal.returns
returns c = listings_formed
