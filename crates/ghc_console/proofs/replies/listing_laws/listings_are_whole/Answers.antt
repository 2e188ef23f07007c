use Rattle.ghc_console.proofs.WholeListings.{are_whole}
use Rattle.ghc_console.proofs.replies.listing_laws.listings_are_whole.Goals as goal

pub returns : goal.returns
returns c = are_whole
