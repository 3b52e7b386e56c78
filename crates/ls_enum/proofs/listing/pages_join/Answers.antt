use Rattle.ls_enum.proofs.Joined.{joined_pages-are, more-joined, joined_pages-whole}
use Rattle.ls_enum.proofs.listing.pages_join.Goals as goal

pub returns : goal.returns
returns c = record { joined = joined_pages-are; more = more-joined; whole = joined_pages-whole }
