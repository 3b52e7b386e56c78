use Rattle.ls_enum.proofs.Vocabulary.{◌∙◌, sym}
use Rattle.ls_enum.proofs.Joined.{page-more, page-whole, page-fits}
use Rattle.ls_enum.proofs.listing.list_all.Goals as goal

pub returns-then-listing-clause-more : goal.returns-then-listing-clause-more
returns-then-listing-clause-more g c = λ _. page-more (g.I.Interior.members c.args.f.now) c.args.max (sym c.in_ok-listing.ensures.more ∙ c.if-listing.true)

pub returns-clause-members : goal.returns-clause-members
returns-clause-members g c = c.in_ok-listing.ensures.sets ∙ page-whole (g.I.Interior.members c.args.f.now) c.args.max (sym c.in_ok-listing.ensures.more ∙ c.if-listing.false)

pub returns-clause-fits : goal.returns-clause-fits
returns-clause-fits g c = page-fits (g.I.Interior.members c.args.f.now) c.args.max (sym c.in_ok-listing.ensures.more ∙ c.if-listing.false)
