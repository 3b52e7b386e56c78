use Rattle.ls_set.proofs.Sets.{without-within}
use Rattle.ls_laws.proofs.Interiors.{interior-within}
use Rattle.ls_interior.proofs.family.Inside.inside_without.Goals as goal

pub inside-inside-requires : goal.inside-inside-requires
inside-inside-requires g c = rw (c.without.ensures) (λ i h. c.requires.within i (without-within _ _ i h))

pub returns-then-is_within-clause-part : goal.returns-then-is_within-clause-part
returns-then-is_within-clause-part g c = rw (c.inside-inside.ensures, c.without.ensures) (λ i h. without-within _ _ i (interior-within _ _ i h))
