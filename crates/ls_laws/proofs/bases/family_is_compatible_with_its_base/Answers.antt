use Rattle.ls_laws.proofs.BaseStarts.{compat-sets, compat-base, compat-base_after}
use Rattle.ls_laws.proofs.bases.family_is_compatible_with_its_base.Goals as goal

pub returns : goal.returns
returns c = record { spanned = compat-sets; family = compat-base; after_yeses = compat-base_after }
