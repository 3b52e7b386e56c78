-- The states that are left to a sound interview.
use Rattle.std.proofs.Common.{◌≡◌, true}
use Rattle.ls_set.specs.{full}
use Rattle.ls_theory.specs.{Interview, compatible_sets, is_space}
use Rattle.ls_laws.specs.Forced.{IsSound}
use Rattle.ls_laws.proofs.Interiors.{space-to}
use Rattle.ls_laws.proofs.Answering.{compat_family, compatible_fit}

-- the states are a space
pub compatible-space : (i : Interview) → IsSound i → is_space (full i.count) (compatible_sets i) ≡ true
compatible-space i sound =
    let family = compat_family i in
    space-to (full i.count) (compatible_sets i) family.holds_empty (compatible_fit i sound.some_fits).holds_full family.holds_unions
