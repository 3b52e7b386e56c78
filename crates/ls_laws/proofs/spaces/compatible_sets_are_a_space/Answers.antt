use Rattle.ls_laws.proofs.Vocabulary.{Free, compat, compatible_sets, full, refl}
use Rattle.ls_laws.proofs.Interiors.{closed-to, space-to}
use Rattle.ls_laws.proofs.Breaks.{good-from}
use Rattle.ls_laws.proofs.Compat.{compat-IsUnionFamily, compat-in_order, compat-space, start-space, left-space}
use Rattle.ls_laws.proofs.Answering.{compatible_fit, compat_family}
use Rattle.ls_laws.proofs.spaces.compatible_sets_are_a_space.Goals as goal

pub returns : goal.returns
returns c = record {
  in_order = compat-in_order;
  is_on = λ n start yeses. (compat-IsUnionFamily n start yeses).small;
  closed = λ n start yeses. closed-to (compat n start yeses) (compat-IsUnionFamily n start yeses).holds_unions;
  free = λ n yeses good. compat-space n Free yeses refl good;
  start = start-space;
  left = λ n f r good. left-space n f r (good-from n r good);
  fitting = λ i some.
      let family = compat_family i in
      space-to (full i.count) (compatible_sets i) family.holds_empty (compatible_fit i some).holds_full family.holds_unions;
}
