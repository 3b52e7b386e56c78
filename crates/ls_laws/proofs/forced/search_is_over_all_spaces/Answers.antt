use Rattle.ls_laws.proofs.Answering.{forced_yes_search, forced_no_search, FitsIn-from, FitsIn-to, compatible_fit}
use Rattle.ls_laws.proofs.Vocabulary.{compatible_sets}
use Rattle.ls_laws.proofs.forced.search_is_over_all_spaces.Goals as goal

pub returns : goal.returns
returns c = record {
  with_yes = λ i r. let s = forced_yes_search i r in (λ h f a. s.0 h f (FitsIn-from i f a), λ h. s.1 (λ f a. h f (FitsIn-to i f a)));
  with_no = λ i r. let s = forced_no_search i r in (λ h f a. s.0 h f (FitsIn-from i f a), λ h. s.1 (λ f a. h f (FitsIn-to i f a)));
  compatible = λ i some. FitsIn-to i (compatible_sets i) (compatible_fit i some);
}
