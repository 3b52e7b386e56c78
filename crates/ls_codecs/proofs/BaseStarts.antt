-- Whether listed sets are those of the base that they give.
use Rattle.ls_codecs.proofs.Vocabulary.{Bool, Items, List, None, Ok, Result, Some, ap, based, cond, false, is_base, is_same, kept_if, option_map, option_map_or, pointwise, pointwise_decides, result_ok, sym, true, ℕ, ◌∙◌, ◌≡◌}
use Rattle.ls_set.proofs.Sets.{Decides-is_same}
use Rattle.ls_theory.specs.Starts as theory
use Rattle.ls_theory.specs.declared.base_fault.BaseFault.{BaseFault}

-- the start by the sets, where the test holds of them
pub kept : (n : ℕ) (sets : List Items) (b : Bool) → is_base n sets ≡ b → option_map theory.Sets (kept_if (is_base n) (Some sets)) ≡ cond b (Some (theory.Sets sets)) None
kept n sets true e = ap (λ b. option_map theory.Sets (cond b (Some sets) None)) e
kept n sets false e = ap (λ b. option_map theory.Sets (cond b (Some sets) None)) e

-- the base that was found is compared with the sets
compared : (n : ℕ) (sets found : List Items) → based n sets ≡ Ok found → is_base n sets ≡ pointwise is_same found sets
compared n sets found e = ap (λ (r : Result (List Items) BaseFault). option_map_or (λ fs. pointwise is_same fs sets) (result_ok r) false) e

pub same-sets : (sets found : List Items) → pointwise is_same found sets ≡ true → found ≡ sets
same-sets sets found h = (pointwise_decides Decides-is_same found sets).0 h

pub same-start : (n : ℕ) (sets found : List Items) → based n sets ≡ Ok found → pointwise is_same found sets ≡ true → option_map theory.Sets (kept_if (is_base n) (Some sets)) ≡ Some (theory.Sets found)
same-start n sets found e h = kept n sets true (compared n sets found e ∙ h) ∙ ap (λ s. Some (theory.Sets s)) (sym (same-sets sets found h))
