-- Lists of one element, each of which passes.
use Rattle.ls_weight.proofs.Vocabulary.{◌≡◌, Bool, ℕ, and_from, list_all, refl, replicate, suc, true, zero}

pub list_all-replicate : {X : Type 0} (p : X → Bool) (n : ℕ) (x : X) → p x ≡ true → list_all p (replicate n x) ≡ true
list_all-replicate p zero x e = refl
list_all-replicate p (suc n) x e = and_from (p x) (list_all p (replicate n x)) e (list_all-replicate p n x e)
