-- Whether a further set follows a page.
use Rattle.std.proofs.Common.{ℕ, suc, ◌-◌, ◌≤◌, ◌≡◌, ltb, lt-ltb, List, ◌∷◌, length, is_some, find}
use Rattle.std.proofs.Common.{Option, Some, None, refl, sym, ap, ◌∙◌, arith}
use Rattle.ls_set.specs.ItemSet.{Items, comes_before, IsInOrder}
use Rattle.ls_theory.specs.Pages.{comes_after}
use Rattle.ls_enum.specs.Listings.{left_after}
use Rattle.ls_enum.proofs.Left.{left-first, left-none}

-- whether a further set follows a page that is full, by a last call
pub found-more : (cursor : Option Items) (f : List Items) (r : Option Items) (count done : ℕ)
    → IsInOrder f → r ≡ find (comes_after comes_before cursor) f → count ≤ done → is_some r
    ≡ ltb (count - done) (length (left_after cursor f))
found-more cursor f r count done order e l =
    let zero_left : count - done ≡ 0 = omega arith in
    more-of r (sym e) ∙ ap (λ m. ltb m (length (left_after cursor f))) (sym zero_left)
  where
    more-of : (r : Option Items) → find (comes_after comes_before cursor) f ≡ r → is_some r
        ≡ ltb 0 (length (left_after cursor f))
    more-of None e = sym (ap (λ l. ltb 0 (length l)) (left-none cursor f e))
    more-of (Some k) e =
        let m : length (k ∷ left_after (Some k) f)
        ≡ suc (length (left_after (Some k) f)) = refl in sym
        (ap (λ l. ltb 0 (length l)) (left-first cursor f k order e) ∙ lt-ltb 0
        (length (k ∷ left_after (Some k) f)) (omega arith))
