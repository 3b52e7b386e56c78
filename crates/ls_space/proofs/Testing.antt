-- The verdict on a family, by what the test finds.
use Rattle.ls_space.proofs.Vocabulary.{◌∙◌, ◌≡◌, IsInOrder, Items, List, NoEmpty, NoFull, None, NotClosed, Some, ap, base-below, base-in_order, empty, false, find, first_partner, graded_by, is_among, is_missing, list_any, needed, refl, subst, sym, true, verdict, verdict-by-unions, with_base}
use Rattle.ls_space.proofs.Judging.{needed-base}

pub no_empty : (whole : Items) (f : List Items) → is_among f empty ≡ false → verdict whole f ≡ NoEmpty
unfolding verdict
no_empty whole f h = rw h refl

pub no_full : (whole : Items) (f : List Items) → is_among f empty ≡ true → is_among f whole ≡ false → verdict whole f ≡ NoFull
unfolding verdict
no_full whole f h g = rw (h, g) refl

pub not_closed : (whole : Items) (f : List Items) (k : Items) → IsInOrder f → is_among f empty ≡ true → is_among f whole ≡ true → find (λ k. list_any (is_missing f k) (needed f)) f ≡ Some k → verdict whole f ≡ NotClosed k (first_partner f k)
not_closed whole f k order h g e = verdict-by-unions whole f order ∙ rw (h, g, e) refl

pub closed : (whole : Items) (f : List Items) → IsInOrder f → is_among f empty ≡ true → is_among f whole ≡ true → find (λ k. list_any (is_missing f k) (needed f)) f ≡ None → verdict whole f ≡ with_base (needed f) (graded_by (needed f) (needed f))
closed whole f order h g e = verdict-by-unions whole f order ∙ rw (h, g, e) refl

-- what is needed is in order, and all of it is needed
pub needed-order : (f : List Items) → IsInOrder f → IsInOrder (needed f)
needed-order f order = subst IsInOrder (base-below f order) (base-in_order f order)

pub needed-again : (f : List Items) → IsInOrder f → needed (needed f) ≡ needed f
needed-again f order = ap needed (sym (base-below f order)) ∙ needed-base f order ∙ base-below f order
