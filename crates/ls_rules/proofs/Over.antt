-- Where nothing is kept any more: no rule is broken, and no more items fall out.
use Rattle.ls_rules.proofs.Vocabulary.{◌&&◌, ◌∙◌, ◌∷◌, ◌≡◌, Decides-is_same, Items, List, Query, Round, Settles, Settling, [], and-false, and_from, ap, breaks, breaks_none, empty, false, fold, has, has-empty, is_same, look, meet, not, not_from_false, refl, sym, true}
use Rattle.ls_rules.proofs.Rounds.{look-unbroken}

unbroken-over : (k : Items) (r : Query) → is_same k empty ≡ true → breaks k r ≡ false
unbroken-over k r h =
    let none = (Decides-is_same k empty).0 h in
    ap (λ b. is_same (meet k r.a) empty && b) (ap (λ s. has s r.q) none ∙ has-empty r.q) ∙ and-false (is_same (meet k r.a) empty)

-- the round is as if the rules had been looked at
pub looks-over : (s : Round) (rs : List Query) → is_same s.kept empty ≡ true → fold look s rs ≡ s
looks-over s [] h = refl
looks-over s (r ∷ rs) h =
    let same : s ≡ look s r = look-unbroken s s r (unbroken-over s.kept r h) refl in
    ap (λ t. fold look t rs) (sym same) ∙ looks-over s rs h

breaks_none-over : (k : Items) (rules : List Query) → is_same k empty ≡ true → breaks_none rules k ≡ true
breaks_none-over k [] h = refl
breaks_none-over k (r ∷ rules) h = and_from (not (breaks k r)) (breaks_none rules k) (not_from_false (breaks k r) (unbroken-over k r h)) (breaks_none-over k rules h)

-- the empty set is settled
pub Settling-over : (rules : List Query) (from : Items) (s : Round) → is_same s.kept empty ≡ true → Settling rules from s → Settles rules from s.kept
Settling-over rules from s h a = record { within = a.within; unbroken = breaks_none-over s.kept rules h; greatest = a.greatest }
