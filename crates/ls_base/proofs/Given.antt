-- The sets that are given for a base: whether they have each item, and the base of what they span.
use Rattle.ls_base.proofs.Vocabulary.{◌∙◌, ◌≡◌, ◌≤◌, Bool, Err, IsBaseFault, AreOn, IsPastOf, Items, List, None, Ok, Option, Some, ℕ, ap, ap₂, base, base_fault, based, every-from, filter, filter-all, first_missing, full, interior, is_among, is_within, is_within-from, le-ltb, least, length, limited, list_all-All, lt-ltb, minus, most_base_sets, refl, spanned, subst, sym, true, unions}
use Rattle.ls_laws.proofs.BaseStarts.{compat-sets}
use Rattle.ls_base.specs.declared.fault.PastFault.{PastFault}
use Rattle.ls_base.specs.declared.fault.PastFault.TheVariants as Limit
use Rattle.ls_theory.specs.declared.base_fault.BaseFault.TheVariants.{NotSpanning, Past}

filter-each : (p : Items → Bool) (f : List Items) → ((k : Items) → is_among f k ≡ true → p k ≡ true) → filter p f ≡ f
filter-each p f h = filter-all p f (list_all-All p f (every-from p f h))

-- all of the sets lie within the items
interior-full : (n : ℕ) (sets : List Items) → AreOn n sets → interior sets (full n) ≡ unions sets
unfolding interior
interior-full n sets small = ap unions (filter-each (λ k. is_within k (full n)) sets (λ k c. is_within-from k (full n) (small k c)))

-- the least item that is left by what the sets cover
pub first_missing-is : (n : ℕ) (sets : List Items) (all covered left : Items) (found : Option ℕ) → AreOn n sets → all ≡ full n → covered ≡ interior sets all → left ≡ minus all covered → found ≡ least left → found ≡ first_missing n sets
first_missing-is n sets all covered left found small a b c d = d ∙ ap least (c ∙ ap₂ minus a (b ∙ ap (interior sets) a ∙ interior-full n sets small))

pub based-missing : (n : ℕ) (sets : List Items) (q : ℕ) → first_missing n sets ≡ Some q → based n sets ≡ Err (NotSpanning q)
based-missing n sets q e = rw e refl

based-spanning : (n : ℕ) (sets : List Items) → first_missing n sets ≡ None → based n sets ≡ limited (base (spanned n sets))
based-spanning n sets e = rw e (ap (λ f. limited (base f)) (compat-sets n sets))

-- the base that was made of a copy of the sets
pub base-given : (n : ℕ) (sets given made : List Items) → given ≡ sets → AreOn n sets → ((m : ℕ) → AreOn m given → base (spanned m given) ≡ made) → base (spanned n sets) ≡ made
base-given n sets given made e small is = ap (λ g. base (spanned n g)) (sym e) ∙ is n (subst (λ (g : List Items). AreOn n g) (sym e) small)

pub based-base : (n : ℕ) (sets made : List Items) → first_missing n sets ≡ None → base (spanned n sets) ≡ made → length made ≤ most_base_sets → based n sets ≡ Ok made
based-base n sets made e is few = based-spanning n sets e ∙ ap limited is ∙ rw (le-ltb most_base_sets (length made) few) refl

-- a fault of the base is one of the sets
pub IsBaseFault-past : (n : ℕ) (sets made : List Items) (fault : PastFault) → first_missing n sets ≡ None → base (spanned n sets) ≡ made → IsPastOf made fault → IsBaseFault (based n sets) (base_fault fault)
IsBaseFault-past n sets made (Limit.Past count) e is past =
    based-spanning n sets e ∙ ap limited is ∙ rw (lt-ltb most_base_sets (length made) past.0) (ap (λ c. Err (Past c)) (sym past.1))
IsBaseFault-past n sets made (Limit.Memory fault) e is past = tt
