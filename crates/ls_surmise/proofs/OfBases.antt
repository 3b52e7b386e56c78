-- The surmise function of a base.
use Rattle.ls_surmise.proofs.Vocabulary.{◌∙◌, ◌≡◌, BaseState, Err, IfOk, IsSurmiseOf, Items, List, None, NotSpanning, Ok, Option, Result, Some, ℕ, all_clauses, ap, base, base-clauses, clauses_at, family, first_missing, full, interior, is_among, least, minus, refl, surmised, sym}
use Rattle.std.specs.declared.alloc.AllocError.{AllocError}
use Rattle.ls_laws.proofs.Families.{spanned-IsFamily}
use Rattle.ls_base.proofs.Spanned.{base-on, interior-spanned}
use Rattle.ls_base.proofs.Given.{first_missing-is}
use Rattle.ls_clauses.proofs.Covers.{cover-least, cover-member}
use Rattle.ls_clauses.proofs.FamilyClauses.{family-surmise, family-met}

-- the least item that the interior of the full set leaves is the least in no set of the base
pub missing-is : (b : BaseState) (n : ℕ) (all inside left : Items) (found : Option ℕ) → base (family b) ≡ b.sets → n ≡ b.item_count → all ≡ full n → inside ≡ interior (family b) all → left ≡ minus all inside → found ≡ least left → found ≡ first_missing b.item_count b.sets
missing-is b n all inside left found e m a i l f =
    let small = base-on b.item_count b.sets e in
    first_missing-is b.item_count b.sets all inside left found small (a ∙ ap full m) (i ∙ sym (interior-spanned b.item_count b.sets all small)) l f

-- where there is none, the atoms are a surmise function with the family of the base
pub atoms-surmise : (b : BaseState) → base (family b) ≡ b.sets → first_missing b.item_count b.sets ≡ None → IsSurmiseOf b (clauses_at b.item_count (family b))
atoms-surmise b e none =
    let n = b.item_count in
    let is_family = spanned-IsFamily n b.sets in
    record {
      surmise = family-surmise n (family b) is_family (cover-member n b.sets ((cover-least n b.sets (base-on n b.sets e)).1 none));
      same = family-met n (family b) is_family;
      is_base = e;
    }

pub surmised-missing : (b : BaseState) (q : ℕ) → first_missing b.item_count b.sets ≡ Some q → surmised b ≡ Err (NotSpanning q)
surmised-missing b q e = rw e refl

pub surmised-none : (b : BaseState) → first_missing b.item_count b.sets ≡ None → surmised b ≡ Ok (clauses_at b.item_count (family b))
surmised-none b e = rw e refl

-- the base has each clause
base-has : (b : BaseState) (clauses : List (List Items)) → IsSurmiseOf b clauses → (k : Items) → is_among b.sets k ≡ is_among (all_clauses clauses) k
base-has b clauses is k = ap (λ g. is_among g k) (sym is.is_base ∙ ap base (sym is.same)) ∙ base-clauses b.item_count clauses is.surmise k

pub copy-has : (b : BaseState) (clauses : List (List Items)) (copied : Result BaseState AllocError) → IsSurmiseOf b clauses → IfOk copied (λ x. x ≡ b) → IfOk copied (λ x. (k : Items) → is_among x.sets k ≡ is_among (all_clauses clauses) k)
copy-has b clauses (Ok x) is e = λ k. ap (λ (x : BaseState). is_among x.sets k) e ∙ base-has b clauses is k
copy-has b clauses (Err fault) is e = tt
