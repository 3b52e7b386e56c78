-- The base of sets that have each item has each item, and an item that no set has is one of the items.
use Rattle.ls_clauses.proofs.Vocabulary.{◌∙◌, ◌≡◌, Err, IsCover, AreOn, Items, List, None, Ok, Sets, Some, ℕ, [], among-base, atom_within, base, base-member, based, compat, compat-IsUnionFamily, compat-sets, cond, false, first_missing, full, has, has-full, has-unions, is_among, length, limited, lt-ltb, ltb, most_base_sets, option_map_or, refl, some-among, subst, sym, true, unions}
use Rattle.ls_theory.specs.declared.base_fault.BaseFault.TheVariants.{NotSpanning, Past}
use Rattle.ls_clauses.proofs.Covers.{cover-member, cover-least}

base-cover : (n : ℕ) (sets : List Items) → IsCover n sets → IsCover n (base (compat n (Sets sets) []))
base-cover n sets cover =
    let f = compat n (Sets sets) [] in
    let whole : is_among f (full n) ≡ true = subst (λ g. is_among g (full n) ≡ true) (sym (compat-sets n sets)) (cover-member n sets cover) in
    record {
      small = λ k m. (compat-IsUnionFamily n (Sets sets) []).small k (base-member f k m);
      each_item = λ q l.
          let a = atom_within f (full n) q whole (has-full n q ∙ lt-ltb q n l) in
          has-unions (base f) q ∙ some-among (λ s. has s q) (base f) a.0 (among-base f q a.0 a.1) a.1.has_q;
    }

limited-ok : (sets made : List Items) → limited sets ≡ Ok made → sets ≡ made
limited-ok sets made =
    elim (ltb most_base_sets (length sets)) as (λ b. cond b (Err (Past (length sets))) (Ok sets) ≡ Ok made → sets ≡ made) [ true ↦ λ e. absurd (cc e) | false ↦ λ e. cc e ]

module _ (n : ℕ) (sets : List Items) where
  -- a base that was found has each item
  pub based-cover : (made : List Items) → AreOn n sets → based n sets ≡ Ok made → IsCover n made
  based-cover made small e =
      elim (first_missing n sets) as (λ o. first_missing n sets ≡ o → option_map_or (λ q. Err (NotSpanning q)) o (limited (base (compat n (Sets sets) []))) ≡ Ok made → IsCover n made) [
        | None ↦ λ none at. subst (IsCover n) (limited-ok (base (compat n (Sets sets) [])) made at) (base-cover n sets ((cover-least n sets small).1 none))
        | Some q ↦ λ some at. absurd (cc at)
      ] refl e
