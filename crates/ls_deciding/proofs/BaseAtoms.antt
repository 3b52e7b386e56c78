-- The atoms among the sets of a base are those of its family.
use Rattle.ls_deciding.proofs.Vocabulary.{[], ◌∙◌, ◌∷◌, ◌≡◌, Items, List, ap, base, sym, ℕ}
use Rattle.std.proofs.Common.{refl}
use Rattle.std.specs.Prelude.{map}
use Rattle.ls_set.specs.{numbers_from, set_of}
use Rattle.ls_theory.specs.{atom_items, atom_sets, atoms_at, clauses_at}
use Rattle.ls_laws.proofs.Atoms.{base-member, base-spans}
use Rattle.ls_laws.proofs.Spans.{spanned-in_order}
use Rattle.ls_clauses.proofs.SpanningLists.{atom_items-spanning}
use Rattle.ls_base.specs.Bases.{BaseState, family}
use Rattle.ls_base.proofs.Spanned.{atoms_at-base}

map-same : {X Y : Type 0} (f g : X → Y) (xs : List X) → ((x : X) → f x ≡ g x) → map f xs ≡ map g xs
map-same f g [] h = refl
map-same f g (x ∷ xs) h = ap (λ y. y ∷ map f xs) (h x) ∙ ap (λ ys. g x ∷ ys) (map-same f g xs h)

module _ (b : BaseState) (is : base (family b) ≡ b.sets) where
  pub base-clauses : (n : ℕ) → clauses_at n b.sets ≡ clauses_at n (family b)
  base-clauses n =
      ap (clauses_at n) (sym is)
      ∙ map-same (atoms_at (base (family b))) (atoms_at (family b)) (numbers_from 0 n)
      (λ q. atoms_at-base (family b) q (spanned-in_order b.item_count b.sets))

  pub base-atoms : atom_sets (family b) ≡ map (λ k. set_of (atom_items b.sets k)) b.sets
  base-atoms =
      let f = family b in
      map-same (λ k. set_of (atom_items f k)) (λ k. set_of (atom_items (base f) k)) (base f)
      (λ k. ap set_of (sym (atom_items-spanning f (base f) (base-member f) (base-spans f) k)))
      ∙ ap (λ (ks : List Items). map (λ k. set_of (atom_items ks k)) ks) is
