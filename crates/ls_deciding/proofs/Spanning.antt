-- The surmise function of the base of a space.
use Rattle.ls_deciding.proofs.Vocabulary.{◌∙◌, ◌≡◌, Err, Items, List, base, full, is_space, subst, sym, true, ℕ}
use Rattle.std.proofs.Common.{None, Ok, refl}
use Rattle.ls_theory.specs.{clauses_at}
use Rattle.ls_theory.specs.Bases.{first_missing}
use Rattle.ls_base.specs.Bases.{BaseState, family}
use Rattle.ls_base.proofs.Spanned.{base-on}
use Rattle.ls_clauses.proofs.Covers.{cover-least}
use Rattle.ls_skill.proofs.Skilled.{any-space, any-spanned}
use Rattle.ls_surmise.specs.Surmises.{surmised}
use Rattle.ls_surmise.specs.declared.fault.FromFault.TheVariants.{NotSpanning}

module _ (b : BaseState) (e : base (family b) ≡ b.sets) (space : is_space (full b.item_count) (family b) ≡ true) where
  abbrev clauses : List (List Items)
  clauses = clauses_at b.item_count (family b)

  -- each item is in some set
  spans : first_missing b.item_count b.sets ≡ None
  spans =
      let n = b.item_count in
      let on = base-on n b.sets e in
      (cover-least n b.sets on).0 ((any-space n b.sets on).0 (subst (λ f. is_space (full n) f ≡ true) (sym (any-spanned n b.sets on)) space))

  surmised-is : surmised b ≡ Ok clauses
  surmised-is = rw spans refl

  pub never-missing : (q : ℕ) → surmised b ≡ Err (NotSpanning q) → ⊥
  never-missing q is = let same : Err (NotSpanning q) ≡ Ok clauses = sym is ∙ surmised-is in cc same
