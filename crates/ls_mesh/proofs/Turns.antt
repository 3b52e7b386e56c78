-- Interiors in two families, in turn: they go down to the interior in both.
use Rattle.std.proofs.Common.{ℕ, ◌<◌, ◌≡◌, ◌≢◌, inl, inr, Bool, true, false, cond, not, eqb, eq-eqb}
use Rattle.std.proofs.Common.{eqb-true, List, Option, Some, None, IfSome, refl, sym, ap, ◌∙◌}
use Rattle.std.proofs.Common.{true≢false}
use Rattle.std.proofs.lemmas.Bool.{cases_Bool, false_from_ne_true}
use Rattle.ls_set.specs.ItemSet.{Items, has, empty, len, is_within, IsWithin}
use Rattle.ls_set.proofs.Sets.{has-empty, same_within, IsWithin-from, is_within-from}
use Rattle.ls_theory.specs.Families.{interior}
use Rattle.ls_laws.specs.Families.{IsFamily}
use Rattle.ls_laws.proofs.Interiors.{interior-within}
use Rattle.ls_interior.specs.Keeping.{interior_keeping}
use Rattle.ls_mesh.specs.Sides.{both}
use Rattle.ls_mesh.proofs.Meshed.{fewer}
use Rattle.ls_mesh.proofs.Common.{both-left, both-right, both-fixed}
use Rattle.ls_mesh.specs.Turning.{turn, turn_keeping}

module _ (n : ℕ) (f g : List Items) (a : IsFamily n f) (b : IsFamily n g) where
  pub turn-within : (s : Items) → IsWithin (turn f g s) s
  turn-within s i h = interior-within f s i (interior-within g (interior f s) i h)

  pub turn-same : (s : Items) → interior (both f g) (turn f g s) ≡ interior (both f g) s
  turn-same s = both-right n f g (interior f s) a b ∙ both-left n f g s a b

  -- where a turn changes nothing, neither half does
  pub turn-fixed : (s : Items) → turn f g s ≡ s → interior (both f g) s ≡ s
  turn-fixed s e =
      let first : interior f s ≡ s =
      same_within (interior f s) s (interior-within f s)
      (λ i h. interior-within g (interior f s) i (ap (λ t. has t i) e ∙ h)) in
      both-fixed n f g s a b first (ap (interior g) (sym first) ∙ e)

  pub turn-fewer : (s : Items) → turn f g s ≢ s → len (turn f g s) < len s
  turn-fewer s other = fewer (turn f g s) s (turn-within s) other

  -- an item of keep that falls in a turn is not in the interior
  pub turn-none : (s keep : Items) → turn_keeping f g s keep ≡ None
      → interior_keeping (both f g) s keep ≡ None
  turn-none s keep e =
      let lost : is_within keep (turn f g s) ≡ false =
      none-within (is_within keep (turn f g s)) (turn f g s) e in
      rw (false_from_ne_true (is_within keep (interior (both f g) s)) (λ h.
      true≢false
      (sym
      (is_within-from keep (turn f g s)
      (λ i k. below s i (IsWithin-from keep (interior (both f g) s) h i k))) ∙ lost))) refl
    where
      none-within : (c : Bool) (t : Items) → cond {A = Option Items} c (Some t) None ≡ None → c
          ≡ false
      none-within true t e = absurd (cc e)
      none-within false t e = refl

      below : (s : Items) → IsWithin (interior (both f g) s) (turn f g s)
      below s i h = interior-within (both f g) (turn f g s) i (ap (λ t. has t i) (turn-same s) ∙ h)

  pub turn-some : (s keep t : Items) → turn_keeping f g s keep ≡ Some t → (t ≡ turn f g s)
      × (is_within keep t ≡ true)
  turn-some s keep t e = some-within (is_within keep (turn f g s)) refl e
    where
      some-within : (c : Bool) → is_within keep (turn f g s) ≡ c
          → cond {A = Option Items} c (Some (turn f g s)) None ≡ Some t → (t ≡ turn f g s)
          × (is_within keep t ≡ true)
      some-within true h e = let same : turn f g s ≡ t =
          cc in (sym same, ap (is_within keep) (sym same) ∙ h)
      some-within false h e = absurd (cc e)

  -- the set is its own interior, and has all items of keep
  pub kept-end : (s set keep : Items) → interior (both f g) set ≡ interior (both f g) s
      → turn f g set ≡ set → is_within keep set ≡ true → Some set
      ≡ interior_keeping (both f g) s keep
  kept-end s set keep same e h =
      let own : interior (both f g) s ≡ set = sym same ∙ turn-fixed set e in
      sym (rw own (rw h refl))

-- an item of keep that falls in the first half
pub lost-first : (f g : List Items) (s keep : Items) → is_within keep (interior f s) ≡ false
    → turn_keeping f g s keep ≡ None
lost-first f g s keep lost =
    rw (false_from_ne_true (is_within keep (turn f g s)) (λ h.
    true≢false
    (sym
    (is_within-from keep (interior f s)
    (λ i k. interior-within g (interior f s) i (IsWithin-from keep (turn f g s) h i k))) ∙
    lost))) refl

-- nothing is kept by force
pub never-none : (f : List Items) (s keep : Items) (r : Option Items) → keep ≡ empty
    → r ≡ interior_keeping f s keep → r ≡ None → ⊥
never-none f s keep r e told none =
    let all : is_within keep (interior f s) ≡ true =
    is_within-from keep (interior f s)
    (λ i h. absurd (true≢false (sym h ∙ ap (λ t. has t i) e ∙ has-empty i))) in
    cc (sym (ap (λ b. cond b (Some (interior f s)) None) all) ∙ sym told ∙ none)

-- what is kept is the interior
pub kept-inside : (f : List Items) (s keep k : Items) (r : Option Items)
    → r ≡ interior_keeping f s keep → r ≡ Some k → k ≡ interior f s
kept-inside f s keep k r told some =
    elim (is_within keep (interior f s)) as
    (λ b. cond b (Some (interior f s)) None ≡ Some k → k ≡ interior f s) [
      | true ↦ λ e. let same : interior f s ≡ k = cc in sym same
      | false ↦ λ e. absurd (cc e)
    ] (sym told ∙ some)

pub in-some : {P : Items → Type 0} (o : Option Items) → ((k : Items) → o ≡ Some k → P k)
    → IfSome o P
in-some None h = tt
in-some (Some k) h = h k refl

keeping-same : (f : List Items) (set s keep : Items) → interior f set ≡ interior f s
    → interior_keeping f set keep ≡ interior_keeping f s keep
keeping-same f set s keep e = ap (λ t. cond (is_within keep t) (Some t) None) e

pub other-sets : (s t : Items) → not (eqb s.digits t.digits) ≡ true → s ≢ t
other-sets s t h e = true≢false (sym h ∙ ap not (eq-eqb s.digits t.digits (ap (λ u. u.digits) e)))

pub same-sets : (s t : Items) → not (eqb s.digits t.digits) ≡ false → s ≡ t
same-sets s t h =
    ap (λ d. record { digits = d })
    (eqb-true
    s.digits
    t.digits
    (elim (cases_Bool (eqb s.digits t.digits))
    [ inl a ↦ a | inr a ↦ absurd (true≢false (sym (ap not a) ∙ h)) ]))

module _ (n : ℕ) (f g : List Items) (a : IsFamily n f) (b : IsFamily n g) where
  -- a turn in which an item of keep falls
  pub lost : (s set keep : Items) (r : Option Items) → interior (both f g) set
      ≡ interior (both f g) s → r ≡ turn_keeping f g set keep → r ≡ None → None
      ≡ interior_keeping (both f g) s keep
  lost s set keep r same told none =
      sym
      (sym (keeping-same (both f g) set s keep same) ∙ turn-none n f g a b set keep
      (sym told ∙ none))

  -- and one in which none does
  pub kept : (set keep : Items) (r : Option Items) (t : Items) → r ≡ turn_keeping f g set keep → r
      ≡ Some t → (t ≡ turn f g set) × (is_within keep t ≡ true)
  kept set keep r t told some = turn-some n f g a b set keep t (sym told ∙ some)
