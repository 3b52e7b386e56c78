-- What a state tells of the items that are enough.
use Rattle.ls_infer.proofs.Vocabulary.{◌∙◌, ◌≡◌, IsNarrowed, IsUnionFamily, IsWithin, Items, List, Some, ℕ, and_from, ap, empty, enough_for, false_from_ne_true, full, has, has-meet, inl, inr, interior, interior-greatest, interior-is, interior_keeping, is_among, is_within, meet, minus, subst, sym, true, true_from_ne_false, true≢false, with}
use Rattle.ls_infer.proofs.Outside.{out-parts, out-from, with-cases}
use Rattle.ls_infer.proofs.Sharing.{IsFound, meet-left, is_within-one, some-chosen}
use Rattle.ls_infer.proofs.States.{enough-parts}

-- ---- which items are left

-- an item that is enough is in each state with q outside the closed set
enough-met : (n : ℕ) (f : List Items) (closed state : Items) (q i : ℕ) → is_among f state ≡ true → IsWithin state (minus (full n) closed) → has state q ≡ true → has (enough_for n f closed q) i ≡ true → has state i ≡ true
enough-met n f closed state q i member out holds e = true_from_ne_false (has state i) (λ lacks.
    let rest : IsWithin state (minus (full n) (with closed i)) = λ j a.
    let o = out-parts (full n) closed j (out j a) in
    out-from (full n) (with closed i) j o.0 (false_from_ne_true (has (with closed i) j) (λ x. elim (with-cases closed i j x) [
      | inl y ↦ true≢false (sym y ∙ o.1)
      | inr y ↦ true≢false (sym a ∙ ap (has state) y ∙ lacks)
    ])) in
    let reached = (enough-parts n f closed q i e).1 in
    true≢false (sym (interior-greatest f (minus (full n) (with closed i)) state member rest q holds) ∙ (out-parts (full n) (interior f (minus (full n) (with closed i))) q reached).1))

-- after one more state that has q
pub narrowed-by_state : (n : ℕ) (f : List Items) (outside state first items after : Items) (q : ℕ) → is_among f state ≡ true → has state q ≡ true → IsWithin state outside → after ≡ meet items state
    → IsNarrowed n f outside q first items → IsNarrowed n f outside q first after
narrowed-by_state n f outside state first items after q member holds out made so =
    subst (λ s. IsNarrowed n f outside q first s) (sym made) (record {
      part = λ i h. so.part i (meet-left items state i h);
      enough = λ closed o i e h. has-meet items state i ∙ and_from (has items i) (has state i) (so.enough closed o i e h)
          (enough-met n f closed state q i member (subst (λ s. IsWithin state s) o out) holds e);
    })

pub found-narrowed : (n : ℕ) (f : List Items) (closed outside : Items) (q : ℕ) (found before after : Items) → outside ≡ minus (full n) closed → IsNarrowed n f outside q before after → IsFound (enough_for n f closed q) found before
    → IsFound (enough_for n f closed q) found after
found-narrowed n f closed outside q found before after o so this = record {
  sound = this.sound;
  complete = λ i e. elim (this.complete i e) [ inl x ↦ inl x | inr y ↦ inr (so.enough closed o i e y) ];
}

-- ---- the interior of a set

pub inside-member : (n : ℕ) (f : List Items) (set kept : Items) → IsUnionFamily n f → kept ≡ interior f set → is_among f kept ≡ true
inside-member n f set kept family same = ap (is_among f) same ∙ (interior-is f family.holds_empty family.holds_unions set).member

-- the interior that keeps q is a member with q
pub kept-member : (n : ℕ) (f : List Items) (set keep k : Items) (q : ℕ) → IsUnionFamily n f → keep ≡ with empty q → Some k ≡ interior_keeping f set keep → (is_among f k ≡ true) × (has k q ≡ true)
kept-member n f set keep k q family e h =
    let inside = interior f set in
    let told : interior_keeping f set (with empty q) ≡ Some k = sym (h ∙ ap (interior_keeping f set) e) in
    let p = some-chosen (is_within (with empty q) inside) inside k told in
    (inside-member n f set k family p.1, subst (λ s. has s q ≡ true) (sym p.1) (sym (is_within-one q inside) ∙ p.0))
