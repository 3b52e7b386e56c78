-- Masses are sums of weights, and a reply multiplies each weight.
use Rattle.ls_laws.proofs.Vocabulary.{◌*◌, ◌++◌, ◌+◌, ◌↔◌, ◌∙◌, ◌∷◌, ◌≡◌, ◌≢◌, Bool, Items, List, ℕ, [], ap, arith, asked, cases_Bool, cond, eq-eqb, eqb, eqb-true, factor, false, filter, half_split, has, has_share, inl, inr, length, mass, ne_eqb, not, refl, sum_by, sym, total, true, weight}
use Rattle.std.proofs.lemmas.List.Sums.{sum_by-cons}
use Rattle.std.proofs.lemmas.List.Filters.{sum_by-filter_both}
use Rattle.ls_theory.specs.declared.ratio.Ratios.{Ratios}
use Rattle.ls_theory.specs.declared.reply.Reply.{Reply}
use Rattle.ls_theory.specs.declared.asked.Asked.TheVariants.{Item, Over}
use Rattle.ls_theory.specs.declared.reason.Reason.TheVariants.{Share, Budget}
use Rattle.ls_theory.specs.Settings.{Settings}

-- ---- masses

sum-kept : (w : Items → ℕ) (p : Items → Bool) (f : List Items) → sum_by w (filter p f) ≡ sum_by (λ k. cond (p k) (w k) 0) f
sum-kept w p [] = refl
sum-kept w p (k ∷ f) =
    let g = λ (k : Items). cond (p k) (w k) 0 in
    let rest = sum-kept w p f in
    (elim (p k) as (λ b. sum_by w (cond b (k ∷ filter p f) (filter p f)) ≡ cond b (w k) 0 + sum_by g f) [
      | true ↦ sum_by-cons w k (filter p f) ∙ ap (λ n. w k + n) rest
      | false ↦ rest ∙ (let e : sum_by g f ≡ 0 + sum_by g f = omega arith in e)
    ])
    ∙ sym (sum_by-cons g k f)

pub mass-sum : (ratios : List Ratios) (replies : List Reply) (f : List Items) (q : ℕ) → mass ratios replies f q ≡ sum_by (λ k. cond (has k q) (weight ratios replies k) 0) f
mass-sum ratios replies f q = sum-kept (weight ratios replies) (λ k. has k q) f

pub mass-rest : (ratios : List Ratios) (replies : List Reply) (f : List Items) (q : ℕ) → mass ratios replies f q + total ratios replies (filter (λ k. not (has k q)) f) ≡ total ratios replies f
mass-rest ratios replies f q = sum_by-filter_both (λ k. has k q) (λ k. not (has k q)) (λ k. refl) (weight ratios replies) f

-- ---- weights

pub weight-more : (ratios : List Ratios) (replies : List Reply) (r : Reply) (k : Items) → weight ratios (replies ++ (r ∷ [])) k ≡ weight ratios replies k * factor ratios k r
unfolding weight
weight-more ratios [] r k = omega arith
weight-more ratios (x ∷ replies) r k = ap (λ n. factor ratios k x * n) (weight-more ratios replies r k) ∙ omega arith

-- ---- when an assessment is over

pub over-share : (s : Settings) (f : List Items) (replies : List Reply) → (asked s f replies ≡ Over Share) ↔ (has_share s f replies ≡ true)
unfolding asked
over-share s f replies = (
  λ e. elim (cases_Bool (has_share s f replies)) [
    | inl a ↦ a
    | inr a ↦ elim (cases_Bool (eqb (length replies) s.budget)) [
      | inl b ↦ absurd (let z : Over Budget ≡ Over Share = rw (a, b) at e in cc)
      | inr b ↦ absurd (let z : Item (half_split s.ratios replies f) ≡ Over Share = rw (a, b) at e in cc)
    ]
  ],
  λ h. rw h refl,
)

pub over-budget : (s : Settings) (f : List Items) (replies : List Reply) → (asked s f replies ≡ Over Budget) ↔ ((has_share s f replies ≡ false) × (length replies ≡ s.budget))
unfolding asked
over-budget s f replies = (
  λ e. elim (cases_Bool (has_share s f replies)) [
    | inl a ↦ absurd (let z : Over Share ≡ Over Budget = rw a at e in cc)
    | inr a ↦ elim (cases_Bool (eqb (length replies) s.budget)) [
      | inl b ↦ (a, eqb-true (length replies) s.budget b)
      | inr b ↦ absurd (let z : Item (half_split s.ratios replies f) ≡ Over Budget = rw (a, b) at e in cc)
    ]
  ],
  λ h. rw (h.0, eq-eqb (length replies) s.budget h.1) refl,
)

pub asked-item : (s : Settings) (f : List Items) (replies : List Reply) → has_share s f replies ≡ false → length replies ≢ s.budget → asked s f replies ≡ Item (half_split s.ratios replies f)
unfolding asked
asked-item s f replies h ne = rw (h, ne_eqb (length replies) s.budget ne) refl
