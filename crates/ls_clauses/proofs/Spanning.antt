-- Interiors among what a list spans, and lists with the same sets.
use Rattle.ls_clauses.proofs.Vocabulary.{◌∙◌, ◌≡◌, AreOn, IsPart, Items, List, Spans, ℕ, ap, from-interior, has, interior, is_among, same_within, spanned, spanned-has, spanned-whole, sym, to-interior}

-- the interior is the union of those within of any members that span
interior-spanning : (f g : List Items) → IsPart g f → Spans g f → (s : Items) → interior g s ≡ interior f s
interior-spanning f g part span s = same_within (interior g s) (interior f s)
    (λ i h. let r = from-interior g s i h in to-interior f s r.0 i (part r.0 r.1) r.2 r.3)
    (λ i h.
    let r = from-interior f s i h in
    let x = from-interior g r.0 i (ap (λ t. has t i) (span r.0 r.1) ∙ r.3) in
    to-interior g s x.0 i x.1 (λ j y. r.2 j (x.2 j y)) x.3)

pub interior-spanned : (n : ℕ) (g : List Items) → AreOn n g → (s : Items) → interior (spanned n g) s ≡ interior g s
interior-spanned n g small s = sym (interior-spanning (spanned n g) g (spanned-has n g small) (spanned-whole n g) s)

-- ---- lists with the same sets

interior-same : (f g : List Items) → ((k : Items) → is_among f k ≡ is_among g k) → (s : Items) → interior f s ≡ interior g s
interior-same f g e s = same_within (interior f s) (interior g s)
    (λ i h. let r = from-interior f s i h in to-interior g s r.0 i (sym (e r.0) ∙ r.1) r.2 r.3)
    (λ i h. let r = from-interior g s i h in to-interior f s r.0 i (e r.0 ∙ r.1) r.2 r.3)

pub spans-same : (f g h : List Items) → ((k : Items) → is_among h k ≡ is_among g k) → Spans g f → Spans h f
spans-same f g h e span k c = interior-same h g e k ∙ span k c

pub part-same : (f g h : List Items) → ((k : Items) → is_among h k ≡ is_among g k) → IsPart g f → IsPart h f
part-same f g h e part k c = part k (sym (e k) ∙ c)
