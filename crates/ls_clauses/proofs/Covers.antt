-- Sets that have each item, and the starts that an interview can have.
use Rattle.ls_clauses.proofs.Vocabulary.{◌↔◌, ◌∙◌, ◌≡◌, Decides-is_same, IsCover, IsInOrder, AreOn, IsStart, Items, List, None, Query, ℕ, [], among-spanned, and_from, ap, base, base-needed, begun, cases_Bool, clauses_of, compat, compat-sets, compat-space, false, full, has, has-full, has-minus, has-unions, inl, inr, interior, interior-whole, is_among, is_good, is_same, is_space, is_within, is_within-from, least, least-none, lt-ltb, ltb-true, minus, needed, refl, some-from, spanned, spanned-has, spanned-in_order, spanned-whole, sym, true, true≢false, unions}
use Rattle.std.specs.List.{list_all}
use Rattle.ls_set.proofs.Listed.{least-none_left}
use Rattle.ls_theory.specs.Starts.{Start, Free, Clauses, Sets, meets}
use Rattle.ls_laws.specs.Forced.{IsSound}
use Rattle.ls_laws.proofs.Accepting.{begun-sound}
use Rattle.ls_clauses.proofs.Spanning.{interior-spanned, spans-same, part-same}
use Rattle.ls_clauses.proofs.Clauses.{some_set, within-clause, meets-from}

-- ---- sets that have each item

pub cover-full : (n : ℕ) (sets : List Items) → IsCover n sets → interior sets (full n) ≡ full n
cover-full n sets cover = interior-whole sets (full n) (λ q h.
    let r = some-from (λ s. has s q) sets (sym (has-unions sets q) ∙ cover.each_item q (ltb-true q n (sym (has-full n q) ∙ h))) in
    (r.0, r.1, cover.small r.0 r.1, r.2))

pub cover-member : (n : ℕ) (sets : List Items) → IsCover n sets → is_among (spanned n sets) (full n) ≡ true
cover-member n sets cover =
    among-spanned n sets (full n) ∙ and_from (is_within (full n) (full n)) (is_same (interior sets (full n)) (full n)) (is_within-from (full n) (full n) (λ i a. a))
    ((Decides-is_same (interior sets (full n)) (full n)).1 (cover-full n sets cover))

-- the search for an item that no set has
pub cover-least : (n : ℕ) (sets : List Items) → AreOn n sets → IsCover n sets ↔ (least (minus (full n) (unions sets)) ≡ None)
cover-least n sets small = (
  λ cover. least-none (minus (full n) (unions sets)) (λ q. has-minus (full n) (unions sets) q ∙ elim (cases_Bool (has (full n) q)) [
    | inl a ↦ rw (a, cover.each_item q (ltb-true q n (sym (has-full n q) ∙ a))) refl
    | inr a ↦ rw a refl
  ]),
  λ e. record {
    small = small;
    each_item = λ q l. elim (cases_Bool (has (unions sets) q)) [
      | inl a ↦ a
      | inr a ↦
          let x : has (minus (full n) (unions sets)) q ≡ false = least-none_left (minus (full n) (unions sets)) q e in
          absurd (true≢false (sym (has-minus (full n) (unions sets) q ∙ rw (has-full n q ∙ lt-ltb q n l, a) refl) ∙ x))
    ];
  },
)

-- ---- the sets that meet listed sets

pub base-sets : (n : ℕ) (sets ordered : List Items) → AreOn n sets → IsInOrder ordered → ((k : Items) → is_among ordered k ≡ is_among sets k) → base (compat n (Sets sets) []) ≡ needed ordered
base-sets n sets ordered small order same =
    ap base (compat-sets n sets)
    ∙ base-needed (spanned n sets) ordered (spanned-in_order n sets) order
    (part-same (spanned n sets) sets ordered same (spanned-has n sets small)) (spans-same (spanned n sets) sets ordered same (spanned-whole n sets))

pub interior-sets : (n : ℕ) (sets : List Items) → AreOn n sets → (s : Items) → interior (compat n (Sets sets) []) s ≡ interior sets s
interior-sets n sets small s = ap (λ f. interior f s) (compat-sets n sets) ∙ interior-spanned n sets small s

-- ---- starts

pub start-full : (n : ℕ) (start : Start) → IsStart n start → meets start (full n) ≡ true
start-full n Free h = refl
start-full n (Clauses clauses) surmise = meets-from clauses (full n) (λ q a.
    let r = some_set (clauses_of clauses q) (surmise.has_clause q (ltb-true q n (sym (has-full n q) ∙ a))) in
    within-clause clauses q (full n) r.0 r.1 (surmise.small q r.0 r.1))
start-full n (Sets sets) cover = (Decides-is_same (interior sets (full n)) (full n)).1 (cover-full n sets cover)

pub start-space : (n : ℕ) (start : Start) (yeses : List Query) → IsStart n start → list_all (is_good n) yeses ≡ true → is_space (full n) (compat n start yeses) ≡ true
start-space n start yeses h good = compat-space n start yeses (start-full n start h) good

pub start-sound : (n : ℕ) (start : Start) → IsStart n start → IsSound (begun n start)
start-sound n start h = begun-sound n start (start-space n start [] h refl)
