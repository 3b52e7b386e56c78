-- The successor rule: from the greatest item of the word down, the first interior that agrees with the word before an item is the next member.
use Rattle.ls_enum.proofs.Vocabulary.{◌&&◌, ◌+◌, ◌<◌, ◌||◌, ◌∙◌, ◌∷◌, ◌≡◌, ◌≤◌, ◌⊎◌, Bool, DiffersFirstAt, IsFamily, IsInOrder, IsInterior, IsWithin, Items, List, None, NoneFrom, Some, ℕ, [], and_from, and_parts, ap, arith, cases_Bool, cases_eq, cases_order, comes_before, comes_before-at, differs_first, false, false_from_ne_true, find, first_after, full, has, has-full, has-keep_before, has-minus, has-union, inl, inr, interior, interior-is, interior-within, is_among, is_within, is_within-from, keep_before, keep_before-within, le-ltb, lt-ltb, ltb, ltb-false, ltb-true, minus-within, not, not-true, or_cases, or_left, or_right, filled_above, refl, subst, sym, true, true≢false, union-within}
use Rattle.ls_set.proofs.Members.{among-here, among-there, among-cases, Each-among}
use Rattle.ls_laws.proofs.Lists.{find-none}

-- ---- the first that passes, in a list in order

find_in_order : (p : Items → Bool) (xs : List Items) (t : Items) → IsInOrder xs → is_among xs t ≡ true → p t ≡ true → ((x : Items) → is_among xs x ≡ true → p x ≡ true → comes_before x t ≡ true → ⊥) → find p xs ≡ Some t
find_in_order p [] t o c h first = absurd (true≢false (sym c))
find_in_order p (x ∷ xs) t o c h first =
    elim (among-cases t x xs c) [
      | inl e ↦ rw (sym (ap p e) ∙ h) (ap Some (sym e))
      | inr there ↦
          let before : comes_before x t ≡ true = Each-among (λ y. comes_before x y ≡ true) xs t o.0 there in
          rw (false_from_ne_true (p x) (λ a. first x (among-here x x xs refl) a before))
          (find_in_order p xs t o.1 there h (λ y c. first y (among-there y x xs c)))
    ]

-- ---- the successor rule

has-filled : (n : ℕ) (word : Items) (i j : ℕ) → has (filled_above n word i) j ≡ (has word j && ltb j i || ltb j n && not (ltb j (i + 1)))
has-filled n word i j = simp (has-union, has-keep_before, has-minus, has-full)

pub filled-cases : (n : ℕ) (word : Items) (i j : ℕ) → has (filled_above n word i) j ≡ true → ((has word j ≡ true) × (j < i)) ⊎ ((j < n) × (i < j))
filled-cases n word i j h =
    elim (or_cases (has word j && ltb j i) (ltb j n && not (ltb j (i + 1))) (sym (has-filled n word i j) ∙ h)) [
      | inl a ↦ let p = and_parts (has word j) (ltb j i) a in inl (p.0, ltb-true j i p.1)
      | inr a ↦
          let p = and_parts (ltb j n) (not (ltb j (i + 1))) a in
          let l : i + 1 ≤ j = ltb-false j (i + 1) (not-true (ltb j (i + 1)) p.1) in
          inr (ltb-true j n p.0, omega arith)
    ]

pub filled-within : (n : ℕ) (word : Items) (i : ℕ) → IsWithin word (full n) → IsWithin (filled_above n word i) (full n)
filled-within n word i small = union-within (keep_before word i) _ (full n) (λ j h. small j (keep_before-within word i j h)) (minus-within (full n) (full (i + 1)))

pub to-filled : (n : ℕ) (word : Items) (i j : ℕ) → ((has word j ≡ true) × (j < i)) ⊎ ((j < n) × (i < j)) → has (filled_above n word i) j ≡ true
to-filled n word i j (inl a) = has-filled n word i j ∙ or_left (has word j && ltb j i) (ltb j n && not (ltb j (i + 1))) (and_from (has word j) (ltb j i) a.0 (lt-ltb j i a.1))
to-filled n word i j (inr a) =
    has-filled n word i j ∙ or_right (has word j && ltb j i) (ltb j n && not (ltb j (i + 1))) (and_from (ltb j n) (not (ltb j (i + 1))) (lt-ltb j n a.0) (ap not (le-ltb j (i + 1) (let l = a.1 in omega arith))))

-- a member that first differs from the word at i is within the word filled above i
differing-within : (n : ℕ) (word t : Items) (i : ℕ) → IsWithin t (full n) → DiffersFirstAt word t i → IsWithin t (filled_above n word i)
differing-within n word t i small d j h = elim (cases_order j i) [
  | inl e ↦ absurd (true≢false (sym h ∙ ap (has t) e ∙ d.not_in_second))
  | inr (inl l) ↦ to-filled n word i j (inl (d.same_below j l ∙ h, l))
  | inr (inr l) ↦ to-filled n word i j (inr (ltb-true j n (sym (has-full n j) ∙ small j h), l))
]

pub inside-is : (n : ℕ) (f : List Items) → IsFamily n f → (s : Items) → IsInterior f s (interior f s)
inside-is n f family s = interior-is f family.holds_empty family.holds_unions s

pub failed : (n : ℕ) (f : List Items) (word : Items) (i : ℕ) → IsFamily n f → is_within (keep_before word i) (interior f (filled_above n word i)) ≡ false → NoneFrom f word (i + 1) → NoneFrom f word i
failed n f word i family unlike none t c d l differs =
    elim (cases_eq d i) [
      | inl e ↦
          let at_i = subst (DiffersFirstAt word t) e differs in
          let part : IsWithin t (interior f (filled_above n word i)) = (inside-is n f family (filled_above n word i)).greatest t c (differing-within n word t i (family.small t c) at_i) in
          true≢false (sym (is_within-from (keep_before word i) (interior f (filled_above n word i)) (λ j h.
          let p = and_parts (has word j) (ltb j i) (sym (has-keep_before word i j) ∙ h) in
          part j (sym (at_i.same_below j (ltb-true j i p.1)) ∙ p.0))) ∙ unlike)
      | inr q ↦ none t c d (omega arith) differs
    ]

pub none_after : (f : List Items) (word : Items) → NoneFrom f word 0 → first_after word f ≡ None
none_after f word none = find-none (comes_before word) f (λ t c. false_from_ne_true (comes_before word t) (λ b. let d = differs_first word t b in none t c d.0 (omega arith) d.1))

-- the interior agrees with the word before i, and lacks i
agrees : (n : ℕ) (f : List Items) (word : Items) (i : ℕ) → IsFamily n f → has word i ≡ true → IsWithin (keep_before word i) (interior f (filled_above n word i)) → DiffersFirstAt word (interior f (filled_above n word i)) i
agrees n f word i family here kept =
    let inside = inside-is n f family (filled_above n word i) in
    record {
      in_first = here;
      not_in_second = false_from_ne_true (has (interior f (filled_above n word i)) i) (λ h.
          elim (filled-cases n word i i (inside.within i h)) [ inl a ↦ let l = a.1 in omega arith | inr a ↦ let l = a.1 in omega arith ]);
      same_below = λ j l. elim (cases_Bool (has word j)) [
        | inl a ↦ a ∙ sym (kept j (has-keep_before word i j ∙ and_from (has word j) (ltb j i) a (lt-ltb j i l)))
        | inr a ↦ a ∙ sym (false_from_ne_true (has (interior f (filled_above n word i)) j) (λ h.
            elim (filled-cases n word i j (inside.within j h)) [ inl b ↦ true≢false (sym b.0 ∙ a) | inr b ↦ let k = b.1 in omega arith ]))
      ];
    }

pub found : (n : ℕ) (f : List Items) (word : Items) (i : ℕ) → IsFamily n f → has word i ≡ true → NoneFrom f word (i + 1) → IsWithin (keep_before word i) (interior f (filled_above n word i)) → first_after word f ≡ Some (interior f (filled_above n word i))
found n f word i family here none kept =
    let inside = inside-is n f family (filled_above n word i) in
    let at_i = agrees n f word i family here kept in
    let next = interior f (filled_above n word i) in
    find_in_order (comes_before word) f next family.in_order inside.member (comes_before-at word next i at_i) (λ t c after before.
    let d = differs_first word t after in
    let e = differs_first t next before in
    elim (cases_order d.0 i) [
      | inl q ↦ true≢false (sym (inside.greatest t c (differing-within n word t i (family.small t c) (subst (DiffersFirstAt word t) q d.1)) e.0 e.1.in_first) ∙ e.1.not_in_second)
      | inr (inl l) ↦
          elim (cases_order e.0 d.0) [
            | inl q ↦ true≢false (sym e.1.in_first ∙ ap (has t) q ∙ d.1.not_in_second)
            | inr (inl k) ↦ true≢false (sym e.1.in_first ∙ sym (d.1.same_below e.0 k) ∙ at_i.same_below e.0 (omega arith) ∙ e.1.not_in_second)
            | inr (inr k) ↦ true≢false (sym d.1.in_first ∙ at_i.same_below d.0 l ∙ sym (e.1.same_below d.0 k) ∙ d.1.not_in_second)
          ]
      | inr (inr l) ↦ none t c d.0 (omega arith) d.1
    ])

pub none_from_end : (n : ℕ) (f : List Items) (word : Items) (i : ℕ) → IsWithin word (full n) → i ≡ n → NoneFrom f word i
none_from_end n f word i small e t c d l differs =
    let k : d < n = ltb-true d n (sym (has-full n d) ∙ small d differs.in_first) in
    omega arith

pub inside-small : (n : ℕ) (f : List Items) (word : Items) (i : ℕ) → IsWithin word (full n) → IsWithin (interior f (filled_above n word i)) (full n)
inside-small n f word i small j h = filled-within n word i small j (interior-within f (filled_above n word i) j h)

-- ---- the first member of all

pub first-is : (n : ℕ) (f : List Items) → IsFamily n f → find (λ _. true) f ≡ Some (interior f (full n))
first-is n f family =
    let top = inside-is n f family (full n) in
    find_in_order (λ _. true) f (interior f (full n)) family.in_order top.member refl (λ x c _ b.
    let d = differs_first x (interior f (full n)) b in
    true≢false (sym (top.greatest x c (family.small x c) d.0 d.1.in_first) ∙ d.1.not_in_second))
