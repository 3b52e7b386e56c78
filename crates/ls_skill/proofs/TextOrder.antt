-- The order of texts by their bytes, and texts that stand in it.
use Rattle.std.proofs.Common.{◌≡◌, ◌⊎◌, inl, inr, true, false, List, [], ◌∷◌, is_eq, nat_cmp}
use Rattle.std.proofs.Common.{Ordering, Less, Equal, Greater, bytes_eq, refl, sym, ap, ap₂, ◌∙◌}
use Rattle.std.proofs.Common.{subst}
use Rattle.std.proofs.Common.{true≢false, arith}
use Rattle.std.specs.List.{list_any}
use Rattle.std.specs.Ordering.{is_lt, ordering_reverse}
use Rattle.std.specs.Cmp.Lexicographic.{slice_cmp}
use Rattle.std.proofs.lemmas.Bool.{cases_Bool, or_cases, or_left, or_right}
use Rattle.std.proofs.lemmas.Bool.Decides.{nat_tests}
use Rattle.std.proofs.lemmas.Cmp.{nat_list_cmp_total, same_from_slice_cmp}
use Rattle.std.proofs.lemmas.Map.Text.{is_eq-slice_cmp}
use Rattle.std.proofs.lemmas.Slice.Eq.{bytes_eq-Decides}
use Rattle.ls_lists.proofs.Bools.{same_truth}
use Rattle.ls_lists.specs.Lists.{IsIn, IsSorted}
use Rattle.ls_theory.specs.Words.{is_lex_before}
use Rattle.ls_cutting.specs.Lines.{Text}
use Rattle.ls_files.specs.SkillFiles.{with_text, in_text_order}

pub is_lt-slice_cmp : (v w : Text) → is_lt (slice_cmp nat_cmp v w) ≡ is_lex_before v w
is_lt-slice_cmp v w =
    same_from_slice_cmp nat_cmp is_lt is_lex_before refl (λ _ _. refl) (λ _ _. refl)
    (λ x y xs ys o h. grind (arith, nat_tests)) v w (slice_cmp nat_cmp v w) refl

-- how two texts stand to each other
pub data Stands (v w : Text) : Type 0 where
  before : slice_cmp nat_cmp v w ≡ Less → is_lex_before v w ≡ true → bytes_eq v w ≡ false
      → Stands v w
  same : slice_cmp nat_cmp v w ≡ Equal → v ≡ w → bytes_eq v w ≡ true → Stands v w
  after : slice_cmp nat_cmp v w ≡ Greater → is_lex_before w v ≡ true → is_lex_before v w ≡ false
      → bytes_eq v w ≡ false
      → Stands v w

pub stands : (v w : Text) → Stands v w
stands v w = step (slice_cmp nat_cmp v w) refl
  where
    step : (o : Ordering) → slice_cmp nat_cmp v w ≡ o → Stands v w
    step Less e =
        before e (sym (is_lt-slice_cmp v w) ∙ ap is_lt e) (sym (is_eq-slice_cmp v w) ∙ ap is_eq e)
    step Equal e =
        let b = sym (is_eq-slice_cmp v w) ∙ ap is_eq e in same e ((bytes_eq-Decides v w).0 b) b
    step Greater e =
        after e
        (sym (is_lt-slice_cmp w v) ∙ ap is_lt
        (nat_list_cmp_total.antisymm w v ∙ ap ordering_reverse e))
        (sym (is_lt-slice_cmp v w) ∙ ap is_lt e) (sym (is_eq-slice_cmp v w) ∙ ap is_eq e)

pub lex-trans : (u v w : Text) → is_lex_before u v ≡ true → is_lex_before v w ≡ true
    → is_lex_before u w ≡ true
lex-trans u v w a b =
    sym (is_lt-slice_cmp u w)
    ∙ ap is_lt
    (nat_list_cmp_total.trans u v w (less (slice_cmp nat_cmp u v) (is_lt-slice_cmp u v ∙ a))
    (less (slice_cmp nat_cmp v w) (is_lt-slice_cmp v w ∙ b)))
  where
    less : (o : Ordering) → is_lt o ≡ true → o ≡ Less
    less Less h = refl
    less Equal h = absurd (true≢false (sym h))
    less Greater h = absurd (true≢false (sym h))

pub lex-same : (v : Text) → is_lex_before v v ≡ true → ⊥
lex-same v h = elim (stands v v) [
  | before a b c ↦ true≢false (sym ((bytes_eq-Decides v v).1 refl) ∙ c)
  | same a e b ↦ true≢false (sym h ∙ sym (is_lt-slice_cmp v v) ∙ ap is_lt a)
  | after a b c d ↦ true≢false (sym h ∙ c)
]

-- the earlier of two texts is another
pub lex-other : (v w : Text) → is_lex_before v w ≡ true → bytes_eq w v ≡ false
lex-other v w h = elim (cases_Bool (bytes_eq w v)) [
  | inl
      e ↦ absurd (lex-same v (subst (λ x. is_lex_before v x ≡ true) ((bytes_eq-Decides w v).0 e) h))
  | inr e ↦ e
]

-- ---- texts in order

pub in-with_text : (w : Text) (xs : List Text) (v : Text) → IsIn v (with_text w xs)
    → (v ≡ w) ⊎ IsIn v xs
in-with_text w [] v c = elim c [ inl e ↦ inl e | inr d ↦ absurd d ]
in-with_text w (x ∷ xs) v c = elim (stands w x) [
  | same a e b ↦ let h = rw b at c in inr h
  | before a b d ↦ let h = rw (d, b) at c in elim h [ inl e ↦ inl e | inr q ↦ inr q ]
  | after a b d e ↦
      let h = rw (e, d) at c in
      elim h [
        | inl s ↦ inr (inl s)
        | inr s ↦ elim (in-with_text w xs v s) [ inl q ↦ inl q | inr q ↦ inr (inr q) ]
      ]
]

pub with_text-in : (w : Text) (xs : List Text) (v : Text) → (v ≡ w) ⊎ IsIn v xs
    → IsIn v (with_text w xs)
with_text-in w [] v c = c
with_text-in w (x ∷ xs) v c = elim (stands w x) [
  | same a e b ↦ rw b (elim c [ inl q ↦ inl (q ∙ e) | inr q ↦ q ])
  | before a b d ↦ rw (d, b) c
  | after a b d e ↦ rw (e, d) (elim c [
    | inl q ↦ inr (with_text-in w xs v (inl q))
    | inr q ↦ elim q [ inl s ↦ inl s | inr s ↦ inr (with_text-in w xs v (inr s)) ]
  ])
]

sorted-with_text : (w : Text) (xs : List Text) → IsSorted is_lex_before xs
    → IsSorted is_lex_before (with_text w xs)
sorted-with_text w [] h = (λ y c. absurd c, tt)
sorted-with_text w (x ∷ xs) h = elim (stands w x) [
  | same a e b ↦ rw b h
  | before a b d ↦ rw (d, b) (
    λ y c. elim c [
      | inl e ↦ ap (is_lex_before w) e ∙ b
      | inr q ↦ lex-trans w x y b (h.0 y q)
    ],
    h,
  )
  | after a b d e ↦ rw (e, d) (
    λ y c. elim (in-with_text w xs y c) [ inl q ↦ ap (is_lex_before x) q ∙ b | inr q ↦ h.0 y q ],
    sorted-with_text w xs h.1,
  )
]

pub sorted-in_text_order : (ws : List Text) → IsSorted is_lex_before (in_text_order ws)
sorted-in_text_order [] = tt
sorted-in_text_order (w ∷ ws) = sorted-with_text w (in_text_order ws) (sorted-in_text_order ws)

pub in-order-from : (ws : List Text) (v : Text) → IsIn v (in_text_order ws) → IsIn v ws
in-order-from [] v c = c
in-order-from (w ∷ ws) v c = elim (in-with_text w (in_text_order ws) v c) [
  | inl e ↦ inl e
  | inr d ↦ inr (in-order-from ws v d)
]

pub in-order-to : (ws : List Text) (v : Text) → IsIn v ws → IsIn v (in_text_order ws)
in-order-to [] v c = c
in-order-to (w ∷ ws) v c = with_text-in w (in_text_order ws) v (elim c [
  | inl e ↦ inl e
  | inr d ↦ inr (in-order-to ws v d)
])

-- whether a text is among texts
pub any-in : (w : Text) (ws : List Text) → list_any (bytes_eq w) ws ≡ true → IsIn w ws
any-in w [] h = absurd (true≢false (sym h))
any-in w (x ∷ ws) h = elim (or_cases (bytes_eq w x) (list_any (bytes_eq w) ws) h) [
  | inl e ↦ inl ((bytes_eq-Decides w x).0 e)
  | inr e ↦ inr (any-in w ws e)
]

pub in-any : (w : Text) (ws : List Text) → IsIn w ws → list_any (bytes_eq w) ws ≡ true
in-any w [] c = absurd c
in-any w (x ∷ ws) c = elim c [
  | inl e ↦ or_left (bytes_eq w x) (list_any (bytes_eq w) ws) ((bytes_eq-Decides w x).1 e)
  | inr d ↦ or_right (bytes_eq w x) (list_any (bytes_eq w) ws) (in-any w ws d)
]

pub any-in_order : (w : Text) (ws : List Text) → list_any (bytes_eq w) (in_text_order ws)
    ≡ list_any (bytes_eq w) ws
any-in_order w ws =
    same_truth (list_any (bytes_eq w) (in_text_order ws)) (list_any (bytes_eq w) ws)
    (λ h. in-any w ws (in-order-from ws w (any-in w (in_text_order ws) h)))
    (λ h. in-any w (in_text_order ws) (in-order-to ws w (any-in w ws h)))

-- two lists in order with the same texts are the same
pub same_texts : (xs ys : List Text) → IsSorted is_lex_before xs → IsSorted is_lex_before ys
    → ((v : Text) → IsIn v xs → IsIn v ys) → ((v : Text) → IsIn v ys → IsIn v xs) → xs ≡ ys
same_texts [] [] s t f g = refl
same_texts [] (y ∷ ys) s t f g = absurd (g y (inl refl))
same_texts (x ∷ xs) [] s t f g = absurd (f x (inl refl))
same_texts (x ∷ xs) (y ∷ ys) s t f g =
    let e : x ≡ y = elim (f x (inl refl)) [
      | inl e ↦ e
      | inr c ↦ elim (g y (inl refl)) [
        | inl e ↦ sym e
        | inr d ↦ absurd (lex-same x (lex-trans x y x (s.0 y d) (t.0 x c)))
      ]
    ] in
    ap₂ (λ z zs. z ∷ zs) e
    (same_texts xs ys s.1 t.1
    (λ v c. elim (f v (inr c)) [
      | inl q ↦ absurd (lex-same x (ap (is_lex_before x) (sym (q ∙ sym e)) ∙ s.0 v c))
      | inr d ↦ d
    ])
    (λ v c. elim (g v (inr c)) [
      | inl q ↦ absurd (lex-same y (ap (is_lex_before y) (sym (q ∙ e)) ∙ t.0 v c))
      | inr d ↦ d
    ]))
