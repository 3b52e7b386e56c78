-- A summary by its parts.
use Rattle.ls_drill.proofs.Vocabulary.{◌∙◌, ◌≡◌, Bool, Interview, Option, Summary, ℕ, ap, base, base_verdict, compatible_sets, count_by, counted, is_filled, is_filled_no, is_filled_yes, is_learning, length, not, queries, refl, summed_up}

-- summaries with the same parts are one
same_parts : (a b c d e f g h i a' b' c' d' e' f' g' h' i' : ℕ) (l l' : Bool) (s s' : Option ℕ)
    → a ≡ a' → b ≡ b' → c ≡ c' → d ≡ d' → e ≡ e' → f ≡ f' → g ≡ g' → h ≡ h' → i ≡ i' → l ≡ l' → s ≡ s'
    → (let x : Summary = record { n = a; number = b; asked = c; asked_yes = d; asked_no = e; filled = f; filled_yes = g; filled_no = h; base = i; learning = l; states = s } in x)
    ≡ (let x : Summary = record { n = a'; number = b'; asked = c'; asked_yes = d'; asked_no = e'; filled = f'; filled_yes = g'; filled_no = h'; base = i'; learning = l'; states = s' } in x)
same_parts a b c d e f g h i a' b' c' d' e' f' g' h' i' l l' s s' p1 p2 p3 p4 p5 p6 p7 p8 p9 p10 p11 = rw (p1, p2, p3, p4, p5, p6, p7, p8, p9, p10, p11) refl

-- what an interview came to, part by part
pub record IsSummed (i : Interview) (x : Summary) : Type 0 where
  pub items : x.n ≡ i.count
  pub asked_all : x.asked ≡ length i.answers
  pub asked_yes : x.asked_yes ≡ count_by (λ a. a.yes) i.answers
  pub asked_no : x.asked_no ≡ count_by (λ a. not a.yes) i.answers
  pub filled_all : x.filled ≡ count_by (is_filled i) (queries i.count i.block)
  pub filled_yes : x.filled_yes ≡ count_by (is_filled_yes i) (queries i.count i.block)
  pub filled_no : x.filled_no ≡ count_by (is_filled_no i) (queries i.count i.block)
  pub base_sets : x.base ≡ length (base (compatible_sets i))
  pub is_learned : x.learning ≡ is_learning (base_verdict (compatible_sets i))
  pub state_count : x.states ≡ counted (length (compatible_sets i))

pub summed-is : (i : Interview) (x : Summary) → IsSummed i x → x ≡ summed_up x.number i
unfolding summed_up
summed-is i x h = same_parts _ _ _ _ _ _ _ _ _ _ _ _ _ _ _ _ _ _ _ _ _ _ h.items refl h.asked_all h.asked_yes h.asked_no h.filled_all h.filled_yes h.filled_no h.base_sets h.is_learned h.state_count

-- the same, told of the interview that it is
pub summed-as : (s : ℕ) (i j : Interview) (x : Summary) → x.number ≡ s → i ≡ j → IsSummed i x → x ≡ summed_up s j
summed-as s i j x n e h = summed-is i x h ∙ ap (λ m. summed_up m i) n ∙ ap (summed_up s) e
