-- Putting an item into the set of each item of another set.
use Rattle.ls_rules.proofs.Vocabulary.{◌<◌, ◌∙◌, ◌∷◌, ◌≡◌, ◌⊎◌, Grows, IsIn, Items, List, ℕ, bound, filter-in, has, in-items, inl, inr, items, length, length-set, numbers_from, refl, set, set_at, true, with}
use Rattle.ls_rules.proofs.Indexing.{Grows-put, followed-put}

-- the items of a set that are not left are followed by q
pub record Pushed (old now : List Items) (whole : Items) (left : List ℕ) (q : ℕ) : Type 0 where
  pub follows : (i : ℕ) → has whole i ≡ true → IsIn i left ⊎ (has (set_at now i) q ≡ true)
  pub grows : Grows old now
  pub room : (i : ℕ) → IsIn i left → i < length now
  pub same_length : length now ≡ length old

pub Pushed-first : (sets : List Items) (whole : Items) (q : ℕ) → ((i : ℕ) → has whole i ≡ true → i < length sets) → Pushed sets sets whole (items whole) q
unfolding items
Pushed-first sets whole q room = record { follows = λ i h. inl (in-items whole i h); grows = λ i j h. h; room = λ i h. room i (filter-in (has whole) (numbers_from 0 (bound whole)) i h).1; same_length = refl }

pub Pushed-more : (old now : List Items) (whole : Items) (i : ℕ) (rest : List ℕ) (q : ℕ) → Pushed old now whole (i ∷ rest) q → Pushed old (set now i (with (set_at now i) q)) whole rest q
Pushed-more old now whole i rest q p =
    let more = Grows-put now i q (p.room i (inl refl)) in
    let same = length-set now i (with (set_at now i) q) in
    record {
      follows = λ j h. elim (p.follows j h) [
        | inl (inl e) ↦ inr (rw e (followed-put now i q (p.room i (inl refl))))
        | inl (inr x) ↦ inl x
        | inr f ↦ inr (more j q f)
      ];
      grows = λ j k h. more j k (p.grows j k h);
      room = λ j h. rw same (p.room j (inr h));
      same_length = same ∙ p.same_length;
    }
