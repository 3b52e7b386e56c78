-- Pages joined by their last sets.
use Rattle.ls_enum.proofs.Vocabulary.{◌++◌, ◌+◌, ◌-◌, ◌<◌, ◌∙◌, ◌∷◌, ◌≡◌, ◌≤◌, IsInOrder, Items, List, None, Option, Some, ℕ, [], ap, arith, comes_after, comes_before, drop, false, find, joined_pages, last_or, left_after, length, length-drop, lt-ltb, ltb, ltb-false, ltb-true, page, refl, same_truth, suc, sum, sym, take, take_all, true, zero}
use Rattle.std.proofs.Math.Seq.{take-add}
use Rattle.std.proofs.lemmas.List.Sums.{sum_by-cons}
use Rattle.ls_enum.proofs.Left.{left-first, left-none, left_after-none}

-- after the last of the first k sets that are left, the others are left
pub left-last : (cursor : Option Items) (f : List Items) (k : ℕ) → IsInOrder f → left_after (last_or cursor (take k (left_after cursor f))) f ≡ drop k (left_after cursor f)
left-last cursor f zero o = refl
left-last cursor f (suc k) o =
    elim (find (comes_after comes_before cursor) f) as (λ r. find (comes_after comes_before cursor) f ≡ r → left_after (last_or cursor (take (suc k) (left_after cursor f))) f ≡ drop (suc k) (left_after cursor f)) [
      | None ↦ λ e. rw (left-none cursor f e) (left-none cursor f e)
      | Some x ↦ λ e. rw (left-first cursor f x o e) (left-last (Some x) f k o)
    ] refl

pub joined_pages-are : (f : List Items) (cursor : Option Items) (sizes : List ℕ) → IsInOrder f → joined_pages f cursor sizes ≡ take (sum sizes) (left_after cursor f)
joined_pages-are f cursor [] o = refl
joined_pages-are f cursor (k ∷ sizes) o =
    let rest = left_after cursor f in
    ap (λ l. take k rest ++ l) (joined_pages-are f (last_or cursor (take k rest)) sizes o ∙ ap (take (sum sizes)) (left-last cursor f k o))
    ∙ sym (take-add k (sum sizes) rest) ∙ ap (λ n. take n rest) (sym (sum_by-cons (λ n. n) k sizes))

-- the numbers behind `more`
fewer : (d n j k : ℕ) → d ≡ n - j → ltb k d ≡ ltb (j + k) n
fewer d n j k e = same_truth (ltb k d) (ltb (j + k) n)
    (λ a. lt-ltb (j + k) n (let l : k < d = ltb-true k d a in omega arith))
    (λ a. lt-ltb k d (let l : j + k < n = ltb-true (j + k) n a in omega arith))

pub more-joined : (f : List Items) (cursor : Option Items) (j k : ℕ) → IsInOrder f → (page comes_before f (last_or cursor (page comes_before f cursor j).members) k).more ≡ (page comes_before f cursor (j + k)).more
more-joined f cursor j k o =
    let rest = left_after cursor f in
    ap (λ l. ltb k (length l)) (left-last cursor f j o) ∙ fewer (length (drop j rest)) (length rest) j k (length-drop j rest)

-- a page from the start is the whole family exactly where no further set follows
pub page-fits : (f : List Items) (k : ℕ) → (page comes_before f None k).more ≡ false → length f ≤ k
page-fits f k h = ltb-false k (length f) (sym (ap (λ l. ltb k (length l)) (left_after-none f)) ∙ h)

pub page-more : (f : List Items) (k : ℕ) → (page comes_before f None k).more ≡ true → k < length f
page-more f k h = ltb-true k (length f) (sym (ap (λ l. ltb k (length l)) (left_after-none f)) ∙ h)

pub page-whole : (f : List Items) (k : ℕ) → (page comes_before f None k).more ≡ false → (page comes_before f None k).members ≡ f
page-whole f k h = ap (take k) (left_after-none f) ∙ take_all k f (page-fits f k h)

pub joined_pages-whole : (f : List Items) (sizes : List ℕ) → IsInOrder f → (page comes_before f None (sum sizes)).more ≡ false → joined_pages f None sizes ≡ f
joined_pages-whole f sizes o h = joined_pages-are f None sizes o ∙ page-whole f (sum sizes) h
