-- The bytes of a page, line by line, by what is left of a listing.
use Rattle.ls_write.proofs.Vocabulary.{◌++◌, ◌+◌, ◌-◌, ◌<◌, ◌∙◌, ◌∷◌, ◌≡◌, ◌≤◌, Bool, Line, List}
use Rattle.ls_write.proofs.Vocabulary.{MatchOption, None, Option, Some, ℕ, [], ap, ap₂, arith}
use Rattle.ls_write.proofs.Vocabulary.{comes_before, false, filter_true, is_some, left_after}
use Rattle.ls_write.proofs.Vocabulary.{length, line_bytes, lines_bytes, lt-ltb, ltb, map, more_line}
use Rattle.ls_write.proofs.Vocabulary.{nat_tests, paths, paths_after, suc, sym, take, zero}
use Rattle.ls_room.proofs.LineBytes.{lines-one}
use Rattle.std.specs.Prelude.{find}
use Rattle.ls_set.specs.{IsInOrder, Items}
use Rattle.ls_theory.specs.{comes_after}
use Rattle.ls_enum.proofs.Left.{left-first, left-none}

module _ {X : Type 0} (as_line : X → Line) where
  -- the page of k of those that are left
  abbrev pub page_bytes : List X → ℕ → List ℕ
  page_bytes left k =
      lines_bytes (map as_line (take k left) ++ more_line (ltb k (length left)) ∷ [])

  next : (x : X) (rest : List X) (k : ℕ) → page_bytes (x ∷ rest) (suc k) ≡ line_bytes (as_line x)
      ++ page_bytes rest k
  next x rest k =
      ap (λ more. line_bytes (as_line x)
      ++ lines_bytes (map as_line (take k rest) ++ more_line more ∷ [])) (later k (length rest))
    where
      later : (k l : ℕ) → ltb (suc k) (suc l) ≡ ltb k l
      later k l = grind (arith, nat_tests)

  none : (k : ℕ) → page_bytes [] k ≡ line_bytes (more_line false)
  none zero = sym (lines-one (more_line false))
  none (suc k) =
      ap (λ more. lines_bytes (more_line more ∷ [])) (never (suc k)) ∙ sym
      (lines-one (more_line false))
    where
      never : (k : ℕ) → ltb k 0 ≡ false
      never k = grind (arith, nat_tests)

  module _ (given whole : List ℕ) (left : List X) (count done : ℕ)
      (so_far : given ++ page_bytes left (count - done) ≡ whole) where
    -- one of the page was said
    pub page-next : (x : X) (rest : List X) → left ≡ x ∷ rest → done < count
        → given ++ (line_bytes (as_line x) ++ page_bytes rest (count - (done + 1))) ≡ whole
    page-next x rest e l =
        let k : count - done ≡ suc (count - (done + 1)) = omega arith in
        ap (λ bytes. given ++ bytes) (sym (ap₂ page_bytes e k ∙ next x rest (count - (done + 1)))) ∙
        so_far

    -- none is left
    pub page-ended : left ≡ [] → given ++ line_bytes (more_line false) ≡ whole
    page-ended e =
        ap (λ bytes. given ++ bytes)
        (sym (ap (λ xs. page_bytes xs (count - done)) e ∙ none (count - done))) ∙ so_far

    -- the page is full
    pub page-full : (more : Bool) → more ≡ ltb 0 (length left) → count ≤ done → given
        ++ line_bytes (more_line more) ≡ whole
    page-full more e l =
        let k : count - done ≡ 0 = omega arith in
        ap (λ bytes. given ++ bytes)
        (lines-one (more_line more) ∙ ap (λ m. lines_bytes (more_line m ∷ [])) e ∙ sym
        (ap (page_bytes left) k)) ∙ so_far

-- whether one is left
pub some-left : {X Y : Type 0} {N : Type 0} (o : Option Y) (left : List X) (first : Y → X)
    (rest : Y → List X)
    → (N → left ≡ []) → MatchOption o N (λ y. left ≡ first y ∷ rest y) → is_some o
    ≡ ltb 0 (length left)
some-left None left first rest none h = sym (ap (λ l. ltb 0 (length l)) (none h))
some-left (Some y) left first rest none e =
    sym (ap (λ l. ltb 0 (length l)) e ∙ lt-ltb 0 (length (first y ∷ rest y)) (omega arith))

-- whether a set is left, by the first of them
pub found-left : (cursor : Option Items) (f : List Items) (r : Option Items) → IsInOrder f → r
    ≡ find (comes_after comes_before cursor) f → is_some r ≡ ltb 0 (length (left_after cursor f))
found-left cursor f r order e =
    some-left r (left_after cursor f) (λ k. k) (λ k. left_after (Some k) f) (λ none. none)
    (go r (sym e))
  where
    go : (o : Option Items) → find (comes_after comes_before cursor) f ≡ o
        → MatchOption o (left_after cursor f ≡ [])
        (λ k. left_after cursor f ≡ k ∷ left_after (Some k) f)
    go None h = left-none cursor f h
    go (Some k) h = left-first cursor f k order h

-- all learning paths come after none
pub all_after : (n : ℕ) (f : List Items) → paths_after n f None ≡ paths n f
all_after n f = filter_true (paths n f)
