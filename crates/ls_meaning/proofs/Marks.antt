-- Marked lines one after another.
use Rattle.ls_meaning.proofs.Vocabulary.{◌++◌, ◌+◌, ◌||◌, ◌∙◌, ◌∷◌, ◌≡◌, Bool, List, Marked, World, ℕ, [], ap, append-nil, append_assoc, ap₂, arith, bare_lines, cond, count_marks, false, is_refusal, refl, refuses, replies, reply_at, sym, true, unmarked, world_after, world_next}
use Rattle.std.proofs.lemmas.List.Sums.{sum_by-cons}
use Rattle.std.proofs.Math.Bool.{or_assoc, or-false}

-- ---- lines, and then others

pub world_after-append : (w : World) (ls ks : List Marked) → world_after w (ls ++ ks) ≡ world_after (world_after w ls) ks
unfolding world_after
world_after-append w [] ks = refl
world_after-append w (l ∷ ls) ks = world_after-append (world_next w l) ls ks

pub replies-append : (w : World) (ls ks : List Marked) → replies w (ls ++ ks) ≡ replies w ls ++ replies (world_after w ls) ks
unfolding replies world_after
replies-append w [] ks = refl
replies-append w (l ∷ ls) ks = ap (λ r. reply_at w l ++ r) (replies-append (world_next w l) ls ks) ∙ sym (append_assoc (reply_at w l) (replies (world_next w l) ls) _)

pub refuses-append : (w : World) (ls ks : List Marked) → refuses w (ls ++ ks) ≡ (refuses w ls || refuses (world_after w ls) ks)
unfolding refuses world_after
refuses-append w [] ks = refl
refuses-append w (l ∷ ls) ks =
    ap (λ b. is_refusal (reply_at w l) || b) (refuses-append (world_next w l) ls ks)
    ∙ sym (or_assoc (is_refusal (reply_at w l)) (refuses (world_next w l) ls) (refuses (world_after (world_next w l) ls) ks))

pub bare_lines-append : (ls ks : List Marked) → bare_lines (ls ++ ks) ≡ bare_lines ls ++ bare_lines ks
bare_lines-append [] ks = refl
bare_lines-append (l ∷ ls) ks = ap (λ x. l.line ∷ x) (bare_lines-append ls ks)

-- ---- lines, and then one

pub world_after-snoc : (w : World) (ls : List Marked) (l : Marked) → world_after w (ls ++ l ∷ []) ≡ world_next (world_after w ls) l
unfolding world_after
world_after-snoc w ls l = world_after-append w ls (l ∷ [])

one-reply : (w : World) (l : Marked) → replies w (l ∷ []) ≡ reply_at w l
unfolding replies
one-reply w l = append-nil (reply_at w l)

pub replies-snoc : (w : World) (ls : List Marked) (l : Marked) → replies w (ls ++ l ∷ []) ≡ replies w ls ++ reply_at (world_after w ls) l
replies-snoc w ls l = replies-append w ls (l ∷ []) ∙ ap (λ r. replies w ls ++ r) (one-reply (world_after w ls) l)

one-refusal : (w : World) (l : Marked) → refuses w (l ∷ []) ≡ is_refusal (reply_at w l)
unfolding refuses
one-refusal w l = or-false (is_refusal (reply_at w l))

pub refuses-snoc : (w : World) (ls : List Marked) (l : Marked) → refuses w (ls ++ l ∷ []) ≡ (refuses w ls || is_refusal (reply_at (world_after w ls) l))
refuses-snoc w ls l = refuses-append w ls (l ∷ []) ∙ ap (λ b. refuses w ls || b) (one-refusal (world_after w ls) l)

-- ---- how many marks there are

abbrev pub marked : List ℕ → Bool → Marked
marked line failed = record { line = line; failed = failed }

-- a mark more, or none
abbrev pub mark_count : Bool → ℕ
mark_count failed = cond failed 1 0

pub count_marks-cons : (l : Marked) (ls : List Marked) → count_marks (l ∷ ls) ≡ mark_count l.failed + count_marks ls
count_marks-cons l ls = sum_by-cons (λ (x : Marked). cond x.failed 1 0) l ls

pub count_marks-snoc : (ls : List Marked) (l : Marked) → count_marks (ls ++ l ∷ []) ≡ count_marks ls + mark_count l.failed
count_marks-snoc [] l = let e = count_marks-cons l [] in omega arith
count_marks-snoc (k ∷ ls) l = omega (arith, count_marks-cons k (ls ++ l ∷ []), count_marks-cons k ls, count_marks-snoc ls l)

-- ---- no marks

unmarked-one : (failed : Bool) (line : List ℕ) → mark_count failed ≡ 0 → marked line failed ≡ marked line false
unmarked-one true line e = absurd (omega arith)
unmarked-one false line e = refl

pub none-marked : (ls : List Marked) → count_marks ls ≡ 0 → ls ≡ unmarked (bare_lines ls)
none-marked [] e = refl
none-marked (l ∷ ls) e =
    let c = count_marks-cons l ls in
    ap₂ (λ (x : Marked) (xs : List Marked). x ∷ xs) (unmarked-one l.failed l.line (omega arith)) (none-marked ls (omega arith))
