-- What an interview keeps, through its beginning and its changes.
use Rattle.ls_expert.proofs.Vocabulary.{◌+◌, ◌<◌, ◌∙◌, ◌≡◌, ◌≤◌, Answer, BlockFault, BlockRange, Interview, IsDistinct, IsHeld, IsKeptFor, IsSound, IsStanding, IsStart, IsTabled, Items, List, No, Ok, Query, Result, TableRoom, ℕ, [], ap, ap₂, arith, begun, begun-numbered, blocks, choose, compat, compatible_sets, is_same_query, length, made, most_sets, nos, refl, single_items, start-sound, subst, suc, sym, yes_queries, zero}
use Rattle.ls_set.specs.declared.item_set.TheConstants.{PLACES}
use Rattle.ls_theory.specs.Starts as theory
use Rattle.ls_query.proofs.Made.{made_of}
use Rattle.ls_query.proofs.Binomials.{choose-none, choose-more, choose-zero_more}
use Rattle.ls_query.proofs.BySize.{length-blocks_more, length-blocks_none}
use Rattle.ls_query.proofs.Counted.{made-ok, none_too_wide}

-- ---- blocks of single items

choose-one : (n : ℕ) → choose n 1 ≡ n
choose-one zero = choose-zero_more 0
choose-one (suc n) = choose-more n 0 ∙ omega (arith, choose-none n, choose-one n)

-- n sets of one item, which are never too many
pub length-singles : (n : ℕ) → length (blocks n 1) ≡ n
length-singles n =
    let sets : length (blocks n 1) ≡ length (blocks n 0) + choose n 1 = length-blocks_more n 0 in
    omega (arith, sets, length-blocks_none n, choose-one n)

pub made-one : (n : ℕ) → 0 < n → n ≤ PLACES → made n 1 ≡ Ok (record { item_count = n; largest = 1 })
made-one n some few =
    let many : length (blocks n 1) ≤ most_sets = omega (arith, length-singles n) in
    made-ok n 1 (λ e. cc) (omega arith) (none_too_wide n 1 many)

pub one-made : (n m : ℕ) (r : Result BlockRange BlockFault) (b : BlockRange) → 0 < n → n ≤ PLACES → m ≡ n → r ≡ made m 1 → r ≡ Ok b → b ≡ single_items n
one-made n m r b some few e f g = let h : Ok b ≡ Ok (single_items n) = sym g ∙ f ∙ ap (λ k. made k 1) e ∙ made-one n some few in cc

-- the blocks that are made are those that are asked for
pub range-of : (n k : ℕ) (b : BlockRange) → made n k ≡ Ok b → b ≡ (let x : BlockRange = record { item_count = n; largest = k } in x)
range-of n k b e = sym (made_of n k b e)

-- ---- tables

-- a table that is kept for a family is kept for the same one
pub kept-as : (b : BlockRange) (f g : List Items) (ms ns : List No) (t : TableRoom) → f ≡ g → ms ≡ ns → IsKeptFor b f ms t → IsKeptFor b g ns t
kept-as b f g ms ns t ef en k = subst (λ h. IsKeptFor b h ns t) ef (subst (λ l. IsKeptFor b f l t) en k)

-- a table that was built for the items, the start, the rules and the answers of an interview is its table
pub tabled-by : (i : Interview) (n : ℕ) (s : theory.Start) (rules : List Query) (answers : List Answer) (t : TableRoom)
    → IsKeptFor (single_items n) (compat n s rules) (nos answers) t → n ≡ i.count → s ≡ i.start → rules ≡ yes_queries i.answers → answers ≡ i.answers → IsTabled i t
tabled-by i n s rules answers t h en es er ea =
    kept-as (single_items i.count) (compat i.count s rules) (compatible_sets i) (nos answers) (nos i.answers) t (ap₂ (compat i.count) es er) (ap nos ea)
    (subst (λ m. IsKeptFor (single_items m) (compat m s rules) (nos answers) t) en h)

-- ---- the beginning

none-distinct : IsDistinct is_same_query []
unfolding IsDistinct
none-distinct = tt

pub standing-begun : (n : ℕ) (start : theory.Start) → IsStart n start → IsStanding (begun n start)
standing-begun n start is_start = record {
  sound = start-sound n start is_start;
  good = refl;
  distinct = none-distinct;
  numbered = begun-numbered n start;
  few_answers = omega arith;
  some_number = omega arith;
  numbers_left = omega arith;
}

pub held-begun : (n : ℕ) (start : theory.Start) (rules : List Query) (t : TableRoom) → 0 < n → n ≤ PLACES → IsStart n start → rules ≡ [] → IsTabled (begun n start) t → IsHeld (begun n start) rules t
held-begun n start rules t some few is_start none table = record {
  some_items = some;
  few_items = few;
  ruled = none;
  tabled = table;
  standing = standing-begun n start is_start;
}

-- blocks that are made have some sizes
pub some-made : (n k : ℕ) (b : BlockRange) → made n k ≡ Ok b → 0 < k
unfolding made
some-made n zero b e = absurd (cc e)
some-made n (suc k) b e = omega arith

-- other blocks; the table is the same
pub standing-blocks : (i : Interview) (k : ℕ) → IsStanding i → IsStanding (record i { block = k })
standing-blocks i k h = record {
  sound = record { some_fits = h.sound.some_fits; are_good = h.sound.are_good };
  good = h.good;
  distinct = h.distinct;
  numbered = record { in_order = h.numbered.in_order; below_next = h.numbered.below_next };
  few_answers = h.few_answers;
  some_number = h.some_number;
  numbers_left = h.numbers_left;
}

pub held-blocks : (i : Interview) (k : ℕ) (rules : List Query) (t : TableRoom) → IsHeld i rules t → IsHeld (record i { block = k }) rules t
held-blocks i k rules t h =
    record { some_items = h.some_items; few_items = h.few_items; ruled = h.ruled; tabled = h.tabled; standing = standing-blocks i k h.standing }

-- another start, with its table
pub standing-start : (i : Interview) (start : theory.Start) → IsStanding i → i.answers ≡ [] → IsStart i.count start → IsStanding (record i { start = start })
standing-start i start h none is_start =
    let begins = start-sound i.count start is_start in
    record {
      sound = subst (λ (answers : List Answer). IsSound (record { count = i.count; start = start; block = i.block; answers = answers; next = i.next })) (sym none)
          (record { some_fits = begins.some_fits; are_good = begins.are_good });
      good = h.good;
      distinct = h.distinct;
      numbered = record { in_order = h.numbered.in_order; below_next = h.numbered.below_next };
      few_answers = h.few_answers;
      some_number = h.some_number;
      numbers_left = h.numbers_left;
    }

pub held-start : (i : Interview) (start : theory.Start) (rules after : List Query) (t new : TableRoom) → IsHeld i rules t → i.answers ≡ [] → IsStart i.count start → after ≡ []
    → IsTabled (record i { start = start }) new → IsHeld (record i { start = start }) after new
held-start i start rules after t new h none is_start no_rules table = record {
  some_items = h.some_items;
  few_items = h.few_items;
  ruled = no_rules ∙ sym (ap yes_queries none);
  tabled = table;
  standing = standing-start i start h.standing none is_start;
}
