-- The first query that is open by the table is the next question.
use Rattle.ls_infer.proofs.Vocabulary.{◌&&◌, ◌<◌, ◌||◌, ◌∙◌, ◌∷◌, ◌≡◌, BlockRange, Interview, IsIn, IsSound, Items, List, Option, Query, TableState, ℕ, [], ap, ap₂, block_place, closure, comes_after, compatible_sets, filter, filter-in, find, find-same, forced_no_by, forced_yes_is, forces, full, good-from, good-to, has, is_forced_by_closures, is_good, is_open, is_open_by, is_open_in, list_any, map, next_question, no_queries, nos, not, queries, queries-in, block_queries, query_before, refl, spaces_of, standing, sym, table_of, true}
use Rattle.ls_theory.specs.declared.answer.Answer.{Answer}
use Rattle.ls_infer.proofs.Told.{forces-standing, closed_of-table}

-- some standing No forces the query exactly where closures say so
any-standing : (n : ℕ) (f : List Items) (r : Query) (given : List Answer) → r.q < n
    → list_any (forces r) (map (standing n f) (map (λ a. record { number = a.number; query = a.query }) given)) ≡ list_any (is_forced_by_closures n f r) (map (λ a. a.query) given)
any-standing n f r [] l = refl
any-standing n f r (a ∷ given) l = ap₂ (λ b c. b || c) (forces-standing n f r (record { number = a.number; query = a.query }) l) (any-standing n f r given l)

-- a good query is open by closures exactly where it is open
pub open-by : (i : Interview) (n : ℕ) (r : Query) → IsSound i → i.count ≡ n → is_good n r ≡ true
    → is_open_by n (compatible_sets i) (map (standing n (compatible_sets i)) (nos i.answers)) r ≡ is_open (spaces_of i) r
open-by i n r sound count good =
    let f = compatible_sets i in
    let item : r.q < n = (good-from n r good).item in
    let item_here : r.q < i.count = rw count item in
    ap₂ (λ u v. not u && not v)
    (ap (λ m. has (closure (full m) f r.a) r.q) (sym count) ∙ sym (forced_yes_is i r sound.some_fits item_here))
    (any-standing n f r (filter (λ a. not a.yes) i.answers) item
    ∙ ap (λ m. list_any (is_forced_by_closures m f r) (no_queries i.answers)) (sym count) ∙ sym (forced_no_by i r sound (ap (λ m. is_good m r) count ∙ good)))

-- a query of the blocks is open by the table exactly where it is open
open-told : (i : Interview) (b : BlockRange) (r : Query) → IsSound i → i.count ≡ b.item_count → IsIn r (block_queries b)
    → is_open_in (table_of b (compatible_sets i) (nos i.answers)) r ≡ is_open (spaces_of i) r
open-told i b r sound count here =
    let f = compatible_sets i in
    let d = queries-in b.item_count b.largest r here in
    let place = block_place b.item_count b.largest r.a d.1 in
    ap (λ s. not (has s r.q) && not (list_any (forces r) (map (standing b.item_count f) (nos i.answers)))) (closed_of-table b f (nos i.answers) place.0 r.a place.1)
    ∙ open-by i b.item_count r sound count (good-to b.item_count r d.0)

pub next-told : (i : Interview) (t : TableState) (last : Option Query) → IsSound i → i.count ≡ t.blocks.item_count → i.block ≡ t.blocks.largest
    → t ≡ table_of t.blocks (compatible_sets i) (nos i.answers)
    → find (is_open_in t) (filter (comes_after query_before last) (block_queries t.blocks)) ≡ next_question i last
unfolding next_question
next-told i t last sound count block table =
    let b = t.blocks in
    ap (λ u. find (is_open_in u) (filter (comes_after query_before last) (block_queries b))) table
    ∙ find-same (is_open_in (table_of b (compatible_sets i) (nos i.answers))) (is_open (spaces_of i)) (filter (comes_after query_before last) (block_queries b))
    (λ r c. open-told i b r sound count (filter-in (comes_after query_before last) (block_queries b) r c).0)
    ∙ ap₂ (λ m k. find (is_open (spaces_of i)) (filter (comes_after query_before last) (queries m k))) (sym count) (sym block)
