-- What a table tells is what the answers tell.
use Rattle.ls_infer.proofs.Vocabulary.{◌&&◌, ◌<◌, ◌∙◌, ◌∷◌, ◌≡◌, BlockRange, Interview, IsNumbered, IsSound, Items, Known, List, No, None, Option, Query, Some, StandingNo, TableState, ℕ, [], ap, ap₂, closed_of, closure, compatible_sets, cond, false, filter, first_least, forces, full, get-map, good-from, has, is_forced_by_closures, is_good, is_same, is_within, known, known_is, lt-ltb, map, nos, option_map, option_map_or, position, position-get, refl, block_sets, standing, sym, table_of, told, true, with}
use Rattle.ls_laws.proofs.Numbered.{nos-increasing}
use Rattle.ls_infer.proofs.Kept.{has-enough}
use Rattle.ls_infer.proofs.Least.{least_with, least_with-first, least_in_order}

-- what is kept of a No forces what the No forces
pub forces-standing : (n : ℕ) (f : List Items) (r : Query) (a : No) → r.q < n → forces r (standing n f a) ≡ is_forced_by_closures n f r a.query
forces-standing n f r a l =
    let closed = closure (full n) f a.query.a in
    ap (λ b. is_within r.a closed && b) (has-enough n f closed a.query.q r.q ∙ ap (λ b. b && has (closure (full n) f (with closed r.q)) a.query.q) (lt-ltb r.q n l))

-- so the numbers of those that force it are the same
forcing-numbers : (n : ℕ) (f : List Items) (r : Query) (ns : List No) → r.q < n
    → map (λ s. s.no.number) (filter (forces r) (map (standing n f) ns)) ≡ map (λ a. a.number) (filter (λ a. is_forced_by_closures n f r a.query) ns)
forcing-numbers n f r [] l = refl
forcing-numbers n f r (a ∷ ns) l =
    let rest = map (λ s. s.no.number) (filter (forces r) (map (standing n f) ns)) in
    ap (λ b. map (λ s. s.no.number) (cond b (standing n f a ∷ filter (forces r) (map (standing n f) ns)) (filter (forces r) (map (standing n f) ns)))) (forces-standing n f r a l)
    ∙ elim (is_forced_by_closures n f r a.query) as (λ b. map (λ s. s.no.number) (cond b (standing n f a ∷ filter (forces r) (map (standing n f) ns)) (filter (forces r) (map (standing n f) ns)))
    ≡ map (λ a. a.number) (cond b (a ∷ filter (λ a. is_forced_by_closures n f r a.query) ns) (filter (λ a. is_forced_by_closures n f r a.query) ns))) [
      | true ↦ ap (λ ms. a.number ∷ ms) (forcing-numbers n f r ns l)
      | false ↦ forcing-numbers n f r ns l
    ]

-- and the least of them
least-standing : (n : ℕ) (f : List Items) (r : Query) (ns : List No) → r.q < n
    → option_map (λ s. s.no.number) (first_least (λ s. s.no.number) (filter (forces r) (map (standing n f) ns)))
    ≡ option_map (λ a. a.number) (first_least (λ a. a.number) (filter (λ a. is_forced_by_closures n f r a.query) ns))
least-standing n f r ns l =
    sym (least_with-first (λ s. s.no.number) (filter (forces r) (map (standing n f) ns)))
    ∙ ap (least_with None) (forcing-numbers n f r ns l)
    ∙ least_with-first (λ a. a.number) (filter (λ a. is_forced_by_closures n f r a.query) ns)

-- the closure that a table keeps
pub closed_of-table : (b : BlockRange) (f : List Items) (ns : List No) (i : ℕ) (a : Items) → position (is_same a) (block_sets b) ≡ Some i → closed_of (table_of b f ns) a ≡ closure (full b.item_count) f a
closed_of-table b f ns i a e = rw (e, get-map (closure (full b.item_count) f) (block_sets b) i a (position-get b.item_count b.largest a i e)) refl

pub closure_in-table : (b : BlockRange) (f : List Items) (ns : List No) (a : Items)
    → option_map_or (λ i. closed_of (table_of b f ns) a) (position (is_same a) (block_sets b)) (closure (full b.item_count) f a) ≡ closure (full b.item_count) f a
closure_in-table b f ns a =
    elim (position (is_same a) (block_sets b)) as (λ o. position (is_same a) (block_sets b) ≡ o → option_map_or (λ i. closed_of (table_of b f ns) a) o (closure (full b.item_count) f a) ≡ closure (full b.item_count) f a) [
      | None ↦ λ _. refl
      | Some i ↦ λ e. closed_of-table b f ns i a e
    ] refl

number_of : (o : Option No) → option_map_or (λ m. Known.No m) (option_map (λ a. a.number) o) Known.Unsettled ≡ option_map_or (λ a. Known.No a.number) o Known.Unsettled
number_of None = refl
number_of (Some a) = refl

-- what is told of the closure of a query's set and the least number is what the table tells
told_is : (t : TableState) (n : ℕ) (f : List Items) (r : Query) (closed : Items) (ns : List No) → is_good t.blocks.item_count r ≡ true → n ≡ t.blocks.item_count
    → t ≡ table_of t.blocks f ns
    → closed ≡ option_map_or (λ j. closed_of t r.a) (position (is_same r.a) (block_sets t.blocks)) (closure (full n) f r.a)
    → cond (has closed r.q) Known.Yes (option_map_or (λ m. Known.No m) (option_map (λ s. s.no.number) (first_least (λ s. s.no.number) (filter (forces r) t.standing))) Known.Unsettled)
    ≡ told t.blocks.item_count f ns r
told_is t n f r closed ns good ne te h =
    let b = t.blocks in
    let closed_is : closed ≡ closure (full b.item_count) f r.a =
    h ∙ ap (λ m. option_map_or (λ j. closed_of t r.a) (position (is_same r.a) (block_sets b)) (closure (full m) f r.a)) ne
    ∙ ap (λ u. option_map_or (λ j. closed_of u r.a) (position (is_same r.a) (block_sets b)) (closure (full b.item_count) f r.a)) te
    ∙ closure_in-table b f ns r.a in
    let number =
    ap (λ u. option_map (λ s. s.no.number) (first_least (λ s. s.no.number) (filter (forces r) u.standing))) te
    ∙ least-standing b.item_count f r ns (good-from b.item_count r good).item in
    ap₂ (λ c m. cond (has c r.q) Known.Yes (option_map_or (λ m. Known.No m) m Known.Unsettled)) closed_is number
    ∙ ap (cond (has (closure (full b.item_count) f r.a) r.q) Known.Yes) (number_of (first_least (λ a. a.number) (filter (λ a. is_forced_by_closures b.item_count f r a.query) ns)))

-- where the closure tells
pub told_yes : (t : TableState) (n : ℕ) (f : List Items) (r : Query) (closed : Items) → is_good t.blocks.item_count r ≡ true → n ≡ t.blocks.item_count
    → closed ≡ option_map_or (λ j. closed_of t r.a) (position (is_same r.a) (block_sets t.blocks)) (closure (full n) f r.a) → has closed r.q ≡ true
    → (ns : List No) → t ≡ table_of t.blocks f ns → Known.Yes ≡ told t.blocks.item_count f ns r
told_yes t n f r closed good ne h here ns te =
    ap (λ b. cond b Known.Yes (option_map_or (λ m. Known.No m) (option_map (λ s. s.no.number) (first_least (λ s. s.no.number) (filter (forces r) t.standing))) Known.Unsettled)) (sym here)
    ∙ told_is t n f r closed ns good ne te h

-- where the closure doesn't tell, the least number does
pub told_number : (t : TableState) (n : ℕ) (f : List Items) (r : Query) (closed : Items) (ss : List StandingNo) (number o : Option ℕ) → is_good t.blocks.item_count r ≡ true → n ≡ t.blocks.item_count
    → closed ≡ option_map_or (λ j. closed_of t r.a) (position (is_same r.a) (block_sets t.blocks)) (closure (full n) f r.a) → has closed r.q ≡ false
    → number ≡ option_map (λ s. s.no.number) (first_least (λ s. s.no.number) (filter (forces r) ss)) → ss ≡ t.standing → number ≡ o
    → (ns : List No) → t ≡ table_of t.blocks f ns → option_map_or (λ m. Known.No m) o Known.Unsettled ≡ told t.blocks.item_count f ns r
told_number t n f r closed ss number o good ne h out least same is ns te =
    ap₂ (λ b m. cond b Known.Yes (option_map_or (λ m. Known.No m) m Known.Unsettled)) (sym out)
    (sym is ∙ least ∙ ap (λ us. option_map (λ s. s.no.number) (first_least (λ s. s.no.number) (filter (forces r) us))) same)
    ∙ told_is t n f r closed ns good ne te h

-- in an interview, that is what is known
known-told : (i : Interview) (r : Query) → IsSound i → IsNumbered i → is_good i.count r ≡ true → told i.count (compatible_sets i) (nos i.answers) r ≡ known i r
known-told i r sound numbered good =
    ap (λ o. cond (has (closure (full i.count) (compatible_sets i) r.a) r.q) Known.Yes (option_map_or (λ a. Known.No a.number) o Known.Unsettled))
    (least_in_order (λ a. is_forced_by_closures i.count (compatible_sets i) r a.query) (nos i.answers) (nos-increasing i.answers numbered.in_order))
    ∙ sym (known_is i r sound good)

pub known_from : (k : Known) (t : TableState) (f : List Items) (r : Query) → ((ns : List No) → t ≡ table_of t.blocks f ns → k ≡ told t.blocks.item_count f ns r) → is_good t.blocks.item_count r ≡ true
    → (i : Interview) → IsSound i → IsNumbered i → i.count ≡ t.blocks.item_count → f ≡ compatible_sets i → t ≡ table_of t.blocks (compatible_sets i) (nos i.answers) → k ≡ known i r
known_from k t f r h good i sound numbered ce fe te =
    h (nos i.answers) (te ∙ ap (λ g. table_of t.blocks g (nos i.answers)) (sym fe))
    ∙ ap₂ (λ m g. told m g (nos i.answers) r) (sym ce) fe
    ∙ known-told i r sound numbered (ap (λ m. is_good m r) ce ∙ good)
