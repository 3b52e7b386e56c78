-- What an interview keeps when it takes an answer.
use Rattle.ls_expert.proofs.Vocabulary.{◌+◌, AllByRecursion, Answer, AreStates, BlockRange, Bool, Interview, IsDistinct, IsHeld, IsKeptFor, IsSound, IsStanding, IsTabled, Items, List, No, None, Option, Query, Some, SomeFits, TableRoom, [], accepted, accepted-numbered, and-true, and_from, ap, arith, breaks, cases_Bool, compat, compat-more, compatible-no, compatible-yes, compatible_sets, cond, eqb, false, filter-all, find, first_fault, forced_no_is, forced_yes_unbroken, full, inl, inr, is_forced_by, is_forced_no, is_forced_yes, is_full, is_good, is_same_query, known, left_by, length, length-append, list_all, list_all-append, list_any, ltb, map, most_answers, most_number, nat_tests, no_added, no_queries, nos, not, not-true, not_both, not_first, opposed, option_map, refl, refusal, single_items, some_breaks, spaces_of, standing_number, suc, sym, table_of, true, yes_added, yes_queries, ℕ, ◌&&◌, ◌++◌, ◌<◌, ◌∙◌, ◌∷◌, ◌≡◌, ◌≤◌}
use Rattle.ls_lists.proofs.Bools.{none_common}
use Rattle.ls_theory.specs.declared.known.Known.{Known}
use Rattle.ls_theory.specs.declared.answer_fault.AnswerFault.{AnswerFault}
use Rattle.ls_theory.specs.declared.answer_fault.AnswerFault.TheVariants.{BadQuery, Repeat, Full}
use Rattle.ls_laws.specs.Families.{IsFamily}
use Rattle.ls_laws.proofs.Families.{compat-IsFamily}
use Rattle.ls_standing.proofs.FewerRules.{none_left_out}
use Rattle.ls_expert.proofs.Holding.{kept-as}
use Rattle.ls_expert.specs.Told.{told_before}
use Rattle.ls_standing.proofs.AnswerLists.{yes_queries-yes, yes_queries-no, nos-yes, nos-no}

-- ---- what a refusal that isn't found tells

pub record Passes (i : Interview) (r : Query) (is_yes : Bool) : Type 0 where
  pub good : is_good i.count r ≡ true
  pub unanswered : find (λ a. is_same_query a.query r) i.answers ≡ None
  pub unopposed : opposed (known i r) is_yes ≡ None
  pub room : is_full i ≡ false

passes_room : (b : Bool) → cond b (Some Full) None ≡ None → b ≡ false
passes_room true e = absurd (cc e)
passes_room false e = refl

passes_all : (good : Bool) (number : Option AnswerFault) (against : Option AnswerFault) (full : Bool)
    → first_fault (cond good None (Some BadQuery)) (first_fault number (first_fault against (cond full (Some Full) None))) ≡ None
    → (good ≡ true) × (number ≡ None) × (against ≡ None) × (full ≡ false)
passes_all false number against full e = absurd (cc e)
passes_all true (Some x) against full e = absurd (cc e)
passes_all true None (Some x) full e = absurd (cc e)
passes_all true None None full e = (refl, refl, refl, passes_room full e)

no_number : (o : Option Answer) → option_map Repeat (option_map (λ (a : Answer). a.number) o) ≡ None → o ≡ None
no_number None e = refl
no_number (Some a) e = absurd (cc e)

pub passes-from : (i : Interview) (r : Query) (is_yes : Bool) → refusal i r is_yes ≡ None → Passes i r is_yes
passes-from i r is_yes e =
    let p = passes_all (is_good i.count r) (option_map Repeat (standing_number i r)) (opposed (known i r) is_yes) (is_full i) e in
    record { good = p.0; unanswered = no_number (find (λ a. is_same_query a.query r) i.answers) p.1; unopposed = p.2; room = p.3 }

-- a Yes is not forced No, and a No is not forced Yes
unopposed_yes : (sure never : Bool) (k : ℕ) → (sure ≡ true → never ≡ false) → opposed (cond sure Known.Yes (cond never (Known.No k) Known.Unsettled)) true ≡ None → never ≡ false
unopposed_yes sure false k once e = refl
unopposed_yes true true k once e = once refl
unopposed_yes false true k once e = absurd (cc e)

pub free-yes : (i : Interview) (r : Query) → SomeFits i → opposed (known i r) true ≡ None → is_forced_no (spaces_of i) r ≡ false
unfolding known
free-yes i r fits e =
    let spaces = spaces_of i in
    unopposed_yes (is_forced_yes spaces r) (is_forced_no spaces r) _ (none_common (is_forced_yes spaces r) (is_forced_no spaces r) (not_both i r fits)) e

unopposed_no : (sure : Bool) (other : Known) → opposed (cond sure Known.Yes other) false ≡ None → sure ≡ false
unopposed_no true other e = absurd (cc e)
unopposed_no false other e = refl

pub free-no : (i : Interview) (r : Query) → opposed (known i r) false ≡ None → is_forced_yes (spaces_of i) r ≡ false
unfolding known
free-no i r e = unopposed_no (is_forced_yes (spaces_of i) r) _ e

-- ---- what is told before

-- what is told of a Yes is known
pub known-told : (i : Interview) (r : Query) → Some Known.Yes ≡ told_before i r true → known i r ≡ Known.Yes
known-told i r e = told-yes (eqb (length (nos i.answers)) 0) e
  where
    told-yes : (b : Bool) → Some Known.Yes ≡ cond b None (Some (known i r)) → known i r ≡ Known.Yes
    told-yes true e = absurd (cc e)
    told-yes false e = cc

-- where no No stands, no query is forced No
no-nos : (answers : List Answer) → length (nos answers) ≡ 0 → no_queries answers ≡ []
no-nos [] e = refl
no-nos (a ∷ answers) e = elim (cases_Bool a.yes) [
  | inl y ↦ let rest : length (nos answers) ≡ 0 = rw y at e in rw y (no-nos answers rest)
  | inr n ↦ let some : suc (length (nos answers)) ≡ 0 = rw n at e in absurd (omega (arith, some))
]

not-opposed : (sure never : Bool) (k : ℕ) → never ≡ false → opposed (cond sure Known.Yes (cond never (Known.No k) Known.Unsettled)) true ≡ None
not-opposed true never k e = refl
not-opposed false true k e = absurd (cc e)
not-opposed false false k e = refl

-- and so nothing opposes a Yes
pub yes-unopposed : (i : Interview) (r : Query) → SomeFits i → is_good i.count r ≡ true → length (nos i.answers) ≡ 0 → opposed (known i r) true ≡ None
unfolding known
yes-unopposed i r fits good none =
    not-opposed (is_forced_yes (spaces_of i) r) (is_forced_no (spaces_of i) r) _
    (forced_no_is i r fits good ∙ ap (list_any (is_forced_by (compatible_sets i) r)) (no-nos i.answers none))

-- the answers that are Yes, and the Nos
both_parts : (answers : List Answer) → length (yes_queries answers) + length (nos answers) ≡ length answers
both_parts [] = refl
both_parts (a ∷ answers) = elim (cases_Bool a.yes) [
  | inl y ↦ rw y (let p = both_parts answers in omega (arith, p))
  | inr n ↦ rw n (let p = both_parts answers in omega (arith, p))
]

-- a No stands just where fewer answers are Yes than stand
pub some-no : (answers : List Answer) → ltb (length (yes_queries answers)) (length answers) ≡ not (eqb (length (nos answers)) 0)
some-no answers = fewer (length (yes_queries answers)) (length (nos answers)) (length answers) (both_parts answers)
  where
    fewer : (a b c : ℕ) → a + b ≡ c → ltb a c ≡ not (eqb b 0)
    fewer a b c e = grind (arith, nat_tests)

pub none-no : (answers : List Answer) → not (eqb (length (nos answers)) 0) ≡ false → length (nos answers) ≡ 0
none-no answers e = grind (arith, nat_tests)

-- ---- what is kept

all-last : (q : Answer → Bool) (answers : List Answer) (a : Answer) → list_all q answers ≡ true → q a ≡ true → list_all q (answers ++ a ∷ []) ≡ true
all-last q answers a h e = list_all-append q answers (a ∷ []) ∙ and_from (list_all q answers) (q a && true) h (and-true (q a) ∙ e)

-- an image that is another than each of some, with one more
others-last : {X Y : Type 0} (same : Y → Y → Bool) (g : X → Y) (xs : List X) (x : X) (z : Y) → AllByRecursion (λ y. same z y ≡ false) (map g xs) → same z (g x) ≡ false → AllByRecursion (λ y. same z y ≡ false) (map g (xs ++ x ∷ []))
others-last same g [] x z h e = (e, tt)
others-last same g (y ∷ xs) x z h e = (h.0, others-last same g xs x z h.1 e)

-- one more image is distinct too, where none is the same
pub distinct-last : {X Y : Type 0} (same : Y → Y → Bool) (g : X → Y) (xs : List X) (x : X) → IsDistinct same (map g xs) → find (λ y. same (g y) (g x)) xs ≡ None → IsDistinct same (map g (xs ++ x ∷ []))
unfolding IsDistinct
distinct-last same g [] x d e = (tt, tt)
distinct-last same g (y ∷ xs) x d e =
    let parts = not_first (same (g y) (g x)) y (find (λ y. same (g y) (g x)) xs) e in
    (others-last same g xs x (g y) d.0 parts.0, distinct-last same g xs x d.1 parts.1)

-- there is room for one more answer and its number
room_left : (i : Interview) → is_full i ≡ false → (length i.answers < most_answers) × (i.next ≤ most_number)
room_left i e = grind (arith, nat_tests)

-- an answer is taken
taken : (i : Interview) (r : Query) (is_yes : Bool) → IsStanding i → Passes i r is_yes → IsSound (accepted i r is_yes) → IsStanding (accepted i r is_yes)
taken i r is_yes h p sound =
    let a : Answer = record { number = i.next; query = r; yes = is_yes } in
    let room = room_left i p.room in
    record {
      sound = sound;
      good = all-last (λ a. is_good i.count a.query) i.answers a h.good p.good;
      distinct = distinct-last is_same_query (λ a. a.query) i.answers a h.distinct p.unanswered;
      numbered = accepted-numbered i r is_yes h.numbered;
      few_answers = let l = length-append i.answers (a ∷ []) in omega (arith, room.0);
      some_number = omega arith;
      numbers_left = omega (arith, room.1);
    }

pub standing-taken : (i : Interview) (r : Query) (is_yes : Bool) → IsStanding i → refusal i r is_yes ≡ None → IsStanding (accepted i r is_yes)
standing-taken i r true h e = let p = passes-from i r true e in taken i r true h p (yes_added i r h.sound p.good (free-yes i r h.sound.some_fits p.unopposed))
standing-taken i r false h e = let p = passes-from i r false e in taken i r false h p (no_added i r h.sound p.good (free-no i r p.unopposed))

module _ (i : Interview) (r : Query) (rules : List Query) (t new : TableRoom) (h : IsHeld i rules t) where
  pub held-yes : (after : List Query) → refusal i r true ≡ None → after ≡ rules ++ r ∷ [] → IsTabled (accepted i r true) new → IsHeld (accepted i r true) after new
  held-yes after e ruled tabled = record {
    some_items = h.some_items;
    few_items = h.few_items;
    ruled = ruled ∙ ap (λ l. l ++ r ∷ []) h.ruled ∙ sym (yes_queries-yes i r);
    tabled = tabled;
    standing = standing-taken i r true h.standing e;
  }

  pub held-no : refusal i r false ≡ None → IsTabled (accepted i r false) new → IsHeld (accepted i r false) rules new
  held-no e tabled = record {
    some_items = h.some_items;
    few_items = h.few_items;
    ruled = h.ruled ∙ sym (yes_queries-no i r);
    tabled = tabled;
    standing = standing-taken i r false h.standing e;
  }

-- ---- tables

module _ (i : Interview) (r : Query) (old new : TableRoom) (f : List Items) (h : IsTabled i old) where
  -- the table after a No
  pub tabled-no : f ≡ compatible_sets i → ((b : BlockRange) (ns : List No) → AreStates f old.witnesses → old.table ≡ table_of b f ns → new.table ≡ table_of b f (ns ++ record { number = i.next; query = r } ∷ []))
      → (AreStates f old.witnesses → AreStates f new.witnesses) → IsTabled (accepted i r false) new
  tabled-no family kept states =
      let own = kept-as (single_items i.count) _ f _ _ old (sym family) refl h in
      kept-as (single_items i.count) f _ _ _ new (family ∙ sym (compatible-no i r)) (sym (nos-no i r)) (record { table = kept (single_items i.count) (nos i.answers) own.states own.table; states = states own.states })

  -- the table after a Yes
  pub tabled-yes : f ≡ compat i.count i.start (yes_queries i.answers ++ r ∷ [])
      → ((b : BlockRange) (before : List Items) (ns : List No) → IsFamily b.item_count before → f ≡ left_by r before → IsKeptFor b before ns old → IsKeptFor b f ns new) → IsTabled (accepted i r true) new
  tabled-yes family kept =
      let left = family ∙ compat-more i.count i.start (yes_queries i.answers) r in
      kept-as (single_items i.count) f _ _ _ new (left ∙ sym (compatible-yes i r)) (sym (nos-yes i r))
      (kept (single_items i.count) (compatible_sets i) (nos i.answers) (compat-IsFamily i.count i.start (yes_queries i.answers)) left h)

-- a Yes that the others force leaves the compatible sets
forced_yes : (sure never : Bool) (k : ℕ) → cond sure Known.Yes (cond never (Known.No k) Known.Unsettled) ≡ Known.Yes → sure ≡ true
forced_yes true never k e = refl
forced_yes false true k e = absurd (cc e)
forced_yes false false k e = absurd (cc e)

forced-left : (i : Interview) (r : Query) → SomeFits i → known i r ≡ Known.Yes → left_by r (compatible_sets i) ≡ compatible_sets i
unfolding known
forced-left i r fits e =
    let sure = forced_yes (is_forced_yes (spaces_of i) r) (is_forced_no (spaces_of i) r) _ e in
    let none : some_breaks (compatible_sets i) r ≡ false = not-true (some_breaks (compatible_sets i) r) (sym (forced_yes_unbroken i r fits) ∙ sure) in
    filter-all (λ k. not (breaks k r)) (compatible_sets i) (none_left_out (compatible_sets i) r none)

-- and so the table
pub tabled-forced : (i : Interview) (r : Query) (t : TableRoom) → SomeFits i → known i r ≡ Known.Yes → IsTabled i t → IsTabled (accepted i r true) t
tabled-forced i r t fits e = kept-as (single_items i.count) _ _ _ _ t (sym (compatible-yes i r ∙ forced-left i r fits e)) (sym (nos-yes i r))
