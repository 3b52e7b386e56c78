-- The turns of a drill, one after another, and what they keep.
use Rattle.ls_drill.proofs.Vocabulary.{◌*◌, ◌+◌, ◌-◌, ◌<◌, ◌∙◌, ◌≡◌, ◌≤◌, All-append, All-filter, All-map, AllByRecursion, Answer, Free, Interview, IsDrill, None, Query, Some, ℕ, accepted, after_turn, after_turns, ap, arith, begun, drilled, filter, good-from, has-full, is_good, least, len, length, length-append, next_question, option_map_or, queries-in, refl, reply, subst, suc, sym, true, yes_queries, zero}
use Rattle.ls_set.proofs.Listed.{least-is}
use Rattle.ls_query.proofs.BlockSets.{blocks-in}
use Rattle.ls_drill.proofs.Asking.{question-in}

pub turn-some : (number : ℕ) (i : Interview) (r : Query) → next_question i None ≡ Some r → after_turn number i ≡ accepted i r (reply i.count number r)
unfolding after_turn
turn-some number i r e = ap (λ o. option_map_or (λ r. accepted i r (reply i.count number r)) o i) e

pub turn-none : (number : ℕ) (i : Interview) → next_question i None ≡ None → after_turn number i ≡ i
unfolding after_turn
turn-none number i e = ap (λ o. option_map_or (λ r. accepted i r (reply i.count number r)) o i) e

pub turns-none : (number turns : ℕ) (i : Interview) → next_question i None ≡ None → after_turns number turns i ≡ i
unfolding after_turns
turns-none number zero i e = refl
turns-none number (suc turns) i e = ap (after_turns number turns) (turn-none number i e) ∙ turns-none number turns i e

pub turns-more : (number turns k : ℕ) (i : Interview) → k < turns → after_turns number (turns - k) i ≡ after_turns number (turns - (k + 1)) (after_turn number i)
unfolding after_turns
turns-more number turns k i lt =
    let e : turns - k ≡ suc (turns - (k + 1)) = omega arith in
    ap (λ m. after_turns number m i) e

-- ---- what the turns keep

question-single : (i : Interview) (r : Query) → i.block ≡ 1 → next_question i None ≡ Some r → len r.a ≡ 1
question-single i r e q =
    let b = blocks-in i.count i.block r.a (queries-in i.count i.block r (question-in i r q)).1 in
    let some' : 0 < len r.a = b.some in
    let few' : len r.a ≤ i.block = b.few in
    omega arith

pub drill-turn : (n number : ℕ) (i : Interview) → IsDrill n i → IsDrill n (after_turn number i)
drill-turn n number i d =
    elim (next_question i None) as (λ o. next_question i None ≡ o → IsDrill n (after_turn number i)) [
      | None ↦ λ e. subst (IsDrill n) (sym (turn-none number i e)) d
      | Some r ↦ λ e. subst (IsDrill n) (sym (turn-some number i r e)) (record {
        items = d.items;
        start = d.start;
        block = d.block;
        single = All-append (λ (a : Answer). len a.query.a ≡ 1) i.answers _ d.single (question-single i r d.block e, tt);
      })
    ] refl

begun_drill : (n : ℕ) → IsDrill n (begun n Free)
begun_drill n = record { items = refl; start = refl; block = refl; single = tt }

drill-turns : (n number turns : ℕ) (i : Interview) → IsDrill n i → IsDrill n (after_turns number turns i)
unfolding after_turns
drill-turns n number zero i d = d
drill-turns n number (suc turns) i d = drill-turns n number turns (after_turn number i) (drill-turn n number i d)

pub drilled-is : (n number : ℕ) → IsDrill n (drilled n number)
unfolding drilled
drilled-is n number = drill-turns n number (n * n) (begun n Free) (begun_drill n)

-- the Yes queries among them have one item each
pub single-yeses : (n : ℕ) (i : Interview) → IsDrill n i → AllByRecursion (λ (r : Query). len r.a ≡ 1) (yes_queries i.answers)
single-yeses n i d = All-map (λ (r : Query). len r.a ≡ 1) (λ (a : Answer). a.query) (filter (λ a. a.yes) i.answers) (All-filter (λ (a : Answer). len a.query.a ≡ 1) (λ a. a.yes) i.answers d.single)

-- ---- so many turns were taken

-- k turns were taken, and those that are left give the drill
pub record IsAtTurn (n number k : ℕ) (i : Interview) : Type 0 where
  pub drill : IsDrill n i
  pub few : length i.answers ≤ k
  pub numbered : i.next ≤ k + 1
  pub turns : after_turns number (n * n - k) i ≡ drilled n number

pub first_turn : (n number : ℕ) → IsAtTurn n number 0 (begun n Free)
unfolding drilled
first_turn n number = record {
  drill = begun_drill n;
  few = omega arith;
  numbered = omega arith;
  turns = let e : n * n - 0 ≡ n * n = omega arith in ap (λ m. after_turns number m (begun n Free)) e;
}

pub next_turn : (n number k : ℕ) (i : Interview) (r : Query) → IsAtTurn n number k i → k < n * n → next_question i None ≡ Some r → IsAtTurn n number (k + 1) (accepted i r (reply n number r))
next_turn n number k i r h lt e =
    let y = reply n number r in
    let more : length (accepted i r y).answers ≡ length i.answers + 1 = length-append i.answers _ in
    let turned : after_turn number i ≡ accepted i r y = turn-some number i r e ∙ ap (λ m. accepted i r (reply m number r)) h.drill.items in
    record {
      drill = subst (IsDrill n) turned (drill-turn n number i h.drill);
      few = omega arith;
      numbered = omega arith;
      turns = ap (after_turns number (n * n - (k + 1))) (sym turned) ∙ sym (turns-more number (n * n) k i lt) ∙ h.turns;
    }

-- where no query is open, or all turns were taken, that is the drill
pub settled_turn : (n number k : ℕ) (i : Interview) → IsAtTurn n number k i → next_question i None ≡ None → i ≡ drilled n number
settled_turn n number k i h e = sym (turns-none number (n * n - k) i e) ∙ h.turns

pub last_turn : (n number k : ℕ) (i : Interview) → IsAtTurn n number k i → n * n ≤ k → i ≡ drilled n number
unfolding after_turns
last_turn n number k i h le = let e : 0 ≡ n * n - k = omega arith in ap (λ m. after_turns number m i) e ∙ h.turns

-- ---- the reply

-- the least item of A is one of the items
pub least-small : (n : ℕ) (r : Query) (a : ℕ) → is_good n r ≡ true → least r.a ≡ Some a → a < n
least-small n r a good e =
    let g = good-from n r good in
    let h = sym (has-full n a) ∙ g.small a ((least-is r.a a).0 e).0 in
    grind arith
