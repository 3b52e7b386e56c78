-- Steps of passes and turns, as code makes them.
use Rattle.std.proofs.Common.{ℕ, ◌+◌, ◌<◌, ◌≤◌, ◌≡◌, true, false, cond, List, [], ◌∷◌, ◌++◌}
use Rattle.std.proofs.Common.{take, drop, get_or, length, None, Some, refl, sym, ap, ◌∙◌}
use Rattle.std.proofs.Common.{subst, arith, get_or-set_same}
use Rattle.std.specs.Prelude.{slice_set}
use Rattle.std.specs.List.{list_all}
use Rattle.std.proofs.lemmas.Bool.{and_from, and_parts}
use Rattle.std.proofs.lemmas.List.{length-set, take-set, take_all}
use Rattle.ls_set.specs.ItemSet.{Items, full}
use Rattle.ls_set.specs.Query.{is_good}
use Rattle.ls_set.specs.declared.query.Query.{Query}
use Rattle.ls_theory.specs.Verdict.{is_learning_space}
use Rattle.ls_base.specs.Bases.{BaseState, family}
use Rattle.ls_origins.specs.Safe.{all_tried, coming, is_safe, marked_settled, trial, tried, waiting}
use Rattle.ls_origins.specs.declared.safe_answer.SafeAnswer.{SafeAnswer}
use Rattle.ls_origins.specs.declared.safe_fault.SafeFault.{SafeFault}
use Rattle.ls_safe.specs.Turns.{is_over, unmarked}
use Rattle.ls_safe.specs.Interviews.{AreWitnesses, IsBegun, IsEnd, IsOnWay, IsPassOf}
use Rattle.ls_safe.specs.Interviews.{IsSafeFaultOf}
use Rattle.ls_safe.specs.Interviews.{IsTrialOf, IsWitness, marks_of, past_fault, queries_of}
use Rattle.ls_safe.proofs.GoneOver.{applied_now, fault-longer, over-applied, over-last, over-more}
use Rattle.ls_safe.proofs.GoneOver.{good-at, over-tried, parted, pass-some, pass-trials}
use Rattle.ls_safe.proofs.GoneOver.{replaced, same_at}
use Rattle.ls_safe.proofs.OnWay.{way-begins, way-fewer, way-next, way-past}
use Rattle.ls_safe.proofs.Witnesses.{as_many, witness-at, witnesses-mark, witnesses-more}
use Rattle.ls_safe.proofs.Witnesses.{witnesses-set, witnesses-stay}

-- ---- the first answer that waits is tried, where those before it were gone over

pub step-way : (b t : BaseState) (answers before : List SafeAnswer) (a : SafeAnswer)
    (rest : List SafeAnswer) → IsOnWay b answers b (before ++ a ∷ rest) → a.applied ≡ false
    → list_all (is_over b.item_count (family b)) before ≡ true → IsTrialOf b a.query t
    → past_fault (trial a.query (family b) ∷ []) ≡ None
    → IsOnWay b answers t (before ++ applied_now a ∷ rest)
    × (length (waiting (before ++ applied_now a ∷ rest)) < length (waiting (before ++ a ∷ rest)))
step-way b t answers before a rest w off over i few =
    let n = b.item_count in
    let f = family b in
    let m = pass-some b t before a rest off over i in (
      way-next b b t answers (before ++ a ∷ rest) (before ++ applied_now a ∷ rest) w m
          (pass-trials n f before a rest off over
          ∙ ap (λ s. past_fault (trial a.query f ∷ cond s [] (tried n f (waiting rest)))) i.can
          ∙ few),
      way-fewer b b t answers (before ++ a ∷ rest) (before ++ applied_now a ∷ rest) w m,
    )

pub step-past : (b : BaseState) (answers before : List SafeAnswer) (a : SafeAnswer)
    (rest : List SafeAnswer) (e : SafeFault) → IsOnWay b answers b (before ++ a ∷ rest)
    → a.applied ≡ false → list_all (is_over b.item_count (family b)) before ≡ true
    → IsSafeFaultOf (past_fault (trial a.query (family b) ∷ [])) e
    → IsSafeFaultOf (past_fault (all_tried b.item_count (unmarked (marks_of b answers)))) e
step-past b answers before a rest e w off over h =
    let n = b.item_count in
    let f = family b in
    way-past b b answers (before ++ a ∷ rest) e w
    (subst (λ o. IsSafeFaultOf o e) (sym (pass-trials n f before a rest off over))
    (fault-longer (trial a.query f ∷ [])
    (cond (is_safe n f a.query) [] (tried n f (waiting rest))) e h))

-- the answers at the place, with the mark
marked-place : (now : List SafeAnswer) (place : ℕ) (a m : SafeAnswer) → place < length now
    → a ≡ get_or now place a → m ≡ get_or now place m
    → slice_set now place (applied_now m)
    ≡ take place now ++ applied_now a ∷ drop (place + 1) now
marked-place now place a m less at there =
    replaced now place (applied_now m) less
    ∙ ap (λ x. take place now ++ applied_now x ∷ drop (place + 1) now)
    (same_at now place a m less at there)

pub step-at : (b t : BaseState) (answers now : List SafeAnswer) (place : ℕ) (a m : SafeAnswer)
    → IsOnWay b answers b now → place < length now → a ≡ get_or now place a
    → m ≡ get_or now place m → a.applied ≡ false
    → list_all (is_over b.item_count (family b)) (take place now) ≡ true
    → IsTrialOf b a.query t → past_fault (trial a.query (family b) ∷ []) ≡ None
    → IsOnWay b answers t (slice_set now place (applied_now m))
    × (length (waiting (slice_set now place (applied_now m))) < length (waiting now))
step-at b t answers now place a m w less at there off over i few =
    let before = take place now in
    let rest = drop (place + 1) now in
    let listed = parted now place a less at in
    let after = marked-place now place a m less at there in
    let s =
    step-way b t answers before a rest (subst (IsOnWay b answers b) listed w) off over i few in (
      subst (IsOnWay b answers t) (sym after) s.0,
      subst (λ l. length (waiting l) < length (waiting now)) (sym after)
          (subst (λ l. length (waiting (before ++ applied_now a ∷ rest)) < length (waiting l))
          (sym listed) s.1),
    )

-- ---- a pass, which begins with the answers `old`

-- on its way: what is left of the turn comes to the same, those before the place were gone over,
-- and each answer that waits has a witness
pub record IsGoing (b : BaseState) (old now : List SafeAnswer) (ks : List Items) (place : ℕ)
    : Type 0 where
  pub way : IsOnWay b old b now
  pub over : list_all (is_over b.item_count (family b)) (take place now) ≡ true
  pub witnesses : AreWitnesses b.item_count (family b) now ks
  pub long : length now ≡ length old
  pub fewer : length (waiting now) ≤ length (waiting old)

pub going-begins : (b : BaseState) (old : List SafeAnswer) (ks : List Items)
    → is_learning_space (full b.item_count) (family b) ≡ true
    → list_all (is_good b.item_count) (queries_of old) ≡ true
    → AreWitnesses b.item_count (family b) old ks → IsGoing b old old ks 0
going-begins b old ks learning good w = record {
  way = way-begins b old learning good;
  over = refl;
  witnesses = w;
  long = refl;
  fewer = omega arith;
}

going-less : (b : BaseState) (old now : List SafeAnswer) (ks : List Items) (place : ℕ)
    → IsGoing b old now ks place → place < length old → place < length now
going-less b old now ks place g less = subst (λ m. place < m) (sym g.long) less

pub going-many : (b : BaseState) (old now : List SafeAnswer) (ks : List Items) (place : ℕ)
    → IsGoing b old now ks place → length ks ≡ length old
going-many b old now ks place g = as_many b.item_count (family b) now ks g.witnesses ∙ g.long

pub going-good : (b : BaseState) (old now : List SafeAnswer) (ks : List Items) (place : ℕ)
    (a : SafeAnswer) → IsGoing b old now ks place → place < length old → a ≡ get_or now place a
    → is_good b.item_count a.query ≡ true
going-good b old now ks place a g less at =
    good-at b.item_count now place a (going-less b old now ks place g less) at g.way.good

pub going-witness : (b : BaseState) (old now : List SafeAnswer) (ks : List Items) (place : ℕ)
    (a : SafeAnswer) (k : Items) → IsGoing b old now ks place → place < length old
    → a ≡ get_or now place a → k ≡ get_or ks place k → a.applied ≡ false
    → IsWitness b.item_count (family b) a.query k
going-witness b old now ks place a k g less at there off =
    witness-at b.item_count (family b) now ks place a k g.witnesses
    (going-less b old now ks place g less) at there off

pub going-over : (b : BaseState) (old now : List SafeAnswer) (ks : List Items) (place : ℕ)
    (a : SafeAnswer) → IsGoing b old now ks place → place < length old → a ≡ get_or now place a
    → is_over b.item_count (family b) a ≡ true → IsGoing b old now ks (place + 1)
going-over b old now ks place a g less at h = record {
  way = g.way;
  over =
      over-more b.item_count (family b) now place a
      (going-less b old now ks place g less) at g.over h;
  witnesses = g.witnesses;
  long = g.long;
  fewer = g.fewer;
}

pub going-waits : (b : BaseState) (old now : List SafeAnswer) (ks : List Items) (place : ℕ)
    (a : SafeAnswer) (k : Items) → IsGoing b old now ks place → place < length old
    → a ≡ get_or now place a
    → IsWitness b.item_count (family b) a.query k
    × (is_safe b.item_count (family b) a.query ≡ false)
    → past_fault (trial a.query (family b) ∷ []) ≡ None
    → IsGoing b old now (slice_set ks place k) (place + 1)
going-waits b old now ks place a k g less at w few =
    let n = b.item_count in
    let f = family b in
    let here = going-less b old now ks place g less in
    record {
      way = g.way;
      over = over-more n f now place a here at g.over (over-tried n f a w.1 few);
      witnesses = witnesses-set n f now ks place a k g.witnesses here at w.0;
      long = g.long;
      fewer = g.fewer;
    }

pub going-same : (b : BaseState) (old now : List SafeAnswer) (ks : List Items) (place : ℕ)
    (a m : SafeAnswer) → IsGoing b old now ks place → place < length old → a ≡ get_or now place a
    → m ≡ get_or now place m → a.applied ≡ false → IsTrialOf b a.query b
    → past_fault (trial a.query (family b) ∷ []) ≡ None
    → IsGoing b old (slice_set now place (applied_now m)) ks (place + 1)
going-same b old now ks place a m g less at there off i few =
    let n = b.item_count in
    let f = family b in
    let here = going-less b old now ks place g less in
    let mark = applied_now m in
    let after = slice_set now place mark in
    let same = length-set now place mark in
    let s = step-at b b old now place a m g.way here at there off g.over i few in
    record {
      way = s.0;
      over =
          over-more n f after place mark (omega arith)
          (sym (get_or-set_same now place mark mark here))
          (ap (list_all (is_over n f)) (take-set now place mark) ∙ g.over)
          (over-applied n f mark refl);
      witnesses = witnesses-mark n f now ks place mark g.witnesses refl;
      long = same ∙ g.long;
      fewer = (let le = g.fewer in let lt = s.1 in omega arith);
    }

pub going-left : (b t : BaseState) (old now : List SafeAnswer) (ks : List Items) (place : ℕ)
    (a m : SafeAnswer) → IsGoing b old now ks place → place < length old → a ≡ get_or now place a
    → m ≡ get_or now place m → a.applied ≡ false → IsTrialOf b a.query t
    → past_fault (trial a.query (family b) ∷ []) ≡ None
    → IsPassOf b old (slice_set now place (applied_now m)) ks (Some t)
going-left b t old now ks place a m g less at there off i few =
    let n = b.item_count in
    let f = family b in
    let here = going-less b old now ks place g less in
    let mark = applied_now m in
    let after = slice_set now place mark in
    let s = step-at b t old now place a m g.way here at there off g.over i few in (
      s.0,
      subst (λ h. AreWitnesses n h after ks) (sym i.left)
          (witnesses-stay n f a.query after ks
          (witnesses-mark n f now ks place mark g.witnesses refl)),
      (let le = g.fewer in let lt = s.1 in omega arith),
    )

pub going-past : (b : BaseState) (old now : List SafeAnswer) (ks : List Items) (place : ℕ)
    (a : SafeAnswer) (e : SafeFault) → IsGoing b old now ks place → place < length old
    → a ≡ get_or now place a → a.applied ≡ false
    → IsSafeFaultOf (past_fault (trial a.query (family b) ∷ [])) e
    → IsSafeFaultOf (past_fault (all_tried b.item_count (unmarked (marks_of b old)))) e
going-past b old now ks place a e g less at off h =
    let here = going-less b old now ks place g less in
    step-past b old (take place now) a (drop (place + 1) now) e
    (subst (IsOnWay b old b) (parted now place a here at) g.way) off g.over h

pub going-ends : (b : BaseState) (old now : List SafeAnswer) (ks : List Items) (place : ℕ)
    → IsGoing b old now ks place → length old ≤ place → IsPassOf b old now ks None
going-ends b old now ks place g all =
    let past : length now ≤ place = subst (λ m. m ≤ place) (sym g.long) all in
    record {
      way = g.way;
      over =
          ap (list_all (is_over b.item_count (family b))) (sym (take_all place now past))
          ∙ g.over;
      witnesses = g.witnesses;
    }

-- ---- a turn

pub way-on : (b u t : BaseState) (answers now after : List SafeAnswer) → IsOnWay b answers u now
    → IsOnWay u now t after → IsOnWay b answers t after
way-on b u t answers now after w v =
    let same = w.learned.items in
    record {
      learned = record {
        items = v.learned.items ∙ same;
        learning =
            subst (λ m. is_learning_space (full m) (family t) ≡ true) same v.learned.learning;
      };
      good = subst (λ m. list_all (is_good m) (queries_of after) ≡ true) same v.good;
      marks =
          w.marks
          ∙ subst (λ m. marked_settled m (marks_of u now) ≡ marked_settled m (marks_of t after))
          same v.marks;
      past =
          w.past
          ∙ subst (λ m. past_fault (all_tried m (unmarked (marks_of u now)))
          ≡ past_fault (all_tried m (unmarked (marks_of t after)))) same v.past;
    }

pub fault-on : (b u : BaseState) (answers now : List SafeAnswer) (e : SafeFault)
    → IsOnWay b answers u now
    → IsSafeFaultOf (past_fault (all_tried u.item_count (unmarked (marks_of u now)))) e
    → IsSafeFaultOf (past_fault (all_tried b.item_count (unmarked (marks_of b answers)))) e
fault-on b u answers now e w h =
    subst (λ o. IsSafeFaultOf o e) (sym w.past)
    (subst (λ m. IsSafeFaultOf (past_fault (all_tried m (unmarked (marks_of u now)))) e)
    w.learned.items h)

pub end-on : (b u t : BaseState) (answers now after : List SafeAnswer) (ks : List Items)
    → IsOnWay b answers u now → IsEnd u now t after ks → IsEnd b answers t after ks
end-on b u t answers now after ks w e =
    let same = w.learned.items in
    record {
      way = way-on b u t answers now after w e.way;
      over = subst (λ m. list_all (is_over m (family t)) after ≡ true) same e.over;
      witnesses = subst (λ m. AreWitnesses m (family t) after ks) same e.witnesses;
    }

pub good-more : (n : ℕ) (answers : List SafeAnswer) (a : SafeAnswer)
    → list_all (is_good n) (queries_of answers) ≡ true → is_good n a.query ≡ true
    → list_all (is_good n) (queries_of (answers ++ a ∷ [])) ≡ true
good-more n [] a all good = and_from (is_good n a.query) true good refl
good-more n (x ∷ answers) a all good =
    let b = and_parts (is_good n x.query) (list_all (is_good n) (queries_of answers)) all in
    and_from (is_good n x.query) (list_all (is_good n) (queries_of (answers ++ a ∷ []))) b.0
    (good-more n answers a b.1 good)

turn-begins : (b : BaseState) (answers : List SafeAnswer) (ks : List Items) (q : Query)
    → IsBegun b answers ks q
    → IsOnWay b (answers ++ coming answers q ∷ []) b (answers ++ coming answers q ∷ [])
turn-begins b answers ks q i =
    way-begins b (answers ++ coming answers q ∷ []) i.learning
    (good-more b.item_count answers (coming answers q) i.good i.query)

pub turn-waits : (b : BaseState) (answers : List SafeAnswer) (ks : List Items) (q : Query)
    (k : Items) → IsBegun b answers ks q
    → IsWitness b.item_count (family b) q k × (is_safe b.item_count (family b) q ≡ false)
    → past_fault (trial q (family b) ∷ []) ≡ None
    → IsEnd b (answers ++ coming answers q ∷ []) b (answers ++ coming answers q ∷ [])
    (ks ++ k ∷ [])
turn-waits b answers ks q k i w few =
    let n = b.item_count in
    let f = family b in
    let a = coming answers q in
    record {
      way = turn-begins b answers ks q i;
      over = over-last n f answers a i.over (over-tried n f a w.1 few);
      witnesses = witnesses-more n f answers ks a k i.witnesses (λ _. w.0);
    }

pub turn-left : (b t : BaseState) (answers : List SafeAnswer) (ks : List Items) (q : Query)
    (k : Items) → IsBegun b answers ks q → IsTrialOf b q t
    → past_fault (trial q (family b) ∷ []) ≡ None
    → IsOnWay b (answers ++ coming answers q ∷ []) t
    (answers ++ applied_now (coming answers q) ∷ [])
    × AreWitnesses t.item_count (family t) (answers ++ applied_now (coming answers q) ∷ [])
    (ks ++ k ∷ [])
turn-left b t answers ks q k i made few =
    let n = b.item_count in
    let f = family b in
    let a = coming answers q in
    let more = answers ++ applied_now a ∷ [] in
    let s =
    step-way b t (answers ++ a ∷ []) answers a [] (turn-begins b answers ks q i) refl i.over made
    few in (
      s.0,
      subst (λ m. AreWitnesses m (family t) more (ks ++ k ∷ [])) (sym made.items)
          (subst (λ h. AreWitnesses n h more (ks ++ k ∷ [])) (sym made.left)
          (witnesses-stay n f q more (ks ++ k ∷ [])
          (witnesses-more n f answers ks (applied_now a) k i.witnesses (λ off. absurd (cc off))))),
    )

pub turn-same : (b : BaseState) (answers : List SafeAnswer) (ks : List Items) (q : Query)
    (k : Items) → IsBegun b answers ks q → IsTrialOf b q b
    → past_fault (trial q (family b) ∷ []) ≡ None
    → IsEnd b (answers ++ coming answers q ∷ []) b
    (answers ++ applied_now (coming answers q) ∷ []) (ks ++ k ∷ [])
turn-same b answers ks q k i made few =
    let n = b.item_count in
    let f = family b in
    let a = applied_now (coming answers q) in
    let s = turn-left b b answers ks q k i made few in
    record {
      way = s.0;
      over = over-last n f answers a i.over (over-applied n f a refl);
      witnesses = s.1;
    }

pub turn-past : (b : BaseState) (answers : List SafeAnswer) (ks : List Items) (q : Query)
    (e : SafeFault) → IsBegun b answers ks q
    → IsSafeFaultOf (past_fault (trial q (family b) ∷ [])) e
    → IsSafeFaultOf (past_fault (all_tried b.item_count
    (unmarked (marks_of b (answers ++ coming answers q ∷ []))))) e
turn-past b answers ks q e i h =
    step-past b (answers ++ coming answers q ∷ []) answers (coming answers q) [] e
    (turn-begins b answers ks q i) refl i.over h
