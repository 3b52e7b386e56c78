-- The turns of an assessment that a table answers.
use Rattle.ls_class.proofs.Vocabulary.{◌++◌, ◌-◌, ◌<◌, ◌∙◌, ◌∷◌, ◌≡◌, Bool, Items, List, Replay, Settings, ℕ, [], ap, ap₂, arith, asked, cond, ended, false, filter, has, leader, length, length-append, map, not, refl, replay_from, replies_in, suc, sym, true, true≢false, turn, zero}
use Rattle.ls_theory.specs.declared.reply.Reply.{Reply}
use Rattle.ls_theory.specs.declared.reason.Reason.{Reason}
use Rattle.ls_theory.specs.declared.reason.Reason.TheVariants.{Share, Budget}
use Rattle.ls_theory.specs.declared.asked.Asked.TheVariants.{Item, Over}
use Rattle.ls_laws.proofs.Weights.{over-share, over-budget}
use Rattle.ls_class.proofs.Parts.{map_passing, none_fails, none_passes}

-- once it is over, nothing changes
pub over_stays : (m : ℕ) (s : Settings) (f : List Items) (right : Items) (replies : List Reply) (reason : Reason) → asked s f replies ≡ Over reason → replies_in m s f right replies ≡ replies
unfolding replies_in
over_stays zero s f right replies reason e = refl
over_stays (suc m) s f right replies reason e = ap (λ a. replies_in m s f right (turn right a replies)) e ∙ over_stays m s f right replies reason e

-- a question is answered by the table
pub next_turn : (m : ℕ) (s : Settings) (f : List Items) (right : Items) (replies : List Reply) (q : ℕ) → 0 < m → asked s f replies ≡ Item q → replies_in m s f right replies ≡ replies_in (m - 1) s f right (replies ++ record { q = q; right = has right q } ∷ [])
unfolding replies_in
next_turn zero s f right replies q l e = absurd (omega arith)
next_turn (suc m) s f right replies q l e =
    let one : suc m - 1 ≡ m = omega arith in
    ap (λ a. replies_in m s f right (turn right a replies)) e ∙ ap (λ k. replies_in k s f right (replies ++ record { q = q; right = has right q } ∷ [])) (sym one)

abbrev ending : Settings → List Items → List Reply → Reason → Replay
ending s f replies reason = record { replies = length replies; reason = reason; state = leader s.ratios replies f }

-- it ends for the reason that is told
pub over_ends : (s : Settings) (f : List Items) (replies : List Reply) (reason : Reason) → asked s f replies ≡ Over reason → ended s f replies ≡ record { replies = length replies; reason = reason; state = leader s.ratios replies f }
over_ends s f replies Share e = ap (λ (b : Bool). ending s f replies (cond b Share Budget)) ((over-share s f replies).0 e)
over_ends s f replies Budget e = ap (λ (b : Bool). ending s f replies (cond b Share Budget)) ((over-budget s f replies).0 e).0

-- ---- how the assessments end of all that gave the replies

-- it is the same from the next reply on
pub replay_next : (s : Settings) (f : List Items) (replies : List Reply) (q : ℕ) (right : Items) (b : Bool) → asked s f replies ≡ Item q → length replies < s.budget → has right q ≡ b → replay_from s f (replies ++ record { q = q; right = b } ∷ []) right ≡ replay_from s f replies right
replay_next s f replies q right b e l own =
    let r : Reply = record { q = q; right = b } in
    let count : s.budget - length (replies ++ r ∷ []) ≡ s.budget - length replies - 1 = omega (arith, length-append replies (r ∷ [])) in
    let one = next_turn (s.budget - length replies) s f right replies q (omega arith) e in
    ap (λ m. ended s f (replies_in m s f right (replies ++ r ∷ []))) count
    ∙ ap (λ c. ended s f (replies_in (s.budget - length replies - 1) s f right (replies ++ record { q = q; right = c } ∷ []))) (sym own)
    ∙ ap (ended s f) (sym one)

pub all_right : (s : Settings) (f : List Items) (replies : List Reply) (q : ℕ) (rights : List Items) → asked s f replies ≡ Item q → length replies < s.budget → map (replay_from s f (replies ++ record { q = q; right = true } ∷ [])) (filter (λ k. has k q) rights) ≡ map (replay_from s f replies) (filter (λ k. has k q) rights)
all_right s f replies q rights e l =
    map_passing (λ k. has k q) (replay_from s f (replies ++ record { q = q; right = true } ∷ [])) (replay_from s f replies) rights (λ k t. replay_next s f replies q k true e l t)

not_true : (b : Bool) → not b ≡ true → b ≡ false
not_true true e = absurd (true≢false (sym e))
not_true false e = refl

pub all_wrong : (s : Settings) (f : List Items) (replies : List Reply) (q : ℕ) (rights : List Items) → asked s f replies ≡ Item q → length replies < s.budget → map (replay_from s f (replies ++ record { q = q; right = false } ∷ [])) (filter (λ k. not (has k q)) rights) ≡ map (replay_from s f replies) (filter (λ k. not (has k q)) rights)
all_wrong s f replies q rights e l =
    map_passing (λ k. not (has k q)) (replay_from s f (replies ++ record { q = q; right = false } ∷ [])) (replay_from s f replies) rights (λ k t. replay_next s f replies q k false e l (not_true (has k q) t))

-- where all reply alike
pub only_right : (s : Settings) (f : List Items) (replies : List Reply) (q : ℕ) (rights : List Items) → asked s f replies ≡ Item q → length replies < s.budget → filter (λ k. not (has k q)) rights ≡ [] → map (replay_from s f (replies ++ record { q = q; right = true } ∷ [])) rights ≡ map (replay_from s f replies) rights
only_right s f replies q rights e l none =
    let all = none_fails (λ k. has k q) rights none in
    ap (map (replay_from s f (replies ++ record { q = q; right = true } ∷ []))) (sym all) ∙ all_right s f replies q rights e l ∙ ap (map (replay_from s f replies)) all

pub only_wrong : (s : Settings) (f : List Items) (replies : List Reply) (q : ℕ) (rights : List Items) → asked s f replies ≡ Item q → length replies < s.budget → filter (λ k. has k q) rights ≡ [] → map (replay_from s f (replies ++ record { q = q; right = false } ∷ [])) rights ≡ map (replay_from s f replies) rights
only_wrong s f replies q rights e l none =
    let all = none_passes (λ k. has k q) rights none in
    ap (map (replay_from s f (replies ++ record { q = q; right = false } ∷ []))) (sym all) ∙ all_wrong s f replies q rights e l ∙ ap (map (replay_from s f replies)) all

-- once it is over, it has ended for all of them
pub over_all : (s : Settings) (f : List Items) (replies : List Reply) (reason : Reason) (rights : List Items) → asked s f replies ≡ Over reason → map (λ (k : Items). ended s f replies) rights ≡ map (replay_from s f replies) rights
over_all s f replies reason [] e = refl
over_all s f replies reason (k ∷ rights) e =
    ap₂ (λ y l. y ∷ l) (ap (ended s f) (sym (over_stays (s.budget - length replies) s f k replies reason e))) (over_all s f replies reason rights e)
