-- What is kept after one more reply.
use Rattle.ls_weight.proofs.Light.{light-total}
use Rattle.ls_weight.proofs.Vocabulary.{◌*◌, ◌++◌, ◌+◌, ◌-◌, ◌<◌, ◌^◌, ◌∙◌, ◌∷◌, ◌≡◌, ◌≤◌, IsFirstMaxByKey, AreKeptSums, KeptSums, List, Ratio, Reply, Weighing, ℕ, [], agreeing_with, agrees, ap, ap₂, arith, cond, get_or, get_or_default, is_ratio, length, length-append, map, mass, nat_tests, ratio_for, state_at, subst, total, true, weight}
use Rattle.ls_weight.proofs.Kept.{kept-long, mass-le}
use Rattle.ls_weight.proofs.After.{after-total, after-mass, after-weights, first-stays, items-more}

-- the reply is on an item, and there are fewer before than the budget; the ratio is its own
pub record IsNext (w : Weighing) (r : Reply) (ratio : Ratio) : Type 0 where
  pub item : r.q < length w.settings.ratios
  pub budget : length w.replies < w.settings.budget
  pub own : ratio ≡ ratio_for w.settings.ratios r
  pub range : is_ratio ratio ≡ true

-- with the reply
abbrev pub replied : Weighing → Reply → Weighing
replied w r = record w { replies = w.replies ++ (r ∷ []) }

order : (w : Weighing) (r : Reply) (ratio : Ratio) → IsNext w r ratio → (1 ≤ ratio.b) × (ratio.b ≤ ratio.a)
order w r ratio next = let e = next.range in grind (arith, nat_tests)

pub next-bound : (n : ℕ) (w : Weighing) (kept : KeptSums) (r : Reply) (ratio : Ratio) → AreKeptSums n w kept → IsNext w r ratio → total w.settings.ratios (w.replies ++ (r ∷ [])) w.states ≤ 2 ^ 120
next-bound n w kept r ratio h next = light-total w.settings (w.replies ++ (r ∷ [])) w.states h.allowed.ratios h.light (omega (arith, next.budget, length-append w.replies (r ∷ [])))

pub kept-mass : (n : ℕ) (w : Weighing) (kept : KeptSums) (q m : ℕ) → AreKeptSums n w kept → q < length w.settings.ratios → m ≡ get_or kept.masses q m → m ≡ mass w.settings.ratios w.replies w.states q
kept-mass n w kept q m h l e = e ∙ get_or_default kept.masses q m 0 (omega (arith, h.each_mass)) ∙ h.masses q l

pub mass-part : (n : ℕ) (w : Weighing) (kept : KeptSums) (q m : ℕ) → AreKeptSums n w kept → q < length w.settings.ratios → m ≡ get_or kept.masses q m → m ≤ kept.total
mass-part n w kept q m h l e = omega (arith, kept-mass n w kept q m h l e, h.total, mass-le w.settings.ratios w.replies w.states q)

pub next-total : (n : ℕ) (w : Weighing) (kept : KeptSums) (r : Reply) (ratio : Ratio) (m agreeing : ℕ) → AreKeptSums n w kept → IsNext w r ratio → m ≡ get_or kept.masses r.q m → agreeing ≡ cond r.right m (kept.total - m) → ratio.b * kept.total + (ratio.a - ratio.b) * agreeing ≡ total w.settings.ratios (w.replies ++ (r ∷ [])) w.states
next-total n w kept r ratio m agreeing h next e a =
    let own = kept-mass n w kept r.q m h next.item e in
    let le : (ratio_for w.settings.ratios r).b ≤ (ratio_for w.settings.ratios r).a = subst (λ (t : Ratio). t.b ≤ t.a) next.own (order w r ratio next).1 in
    let whole = a ∙ ap₂ (λ x y. cond r.right x (y - x)) own h.total in
    ap₂ (λ (t : Ratio) x. t.b * kept.total + (t.a - t.b) * x) next.own whole
    ∙ ap (λ x. (ratio_for w.settings.ratios r).b * x + ((ratio_for w.settings.ratios r).a - (ratio_for w.settings.ratios r).b) * cond r.right (mass w.settings.ratios w.replies w.states r.q) (total w.settings.ratios w.replies w.states - mass w.settings.ratios w.replies w.states r.q)) h.total
    ∙ after-total w.settings.ratios w.replies r w.states le

pub next-mass : (n : ℕ) (w : Weighing) (kept : KeptSums) (r : Reply) (ratio : Ratio) (q cells : ℕ) → AreKeptSums n w kept → IsNext w r ratio → q < length w.settings.ratios → cells ≡ agreeing_with w.states r kept.weights q → ratio.b * get_or kept.masses q 0 + (ratio.a - ratio.b) * cells ≡ mass w.settings.ratios (w.replies ++ (r ∷ [])) w.states q
next-mass n w kept r ratio q cells h next l e =
    let own = ratio_for w.settings.ratios r in
    let le : own.b ≤ own.a = subst (λ (t : Ratio). t.b ≤ t.a) next.own (order w r ratio next).1 in
    ap₂ (λ (t : Ratio) x. t.b * get_or kept.masses q 0 + (t.a - t.b) * x) next.own e
    ∙ ap (λ x. own.b * x + (own.a - own.b) * agreeing_with w.states r kept.weights q) (h.masses q l)
    ∙ after-mass w.settings.ratios w.replies r w.states kept.weights q le h.weights

pub next-mass-le : (n : ℕ) (w : Weighing) (kept : KeptSums) (r : Reply) (ratio : Ratio) (q m : ℕ) → AreKeptSums n w kept → IsNext w r ratio → m ≡ mass w.settings.ratios (w.replies ++ (r ∷ [])) w.states q → m ≤ 2 ^ 120
next-mass-le n w kept r ratio q m h next e = omega (arith, e, mass-le w.settings.ratios (w.replies ++ (r ∷ [])) w.states q, next-bound n w kept r ratio h next)

-- each weight is multiplied by what the reply has for its state
abbrev pub AreNext : Weighing → Reply → Ratio → List ℕ → List ℕ → Type 0
AreNext w r ratio old new = (i : ℕ) → i < length w.states → get_or new i 0 ≡ get_or old i 0 * cond (agrees (state_at w.states i) r) ratio.a ratio.b

pub next-weights : (n : ℕ) (w : Weighing) (kept : KeptSums) (r : Reply) (ratio : Ratio) (new : List ℕ) → AreKeptSums n w kept → IsNext w r ratio → length new ≡ length kept.weights → AreNext w r ratio kept.weights new → new ≡ map (weight w.settings.ratios (w.replies ++ (r ∷ []))) w.states
next-weights n w kept r ratio new h next long each =
    after-weights w.settings.ratios w.replies r w.states kept.weights new h.weights long
    (λ i l. each i l ∙ ap (λ (t : Ratio). get_or kept.weights i 0 * cond (agrees (state_at w.states i) r) t.a t.b) next.own)

pub next-heaviest : (n : ℕ) (w : Weighing) (kept : KeptSums) (r : Reply) (ratio : Ratio) (new : List ℕ) → AreKeptSums n w kept → IsNext w r ratio → length new ≡ length kept.weights → AreNext w r ratio kept.weights new → agrees (state_at w.states kept.heaviest) r ≡ true → IsFirstMaxByKey (λ v. v) new (length new) kept.heaviest
next-heaviest n w kept r ratio new h next long each agree =
    let o = order w r ratio next in
    first-stays kept.weights new kept.heaviest ratio.a ratio.b (λ i. agrees (state_at w.states i) r) long (λ i l. each i (omega (arith, kept-long n w kept h))) o.1 o.0 agree h.heaviest

-- what is then kept
pub next-kept : (n : ℕ) (w : Weighing) (kept new : KeptSums) (r : Reply) (ratio : Ratio) → AreKeptSums n w kept → IsNext w r ratio
    → new.weights ≡ map (weight w.settings.ratios (w.replies ++ (r ∷ []))) w.states
    → length new.masses ≡ length kept.masses
    → ((q : ℕ) → q < length w.settings.ratios → get_or new.masses q 0 ≡ mass w.settings.ratios (w.replies ++ (r ∷ [])) w.states q)
    → new.total ≡ total w.settings.ratios (w.replies ++ (r ∷ [])) w.states
    → IsFirstMaxByKey (λ v. v) new.weights (length new.weights) new.heaviest
    → new.cells ≡ kept.cells → new.room ≡ kept.room → AreKeptSums n (replied w r) new
next-kept n w kept new r ratio h next weights each masses all heaviest cells room = record {
  items = h.items;
  weighable = h.weighable;
  allowed = h.allowed;
  light = h.light;
  budget = omega (arith, next.budget, length-append w.replies (r ∷ []));
  on_items = items-more (length w.settings.ratios) w.replies r h.on_items next.item;
  room = omega (arith, h.room, room);
  weights = weights;
  each_mass = each ∙ h.each_mass;
  masses = masses;
  total = all;
  heaviest = heaviest;
  cells = cells ∙ h.cells;
}
