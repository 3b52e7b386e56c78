-- Lists of covers, by what is left to push.
use Rattle.std.proofs.Common.{ℕ, ◌+◌, ◌-◌, ◌<◌, ◌≤◌, ◌≡◌, true, false, List, [], ◌∷◌}
use Rattle.std.proofs.Common.{◌++◌, filter, map, append-nil, append_assoc, refl, sym, ap, ◌∙◌}
use Rattle.std.proofs.Common.{arith}
use Rattle.std.specs.List.{flat_map}
use Rattle.ls_set.specs.ItemSet.{Items, numbers_from}
use Rattle.ls_origins.specs.Relations.{covers, is_cover}
use Rattle.ls_order.proofs.Finding.{numbers-next}

-- the covers of r by some items
abbrev pub covers_by : ℕ → List Items → ℕ → List ℕ → List (ℕ × ℕ)
covers_by n below r qs = map (λ q. (r, q)) (filter (is_cover n below r) qs)

-- ---- the covers of one item

abbrev pub ArePushed : ℕ → List Items → ℕ → ℕ → List (ℕ × ℕ) → List (ℕ × ℕ) → Type 0
ArePushed n below r j given pushed =
    pushed ++ covers_by n below r (numbers_from j (n - j))
    ≡ given ++ covers_by n below r (numbers_from 0 n)

all-left : (n : ℕ) → numbers_from 0 (n - 0) ≡ numbers_from 0 n
all-left n = ap (numbers_from 0) (let e : n - 0 ≡ n = omega arith in e)

pub pushed-begin : (n : ℕ) (below : List Items) (r : ℕ) (given : List (ℕ × ℕ))
    → ArePushed n below r 0 given given
pushed-begin n below r given = ap (λ qs. given ++ covers_by n below r qs) (all-left n)

pub pushed-one : (n : ℕ) (below : List Items) (r j : ℕ) (given pushed : List (ℕ × ℕ)) → j < n
    → is_cover n below r j ≡ true → ArePushed n below r j given pushed
    → ArePushed n below r (j + 1) given (pushed ++ (r, j) ∷ [])
pushed-one n below r j given pushed l e h =
    let rest = numbers_from (j + 1) (n - (j + 1)) in
    let step : covers_by n below r (j ∷ rest) ≡ (r, j) ∷ covers_by n below r rest = rw e refl in
    append_assoc pushed ((r, j) ∷ []) (covers_by n below r rest) ∙ ap (λ xs. pushed ++ xs)
    (sym step ∙ ap (covers_by n below r) (sym (numbers-next j n l))) ∙ h

pub pushed-none : (n : ℕ) (below : List Items) (r j : ℕ) (given pushed : List (ℕ × ℕ)) → j < n
    → is_cover n below r j ≡ false → ArePushed n below r j given pushed
    → ArePushed n below r (j + 1) given pushed
pushed-none n below r j given pushed l e h =
    let rest = numbers_from (j + 1) (n - (j + 1)) in
    let step : covers_by n below r (j ∷ rest) ≡ covers_by n below r rest = rw e refl in
    ap (λ xs. pushed ++ xs)
    (sym step ∙ ap (covers_by n below r) (sym (numbers-next j n l))) ∙ h

none-left : (j n : ℕ) → n ≤ j → numbers_from j (n - j) ≡ []
none-left j n l = ap (numbers_from j) (let e : n - j ≡ 0 = omega arith in e)

pub pushed-all : (n : ℕ) (below : List Items) (r j : ℕ) (given pushed : List (ℕ × ℕ)) → n ≤ j
    → ArePushed n below r j given pushed → pushed
    ≡ given ++ covers_by n below r (numbers_from 0 n)
pushed-all n below r j given pushed l h =
    sym (append-nil pushed) ∙ ap (λ qs. pushed ++ covers_by n below r qs) (sym (none-left j n l))
    ∙ h

-- ---- those of all items

abbrev pub covers_from : ℕ → List Items → List ℕ → List (ℕ × ℕ)
covers_from n below rs = flat_map (λ r. covers_by n below r (numbers_from 0 n)) rs

abbrev pub AreCovered : ℕ → List Items → ℕ → List (ℕ × ℕ) → Type 0
AreCovered n below j found =
    found ++ covers_from n below (numbers_from j (n - j)) ≡ covers_from n below (numbers_from 0 n)

pub covered-begin : (n : ℕ) (below : List Items) (found : List (ℕ × ℕ)) → found ≡ []
    → AreCovered n below 0 found
covered-begin n below found e =
    ap (λ xs. xs ++ covers_from n below (numbers_from 0 (n - 0))) e ∙ ap (covers_from n below)
    (all-left n)

pub covered-next : (n : ℕ) (below : List Items) (j : ℕ) (found next : List (ℕ × ℕ)) → j < n
    → next ≡ found ++ covers_by n below j (numbers_from 0 n) → AreCovered n below j found
    → AreCovered n below (j + 1) next
covered-next n below j found next l e h =
    let rest = covers_from n below (numbers_from (j + 1) (n - (j + 1))) in
    ap (λ xs. xs ++ rest) e ∙ append_assoc found (covers_by n below j (numbers_from 0 n)) rest ∙ ap
    (λ rs. found ++ covers_from n below rs) (sym (numbers-next j n l)) ∙ h

pub covered-all : (n : ℕ) (below : List Items) (j : ℕ) (found : List (ℕ × ℕ)) → n ≤ j
    → AreCovered n below j found → found ≡ covers n below
unfolding covers
covered-all n below j found l h =
    sym (append-nil found) ∙ ap (λ rs. found ++ covers_from n below rs) (sym (none-left j n l)) ∙ h
