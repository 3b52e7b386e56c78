use Rattle.ls_infer.proofs.Vocabulary.{◌&&◌, ◌∙◌, ◌≡◌, Bool, Items, Some, TableState, ℕ, and_assoc, ap, asked_of, blocks, blocks-in, closed_of, false, forces, full, get-in, good_items, has, has-minus, is_good, is_open_in, list_any, minus, not, position-at, refl, slice_get, sym, true}
use Rattle.ls_infer.proofs.Kept.{none_left}
use Rattle.ls_infer.proofs.table.Table.open_items.Goals as goal

swapped : (b c a : Bool) → ((b && not c) && not a) ≡ ((b && not a) && not c)
swapped true true true = refl
swapped true true false = refl
swapped true false true = refl
swapped true false false = refl
swapped false c a = refl

open_is : (t : TableState) (place : ℕ) (a closed : Items) (q : ℕ) → slice_get (blocks t.blocks.item_count t.blocks.largest) place ≡ Some a → slice_get t.closures place ≡ Some closed
    → (has (minus (minus (full t.blocks.item_count) closed) a) q && not (list_any (forces (asked_of a q)) t.standing)) ≡ (is_good t.blocks.item_count (asked_of a q) && is_open_in t (asked_of a q))
open_is t place a closed q e c =
    let n = t.blocks.item_count in
    let k = t.blocks.largest in
    let rest = list_any (forces (asked_of a q)) t.standing in
    let x = blocks-in n k a (get-in (blocks n k) place a e) in
    let closed_is : closed_of t a ≡ closed = rw (position-at n k a place e, c) refl in
    ap (λ u. u && not rest)
    (has-minus (minus (full n) closed) a q ∙ ap (λ u. u && not (has a q)) (has-minus (full n) closed q)
    ∙ swapped (has (full n) q) (has closed q) (has a q) ∙ ap (λ u. u && not (has closed q)) (sym (has-minus (full n) a q) ∙ good_items n a q x.within x.some))
    ∙ and_assoc (is_good n (asked_of a q)) (not (has closed q)) (not rest)
    ∙ sym (ap (λ l. is_good n (asked_of a q) && (not (has l q) && not rest)) closed_is)

-- no item is open where the closure has all
decided : (t : TableState) (place : ℕ) (a closed : Items) (q : ℕ) → slice_get (blocks t.blocks.item_count t.blocks.largest) place ≡ Some a → slice_get t.closures place ≡ Some closed
    → has (minus (full t.blocks.item_count) closed) q ≡ false → false ≡ (is_good t.blocks.item_count (asked_of a q) && is_open_in t (asked_of a q))
decided t place a closed q e c none =
    let rest = list_any (forces (asked_of a q)) t.standing in
    sym (ap (λ u. u && not rest) (has-minus (minus (full t.blocks.item_count) closed) a q ∙ ap (λ u. u && not (has a q)) none))
    ∙ open_is t place a closed q e c

pub returns-then-is_none : goal.returns-then-is_none
returns-then-is_none c = λ q.
    let t = c.args.self.now.table in
    let closed = c.closure_at-closed.result in
    let kept : slice_get t.closures c.args.place ≡ Some closed = sym (ap (λ l. slice_get l c.args.place) (c.deref.ensures.value ∙ ap (λ u. u.table.closures) c.self.view_is)) ∙ c.closure_at-closed.ensures in
    let items : c.self.inside.n ≡ t.blocks.item_count = c.self.invariant.items ∙ ap (λ u. u.table.blocks.item_count) c.self.view_is in
    let undecided : c.minus-undecided.result ≡ minus (full t.blocks.item_count) closed = c.minus-undecided.ensures ∙ ap (λ s. minus s closed) (c.full.ensures ∙ ap full items) in
    let none : has c.minus-undecided.result q ≡ false = none_left c.minus-undecided.result q c.least.result c.least.ensures.value c.if-is_none.ensures in
    none ∙ decided t c.args.place c.args.walk.now.set closed q c.requires kept (ap (λ s. has s q) (sym undecided) ∙ none)

pub returns : goal.returns
returns c = λ q.
    let t = c.args.self.now.table in
    let a = c.args.walk.now.set in
    let closed = c.closure_at-closed.result in
    let left = minus (minus (full t.blocks.item_count) closed) a in
    let kept : slice_get t.closures c.args.place ≡ Some closed = sym (ap (λ l. slice_get l c.args.place) (c.deref.ensures.value ∙ ap (λ u. u.table.closures) c.self.view_is)) ∙ c.closure_at-closed.ensures in
    let items : c.self.inside.n ≡ t.blocks.item_count = c.self.invariant.items ∙ ap (λ u. u.table.blocks.item_count) c.self.view_is in
    let undecided : c.minus-undecided.result ≡ minus (full t.blocks.item_count) closed = c.minus-undecided.ensures ∙ ap (λ s. minus s closed) (c.full.ensures ∙ ap full items) in
    let others : c.minus.result ≡ left = c.minus.ensures ∙ ap (λ s. minus s c.set-a.result) undecided ∙ ap (minus (minus (full t.blocks.item_count) closed)) c.set-a.ensures.set in
    c.unforced.ensures q
    ∙ ap (λ s. has s q && not (list_any (forces (asked_of c.set-a.result q)) c.deref-2.result.now)) others
    ∙ ap (λ s. has left q && not (list_any (forces (asked_of s q)) c.deref-2.result.now)) c.set-a.ensures.set
    ∙ ap (λ ss. has left q && not (list_any (forces (asked_of a q)) ss)) (c.deref-2.ensures.value ∙ ap (λ u. u.table.standing) c.self.view_is)
    ∙ open_is t c.args.place a closed q c.requires kept
