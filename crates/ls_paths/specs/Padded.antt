-- A list of items in an array of as many places as a set has, with zeros behind it.
use Rattle.std.specs.Prelude.{◌≡◌, ◌≤◌, ◌-◌, ◌++◌, ℕ, List, length, take, drop, replicate}
use Rattle.std.proofs.Common.{ap, sym, ◌∙◌, arith}
use Rattle.std.proofs.lemmas.List.{take-append-drop, length-take-le}
use Rattle.ls_set.specs.declared.item_set.TheConstants.{PLACES}
use Rattle.ls_paths.specs.declared.order.Order.TheInside.{Inside}

abbrev pub listed : Inside → List ℕ
listed o = take o.count o.items

pub record IsPadded (o : Inside) : Type 0 where
  pub within : o.count ≤ PLACES
  pub long : length o.items ≡ PLACES
  pub rest : drop o.count o.items ≡ replicate (PLACES - o.count) 0

abbrev pub padded : List ℕ → Inside
padded xs = record { items = xs ++ replicate (PLACES - length xs) 0; count = length xs }

pub padded-listed : (o : Inside) → IsPadded o → padded (listed o) ≡ o
padded-listed o h =
    let front = take o.count o.items in
    let fits : o.count ≤ length o.items = omega (arith, h.within, h.long) in
    let len : length front ≡ o.count = length-take-le o.count o.items fits in
    let items : front ++ replicate (PLACES - length front) 0 ≡ o.items =
    ap (λ n. front ++ replicate (PLACES - n) 0) len
    ∙ (ap (λ r. front ++ r) (sym h.rest) ∙ take-append-drop o.count o.items) in
    let whole : List ℕ → ℕ → Inside = λ xs n. record { items = xs; count = n } in
    ap (λ xs. whole xs (length front)) items ∙ ap (whole o.items) len
