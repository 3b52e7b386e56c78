-- Parts of bytes, which stay as they are where more bytes follow.
use Rattle.ls_room.proofs.Vocabulary.{◌++◌, ◌+◌, ◌-◌, ◌∙◌, ◌∷◌, ◌≡◌, ◌≤◌, All, List, ℕ, [], ap}
use Rattle.ls_room.proofs.Vocabulary.{ap₂, arith, drop, drop_min, length, length-append, length-drop}
use Rattle.ls_room.proofs.Vocabulary.{map, map-append, min, part-kept, part-last, refl, slice_range}
use Rattle.ls_room.proofs.Vocabulary.{suc, sym, take}
use Rattle.std.proofs.Common.{length-take-le}
use Rattle.std.proofs.Math.Seq.{take-append-add}
use Rattle.std.proofs.lemmas.List.{drop-take, take-append-le, take-take}
use Rattle.std.proofs.lemmas.Simd.{length-chunk, length-put_chunk, take_more_put_chunk}
use lib.Lanes.{chunk, put_chunk}

-- a block put behind what is used
module _ (room bytes : List ℕ) (used : ℕ) (fits : used + 32 ≤ length room) where
  abbrev block : List ℕ
  block = chunk 0 32 bytes

  abbrev behind : List ℕ
  behind = take (length room - used) (drop used room)

  abbrev after : List ℕ
  after = drop (length room - used) (drop used room)

  abbrev pub with_block : List ℕ
  with_block = take used room ++ (put_chunk 0 behind block ++ after)

  front : length (take used room) ≡ used
  front = length-take-le used room (omega arith)

  length-behind : length behind ≡ length room - used
  length-behind =
      length-take-le (length room - used) (drop used room) (omega (arith, length-drop used room))

  length-put : length (put_chunk 0 behind block) ≡ length room - used
  length-put = length-put_chunk 0 behind block ∙ length-behind

  pub length-with_block : length with_block ≡ length room
  length-with_block =
      let none = length-drop (length room - used) (drop used room) in
      let rest = length-append (put_chunk 0 behind block) after in
      let all = length-append (take used room) (put_chunk 0 behind block ++ after) in
      omega (arith, front, length-put, length-drop used room, none, rest, all)

  -- so many of its bytes count
  pub take-with_block : (count : ℕ) → count ≤ 32 → 32 ≤ length bytes
      → take (used + count) with_block ≡ take used room ++ take count bytes
  take-with_block count few long =
      let put = put_chunk 0 behind block in
      let wide : length block ≡ 32 = length-chunk 0 32 bytes (omega arith) in
      let first : take 32 put ≡ block =
      take_more_put_chunk 0 behind block 32 (omega arith) (omega (arith, length-behind)) in
      let counted : take count put ≡ take count bytes =
      sym (take-take count 32 put few) ∙ ap (take count) first ∙ take-take count 32 bytes few in
      ap (λ n. take (n + count) with_block) (sym front)
      ∙ take-append-add (take used room) (put ++ after) count
      ∙ ap (λ l. take used room ++ l)
      (take-append-le count put after (omega (arith, length-put)) ∙ counted)

-- a front without its first bytes
pub front-left : (bytes : List ℕ) (count skipped start : ℕ) → count ≤ length bytes
    → start ≡ min skipped count
    → take (count - start) (take (length bytes - start) (drop start bytes))
    ≡ drop skipped (take count bytes)
front-left bytes count skipped start fits least =
    let whole : start + (count - start) ≡ count = omega arith in
    let long = length-take-le count bytes fits in
    take-take (count - start) (length bytes - start) (drop start bytes) (omega arith)
    ∙ sym (drop-take start (count - start) bytes) ∙ ap (λ n. drop start (take n bytes)) whole
    ∙ ap (λ n. drop n (take count bytes)) (least ∙ ap (min skipped) (sym long))
    ∙ drop_min skipped (take count bytes)

-- parts by their bounds
module _ {X : Type 0} (start end : X → ℕ) (ordered : (p : X) → start p ≤ end p) where
  abbrev pub parts : List ℕ → List X → List (List ℕ)
  parts bs ps = map (λ p. slice_range bs (start p) (end p)) ps

  pub parts-kept : (bs xs : List ℕ) (ps : List X) → All (λ p. end p ≤ length bs) ps → parts (bs ++ xs) ps ≡ parts bs ps
  parts-kept bs xs [] h = refl
  parts-kept bs xs (p ∷ ps) h =
      ap₂ (λ t ts. t ∷ ts) (part-kept bs xs (start p) (end p) (ordered p) (h 0 p (omega arith))) (parts-kept bs xs ps (λ k d l. h (suc k) d (omega arith)))

  pub parts-next : (bs xs : List ℕ) (ps : List X) (p : X) → All (λ p. end p ≤ length bs) ps → start p ≡ length bs → end p ≡ length (bs ++ xs) → parts (bs ++ xs) (ps ++ p ∷ []) ≡ parts bs ps ++ xs ∷ []
  parts-next bs xs ps p h s e =
      map-append (λ p. slice_range (bs ++ xs) (start p) (end p)) ps (p ∷ [])
      ∙ ap₂ (λ ts t. ts ++ t ∷ []) (parts-kept bs xs ps h) (ap₂ (slice_range (bs ++ xs)) s e ∙ part-last bs xs)
