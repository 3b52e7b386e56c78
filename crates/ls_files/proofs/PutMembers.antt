-- Members that are put one after another: what holds of each, and that their keys stand in order.
use Rattle.std.proofs.Common.{◌+◌, ◌<◌, ◌∙◌, ◌∷◌, ◌≡◌, ◌≤◌, Equal, Greater, IsUtf8, Less, List, Ordering, Some, [], ap, ap₂, arith, drop, false, get_or, length, nat_cmp, refl, subst, suc, sym, ℕ}
use Rattle.std.specs.Prelude.{⊤}
use Rattle.std.specs.List.{AllByRecursion}
use Rattle.std.specs.Ordering.{match_ordering, ordering_reverse}
use Rattle.std.specs.Cmp.Lexicographic.{slice_cmp}
use Rattle.std.proofs.lemmas.Cmp.{nat_list_cmp_total}
use Rattle.std.proofs.lemmas.List.{drop_all, drop_more}
use Rattle.serde_json.specs.Data.{Data, Members, depth, member, members_depth, no_members, object, put}
use Rattle.serde_json.specs.Read.{max_depth}
use Rattle.serde_json.specs.Written.{compact_text, has_float, members_have_float}
use Rattle.ls_lists.proofs.Every.{All-given}
use Rattle.ls_cutting.specs.{Text}
use Rattle.ls_files.specs.SurmiseFiles.{put_each, value_of}
use Rattle.ls_files.specs.Codecs.{Codec}
use Rattle.ls_files.proofs.Texts.{IsPlain, MembersArePlain, put_all, value_of-compact_text}
use Rattle.ls_files.proofs.CodecLaws.{IsReadBack}

-- ---- each member

-- a fact of each key, and one of each value
abbrev EachMember : (Text → Type 0) → (Data → Type 0) → Members → Type 0
EachMember P Q no_members = ⊤
EachMember P Q (member k d ms) = P k × Q d × EachMember P Q ms

module _ (P : Text → Type 0) (Q : Data → Type 0) where
  each-put : (k : Text) (d : Data) (ms : Members) → P k → Q d → EachMember P Q ms → EachMember P Q (put k d ms)
  each-put k d no_members p q h = (p, q, tt)
  each-put k d (member l e ms) p q h = at (each-put k d ms p q h.2) (slice_cmp nat_cmp k l)
    where
      at : EachMember P Q (put k d ms) → (o : Ordering) → EachMember P Q (match_ordering o (member k d (member l e ms)) (member l d ms) (member l e (put k d ms)))
      at later Less = (p, q, h)
      at later Equal = (h.0, q, h.2)
      at later Greater = (h.0, h.1, later)

  each-member : {X : Type 0} (value : X → Data) (R : X → Type 0) → ((x : X) → R x → Q (value x)) → (ws : List Text) (xs : List X) → AllByRecursion P ws → AllByRecursion R xs → EachMember P Q (put_each value ws xs)
  each-member value R h [] xs p r = tt
  each-member value R h (w ∷ ws) [] p r = tt
  each-member value R h (w ∷ ws) (x ∷ xs) p r = each-put w (value x) (put_each value ws xs) p.0 (h x r.0) (each-member value R h ws xs p.1 r.1)

-- ---- keys in order

abbrev IsBelow : Text → Text → Type 0
IsBelow k l = slice_cmp nat_cmp k l ≡ Less

turned : (k l : Text) (o : Ordering) → slice_cmp nat_cmp k l ≡ o → slice_cmp nat_cmp l k ≡ ordering_reverse o
turned k l o e = nat_list_cmp_total.antisymm l k ∙ ap ordering_reverse e

-- the key is below each key of the members
abbrev AreAbove : Text → Members → Type 0
AreAbove k no_members = ⊤
AreAbove k (member l d ms) = IsBelow k l × AreAbove k ms

abbrev AreSorted : Members → Type 0
AreSorted no_members = ⊤
AreSorted (member k d ms) = AreAbove k ms × AreSorted ms

above-lower : (j k : Text) (ms : Members) → IsBelow j k → AreAbove k ms → AreAbove j ms
above-lower j k no_members h a = tt
above-lower j k (member l d ms) h a = (nat_list_cmp_total.trans j k l h a.0, above-lower j k ms h a.1)

above-put : (j k : Text) (d : Data) (ms : Members) → IsBelow j k → AreAbove j ms → AreAbove j (put k d ms)
above-put j k d no_members h a = (h, tt)
above-put j k d (member l e ms) h a = at (above-put j k d ms h a.1) (slice_cmp nat_cmp k l)
  where
    at : AreAbove j (put k d ms) → (o : Ordering) → AreAbove j (match_ordering o (member k d (member l e ms)) (member l d ms) (member l e (put k d ms)))
    at later Less = (h, a)
    at later Equal = a
    at later Greater = (a.0, later)

sorted-put : (k : Text) (d : Data) (ms : Members) → AreSorted ms → AreSorted (put k d ms)
sorted-put k d no_members h = (tt, tt)
sorted-put k d (member l e ms) h = at (sorted-put k d ms h.1) (slice_cmp nat_cmp k l) refl
  where
    at : AreSorted (put k d ms) → (o : Ordering) → slice_cmp nat_cmp k l ≡ o → AreSorted (match_ordering o (member k d (member l e ms)) (member l d ms) (member l e (put k d ms)))
    at later Less is = ((is, above-lower k l ms is h.0), h)
    at later Equal is = h
    at later Greater is = (above-put l k d ms (turned k l Greater is) h.0, later)

sorted-each : {X : Type 0} (value : X → Data) (ws : List Text) (xs : List X) → AreSorted (put_each value ws xs)
sorted-each value [] xs = tt
sorted-each value (w ∷ ws) [] = tt
sorted-each value (w ∷ ws) (x ∷ xs) = sorted-put w (value x) (put_each value ws xs) (sorted-each value ws xs)

-- ---- members put once more

abbrev followed : Members → Members → Members
followed no_members more = more
followed (member k d ms) more = member k d (followed ms more)

followed-none : (ms : Members) → followed ms no_members ≡ ms
followed-none no_members = refl
followed-none (member k d ms) = ap (member k d) (followed-none ms)

followed-one : (found : Members) (k : Text) (d : Data) (ms : Members) → followed (followed found (member k d no_members)) ms ≡ followed found (member k d ms)
followed-one no_members k d ms = refl
followed-one (member l e found) k d ms = ap (member l e) (followed-one found k d ms)

below-next : (l : Text) (found : Members) (k : Text) (d : Data) (ms : Members) → AreAbove l (followed found (member k d ms)) → IsBelow l k
below-next l no_members k d ms h = h.0
below-next l (member j e found) k d ms h = below-next l found k d ms h.1

-- a key above those before it goes last
put-last : (found : Members) (k : Text) (d : Data) (ms : Members) → AreSorted (followed found (member k d ms)) → put k d found ≡ followed found (member k d no_members)
put-last no_members k d ms h = refl
put-last (member l e found) k d ms h = rw (turned l k Less (below-next l found k d ms h.0)) (ap (member l e) (put-last found k d ms h.1))

put_all-after : (ms found : Members) → AreSorted (followed found ms) → put_all ms found ≡ followed found ms
put_all-after no_members found h = sym (followed-none found)
put_all-after (member k d ms) found h =
    let one = followed-one found k d ms in
    ap (put_all ms) (put-last found k d ms h) ∙ put_all-after ms (followed found (member k d no_members)) (subst AreSorted (sym one) h) ∙ one

put_all-sorted : (ms : Members) → AreSorted ms → put_all ms no_members ≡ ms
put_all-sorted ms h = put_all-after ms no_members h

-- ---- the object is read from its text

members-plain : (ms : Members) → EachMember IsUtf8 IsPlain ms → MembersArePlain ms
members-plain no_members h = tt
members-plain (member k d ms) h = (h.0, h.1, members-plain ms h.2)

members-depth : (m : ℕ) (ms : Members) → EachMember (λ k. ⊤) (λ d. depth d ≤ m) ms → members_depth ms ≤ m
members-depth m no_members h = omega arith
members-depth m (member k d ms) h = let first = h.1 in let rest = members-depth m ms h.2 in omega arith

members-exact : (ms : Members) → EachMember (λ k. ⊤) (λ d. has_float d ≡ false) ms → members_have_float ms ≡ false
members-exact no_members h = refl
members-exact (member k d ms) h = rw h.1 (members-exact ms h.2)

module _ {X : Type 0} {c : Codec X} {P : X → Type 0} {m : ℕ} (h : IsReadBack X c P m) (ws : List Text) (xs : List X) where
  each-fact : (Q : Data → Type 0) → ((x : X) → Q (c.write x)) → EachMember (λ k. ⊤) Q (put_each c.write ws xs)
  each-fact Q q = each-member (λ k. ⊤) Q c.write (λ x. ⊤) (λ x t. q x) ws xs (All-given (λ k. ⊤) (λ k. tt) ws) (All-given (λ x. ⊤) (λ x. tt) xs)

  pub object-back : AllByRecursion IsUtf8 ws → AllByRecursion P xs → suc m ≤ max_depth → value_of (compact_text (object (put_each c.write ws xs))) ≡ Some (object (put_each c.write ws xs))
  object-back keys fine few =
      let ms = put_each c.write ws xs in
      let deep = members-depth m ms (each-fact (λ d. depth d ≤ m) h.shallow) in
      value_of-compact_text (object ms) (members-plain ms (each-member IsUtf8 IsPlain c.write P h.plain ws xs keys fine), put_all-sorted ms (sorted-each c.write ws xs)) (omega arith)

  pub object-exact : has_float (object (put_each c.write ws xs)) ≡ false
  object-exact = members-exact (put_each c.write ws xs) (each-fact (λ d. has_float d ≡ false) h.exact)

-- ---- the members of the items from q on

module _ {X : Type 0} (value : X → Data) (ws : List Text) (xs : List X) (q : ℕ) where
  pub each-end : q ≡ length ws → no_members ≡ put_each value (drop q ws) (drop q xs)
  each-end e = ap (λ vs. put_each value vs (drop q xs)) (sym (drop_all q ws (omega (arith, e))))

  -- one more
  pub each-next : (p : ℕ) (key : Text) (x : X) (d : Data) (before after : Members) → p ≡ q + 1 → q < length ws → q < length xs → key ≡ get_or ws q [] → d ≡ value (get_or xs q x)
      → before ≡ put_each value (drop p ws) (drop p xs) → after ≡ put key d before → after ≡ put_each value (drop q ws) (drop q xs)
  each-next p key x d before after e l k is_key is_value so_far is =
      is ∙ ap (λ w. put w d before) is_key
      ∙ ap₂ (put (get_or ws q [])) is_value (so_far ∙ ap (λ i. put_each value (drop i ws) (drop i xs)) e)
      ∙ sym (ap₂ (put_each value) (drop_more ws q [] l) (drop_more xs q x k))
