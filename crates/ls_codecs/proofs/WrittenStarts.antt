-- Sets, queries and starts, written and read.
use Rattle.ls_codecs.proofs.Vocabulary.{◌<◌, ◌∙◌, ◌∷◌, ◌≡◌, ◌≤◌, AllByRecursion, BaseFault, Bool, Clauses, Decides-is_same, Err, Free, IsNarrow, AreOn, IsReadBack, IsStart, IsUtf8, IsUtf8-are_ascii, IsWithin-from, List, None, Ok, Option, Query, Result, Sets, Some, Start, ℕ, [], agree_below_at, among-filter, among-here, among-subsets, among-there, and_from, and_parts, ap, are_ascii, arith, base, base_codec, based, codes, compat, cond, depth, each, eq-eqb, eqb, false, fewer, first_missing, get_or, good-from, is_base, is_compatible, item_codec, length, lists-back, lt-ltb, ltb, map, mapped-back, nibble_of-lt, numbers-back, only_if-back, option_map, option_map_or, pairs-back, parsed-back, pointwise, query_codec, read_back, refl, result_ok, set_codec, start_codec, start_value, surmise_codec, surmise_from, sym, texts-back, true}
use Rattle.serde_json.specs.Written.{has_float}
use Rattle.ls_set.specs.{IsWithin, Items, cursor, cursor_length, full, hex, is_among, is_good, is_same, most_items, nibble_of, numbers_from, read_cursor, subsets}
use Rattle.ls_theory.specs.declared.base_fault.BaseFault.TheVariants.{NotSpanning, Past}
use Rattle.ls_laws.proofs.Atoms.{base-member}
use Rattle.ls_files.proofs.Texts.{IsPlain}
use Rattle.ls_codecs.proofs.Surmises.{narrow-again, narrow-small}

-- ---- cursors

hex-small : (v : ℕ) → v < 16 → ltb (get_or hex v 0) 128 ≡ true
hex-small v h = agree_below_at (λ v. ltb (get_or hex v 0) 128) (λ _. true) 16 v refl h

ascii-map : (f : ℕ → ℕ) → ((p : ℕ) → ltb (f p) 128 ≡ true) → (ps : List ℕ) → are_ascii (map f ps) ≡ true
ascii-map f h [] = refl
ascii-map f h (p ∷ ps) = and_from (ltb (f p) 128) (are_ascii (map f ps)) (h p) (ascii-map f h ps)

pub cursor-utf8 : (n : ℕ) (s : Items) → IsUtf8 (cursor n s)
unfolding cursor
cursor-utf8 n s = IsUtf8-are_ascii _ (ascii-map (λ p. get_or hex (nibble_of s p) 0) (λ p. hex-small (nibble_of s p) (nibble_of-lt s p)) (numbers_from 0 (cursor_length n)))

-- ---- sets and queries

pub set-back : (n : ℕ) → IsReadBack Items (set_codec n) (λ s. IsWithin s (full n)) 0
set-back n =
    fewer (λ s. IsWithin s (full n)) (λ s within. (cursor-utf8 n s, ap result_ok (read_back n s within)))
    (parsed-back (λ w. result_ok (read_cursor n w)) (cursor n) texts-back)

pub Each-within : (n : ℕ) (ss : List Items) → AreOn n ss → AllByRecursion (λ s. IsWithin s (full n)) ss
Each-within n [] h = tt
Each-within n (s ∷ ss) h = (h s (among-here s s ss refl), Each-within n ss (λ k a. h k (among-there k s ss a)))

pub item-back : (n : ℕ) → n ≤ most_items → IsReadBack ℕ (item_codec n) (λ q. q < n) 0
item-back n few = fewer (λ q. q < n) (λ q h. (omega arith, lt-ltb q n h)) (only_if-back (λ q. ltb q n) numbers-back)

pub query-back : (n : ℕ) → n ≤ most_items → IsReadBack Query (query_codec n) (λ r. is_good n r ≡ true) 1
query-back n few =
    fewer (λ r. is_good n r ≡ true) (λ r h. ((good-from n r h).small, (good-from n r h).item))
    (mapped-back (λ (p : Items × ℕ). let r : Query = record { a = p.0; q = p.1 } in r) (λ r. (r.a, r.q)) (λ r. refl) (pairs-back (set-back n) (item-back n few)))

-- ---- bases

-- a base is a part of its family
base-on : (n : ℕ) (f sets : List Items) → ((k : Items) → is_among f k ≡ true → IsWithin k (full n)) → base f ≡ sets → AreOn n sets
base-on n f sets small e k h = small k (base-member f k (ap (λ g. is_among g k) e ∙ h))

compat-small : (n : ℕ) (start : Start) (k : Items) → is_among (compat n start []) k ≡ true → IsWithin k (full n)
unfolding compat
compat-small n start k h =
    let passes = is_compatible start [] in
    IsWithin-from k (full n) (sym (among-subsets n k) ∙ (and_parts (is_among (subsets n) k) (passes k) (sym (among-filter passes (subsets n) k) ∙ h)).0)

based-ok : (missing : Option ℕ) (many : Bool) (found sets : List Items)
    → option_map_or (λ (q : ℕ). let r : Result (List Items) BaseFault = Err (NotSpanning q) in r) missing (cond many (Err (Past (length found))) (Ok found)) ≡ Ok sets → found ≡ sets
based-ok (Some q) many found sets e = absurd (cc e)
based-ok None true found sets e = absurd (cc e)
based-ok None false found sets e = cc e

pub base-small : (n : ℕ) (sets : List Items) → based n sets ≡ Ok sets → AreOn n sets
base-small n sets e =
    let f = compat n (Sets sets) [] in
    base-on n f sets (compat-small n (Sets sets)) (based-ok (first_missing n sets) _ (base f) sets e)

same-sets : (sets : List Items) → pointwise is_same sets sets ≡ true
same-sets [] = refl
same-sets (s ∷ ss) = and_from (is_same s s) (pointwise is_same ss ss) ((Decides-is_same s s).1 refl) (same-sets ss)

pub is_base-from : (n : ℕ) (sets : List Items) → based n sets ≡ Ok sets → is_base n sets ≡ true
is_base-from n sets e = ap (λ (r : Result (List Items) BaseFault). option_map_or (λ found. pointwise is_same found sets) (result_ok r) false) e ∙ same-sets sets

base-back : (n : ℕ) → IsReadBack (List Items) (base_codec n) (λ sets. based n sets ≡ Ok sets) 1
base-back n =
    fewer (λ sets. based n sets ≡ Ok sets) (λ sets e. (Each-within n sets (base-small n sets e), is_base-from n sets e))
    (only_if-back (is_base n) (lists-back (set-back n)))

-- ---- surmise functions

surmise-back : (n : ℕ) → IsReadBack (List (List Items)) (surmise_codec n) (IsNarrow n) 2
surmise-back n =
    fewer (IsNarrow n) (λ cs h. ((each (Each-within n) cs (narrow-small n cs h), eq-eqb (length cs) n h.surmise.each_item), ap result_ok (narrow-again n cs h)))
    (parsed-back (λ cs. result_ok (surmise_from n cs)) (λ cs. cs) (only_if-back (λ cs. eqb (length cs) n) (lists-back (lists-back (set-back n)))))

-- ---- starts

module _ (n : ℕ) where
  own-back : (s : Start) → IsStart n s → (start_codec n).read (start_value n s) ≡ Some s
  own-back Free h = refl
  own-back (Clauses clauses) h = ap (option_map Clauses) ((surmise-back n).back clauses h)
  own-back (Sets sets) h = ap (option_map Sets) ((base-back n).back sets h)

  own-plain : (s : Start) → IsStart n s → IsPlain (start_value n s)
  own-plain Free h = IsUtf8-are_ascii (codes "free") refl
  own-plain (Clauses clauses) h = ((IsUtf8-are_ascii (codes "surmise") refl, (surmise-back n).plain clauses h, tt), refl)
  own-plain (Sets sets) h = ((IsUtf8-are_ascii (codes "base") refl, (base-back n).plain sets h, tt), refl)

  own-shallow : (s : Start) → depth (start_value n s) ≤ 3
  own-shallow Free = omega arith
  own-shallow (Clauses clauses) = let d = (surmise-back n).shallow clauses in omega arith
  own-shallow (Sets sets) = let d = (base-back n).shallow sets in omega arith

  own-exact : (s : Start) → has_float (start_value n s) ≡ false
  own-exact Free = refl
  own-exact (Clauses clauses) = rw ((surmise-back n).exact clauses) refl
  own-exact (Sets sets) = rw ((base-back n).exact sets) refl

  pub start-back : IsReadBack Start (start_codec n) (IsStart n) 3
  start-back = record { back = own-back; plain = own-plain; shallow = own-shallow; exact = own-exact }
