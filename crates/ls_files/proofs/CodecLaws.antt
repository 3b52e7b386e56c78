-- What a codec writes is read back: the law of each way to make codecs.
use Rattle.std.proofs.Common.{◌<◌, ◌^◌, ◌∙◌, ◌∷◌, ◌≡◌, ◌≤◌, Bool, IsUtf8, List, None, Option, Some, ℕ, [], ap, arith, cond, false, map, option_and_then, option_map, refl, suc, true}
use Rattle.std.specs.Prelude.{⊤}
use Rattle.std.specs.List.{AllByRecursion}
use Rattle.std.specs.Option.{option_zip}
use Rattle.serde_json.specs.Data.{Data, depth, items_depth}
use Rattle.serde_json.specs.View.{items_of}
use Rattle.serde_json.specs.Find.{get}
use Rattle.serde_json.specs.Written.{has_float, items_have_float}
use Rattle.ls_files.specs.SurmiseFiles.{read_each}
use Rattle.ls_files.specs.Codecs.{Codec, numbers, booleans, texts, pairs, fours, lists, kept_if, only_if, mapped, parsed, at_key}
use Rattle.ls_files.proofs.Texts.{IsPlain, ArePlain}

-- A fine value is read back, and is plain, so that its text is read back; no value nests deeper
-- than m, and none is a float.
pub record IsReadBack (X : Type 0) (c : Codec X) (IsFine : X → Type 0) (m : ℕ) : Type 0 where
  pub back : (x : X) → IsFine x → c.read (c.write x) ≡ Some x
  pub plain : (x : X) → IsFine x → IsPlain (c.write x)
  pub shallow : (x : X) → depth (c.write x) ≤ m
  pub exact : (x : X) → has_float (c.write x) ≡ false

-- the same of fewer values
pub fewer : {X : Type 0} {c : Codec X} {P : X → Type 0} {m : ℕ} (Q : X → Type 0) → ((x : X) → Q x → P x) → IsReadBack X c P m → IsReadBack X c Q m
fewer Q weaker h = record { back = λ x q. h.back x (weaker x q); plain = λ x q. h.plain x (weaker x q); shallow = h.shallow; exact = h.exact }

-- ---- single values

pub numbers-back : IsReadBack ℕ numbers (λ n. n < 2 ^ 64) 0
numbers-back = record { back = λ n h. refl; plain = λ n h. h; shallow = λ n. omega arith; exact = λ n. refl }

pub booleans-back : IsReadBack Bool booleans (λ b. ⊤) 0
booleans-back = record { back = λ b h. refl; plain = λ b h. tt; shallow = λ b. omega arith; exact = λ b. refl }

pub texts-back : IsReadBack (List ℕ) texts IsUtf8 0
texts-back = record { back = λ w h. refl; plain = λ w h. h; shallow = λ w. omega arith; exact = λ w. refl }

-- ---- lists of two and of four

pub zipped : {X Y : Type 0} (o : Option X) (q : Option Y) (x : X) (y : Y) → o ≡ Some x → q ≡ Some y → option_zip o q ≡ Some (x, y)
zipped o q x y e h = rw (e, h) refl

pub pairs-back : {X Y : Type 0} {c : Codec X} {e : Codec Y} {P : X → Type 0} {Q : Y → Type 0} {m : ℕ} → IsReadBack X c P m → IsReadBack Y e Q m
    → IsReadBack (X × Y) (pairs c e) (λ p. P p.0 × Q p.1) (suc m)
pairs-back h k = record {
  back = λ p f. zipped _ _ p.0 p.1 (h.back p.0 f.0) (k.back p.1 f.1);
  plain = λ p f. (h.plain p.0 f.0, (k.plain p.1 f.1, tt));
  shallow = λ p. let a = h.shallow p.0 in let b = k.shallow p.1 in omega arith;
  exact = λ p. rw (h.exact p.0, k.exact p.1) refl;
}

pub fours-back : {X Y Z W : Type 0} {c : Codec X} {e : Codec Y} {f : Codec Z} {g : Codec W} {P : X → Type 0} {Q : Y → Type 0} {R : Z → Type 0} {S : W → Type 0} {m : ℕ}
    → IsReadBack X c P m → IsReadBack Y e Q m → IsReadBack Z f R m → IsReadBack W g S m
    → IsReadBack ((X × Y) × (Z × W)) (fours c e f g) (λ p. (P p.0.0 × Q p.0.1) × (R p.1.0 × S p.1.1)) (suc m)
fours-back h k i j = record {
  back = λ p t. zipped _ _ p.0 p.1 (zipped _ _ p.0.0 p.0.1 (h.back p.0.0 t.0.0) (k.back p.0.1 t.0.1)) (zipped _ _ p.1.0 p.1.1 (i.back p.1.0 t.1.0) (j.back p.1.1 t.1.1));
  plain = λ p t. (h.plain p.0.0 t.0.0, (k.plain p.0.1 t.0.1, (i.plain p.1.0 t.1.0, (j.plain p.1.1 t.1.1, tt))));
  shallow = λ p. let a = h.shallow p.0.0 in let b = k.shallow p.0.1 in let d = i.shallow p.1.0 in let e = j.shallow p.1.1 in omega arith;
  exact = λ p. rw (h.exact p.0.0, k.exact p.0.1, i.exact p.1.0, j.exact p.1.1) refl;
}

-- ---- lists

module _ {X : Type 0} {c : Codec X} {P : X → Type 0} {m : ℕ} (h : IsReadBack X c P m) where
  each-back : (xs : List X) → AllByRecursion P xs → read_each c.read (items_of (map c.write xs)) ≡ Some xs
  each-back [] f = refl
  each-back (x ∷ xs) f =
      ap (option_and_then (λ y. option_map (λ ys. y ∷ ys) (read_each c.read (items_of (map c.write xs))))) (h.back x f.0) ∙ ap (option_map (λ ys. x ∷ ys)) (each-back xs f.1)

  each-plain : (xs : List X) → AllByRecursion P xs → ArePlain (items_of (map c.write xs))
  each-plain [] f = tt
  each-plain (x ∷ xs) f = (h.plain x f.0, each-plain xs f.1)

  each-shallow : (xs : List X) → items_depth (items_of (map c.write xs)) ≤ m
  each-shallow [] = omega arith
  each-shallow (x ∷ xs) = let first = h.shallow x in let rest = each-shallow xs in omega arith

  each-exact : (xs : List X) → items_have_float (items_of (map c.write xs)) ≡ false
  each-exact [] = refl
  each-exact (x ∷ xs) = rw (h.exact x) (each-exact xs)

  pub lists-back : IsReadBack (List X) (lists c) (AllByRecursion P) (suc m)
  lists-back = record { back = each-back; plain = each-plain; shallow = λ xs. let d = each-shallow xs in omega arith; exact = each-exact }

-- ---- tests, and what is made of values

pub kept : {X : Type 0} (p : X → Bool) (o : Option X) (x : X) → o ≡ Some x → p x ≡ true → kept_if p o ≡ Some x
kept p o x e h = ap (kept_if p) e ∙ ap (λ b. cond b (Some x) None) h

pub only_if-back : {X : Type 0} {c : Codec X} {P : X → Type 0} {m : ℕ} (p : X → Bool) → IsReadBack X c P m → IsReadBack X (only_if p c) (λ x. P x × (p x ≡ true)) m
only_if-back p h = record { back = λ x f. kept p _ x (h.back x f.0) f.1; plain = λ x f. h.plain x f.0; shallow = h.shallow; exact = h.exact }

pub mapped-back : {X Y : Type 0} {c : Codec X} {P : X → Type 0} {m : ℕ} (to : X → Y) (from : Y → X) → ((y : Y) → to (from y) ≡ y) → IsReadBack X c P m
    → IsReadBack Y (mapped to from c) (λ y. P (from y)) m
mapped-back to from same h = record {
  back = λ y f. ap (option_map to) (h.back (from y) f) ∙ ap Some (same y);
  plain = λ y f. h.plain (from y) f;
  shallow = λ y. h.shallow (from y);
  exact = λ y. h.exact (from y);
}

pub parsed-back : {X Y : Type 0} {c : Codec X} {P : X → Type 0} {m : ℕ} (to : X → Option Y) (from : Y → X) → IsReadBack X c P m
    → IsReadBack Y (parsed to from c) (λ y. P (from y) × (to (from y) ≡ Some y)) m
parsed-back to from h = record {
  back = λ y f. ap (option_and_then to) (h.back (from y) f.0) ∙ f.1;
  plain = λ y f. h.plain (from y) f.0;
  shallow = λ y. h.shallow (from y);
  exact = λ y. h.exact (from y);
}

-- ---- keys of objects

-- what stands at a key is read back, whatever else the object has
pub key-back : {X : Type 0} {c : Codec X} {P : X → Type 0} {m : ℕ} → IsReadBack X c P m → (k : List ℕ) (d : Data) (x : X) → P x → get k d ≡ Some (c.write x) → (at_key k c).find_in d ≡ Some x
key-back {X} {c} h k d x f at = ap (option_and_then c.read) at ∙ h.back x f
