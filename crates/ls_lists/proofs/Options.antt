-- Options and results.
use Rattle.ls_lists.proofs.Vocabulary.{◌≡◌, Bool, Err, IsErr, None, Ok, OnErr, OnOk, Option, Result, Some, cond, false, is_some, option_map, refl, true, true≢false}
use Rattle.std.specs.Option.{option_map_or}
use Rattle.ls_lists.proofs.Bools.{never}

-- ---- options

pub nothing : {X : Type 0} (o : Option X) → is_some o ≡ false → o ≡ None
nothing None h = refl
nothing (Some x) h = absurd (true≢false h)

pub is_some-mapped : {X Y : Type 0} (f : X → Y) (o : Option X) → is_some (option_map f o) ≡ is_some o
is_some-mapped f None = refl
is_some-mapped f (Some x) = refl

pub none_from_map : {X Y : Type 0} (f : X → Y) (o : Option X) → option_map f o ≡ None → o ≡ None
none_from_map f None e = refl
none_from_map f (Some x) e = cc

pub map-cond : {X Y : Type 0} (f : X → Y) (b : Bool) (x : X) → option_map f (cond b (Some x) None) ≡ cond b (Some (f x)) None
map-cond f true x = refl
map-cond f false x = refl

pub not_first : {X : Type 0} (b : Bool) (x : X) (rest : Option X) → cond b (Some x) rest ≡ None → (b ≡ false) × (rest ≡ None)
not_first true x rest e = absurd (cc e)
not_first false x rest e = (refl, e)

pub passed : {X : Type 0} (test : X → Bool) (o : Option X) → option_map_or test o false ≡ true → (x : X) × (o ≡ Some x) × (test x ≡ true)
passed test None h = never h
passed test (Some x) h = (x, refl, h)

pub passes : {X : Type 0} (test : X → Bool) (o : Option X) (x : X) → o ≡ Some x → test x ≡ true → option_map_or test o false ≡ true
passes test o x e h = rw e h

-- ---- results

pub same_Ok : {T E : Type 0} {a b : T} → ◌≡◌ {A = Result T E} (Ok a) (Ok b) → a ≡ b
same_Ok e = cc

pub ok-err : {T E : Type 0} {a : T} {b : E} → ◌≡◌ {A = Result T E} (Ok a) (Err b) → ⊥
ok-err e = cc

pub OnErr_from : {T E : Type 0} (r : Result T E) {P : Type 0} → P → OnErr r P
OnErr_from (Ok x) h = tt
OnErr_from (Err e) h = h

pub OnOk_never : {T E : Type 0} (r : Result T E) (P : Type 0) → IsErr r → OnOk r P
OnOk_never (Ok x) P h = absurd (cc h)
OnOk_never (Err e) P h = tt
