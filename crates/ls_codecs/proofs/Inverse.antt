-- What it means that something was read.
use Rattle.ls_codecs.proofs.Vocabulary.{◌∙◌, ◌∷◌, ◌≡◌, AllByRecursion, Bool, Cause, Data, Err, Values, List, None, Ok, Option, Result, Some, [], and_then, ap, as_array, cond, false, item, no_items, kept_if, option_and_then, option_map, option_zip, or_cause, read_each, read_list, read_pair, refl, subst, sym, true, two_values}

pub or_cause-ok : {X Y : Type 0} (c : Cause) (o : Option X) (next : X → Result Y Cause) (y : Y) → or_cause c o next ≡ Ok y → (x : X) × (o ≡ Some x) × (next x ≡ Ok y)
or_cause-ok c None next y e = absurd (let no : ⊥ = cc in no)
or_cause-ok c (Some x) next y e = (x, refl, e)

pub and_then-ok : {X Y : Type 0} (r : Result X Cause) (next : X → Result Y Cause) (y : Y) → and_then r next ≡ Ok y → (x : X) × (r ≡ Ok x) × (next x ≡ Ok y)
and_then-ok (Ok x) next y e = (x, refl, e)
and_then-ok (Err c) next y e = absurd (let no : ⊥ = cc in no)

pub chosen : {X : Type 0} (b : Bool) (y x : X) → cond b (Some y) None ≡ Some x → (y ≡ x) × (b ≡ true)
chosen true y x e = (let same : y ≡ x = cc in same, refl)
chosen false y x e = absurd (let no : ⊥ = cc in no)

pub kept_if-some : {X : Type 0} (p : X → Bool) (o : Option X) (x : X) → kept_if p o ≡ Some x → (o ≡ Some x) × (p x ≡ true)
kept_if-some p None x e = absurd (let no : ⊥ = cc in no)
kept_if-some p (Some y) x e = let c = chosen (p y) y x e in (ap Some c.0, ap p (sym c.0) ∙ c.1)

pub map-some : {X Y : Type 0} (f : X → Y) (o : Option X) (y : Y) → option_map f o ≡ Some y → (x : X) × (o ≡ Some x) × (f x ≡ y)
map-some f None y e = absurd (let no : ⊥ = cc in no)
map-some f (Some x) y e = (x, refl, let same : f x ≡ y = cc in same)

pub then-some : {X Y : Type 0} (f : X → Option Y) (o : Option X) (y : Y) → option_and_then f o ≡ Some y → (x : X) × (o ≡ Some x) × (f x ≡ Some y)
then-some f None y e = absurd (let no : ⊥ = cc in no)
then-some f (Some x) y e = (x, refl, e)

pub zip-some : {X Y : Type 0} (o : Option X) (q : Option Y) (p : X × Y) → option_zip o q ≡ Some p → (o ≡ Some p.0) × (q ≡ Some p.1)
zip-some None q p e = absurd (let no : ⊥ = cc in no)
zip-some (Some x) None p e = absurd (let no : ⊥ = cc in no)
zip-some {X} {Y} (Some x) (Some y) p e =
    let same : (let z : X × Y = (x, y) in z) ≡ p = cc in
    (ap (λ (z : X × Y). Some z.0) same, ap (λ (z : X × Y). Some z.1) same)

-- of each value that was read the reader's promise holds
each-some : {X : Type 0} (f : Data → Option X) (Q : X → Type 0) → ((d : Data) (x : X) → f d ≡ Some x → Q x) → (ds : Values) (xs : List X) → read_each f ds ≡ Some xs → AllByRecursion Q xs
each-some f Q h no_items [] e = tt
each-some f Q h no_items (x ∷ xs) e = absurd (let no : ⊥ = cc in no)
each-some f Q h (item d ds) xs e =
    let first = then-some (λ x. option_map (λ ys. x ∷ ys) (read_each f ds)) (f d) xs e in
    let rest = map-some (λ ys. first.0 ∷ ys) (read_each f ds) xs first.2 in
    subst (AllByRecursion Q) rest.2 (h d first.0 first.1, each-some f Q h ds rest.0 rest.1)

pub list-some : {X : Type 0} (f : Data → Option X) (Q : X → Type 0) → ((d : Data) (x : X) → f d ≡ Some x → Q x) → (d : Data) (xs : List X) → read_list f d ≡ Some xs → AllByRecursion Q xs
list-some f Q h d xs e = let values = then-some (read_each f) (as_array d) xs e in each-some f Q h values.0 xs values.2

pub pair-some : {X Y : Type 0} (f : Data → Option X) (g : Data → Option Y) (d : Data) (p : X × Y) → read_pair f g d ≡ Some p → (q : Data × Data) × (f q.0 ≡ Some p.0) × (g q.1 ≡ Some p.1)
pair-some f g d p e =
    let values = then-some (λ (q : Data × Data). option_zip (f q.0) (g q.1)) (option_and_then two_values (as_array d)) p e in
    let parts = zip-some (f values.0.0) (g values.0.1) p values.2 in
    (values.0, parts.0, parts.1)
