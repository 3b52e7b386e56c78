-- The items at which a set is an atom, as they are told.
use Rattle.ls_write.proofs.Vocabulary.{◌&&◌, ◌<◌, ◌∙◌, ◌≡◌, Bool, Items, List, ℕ, ap, atom_items, atoms_at, clauses_at, get_or, get_or-map, has, is_atom_at, length, length-map, map, numbers_from, refl, set_of, suc, sym, true, false, zero}
use Rattle.ls_laws.proofs.ReadBack.{has-chosen}

absorbed : (a b : Bool) → (a && (a && b)) ≡ (a && b)
absorbed true b = refl
absorbed false b = refl

-- whether the set at a place is an atom at an item
pub atom-told : (sets atoms : List Items) (i q : ℕ) (k a : Items) → i < length sets → atoms ≡ map (λ k. set_of (atom_items sets k)) sets → k ≡ get_or sets i k → a ≡ get_or atoms i a
    → has a q ≡ is_atom_at sets q k
atom-told sets atoms i q k a lt e at told =
    ap (λ s. has s q) (told ∙ ap (λ l. get_or l i a) e ∙ get_or-map (λ k. set_of (atom_items sets k)) sets i k a lt)
    ∙ ap (λ l. has (set_of (atom_items sets l)) q) (sym at)
    ∙ has-chosen (λ q. is_atom_at sets q k) k q
    ∙ absorbed (has k q) _

-- ---- a surmise function has clauses for each item

length-numbers : (i m : ℕ) → length (numbers_from i m) ≡ m
length-numbers i zero = refl
length-numbers i (suc m) = ap suc (length-numbers (suc i) m)

pub length-clauses : (n : ℕ) (f : List Items) → length (clauses_at n f) ≡ n
length-clauses n f = length-map (numbers_from 0 n) (atoms_at f) ∙ length-numbers 0 n
