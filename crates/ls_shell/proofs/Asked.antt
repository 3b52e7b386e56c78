-- What words ask for: no script but that of the input, where there is none.
use Rattle.ls_shell.proofs.Vocabulary.{◌∷◌, ◌≡◌, Bool, Drill, File, Input, List, Mode, None, Option, Some, Text, ℕ, [], bytes_eq, codes, cond, false, is_file, is_from_to, map, refl, true}
use Rattle.ls_words.specs.Modes.{mode_of, mode_of_option, file, drill, read_number, most_drilled}

no_file : (name : Text) → file name ≡ Some Input → ⊥
no_file name e = elim (is_file name) as (λ b. cond b (Some (File name)) None ≡ Some Input → ⊥) [ true ↦ λ e. cc e | false ↦ λ e. cc e ] e

no_drill : (n number : Option ℕ) → drill n number ≡ Some Input → ⊥
no_drill (Some n) (Some number) e = elim (is_from_to 1 most_drilled n) as (λ b. cond b (Some (Drill n number)) None ≡ Some Input → ⊥) [ true ↦ λ e. cc e | false ↦ λ e. cc e ] e
no_drill None number e = cc e
no_drill (Some n) None e = cc e

no_option : (option value : Text) → mode_of_option option value ≡ Some Input → ⊥
no_option option value e =
    elim (bytes_eq option (codes "--script")) as (λ b. cond b (file value) (cond (bytes_eq option (codes "--drill")) (drill (read_number value) (Some 1)) None) ≡ Some Input → ⊥) [
      | true ↦ λ e. no_file value e
      | false ↦ λ e. elim (bytes_eq option (codes "--drill")) as (λ b. cond b (drill (read_number value) (Some 1)) None ≡ Some Input → ⊥) [ true ↦ λ e. no_drill (read_number value) (Some 1) e | false ↦ λ e. cc e ] e
    ] e

either : (a b : Bool) (x y : Option Mode) → (x ≡ Some Input → ⊥) → (y ≡ Some Input → ⊥) → cond a x (cond b y None) ≡ Some Input → ⊥
either true b x y f g e = f e
either false true x y f g e = g e
either false false x y f g e = cc e

pub input-none : (ws : List Text) → mode_of ws ≡ Some Input → ws ≡ []
unfolding mode_of
input-none [] e = refl
input-none (option ∷ []) e = absurd (cc e)
input-none (option ∷ value ∷ []) e = absurd (no_option option value e)
input-none (first ∷ value ∷ second ∷ []) e = absurd (cc e)
input-none (first ∷ value ∷ second ∷ other ∷ []) e = absurd (either _ _ (drill (read_number value) (read_number other)) (drill (read_number other) (read_number value)) (no_drill (read_number value) (read_number other)) (no_drill (read_number other) (read_number value)) e)
input-none (first ∷ value ∷ second ∷ other ∷ word ∷ words) e = absurd (cc e)

pub none-mapped : {X Y : Type 0} (f : X → Y) (xs : List X) → map f xs ≡ [] → xs ≡ []
none-mapped f [] e = refl
none-mapped f (x ∷ xs) e = absurd (cc e)
