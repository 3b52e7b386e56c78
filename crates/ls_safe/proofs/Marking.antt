-- Passes over answers with marks, answer by answer.
use Rattle.std.proofs.Common.{ℕ, zero, suc, ◌≡◌, true, false, not, ◌&&◌, List}
use Rattle.std.proofs.Common.{[], ◌∷◌, ◌++◌, length, Some}
use Rattle.std.proofs.Common.{None, option_map, refl, ap, ◌∙◌}
use Rattle.std.specs.List.{list_all}
use Rattle.std.specs.Option.{option_map_or}
use Rattle.std.proofs.lemmas.Bool.{and_parts, not-true}
use Rattle.ls_set.specs.ItemSet.{Items}
use Rattle.ls_set.specs.declared.query.Query.{Query}
use Rattle.ls_origins.specs.Safe.{trial, is_safe}
use Rattle.ls_origins.specs.Safe.{waiting, Marks, marked_first, marked_passes}
use Rattle.ls_origins.specs.Safe.{marked_settled}
use Rattle.ls_origins.specs.declared.safe_answer.SafeAnswer.{SafeAnswer}
use Rattle.ls_safe.specs.Turns.{unmarked, is_passed}
use Rattle.ls_safe.proofs.Turns.{applied-fewer}
use Rattle.ls_safe.proofs.Marked.{marked-applied}

-- ---- a pass over marks

-- an answer that is applied is passed over
pub marked-at : (n : ℕ) (f : List Items) (before : List SafeAnswer) (number : ℕ) (r : Query)
    (rest : List SafeAnswer) → list_all (is_passed n f) before ≡ true → is_safe n f r ≡ true
    → marked_first n f (before ++ record { number = number; query = r; applied = false } ∷ rest)
    ≡ Some
    (record {
      family = trial r f;
      answers = before
          ++ record { number = number; query = r; applied = true } ∷ rest;
    })
marked-at n f [] number r rest none can = rw can refl
marked-at n f (a ∷ before) number r rest none can =
    let x = and_parts (is_passed n f a) (list_all (is_passed n f) before) none in
    rw (not-true (not a.applied && is_safe n f a.query) x.0)
    (ap (option_map (λ s. record { family = s.family; answers = a ∷ s.answers }))
    (marked-at n f before number r rest x.1 can))

pub none-marked : (n : ℕ) (f : List Items) (answers : List SafeAnswer)
    → list_all (is_passed n f) answers ≡ true → marked_first n f answers ≡ None
none-marked n f [] none = refl
none-marked n f (a ∷ answers) none =
    let x = and_parts (is_passed n f a) (list_all (is_passed n f) answers) none in
    rw (not-true (not a.applied && is_safe n f a.query) x.0)
    (ap (option_map (λ s. record { family = s.family; answers = a ∷ s.answers }))
    (none-marked n f answers x.1))

pub marked-settled-none : (n : ℕ) (s : Marks) → marked_first n s.family s.answers ≡ None
    → marked_settled n s ≡ s
marked-settled-none n s e = stay n (length (waiting s.answers)) s e
  where
    stay : (n m : ℕ) (s : Marks) → marked_first n s.family s.answers ≡ None → marked_passes n m s
        ≡ s
    stay n zero s e = refl
    stay n (suc m) s e = ap (λ o. option_map_or (marked_passes n m) o s) e

pub marked-settled-some : (n : ℕ) (s t : Marks) → marked_first n s.family s.answers ≡ Some t
    → marked_settled n s ≡ marked_settled n t
marked-settled-some n s t e =
    ap (λ m. marked_passes n m s)
    (applied-fewer n s.family (waiting s.answers) (unmarked t)
    (marked-applied n s.family s.answers ∙ ap (option_map unmarked) e))
    ∙ ap (λ o. option_map_or (marked_passes n (length (waiting t.answers))) o s) e
