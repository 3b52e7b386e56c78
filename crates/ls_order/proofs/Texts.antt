-- The relation of a file.
use Rattle.std.proofs.Common.{ℕ, ◌≡◌, ◌∙◌, Err, IfErr, IfOk, List, None, Ok, Option, Result, Some}
use Rattle.std.proofs.Common.{ap, length, option_map}
use Rattle.std.proofs.Common.{refl, subst, sym}
use Rattle.std.specs.Option.{option_map_or}
use Rattle.ls_set.specs.ItemSet.{Items}
use Rattle.ls_cutting.specs.{Text}
use Rattle.ls_origins.specs.Relations.{first_cycle, relation}
use Rattle.ls_origins.specs.declared.pair_fault.PairFault.{PairFault}
use Rattle.ls_origins.specs.declared.pair_fault.PairFault.TheVariants.{Cycle}
use Rattle.ls_files.specs.SetFiles.{after_ok}
use Rattle.ls_files.specs.PairFiles.{IsPairFaultOf, acyclic, pairs_of_file, relation_of}
use Rattle.ls_order.specs.Related.{RelationState}
use Rattle.ls_order.proofs.Lines.{fault-told}

relation-from : (names : List Text) (text : List ℕ) (pairs : List (ℕ × ℕ))
    → pairs_of_file names text
    ≡ Ok pairs → relation_of names text ≡ acyclic (length names) pairs
unfolding relation_of
relation-from names text pairs e = ap (after_ok (acyclic (length names))) e

pub relation-ok : (names : List Text) (text : List ℕ) (pairs : List (ℕ × ℕ)) (below : List Items)
    → pairs_of_file names text ≡ Ok pairs → first_cycle (length names) pairs ≡ None
    → below ≡ relation (length names) pairs → relation_of names text ≡ Ok below
unfolding acyclic
relation-ok names text pairs below e none is =
    let n = length names in
    relation-from names text pairs e
    ∙ ap (λ o. option_map_or (λ q. Err (Cycle q)) o (Ok (relation n pairs))) none
    ∙ ap (λ b. Ok b) (sym is)

pub relation-cycle : (names : List Text) (text : List ℕ) (pairs : List (ℕ × ℕ)) (e : PairFault)
    → pairs_of_file names text ≡ Ok pairs
    → option_map Cycle (first_cycle (length names) pairs) ≡ Some e
    → IsPairFaultOf (relation_of names text) e
unfolding acyclic
relation-cycle names text pairs e read h = told (first_cycle (length names) pairs) refl h
  where
    told : (o : Option ℕ) → first_cycle (length names) pairs ≡ o → option_map Cycle o ≡ Some e
        → IsPairFaultOf (relation_of names text) e
    told None is f = absurd (cc f)
    told (Some q) is f =
        let same : Cycle q ≡ e = cc in
        subst (IsPairFaultOf (relation_of names text)) same
        (relation-from names text pairs read
        ∙ ap (λ o. option_map_or (λ q. Err (Cycle q)) o (Ok (relation (length names) pairs)))
        is)

pub relation-fault : (names : List Text) (text : List ℕ) (e : PairFault)
    → IsPairFaultOf (pairs_of_file names text) e → IsPairFaultOf (relation_of names text) e
unfolding relation_of
relation-fault names text e =
    fault-told (relation_of names text) (pairs_of_file names text) e
    (λ fault f. ap (after_ok (acyclic (length names))) f)

-- ---- what a call has made of the rows of a file

pub made-ok : (names : List Text) (text : List ℕ) (n : ℕ) (pairs : List (ℕ × ℕ))
    (made : Result RelationState PairFault) → n ≡ length names → pairs_of_file names text ≡ Ok pairs
    → IfOk made (λ r. (first_cycle n pairs ≡ None) × (r.below ≡ relation n pairs))
    → IfOk made (λ r. relation_of names text ≡ Ok r.below)
made-ok names text n pairs (Ok r) e read h =
    relation-ok names text pairs r.below read (ap (λ m. first_cycle m pairs) (sym e) ∙ h.0)
    (h.1 ∙ ap (λ m. relation m pairs) e)
made-ok names text n pairs (Err fault) e read h = tt

pub made-fault : (names : List Text) (text : List ℕ) (n : ℕ) (pairs : List (ℕ × ℕ))
    (made : Result RelationState PairFault) → n ≡ length names → pairs_of_file names text ≡ Ok pairs
    → IfErr made (λ e. option_map Cycle (first_cycle n pairs) ≡ Some e)
    → IfErr made (IsPairFaultOf (relation_of names text))
made-fault names text n pairs (Ok r) e read h = tt
made-fault names text n pairs (Err fault) e read h =
    relation-cycle names text pairs fault read
    (ap (λ m. option_map Cycle (first_cycle m pairs)) (sym e) ∙ h)
