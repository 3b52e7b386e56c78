-- Examples of relations on the items a b c.
use Rattle.std.proofs.Common.{◌≡◌, ℕ, List, [], ◌∷◌, Some, None, refl}
use Rattle.ls_theory.specs.Starts.{Sets}
use Rattle.ls_theory.specs.Compatible.{compat}
use Rattle.ls_theory.specs.Clauses.{clauses_at}
use Rattle.ls_origins.specs.Relations.{kept_sets, relation, first_cycle, covers, first_clauses}
use Rattle.ls_origins.specs.Relations.{clauses_below, relation_fault}
use Rattle.ls_origins.specs.declared.relation_fault.RelationFault.TheVariants.{TwoClauses, Quasi}
use Rattle.ls_origins.proofs.Small.{words, ∅, a, ab, c, bc, abc, six_states}

-- ---- a is below b in the six states

six_is_an_order : relation_fault 3 (clauses_at 3 six_states) ≡ None
unfolding words
six_is_an_order = refl

six_relation : first_clauses (clauses_at 3 six_states) ≡ a ∷ ab ∷ c ∷ []
unfolding words
six_relation = refl

six_covers : covers 3 (first_clauses (clauses_at 3 six_states)) ≡ (0, 1) ∷ []
unfolding words
six_covers = refl

-- ---- what is refused: two clauses at b; a and b below each other, in the unions of {a b} and {a b
-- c}

two_clauses_at_b : relation_fault 3 ((a ∷ []) ∷ (ab ∷ bc ∷ []) ∷ (c ∷ []) ∷ [])
    ≡ Some (TwoClauses 1)
unfolding words
two_clauses_at_b = refl

below_each_other : relation_fault 3 (clauses_at 3 (compat 3 (Sets (ab ∷ abc ∷ [])) []))
    ≡ Some (Quasi 0 1)
unfolding words
below_each_other = refl

-- ---- a is below b and b below c

abbrev chain : List (ℕ × ℕ)
chain = (0, 1) ∷ (1, 2) ∷ (0, 2) ∷ []

chain_relation : relation 3 chain ≡ a ∷ ab ∷ abc ∷ []
unfolding words
chain_relation = refl

chain_is_acyclic : first_cycle 3 chain ≡ None
unfolding words
chain_is_acyclic = refl

chain_covers : covers 3 (relation 3 chain) ≡ (0, 1) ∷ (1, 2) ∷ []
unfolding words
chain_covers = refl

chain_again : relation 3 (covers 3 (relation 3 chain)) ≡ relation 3 chain
unfolding words
chain_again = refl

chain_states : kept_sets 3 (relation 3 chain) ≡ abc ∷ ab ∷ a ∷ ∅ ∷ []
unfolding words
chain_states = refl

chain_clauses : clauses_below (relation 3 chain) ≡ (a ∷ []) ∷ (ab ∷ []) ∷ (abc ∷ []) ∷ []
unfolding words
chain_clauses = refl

-- ---- cycles

a_cycle : first_cycle 3 ((0, 1) ∷ (1, 0) ∷ []) ≡ Some 0
unfolding words
a_cycle = refl

-- a pair of an item with itself is one, and a pair that is told twice is none
alone : first_cycle 3 ((0, 1) ∷ (2, 2) ∷ []) ≡ Some 2
unfolding words
alone = refl

twice : first_cycle 3 ((0, 1) ∷ (0, 1) ∷ []) ≡ None
unfolding words
twice = refl
