-- What is shown of a surmise relation.
use Rattle.std.specs.Prelude.{ℕ, List, Option, Some, None}
use Rattle.ls_set.specs.{Items}
use Rattle.ls_origins.specs.Relations.{covers, first_clauses, relation_fault}
use Rattle.ls_origins.specs.declared.relation_fault.RelationFault.{RelationFault}
use Rattle.ls_meaning.specs.declared.response.Response.{Response}
use Rattle.ls_meaning.specs.declared.response.Response.TheVariants.{Shown}
use Rattle.ls_meaning.specs.declared.response.Shown.TheVariants as shown

-- the covers of the relation below each item, or what keeps it from being one
abbrev pub covers_unless : ℕ → List Items → Option RelationFault → Response
covers_unless n below None = Shown (shown.Covers (covers n below))
covers_unless n below (Some fault) = Shown (shown.NoRelation fault)

-- those of a surmise function of n items
abbrev pub relation_shown : ℕ → List (List Items) → Response
relation_shown n clauses = covers_unless n (first_clauses clauses) (relation_fault n clauses)
