use Rattle.ls_class.proofs.Vocabulary.{◌≡◌, Items, Replay, count_by, filter, has, map, not, take}
use Rattle.ls_class.proofs.parting.merged.Given as goal

-- so many were taken of each, and what is known of the pupils so far is put together
abbrev pub invariant-loop-right : goal.invariant-loop-right
invariant-loop-right l = record {
  got : l.from_got ≡ count_by (λ k. has k l.q) (take l.right-index l.rights);
  missed : l.from_missed ≡ count_by (λ k. not (has k l.q)) (take l.right-index l.rights);
  all : (known : Items → Replay) → l.got ≡ map known (filter (λ k. has k l.q) l.rights)
      → l.missed ≡ map known (filter (λ k. not (has k l.q)) l.rights)
      → l.all.items ≡ map known (take l.right-index l.rights);
}
