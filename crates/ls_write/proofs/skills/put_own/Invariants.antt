use Rattle.ls_write.proofs.Vocabulary.{List, Says, ℕ, base_skills, drop, false, filter, has, listed}
use Rattle.ls_write.proofs.Vocabulary.{own_skills, quoted}
use Rattle.ls_files.specs.SkillFiles.{Skill}
use Rattle.ls_write.proofs.Listed.{Completes}
use Rattle.ls_write.proofs.skills.put_own.Given as goal

-- what was said, with the skills that are left, is all skills
abbrev pub invariant-loop-place : goal.invariant-loop-place
invariant-loop-place g l =
    (given : List ℕ) × record {
      said : Says (g.K.Sink.written l.fn.out) (g.K.Sink.faults l.fn.out) l.fn.room
          (g.K.Sink.written l.out) (g.K.Sink.faults l.out) l.room given;
      left : Completes (λ (s : Skill). quoted s.name) given l.later
          (filter (λ (s : Skill). has s.items l.item) (drop l.place (base_skills l.sets)))
          (listed quoted false (own_skills (base_skills l.sets) l.item));
    }
