use Rattle.ls_write.proofs.Vocabulary.{List, Says, ℕ, base_skills, drop, false, listed}
use Rattle.ls_write.proofs.Vocabulary.{skills_row_text}
use Rattle.ls_write.proofs.Listed.{Completes}
use Rattle.ls_write.proofs.skills.put_rows.Given as goal

-- what was said, with the rows that are left, is all rows
abbrev pub invariant-loop-item : goal.invariant-loop-item
invariant-loop-item g l =
    (given : List ℕ) × record {
      said : Says (g.K.Sink.written l.fn.out) (g.K.Sink.faults l.fn.out) l.fn.room
          (g.K.Sink.written l.out) (g.K.Sink.faults l.out) l.room given;
      left : Completes (skills_row_text l.texts (base_skills l.sets)) given l.later
          (drop l.item-index l.items)
          (listed (skills_row_text l.texts (base_skills l.sets)) false l.items);
    }
