use Rattle.std.proofs.Common.{◌≡◌, is_some}
use Rattle.serde_json.specs.Find.{as_str}
use Rattle.serde_json.specs.View.{view, members_view}
use Rattle.ls_files.specs.SurmiseFiles.{read_list, read_members}
use Rattle.ls_files.specs.SkillFiles.{read_table}
use Rattle.ls_skill.proofs.reading.is_table.Given as goal

-- whether the rest are arrays of texts
abbrev pub invariant-loop-key : goal.invariant-loop-key
invariant-loop-key l = record {
  can : (goal.iterator-loop-key).can_next l._key-iterator;
  finite : (goal.iterator-loop-key).is_finite l._key-iterator;
  rest : is_some (read_members (read_list as_str) (members_view l._key-iterator))
      ≡ is_some (read_table (view l.value));
}
