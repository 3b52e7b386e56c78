use Rattle.std.proofs.Common.{◌≡◌, drop, is_some}
use Rattle.serde_json.specs.Find.{as_str}
use Rattle.serde_json.specs.View.{view, items_view}
use Rattle.ls_files.specs.SurmiseFiles.{read_each, read_list}
use Rattle.ls_skill.proofs.reading.is_text_list.Given as goal

-- whether the rest are texts
abbrev pub invariant-loop-entry : goal.invariant-loop-entry
invariant-loop-entry l =
    is_some (read_each as_str (items_view (drop l.entry-index l.entry-items)))
    ≡ is_some (read_list as_str (view l.value))
