use Rattle.std.proofs.Common.{◌≡◌, ◌==◌, drop, length}
use Rattle.serde_json.specs.View.{items_view}
use Rattle.ls_skill.specs.Gathering.{texts_in}
use Rattle.ls_skill.proofs.reading.has_no_text.Given as goal

-- whether the rest has no text
abbrev pub invariant-loop-value : goal.invariant-loop-value
invariant-loop-value l =
    (length (texts_in (items_view (drop l.value-index l.values))) == 0)
    ≡ (length (texts_in (items_view l.values)) == 0)
