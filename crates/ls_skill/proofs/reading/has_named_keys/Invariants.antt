use Rattle.std.proofs.Common.{◌≡◌}
use Rattle.serde_json.specs.View.{view, members_view}
use Rattle.ls_skill.specs.Gathering.{are_named, are_keys_named}
use Rattle.ls_skill.proofs.reading.has_named_keys.Given as goal

-- whether the rest of the keys are names
abbrev pub invariant-loop-key : goal.invariant-loop-key
invariant-loop-key l = record {
  can : (goal.iterator-loop-key).can_next l.key-iterator;
  finite : (goal.iterator-loop-key).is_finite l.key-iterator;
  rest : are_named l.d (members_view l.key-iterator) ≡ are_keys_named l.d (view l.value);
}
