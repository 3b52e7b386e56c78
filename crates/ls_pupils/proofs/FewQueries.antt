-- States that are listed by few of the Yes queries.
use Rattle.ls_pupils.proofs.Vocabulary.{◌∙◌, ◌≡◌, Items, List, Query, [], ap, breaks_none, compat, filter, sym}
use Rattle.ls_standing.proofs.Ruling.{ruled-compat}
use Rattle.ls_standing.specs.Starts.{StartOn}

-- the sets that few queries leave of a start are those that all leave
pub few-left : (inner first : StartOn) (few all : List Query) (sets : List Items) → inner ≡ first
    → compat first.item_count first.start few ≡ compat first.item_count first.start all
    → filter (breaks_none all) (compat first.item_count first.start []) ≡ sets
    → filter (breaks_none few) (compat inner.item_count inner.start []) ≡ sets
few-left inner first few all sets same left is =
    ap (λ (s : StartOn). filter (breaks_none few) (compat s.item_count s.start [])) same
    ∙ ruled-compat first.item_count first.start few
    ∙ left
    ∙ sym (ruled-compat first.item_count first.start all)
    ∙ is
