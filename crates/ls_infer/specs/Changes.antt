-- A Yes that comes or goes: which families come one after the other,
-- and which closures are found anew.
--     IsChange c n r before after      the family was before the change, and is after it
--     is_stale c r closed      whether a closure from before the change can be another after it
--     can_grow r s      whether more can be enough for a standing No where a Yes comes
--     can_change c r s      whether what is kept of a standing No can be another after it
--     most_steps_each c n      the most steps that what is kept of a standing No takes after it
use Rattle.std.specs.Prelude.{ℕ, ◌+◌, Bool, not, ◌&&◌, ◌||◌, if◌then◌else◌, ◌≡◌, List}
use Rattle.ls_set.specs.{Items, empty, full, has, is_good, is_same, is_within, meet}
use Rattle.ls_set.specs.declared.query.Query.{Query}
use Rattle.ls_theory.specs.{breaks}
use Rattle.ls_laws.specs.Families.{IsFamily}
use Rattle.ls_laws.specs.Spans.{left_by}
use Rattle.ls_infer.specs.declared.standing_no.StandingNo.{StandingNo}
use Rattle.ls_infer.specs.declared.yes_change.YesChange.{YesChange}

-- a Yes to r that comes leaves the family after it; one that is taken back
-- had left the family before
abbrev pub IsChange : YesChange → ℕ → Query → List Items → List Items → Type 0
IsChange YesChange.Added n r before after = IsFamily n before × (after ≡ left_by r before)
IsChange YesChange.Removed n r before after = before ≡ left_by r after

-- the closure has the items of A; where the Yes comes, it lacks q
abbrev pub is_stale : YesChange → Query → Items → Bool
is_stale YesChange.Added r closed = is_within r.a closed && not (has closed r.q)
is_stale YesChange.Removed r closed = is_within r.a closed

-- more can be enough where a Yes comes: what is enough is a state that breaks it;
-- or it is no state, and no item of A is enough
abbrev pub can_grow : Query → StandingNo → Bool
can_grow r s = if s.is_state then breaks s.enough r else is_same (meet r.a s.enough) empty

-- where the Yes comes, the closure lacks q, and has the items of A, or more can be enough;
-- where it is taken back, the closure has the items of A, or lacks q
abbrev pub can_change : YesChange → Query → StandingNo → Bool
can_change YesChange.Added r s = not (has s.closed r.q) && (is_within r.a s.closed || can_grow r s)
can_change YesChange.Removed r s = is_within r.a s.closed || not (has s.closed r.q)

-- what is kept of a No to a good query, whose closure is of items below n,
-- as are those that are enough
abbrev pub is_kept : ℕ → StandingNo → Bool
is_kept n s = is_good n s.no.query && is_within s.closed (full n) && is_within s.enough (full n)

-- a step for each item, and one more where the Yes comes
abbrev pub most_steps_each : YesChange → ℕ → ℕ
most_steps_each YesChange.Added n = n + 1
most_steps_each YesChange.Removed n = n
