use Rattle.std.proofs.Common.{◌≡◌, ◌∙◌, ap, ap₂, unwrap_or}
use Rattle.ls_set.specs.ItemSet.{with}
use Rattle.ls_skill.specs.Maps.{skills_seen}
use Rattle.ls_skill.specs.Gathering.{held_by, put_skill}
use Rattle.ls_skill.proofs.Entries.{seen-insert, seen-held}
use Rattle.ls_skill.proofs.gathering.add_skill.Goals as goal

pub returns : goal.returns
returns c =
    let before = c.args.skills.now.entries in
    let q = c.args.q in
    let items : c.unwrap_or-items.result ≡ held_by (skills_seen before) c.args.name.now =
    c.unwrap_or-items.ensures ∙ ap₂ unwrap_or (c.copied.ensures ∙ c.get.ensures.value)
    c.empty.ensures
    ∙ seen-held before c.args.name.now in
    ap skills_seen c.in_ok-insert.ensures.entries
    ∙ seen-insert before c.in_ok-from_str.field-0 c.with.result
    ∙ ap₂ (λ w s. put_skill w s (skills_seen before)) c.in_ok-from_str.ensures.ok
    (c.with.ensures ∙ ap (λ s. with s q) items)
