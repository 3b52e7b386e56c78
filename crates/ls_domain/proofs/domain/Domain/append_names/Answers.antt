use Rattle.ls_domain.proofs.Vocabulary.{◌++◌, ◌∙◌, ◌∷◌, ◌≡◌, [], ap, append-nil, append_assoc, full, gap-snoc, items, join_with_byte, length, map, meet, name_of, sym, take, take-append_seam}
use Rattle.ls_domain.proofs.Joins.{word_joined}
use Rattle.ls_domain.proofs.NamedSets.{names_of_set-met}
use Rattle.ls_domain.proofs.domain.Domain.append_names.Goals as goal

pub loop-item-preserved : goal.loop-item-preserved
loop-item-preserved c = record {
  joined = word_joined (name_of c.args.self.now) c.loop-item.yielded c.in-Some.item c.args.out.now.items c.loop-item.out.items c.extend_from_slice.new.self.items _ _ _ c.loop-item.invariant.joined c.loop-item.invariant.parted c.in_ok-extend_from_slice.ensures.items
      (c.as_bytes.ensures.value ∙ c.name.ensures) c.in_ok-extend_from_slice-2.ensures.items;
  parted = gap-snoc c.loop-item.yielded c.in-Some.item;
  split = append_assoc c.loop-item.yielded (c.in-Some.item ∷ []) (items c.next.new.self) ∙ ap (λ l. c.loop-item.yielded ++ l) (sym c.in-Some.ensures.steps) ∙ c.loop-item.invariant.split;
}

pub returns-in_err-extend_from_slice-clause-kept : goal.returns-in_err-extend_from_slice-clause-kept
returns-in_err-extend_from_slice-clause-kept c = rw (c.in_err-extend_from_slice.ensures.items, c.loop-item.invariant.joined) (take-append_seam c.args.out.now.items _)

pub returns-in_err-extend_from_slice-2-clause-kept : goal.returns-in_err-extend_from_slice-2-clause-kept
returns-in_err-extend_from_slice-2-clause-kept c =
    let before = c.args.out.now.items in
    rw (c.in_err-extend_from_slice-2.ensures.items, c.in_ok-extend_from_slice.ensures.items, c.loop-item.invariant.joined)
    (ap (take (length before)) (append_assoc before _ c.loop-item.gap.now) ∙ take-append_seam before _)

pub returns-clause-ok : goal.returns-clause-ok
returns-clause-ok c =
    let names = c.args.self.now in
    let all : c.loop-item.yielded ≡ items (meet c.args.s (full (length names))) =
    sym (append-nil c.loop-item.yielded) ∙ ap (λ l. c.loop-item.yielded ++ l) (sym c.in-None.ensures.steps.0) ∙ c.loop-item.invariant.split in
    c.loop-item.invariant.joined
    ∙ ap (λ ws. c.args.out.now.items ++ join_with_byte 32 ws)
    (ap (map (name_of names)) all ∙ names_of_set-met names c.args.s)
