use Rattle.ls_paths.proofs.Vocabulary.{◌∙◌, ap, arith, least, not, rules, sym, unwrap_or}
use Rattle.ls_paths.proofs.Added.{fringe-first, least-begin, least-last, least-none, outside-small}
use Rattle.ls_paths.proofs.Growths.{learning-from}
use Rattle.ls_paths.proofs.Written.{none-is, outside-next}
use Rattle.ls_paths.proofs.steps.least_item.Goals as goal

pub returns-in_default : goal.returns-in_default
returns-in_default g c =
    let n = g.F.Inside.item_count c.args.f.now in
    let f = g.F.Inside.members c.args.f.now in
    let small = (g.met.F.Inside.is_family c.args.f.now).small in
    let first = least-none n f c.args.k small c.requires.member c.requires.some (ap least (sym c.requires.outside) ∙ sym c.least.ensures.value ∙ c.in_default.is) in
    record { value = first.value; member = first.member; place = search rules }

pub returns-then-is_none : goal.returns-then-is_none
returns-then-is_none g c =
    let n = g.F.Inside.item_count c.args.f.now in
    let f = g.F.Inside.members c.args.f.now in
    let small = (g.met.F.Inside.is_family c.args.f.now).small in
    let begin = least-begin n f c.args.k c.in-Some.first small (ap least (sym c.requires.outside) ∙ sym c.least.ensures.value ∙ c.in-Some.is) in
    let none = none-is c.next_member.result (c.is_none.ensures ∙ ap not c.if-is_none.true) in
    let first = least-last n f c.args.k c.in-Some.first (learning-from n f small c.requires.learning) c.requires.member begin (outside-next n c.args.k c.args.outside c.in-Some.first c.next_member.result _ c.requires.outside c.next_member.ensures.value none) in
    record { value = first.value; member = first.member; place = omega (arith, (outside-small n c.args.k c.in-Some.first begin.outside).0, c.requires.few) }

pub outer_fringe-requires : goal.outer_fringe-requires
outer_fringe-requires g c = (g.met.F.Inside.is_family c.args.f.now).small c.args.k c.requires.member

pub returns : goal.returns
returns g c =
    let n = g.F.Inside.item_count c.args.f.now in
    let f = g.F.Inside.members c.args.f.now in
    let small = (g.met.F.Inside.is_family c.args.f.now).small in
    let begin = least-begin n f c.args.k c.in-Some.first small (ap least (sym c.requires.outside) ∙ sym c.least.ensures.value ∙ c.in-Some.is) in
    let first = fringe-first n f c.args.k c.outer_fringe.result c.in-Some.first c.unwrap_or.result (learning-from n f small c.requires.learning) c.requires.member begin.outside (c.outer_fringe.ensures.value c.requires.member) (c.unwrap_or.ensures ∙ ap (λ o. unwrap_or o 0) c.least-2.ensures.value) in
    record { value = first.0.value; member = first.0.member; place = omega (arith, first.1, c.requires.few) }
