use Rattle.ls_expert.proofs.Vocabulary.{◌∙◌, ◌≡◌, Interview, IsInquiry, IsStart, StartOn, [], ap, false, interview_of, refl, subst, sym, yes_queries}
use Rattle.ls_expert.proofs.Holding.{tabled-by, held-start}
use Rattle.ls_expert.proofs.Asking.{asking}
use Rattle.ls_expert.proofs.inquiry.Inquiry.begin_with.Goals as goal

pub invariant_of-self : goal.invariant_of-self
invariant_of-self c =
    let s = c.self.inside.family.inner in
    let i = interview_of s c.self.inside.block c.self.inside.answers.items c.self.inside.next in
    let f = c.args.family in
    let items : f.inner.item_count ≡ s.item_count = c.requires.items ∙ sym (ap (λ (j : Interview). j.count) c.self.view_is) in
    let none : c.self.inside.answers.items ≡ [] = ap (λ (j : Interview). j.answers) c.self.view_is ∙ c.requires.none in
    let inner = ap (λ m. let x : StartOn = record { item_count = m; start = f.inner.start } in x) items in
    let is_start : IsStart s.item_count f.inner.start = subst (λ (j : Interview). IsStart j.count f.inner.start) (sym c.self.view_is) c.requires.start in
    let tabled = tabled-by (record i { start = f.inner.start }) _ f.inner.start [] [] c.args.table c.requires.table (sym (ap (λ (j : Interview). j.count) c.self.view_is)) refl (sym (ap yes_queries none)) (sym none) in
    let held = held-start i f.inner.start c.self.inside.family.rules f.rules c.self.inside.table c.args.table c.self.invariant.held none is_start c.requires.rules tabled in
    subst (λ (x : StartOn). IsInquiry (interview_of x c.self.inside.block c.self.inside.answers.items c.self.inside.next) c.self.inside.blocks f.rules c.args.table c.next_query-self-inside.result false) (sym inner)
    (asking (record i { start = f.inner.start }) c.self.inside.blocks f.rules c.args.table c.next_query-self-inside.result held c.self.invariant.asked c.self.invariant.some_sizes c.next_query-self-inside.ensures)
