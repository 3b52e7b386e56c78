use Rattle.ls_domain.proofs.Vocabulary.{◌<◌, ◌∙◌, ◌≡◌, ◌≤◌, ap, empty-within, false, get_or, is_named, length, moved-here, moved-next, moved-none, moved-zero, not, number_of, sym}
use Rattle.ls_domain.proofs.Numbers.{is_named-some, is_named-none, with-within, items_of-next}
use Rattle.ls_domain.proofs.domain.Domain.read_set.Goals as goal

pub loop-index-init : goal.loop-index-init
loop-index-init c = record { set = c.empty-set.ensures; within = rw c.empty-set.ensures (empty-within _); named = moved-zero _ }

pub returns-in_default-clause-unknown : goal.returns-in_default-clause-unknown
returns-in_default-clause-unknown c =
    let names = c.args.self.now in
    let words = c.args.words.now in
    let lt : c.loop-index.index < length words = rw (← c.as_slice-word-items.ensures) c.loop-index-test.true in
    let at : c.word-item.result ≡ get_or words c.loop-index.index c.word-item.result = c.word-item.is ∙ ap (λ l. get_or l c.loop-index.index c.word-item.result) c.as_slice-word-items.ensures in
    let new : is_named names c.word-item.result ≡ false = is_named-none names c.word-item.result (sym (c.in_default.ensures.value ∙ ap (number_of names) c.as_str.ensures)) in
    c.loop-index.invariant.named ∙ moved-here (λ w. not (is_named names w)) words c.loop-index.index c.word-item.result lt (rw (← at) (ap not new))

pub loop-index-preserved : goal.loop-index-preserved
loop-index-preserved c =
    let names = c.args.self.now in
    let words = c.args.words.now in
    let lt : c.loop-index.index < length words = rw (← c.as_slice-word-items.ensures) c.loop-index-test.true in
    let at : c.word-item.result ≡ get_or words c.loop-index.index c.word-item.result = c.word-item.is ∙ ap (λ l. get_or l c.loop-index.index c.word-item.result) c.as_slice-word-items.ensures in
    let number = sym (c.in-Some.ensures.value ∙ ap (number_of names) c.as_str.ensures) in
    record {
      set = c.with-set.ensures ∙ items_of-next names words c.loop-index.index c.word-item.result c.in-Some.item c.loop-index.set lt at number c.loop-index.invariant.set;
      within = rw c.with-set.ensures (with-within c.loop-index.set c.in-Some.item (length names) c.loop-index.invariant.within c.in-Some.ensures.within);
      named = c.loop-index.invariant.named ∙ moved-next (λ w. not (is_named names w)) words c.loop-index.index c.word-item.result lt (rw (← at) (ap not (is_named-some names c.word-item.result c.in-Some.item number)));
    }

pub returns-clause-named : goal.returns-clause-named
returns-clause-named c =
    let end : length c.args.words.now ≤ c.loop-index.index = rw (← c.as_slice-word-items.ensures) c.loop-index-test.false in
    c.loop-index.invariant.named ∙ moved-none (λ w. not (is_named c.args.self.now w)) c.args.words.now c.loop-index.index end
