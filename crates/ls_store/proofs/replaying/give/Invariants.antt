use Rattle.ls_store.proofs.Vocabulary.{◌≡◌, Weighing, [], drop, follow, take}
use Rattle.ls_store.proofs.replaying.give.Given as goal

-- the pupil has given the replies so far, and whether the others follow is whether all do
abbrev pub invariant-loop-reply : goal.invariant-loop-reply
invariant-loop-reply l = record {
  pupil : l.pupil ≡ (let p : Weighing = record l.initial.pupil { replies = take l.reply-index l.replies } in p);
  followed : follow l.initial.pupil.settings l.initial.pupil.states (take l.reply-index l.replies) (drop l.reply-index l.replies)
      ≡ follow l.initial.pupil.settings l.initial.pupil.states [] l.replies;
}
