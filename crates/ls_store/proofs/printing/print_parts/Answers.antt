use Rattle.ls_store.proofs.Vocabulary.{IfOk-weaker, Session, pupils_of, session_text}
use Rattle.ls_codecs.proofs.RoundTrip.{session-exact}
use Rattle.ls_store.proofs.printing.print_parts.Goals as goal

pub returns : goal.returns
unfolding session_text
returns c =
    let s : Session = record { names = c.args.domain.now; interview = c.args.inquiry.now; settings = c.args.settings.now; pupils = pupils_of c.args.pupils.now } in
    let value = c.in_ok-value.ensures in
    IfOk-weaker c.to_vec-text.result _ _ (λ v h. let k = rw value at h in k (session-exact s c.requires.pupils.few_items)) c.to_vec-text.ensures.text
