use Rattle.ls_views.proofs.Vocabulary.{◌∙◌, ◌≡◌, List, Text, [], ap, bytes_of, is_refusal, lines_of, rules, session_with, started, subst, sym}
use Rattle.std.specs.Io.KnownBytes.{Appends}
use Rattle.ls_edge.specs.Causes.{AppendsFront}
use Rattle.ls_meaning.proofs.Refusing.{is_refusal-lines_of}
use Rattle.ls_views.proofs.Viewing.{reply_is}
use Rattle.ls_views.proofs.reading.view.Goals as goal

pub returns-clause-told : goal.returns-clause-told
returns-clause-told g c = λ s calls.
    c.is_refused.ensures ∙ sym (is_refusal-lines_of (session_with s c.args.domain.now c.inquiry-inquiry.result.now) c.in-Ok.response)
    ∙ ap is_refusal (reply_is s calls c.args.command.now c.inquiry-inquiry.ensures (c.in-Ok.ensures.response s calls))

pub returns-clause-front : goal.returns-clause-front
returns-clause-front g c = λ s calls.
    let named : c.in_ok-texts.texts ≡ c.args.domain.now = search rules in
    let front = subst (λ (names : List Text). AppendsFront (g.K.Sink.written c.args.out.now) (g.K.Sink.written c.write.new.out) (bytes_of (lines_of (session_with s names c.inquiry-inquiry.result.now) c.in-Ok.response))) named (c.write.ensures.wrote s).front in
    subst (AppendsFront (g.K.Sink.written c.args.out.now) (g.K.Sink.written c.write.new.out)) (reply_is s calls c.args.command.now c.inquiry-inquiry.ensures (c.in-Ok.ensures.response s calls)) front

pub returns-in_err-write-clause-front : goal.returns-in_err-write-clause-front
returns-in_err-write-clause-front g c = λ s calls.
    let named : c.in_ok-texts.texts ≡ c.args.domain.now = search rules in
    let front = subst (λ (names : List Text). AppendsFront (g.K.Sink.written c.args.out.now) (g.K.Sink.written c.write.new.out) (bytes_of (lines_of (session_with s names c.inquiry-inquiry.result.now) c.in-Ok.response))) named (c.write.ensures.wrote s).front in
    subst (AppendsFront (g.K.Sink.written c.args.out.now) (g.K.Sink.written c.write.new.out)) (reply_is s calls c.args.command.now c.inquiry-inquiry.ensures (c.in-Ok.ensures.response s calls)) front

pub returns-clause-whole : goal.returns-clause-whole
returns-clause-whole g c = λ s calls.
    let named : c.in_ok-texts.texts ≡ c.args.domain.now = search rules in
    let whole = subst (λ (names : List Text). Appends (g.K.Sink.written c.args.out.now) (g.K.Sink.written c.write.new.out) (bytes_of (lines_of (session_with s names c.inquiry-inquiry.result.now) c.in-Ok.response))) named (c.in_ok-write.ensures.wrote s).whole in
    subst (Appends (g.K.Sink.written c.args.out.now) (g.K.Sink.written c.write.new.out)) (reply_is s calls c.args.command.now c.inquiry-inquiry.ensures (c.in-Ok.ensures.response s calls)) whole

pub returns-clause-cause : goal.returns-clause-cause
returns-clause-cause g c = record { later = (c.in_ok-write.ensures.wrote (started [])).cause.later; failed = λ e. absurd (cc e) }

pub returns-in_err-write-clause-cause : goal.returns-in_err-write-clause-cause
returns-in_err-write-clause-cause g c = let cause = (c.in_err-write.ensures.wrote (started [])).cause in search rules
