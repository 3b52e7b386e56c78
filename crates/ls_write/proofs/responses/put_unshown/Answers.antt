use Rattle.ls_write.proofs.Vocabulary.{◌∙◌, ◌∷◌, [], accepted_words, codes, decimal, names_in, option_copied, refusal_words, session_with, sym}
use Rattle.ls_room.proofs.Saying.{says_as, says_nothing}
use Rattle.ls_room.proofs.LineBytes.{bytes_of-none, bytes_of-one}
use Rattle.ls_write.proofs.Showing.{said-same}
use Rattle.ls_write.proofs.responses.put_unshown.Goals as goal

pub returns-in-Silence : goal.returns-in-Silence
returns-in-Silence g c = λ s i. says_as (bytes_of-none ∙ said-same (session_with s (names_in (option_copied c.args.texts)) i) c.in-Silence.is) (says_nothing _ _ _)

pub returns-in-Refused : goal.returns-in-Refused
returns-in-Refused g c = λ s i.
    let names = names_in (option_copied c.args.texts) in
    says_as (sym (bytes_of-one (codes "no" ∷ refusal_words names c.in-Refused.refusal)) ∙ said-same (session_with s names i) c.in-Refused.is) c.put_refusal.ensures

pub returns-in-Done : goal.returns-in-Done
returns-in-Done g c = λ s i.
    says_as (sym (bytes_of-one (codes "ok" ∷ decimal c.in-Done.number ∷ [])) ∙ said-same (session_with s (names_in (option_copied c.args.texts)) i) c.in-Done.is) c.put_done.ensures

pub returns-in-Agreed : goal.returns-in-Agreed
returns-in-Agreed g c = λ s i.
    says_as (sym (bytes_of-one (codes "ok" ∷ [])) ∙ said-same (session_with s (names_in (option_copied c.args.texts)) i) c.in-Agreed.is) c.put_agreed.ensures

pub returns-in-Accepted : goal.returns-in-Accepted
returns-in-Accepted g c = λ s i.
    let a = c.in-Accepted in
    says_as (sym (bytes_of-one (accepted_words a.number a.applied a.pending)) ∙ said-same (session_with s (names_in (option_copied c.args.texts)) i) a.is) c.put_accepted.ensures
