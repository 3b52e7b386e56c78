use Rattle.ls_state.proofs.Vocabulary.{◌<◌, ◌∙◌, ◌≡◌, ◌≤◌, FileFailed, LargeFile, List, Refused, Session, Text, ℕ, ap, arith, in_domain-some, length, longest_file, refl, refuse, saved, session_text, state_session, stores, subst, sym}
use Rattle.ls_state.proofs.Decided.{decides_as, decides_err, decides_made, some_names}
use Rattle.ls_state.proofs.Stored.{save_long, save_short}
use Rattle.ls_state.proofs.state.State.save.Goals as goal

pub returns-in_err-text : goal.returns-in_err-text
returns-in_err-text g c = decides_err _ c.from_residual.result c.from_residual.ensures.1

pub returns-then-len-gt-LONGEST_FILE : goal.returns-then-len-gt-LONGEST_FILE
returns-then-len-gt-LONGEST_FILE g c =
    let i = c.self.inside in
    let s = c.args.self.now in
    let text : c.in_ok-text.text.items ≡ session_text (saved s) =
    subst (λ (x : Session). c.in_ok-text.text.items ≡ session_text (saved x)) c.self.view_is
    (subst (λ (names : List Text). c.in_ok-text.text.items ≡ session_text (saved (state_session names i.inquiry i.settings i.pupils i.safe))) c.domain.ensures c.in_ok-text.ensures) in
    let size = ap (λ (l : List ℕ). length l) text in
    let long : longest_file < length (session_text (saved s)) = omega (arith, size, c.len.ensures, c.if-len-gt-LONGEST_FILE.true) in
    let count : c.len-bytes.result ≡ length (session_text (saved s)) = omega (arith, size, c.len-bytes.ensures) in
    decides_made (λ calls. in_domain-some s _ (some_names c.self.view_is c.self.invariant.some) ∙ save_long s c.args.file.now long calls.failed) refl (record { response = ap (λ (n : ℕ). Refused (LargeFile n)) count; session = refl; undone = tt })

pub returns : goal.returns
returns g c =
    let i = c.self.inside in
    let s = c.args.self.now in
    let text : c.in_ok-text.text.items ≡ session_text (saved s) =
    subst (λ (x : Session). c.in_ok-text.text.items ≡ session_text (saved x)) c.self.view_is
    (subst (λ (names : List Text). c.in_ok-text.text.items ≡ session_text (saved (state_session names i.inquiry i.settings i.pupils i.safe))) c.domain.ensures c.in_ok-text.ensures) in
    let size = ap (λ (l : List ℕ). length l) text in
    let short : length (session_text (saved s)) ≤ longest_file = omega (arith, size, c.len.ensures, c.if-len-gt-LONGEST_FILE.false) in
    decides_as (λ calls. in_domain-some s _ (some_names c.self.view_is c.self.invariant.some) ∙ save_short s c.args.file.now short calls.failed ∙ ap (λ (t : List ℕ). stores s (refuse FileFailed calls.failed) c.args.file.now t) (sym (c.deref.ensures.value ∙ text))) (c.store.ensures s)
