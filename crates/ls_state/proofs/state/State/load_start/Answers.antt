use Rattle.ls_state.proofs.Vocabulary.{[], ◌==◌, ◌∙◌, ◌≡◌, Answer, Bool, Decides, Interview, List, Ok, Session, Text, ℕ, ap, ap₂, changes_interview, false, length, refl, shelf_state, start_read, starts_by, state_session, subst, sym, true}
use Rattle.ls_state.proofs.Decided.{decides_made, makes_as, makes_interview, some_names}
use Rattle.ls_state.proofs.Fetched.{decides_read, decides_unfetched, decides_unread, loads, loads-stands, loads-starts, no_answers, starts}
use Rattle.ls_state.proofs.state.State.load_start.Goals as goal

-- whether answers stand, as the interview told it
told : (i j : Interview) {answers : List Answer} {empty b : Bool} → i ≡ j → answers ≡ i.answers → empty ≡ (length answers == 0) → empty ≡ b → (length j.answers == 0) ≡ b
told i j {answers} {empty} {b} same value test is = ap (λ (l : List Answer). length l == 0) (sym (value ∙ ap (λ (k : Interview). k.answers) same)) ∙ sym test ∙ is

pub returns-then-not-is_empty : goal.returns-then-not-is_empty
returns-then-not-is_empty g c =
    let s = c.args.self.now in
    let stands : (length s.interview.answers == 0) ≡ false = told c.self.inside.inquiry s.interview (ap (λ (x : Session). x.interview) c.self.view_is) c.standing.ensures.value c.is_empty.ensures c.if-not-is_empty.true in
    decides_made (λ calls. loads-stands c.args.kind s (some_names c.self.view_is c.self.invariant.some) stands (calls.file c.args.file.now)) refl (record { response = refl; session = refl; undone = tt })

pub returns-in_err-bytes : goal.returns-in_err-bytes
returns-in_err-bytes g c =
    let kind = c.args.kind in
    let s = c.args.self.now in
    let none : (length s.interview.answers == 0) ≡ true = told c.self.inside.inquiry s.interview (ap (λ (x : Session). x.interview) c.self.view_is) c.standing.ensures.value c.is_empty.ensures c.if-not-is_empty.false in
    decides_unfetched (loads kind s) (starts kind s) (loads-starts kind s (some_names c.self.view_is c.self.invariant.some) none) (λ refusal bytes. refl) (λ refusals bytes. refl) c.args.file.now c.fetch.ensures _ c.from_residual.result c.from_residual.ensures.1

pub start_from-requires-clause-none : goal.start_from-requires-clause-none
start_from-requires-clause-none g c = no_answers c.self.inside.inquiry.answers (told c.self.inside.inquiry c.self.inside.inquiry refl c.standing.ensures.value c.is_empty.ensures c.if-not-is_empty.false)

pub returns-in-Ok : goal.returns-in-Ok
returns-in-Ok g c =
    let kind = c.args.kind in
    let i = c.self.inside in
    let s = state_session i.texts i.inquiry i.settings i.pupils i.safe in
    let new = state_session i.texts c.start_from.new.inquiry i.settings i.pupils i.safe in
    let none : (length i.inquiry.answers == 0) ≡ true = told i.inquiry i.inquiry refl c.standing.ensures.value c.is_empty.ensures c.if-not-is_empty.false in
    let read = ap₂ (λ (names : List Text) (bytes : List ℕ). changes_interview s (starts_by kind i.inquiry [] (start_read kind names bytes))) (sym c.domain.ensures) (sym c.deref.ensures.value) in
    let change = starts_by kind i.inquiry [] (start_read kind c.domain.result.now c.deref.result.now) in
    subst (λ (x : Session). Decides (λ calls. loads kind x (calls.file c.args.file.now)) x new (shelf_state g.H.Shelf c.args.shelf.now) (shelf_state g.H.Shelf c.fetch.new.shelf) c.start_from.result) c.self.view_is
    (decides_read (loads kind s) (starts kind s) (loads-starts kind s c.self.invariant.some none) (λ refusal bytes. refl) (λ refusals bytes. refl) c.fetch.ensures (c.in_ok-bytes.was ∙ ap Ok c.in-Ok.is)
    (makes_as read (makes_interview {c = change} c.start_from.ensures.change)))

pub returns-in-Err : goal.returns-in-Err
returns-in-Err g c =
    let kind = c.args.kind in
    let s = c.args.self.now in
    let none : (length s.interview.answers == 0) ≡ true = told c.self.inside.inquiry s.interview (ap (λ (x : Session). x.interview) c.self.view_is) c.standing.ensures.value c.is_empty.ensures c.if-not-is_empty.false in
    decides_unread (loads kind s) (starts kind s) (loads-starts kind s (some_names c.self.view_is c.self.invariant.some) none) (λ refusal bytes. refl) (λ refusals bytes. refl) c.fetch.ensures (c.in_ok-bytes.was ∙ ap Ok c.in-Err.is)
