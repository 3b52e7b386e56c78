use Rattle.ls_session.proofs.Vocabulary.{[], ◌∙◌, ◌∷◌, ◌≡◌, AllocError, Decides, Err, List, LongLine, Ok, Refused, Response, Result, Session, ShelfState, ℕ, ap, append-nil, bytes_of, codes, is_long, length, line_effect, line_effect-long, line_of, longest_line, ltb-true, refl, refusal_words, says_as, sym, true, wrote}
use Rattle.ls_state.proofs.Decided.{decides_made, decides_nothing}
use Rattle.ls_session.proofs.Steps.{follows_undone, follows_whole, follows_front, follows_of, moves_wrote, told_failed}
use Rattle.ls_session.proofs.session.Session.refuse_long.Goals as goal

module _ (s : Session) (line : List ℕ) (shelf : ShelfState) where
  abbrev decides : Result Response AllocError → Type 0
  decides r = Decides (λ calls. line_effect s calls line) s s shelf shelf r

  nothing : (e : AllocError) → decides (Err e)
  nothing e = decides_nothing

  refused : (bytes : ℕ) → length line ≡ bytes → is_long line ≡ true → decides (Ok (Refused (LongLine bytes)))
  refused bytes is long =
      decides_made (λ calls. line_effect-long s calls line (ltb-true longest_line (length line) long)) refl
      (record { response = ap (λ (n : ℕ). Refused (LongLine n)) (sym is); session = refl; undone = tt })

-- the line of the refusal is all its lines
one_line : (bytes : ℕ) → line_of (codes "no" ∷ refusal_words [] (LongLine bytes)) ≡ bytes_of ((codes "no" ∷ refusal_words [] (LongLine bytes)) ∷ [])
unfolding bytes_of
one_line bytes = sym (append-nil _)

pub returns-in_err-room-clause-follows : goal.returns-in_err-room-clause-follows
returns-in_err-room-clause-follows g c = λ line is long shelf.
    follows_of line refl c.take_room.ensures.kept (follows_undone c.from_residual.result refl c.from_residual.ensures.1 (nothing c.args.self.now line shelf c.in_err-room.field-0.0))

pub returns-in_err-finish-clause-follows : goal.returns-in_err-finish-clause-follows
returns-in_err-finish-clause-follows g c = λ line is long shelf.
    follows_of line refl (c.finish.ensures.kept ∙ c.take_room.ensures.kept)
    (follows_front c.from_residual-in_err-finish.result refl (refused c.args.self.now line shelf c.args.bytes is long) c.in_err-finish.was
    (wrote c.in_ok-room.ensures.room (says_as (one_line c.args.bytes) c.put_refusal.ensures) c.finish.ensures.ends) c.from_residual-in_err-finish.ensures.1)

pub returns-in_err-finish-clause-sink : goal.returns-in_err-finish-clause-sink
returns-in_err-finish-clause-sink g c =
    moves_wrote (told_failed c.from_residual-in_err-finish.result c.in_err-finish.was c.from_residual-in_err-finish.ensures.1)
    (wrote c.in_ok-room.ensures.room c.put_refusal.ensures c.finish.ensures.ends)

pub returns-clause-follows : goal.returns-clause-follows
returns-clause-follows g c = λ line is long shelf.
    follows_of line refl (c.finish.ensures.kept ∙ c.take_room.ensures.kept)
    (follows_whole refl (refused c.args.self.now line shelf c.args.bytes is long) c.in_ok-finish.was
    (wrote c.in_ok-room.ensures.room (says_as (one_line c.args.bytes) c.put_refusal.ensures) c.finish.ensures.ends) refl)

pub returns-clause-sink : goal.returns-clause-sink
returns-clause-sink g c =
    moves_wrote (λ e. absurd (cc e)) (wrote c.in_ok-room.ensures.room c.put_refusal.ensures c.finish.ensures.ends)
