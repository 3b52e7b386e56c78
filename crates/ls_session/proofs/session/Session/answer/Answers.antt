use Rattle.ls_session.proofs.Vocabulary.{◌∙◌, Decides, Err, line_effect, refl, shelf_state, wrote}
use Rattle.ls_state.proofs.Decided.{after_line, decides_nothing}
use Rattle.ls_session.proofs.Steps.{follows_undone, follows_whole, follows_front, follows_of}
use Rattle.ls_session.proofs.session.Session.answer.Goals as goal

pub returns-in_err-room : goal.returns-in_err-room
returns-in_err-room g c =
    let s = c.args.self.now in
    let shelf = shelf_state g.H.Shelf c.args.shelf.now in
    let nothing : Decides (λ calls. line_effect s calls c.args.line.now) s s shelf shelf (Err c.in_err-room.field-0.0) = decides_nothing in
    record { follows = follows_of c.args.line.now refl c.take_room.ensures.kept (follows_undone c.from_residual.result refl c.from_residual.ensures.1 nothing) }

pub returns-in_err-response : goal.returns-in_err-response
returns-in_err-response g c = record {
  follows = follows_of c.args.line.now (c.self.view_is ∙ c.take_room.ensures.kept) refl
      (follows_undone c.from_residual-in_err-response.result c.in_err-response.was c.from_residual-in_err-response.ensures.1 c.decide_line.ensures);
}

pub put-requires : goal.put-requires
put-requires g c = after_line c.args.line.now c.in_ok-response.was c.decide_line.ensures

pub returns-in_err-finish : goal.returns-in_err-finish
returns-in_err-finish g c = record {
  follows = follows_of c.args.line.now (c.self.view_is ∙ c.take_room.ensures.kept) c.finish.ensures.kept
      (follows_front c.from_residual-in_err-finish.result c.in_ok-response.was c.decide_line.ensures c.in_err-finish.was (wrote c.in_ok-room.ensures.room c.put.ensures c.finish.ensures.ends) c.from_residual-in_err-finish.ensures.1);
}

pub returns : goal.returns
returns g c = record {
  follows = follows_of c.args.line.now (c.self.view_is ∙ c.take_room.ensures.kept) c.finish.ensures.kept
      (follows_whole c.in_ok-response.was c.decide_line.ensures c.in_ok-finish.was (wrote c.in_ok-room.ensures.room c.put.ensures c.finish.ensures.ends) c.is_refused-is_refused.ensures);
}
