use Rattle.ls_session.proofs.Vocabulary.{Calls, Effect, OpeningCommand, Session, changes, opening_row, refl, standing_session}
use Rattle.ls_state.proofs.Decided.{decides_at, decides_made}
use Rattle.ls_session.proofs.decider.Decider.open.Goals as goal

abbrev effect : Session → OpeningCommand → Calls → Effect
effect s c calls = changes (opening_row s calls c)

pub returns-in-Items : goal.returns-in-Items
returns-in-Items g c = decides_at (effect (standing_session c.args.self.now.state)) c.in-Items.is (decides_made (λ calls. refl) refl c.begin.ensures)

pub returns-in-LoadItems : goal.returns-in-LoadItems
returns-in-LoadItems g c = decides_at (effect (standing_session c.args.self.now.state)) c.in-LoadItems.is c.load_items.ensures

pub returns-in-Reopen : goal.returns-in-Reopen
returns-in-Reopen g c = decides_at (effect (standing_session c.args.self.now.state)) c.in-Reopen.is c.reopen.ensures
