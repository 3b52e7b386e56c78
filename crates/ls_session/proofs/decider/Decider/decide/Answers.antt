use Rattle.ls_session.proofs.Vocabulary.{ap, command_effect, refl, standing_session}
use Rattle.ls_state.proofs.Decided.{decides_at, decides_made, decides_refused, decides_standing, edit-stored, pupil-stored, safe-stored, setting-stored, view-stored}
use Rattle.ls_session.proofs.decider.Decider.decide.Goals as goal

pub returns-in-Nothing : goal.returns-in-Nothing
unfolding command_effect
returns-in-Nothing g c =
    decides_made (λ calls. ap (command_effect (standing_session c.args.self.now.state) calls) c.in-Nothing.is) refl
    (record { response = refl; session = refl; undone = tt })

pub returns-in-Opening : goal.returns-in-Opening
unfolding command_effect
returns-in-Opening g c =
    decides_at (λ x calls. command_effect (standing_session c.args.self.now.state) calls x) c.in-Opening.is c.open.ensures

pub returns-in-Some : goal.returns-in-Some
unfolding command_effect
returns-in-Some g c = decides_standing c.in-File.is c.in-Some.is c.file.ensures

pub returns-in-None : goal.returns-in-None
unfolding command_effect
returns-in-None g c = decides_refused c.in-File.is c.in-None.is (λ calls. refl) c.without_domain.ensures

pub returns-in-Some-state : goal.returns-in-Some-state
unfolding command_effect
returns-in-Some-state g c = decides_standing c.in-Edit.is c.in-Some-state.is (decides_made (λ calls. refl) (edit-stored c.in-Some-state.state c.in-Edit.command) c.edit.ensures)

pub returns-in-None-state : goal.returns-in-None-state
unfolding command_effect
returns-in-None-state g c = decides_refused c.in-Edit.is c.in-None-state.is (λ calls. refl) c.without_domain-in-None-state.ensures

pub returns-in-Some-state-2 : goal.returns-in-Some-state-2
unfolding command_effect
returns-in-Some-state-2 g c = decides_standing c.in-View.is c.in-Some-state-2.is (decides_made (λ calls. refl) (view-stored c.in-Some-state-2.state c.in-View.command) c.view.ensures)

pub returns-in-None-state-2 : goal.returns-in-None-state-2
unfolding command_effect
returns-in-None-state-2 g c = decides_refused c.in-View.is c.in-None-state-2.is (λ calls. refl) c.without_domain-in-None-state-2.ensures

pub returns-in-Some-state-3 : goal.returns-in-Some-state-3
unfolding command_effect
returns-in-Some-state-3 g c = decides_standing c.in-Setting.is c.in-Some-state-3.is (decides_made (λ calls. refl) (setting-stored c.in-Some-state-3.state c.in-Setting.command) c.set.ensures)

pub returns-in-None-state-3 : goal.returns-in-None-state-3
unfolding command_effect
returns-in-None-state-3 g c = decides_refused c.in-Setting.is c.in-None-state-3.is (λ calls. refl) c.without_domain-in-None-state-3.ensures

pub returns-in-Some-state-4 : goal.returns-in-Some-state-4
unfolding command_effect
returns-in-Some-state-4 g c = decides_standing c.in-Pupil.is c.in-Some-state-4.is (decides_made (λ calls. refl) (pupil-stored c.in-Some-state-4.state c.in-Pupil.command) c.attend.ensures)

pub returns-in-None-state-4 : goal.returns-in-None-state-4
unfolding command_effect
returns-in-None-state-4 g c = decides_refused c.in-Pupil.is c.in-None-state-4.is (λ calls. refl) c.without_domain-in-None-state-4.ensures

pub returns-in-Some-state-5 : goal.returns-in-Some-state-5
unfolding command_effect
returns-in-Some-state-5 g c = decides_standing c.in-Safe.is c.in-Some-state-5.is (decides_made (λ calls. refl) (safe-stored c.in-Some-state-5.state c.in-Safe.command) c.safe.ensures)

pub returns-in-None-state-5 : goal.returns-in-None-state-5
unfolding command_effect
returns-in-None-state-5 g c = decides_refused c.in-Safe.is c.in-None-state-5.is (λ calls. refl) c.without_domain-in-None-state-5.ensures
