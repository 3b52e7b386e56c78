use Rattle.ls_surmise.proofs.Vocabulary.{◌∙◌, ◌≡◌, ap, object, surmise_text, surmise_value, view, view-Object}
use Rattle.std.proofs.lemmas.Result.{IfOk-weaker}
use Rattle.serde_json.specs.declared.value.Value.TheVariants.{Object}
use Rattle.ls_surmise.proofs.SurmiseValues.{surmise-no_float}
use Rattle.ls_surmise.proofs.surmise.Surmise.print.Goals as goal

pub returns : goal.returns
unfolding surmise_text
returns c =
    let names = c.args.d.now in
    let clauses = c.args.self.now.clauses in
    let value : view (Object c.in_ok-members.members) ≡ surmise_value names clauses = view-Object c.in_ok-members.members ∙ ap object c.in_ok-members.ensures in
    IfOk-weaker c.to_vec.result _ _ (λ v h. let k = rw value at h in k (surmise-no_float names clauses)) c.to_vec.ensures.text
