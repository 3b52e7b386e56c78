use Rattle.ls_surmise.proofs.Vocabulary.{◌∙◌, ◌≡◌, IsSurmiseFaultOf, ap₂, arith, common_steps, surmise_from, surmise_of, sym}
use Rattle.ls_surmise.proofs.Files.{form-fault, of_clauses, read-each, read-on}
use Rattle.ls_surmise.proofs.surmise.Surmise.from_json.Goals as goal

pub returns-in_err-read-clause-fault : goal.returns-in_err-read-clause-fault
returns-in_err-read-clause-fault c =
    let told : IsSurmiseFaultOf (surmise_of c.args.d.now c.args.bytes.now) c.in_err-read.field-0.0 = form-fault c.args.d.now c.args.bytes.now c.in_err-read.field-0.0 c.in_err-read.ensures.fault in
    grind (arith, common_steps, told)

pub from_clauses-requires-clause-items : goal.from_clauses-requires-clause-items
from_clauses-requires-clause-items c = rw (c.count.ensures.value, c.deref.ensures.value) (read-each c.args.d.now c.args.bytes.now c.in_ok-read.read.items c.in_ok-read.ensures.read)

pub from_clauses-requires-clause-within : goal.from_clauses-requires-clause-within
from_clauses-requires-clause-within c = rw (c.count.ensures.value, c.deref.ensures.value) (read-on c.args.d.now c.args.bytes.now c.in_ok-read.read.items c.in_ok-read.ensures.read)

pub returns-clause-clauses : goal.returns-clause-clauses
returns-clause-clauses c =
    let is : surmise_of c.args.d.now c.args.bytes.now ≡ surmise_from c.count.result c.deref.result.now =
    of_clauses c.args.d.now c.args.bytes.now c.in_ok-read.read.items c.in_ok-read.ensures.read ∙ ap₂ surmise_from (sym c.count.ensures.value) (sym c.deref.ensures.value) in
    rw is c.from_clauses.ensures.clauses

pub returns-clause-fault : goal.returns-clause-fault
returns-clause-fault c =
    let is : surmise_of c.args.d.now c.args.bytes.now ≡ surmise_from c.count.result c.deref.result.now =
    of_clauses c.args.d.now c.args.bytes.now c.in_ok-read.read.items c.in_ok-read.ensures.read ∙ ap₂ surmise_from (sym c.count.ensures.value) (sym c.deref.ensures.value) in
    rw is c.from_clauses.ensures.fault
