use Rattle.ls_surmise.proofs.Vocabulary.{◌<◌, ◌∙◌, ◌≡◌, Items, List, ap, clause_at, clauses_of, empty, get_or, get_or_read, has, length, not, rules, subst, sym, true}
use Rattle.ls_surmise.proofs.Firsts.{found-next}
use Rattle.ls_surmise.proofs.flaws.lacking_in.Goals as goal

pub loop-j-preserved : goal.loop-j-preserved
loop-j-preserved c =
    let own = c.clauses_of-own.result.now in
    let clauses = c.args.clauses.now in
    let q = c.args.q in
    let j = c.loop-j.j in
    let in_clause : c.has.result ≡ true = search rules in
    let at = get_or_read own j c.index-own-j.result c.loop-j-test.true c.index-own-j.is empty ∙ ap (λ (l : List Items). get_or l j empty) c.clauses_of-own.ensures in
    found-next (λ j. not (has (clause_at clauses q j) q)) j (length (clauses_of clauses q)) _ (subst (λ (l : List Items). j < length l) c.clauses_of-own.ensures c.loop-j-test.true)
    (ap not (ap (λ s. has s q) (sym at) ∙ sym c.has.ensures ∙ in_clause)) c.loop-j.invariant
