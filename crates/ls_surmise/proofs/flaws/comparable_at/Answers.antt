use Rattle.ls_surmise.proofs.Vocabulary.{◌<◌, ◌∙◌, ◌≡◌, Items, List, ap, ap₂, are_comparable, clause_at, clauses_of, empty, false, get_or, get_or_read, length, rules, subst, sym}
use Rattle.ls_surmise.proofs.Firsts.{found-next}
use Rattle.ls_surmise.proofs.flaws.comparable_at.Goals as goal

pub loop-j-preserved : goal.loop-j-preserved
loop-j-preserved c =
    let own = c.clauses_of-own.result.now in
    let clauses = c.args.clauses.now in
    let q = c.args.q in
    let i = c.args.i in
    let j = c.loop-j.j in
    let apart : c.are_comparable.result ≡ false = search rules in
    let below : i < length own = subst (λ (l : List Items). i < length l) (sym c.clauses_of-own.ensures) c.requires in
    let first = get_or_read own i c.index-own-i.result below c.index-own-i.is empty ∙ ap (λ (l : List Items). get_or l i empty) c.clauses_of-own.ensures in
    let second = get_or_read own j c.index-own-j.result c.loop-j-test.true c.index-own-j.is empty ∙ ap (λ (l : List Items). get_or l j empty) c.clauses_of-own.ensures in
    found-next (λ j. are_comparable (clause_at clauses q i) (clause_at clauses q j)) j (length (clauses_of clauses q)) _ (subst (λ (l : List Items). j < length l) c.clauses_of-own.ensures c.loop-j-test.true)
    (ap₂ are_comparable (sym first) (sym second) ∙ sym c.are_comparable.ensures ∙ apart) c.loop-j.invariant
