use Rattle.ls_write.proofs.Vocabulary.{◌++◌, ◌<◌, ◌∙◌, ◌≡◌, All, Items, List, ap, ap₂, atom_items, atoms_at}
use Rattle.ls_write.proofs.Vocabulary.{clauses_at, codes, false, length, length-map, line_bytes, listed}
use Rattle.ls_write.proofs.Vocabulary.{map, numbers_from, row_text, set_of, subst, surmise_line, sym}
use Rattle.ls_room.proofs.Saying.{says_as, says_then}
use Rattle.ls_room.proofs.NameOrder.{items-few}
use Rattle.ls_write.proofs.Atoms.{length-clauses}
use Rattle.ls_write.proofs.ClauseTexts.{line-surmise}
use Rattle.ls_set.specs.declared.item_set.TheConstants.{PLACES}
use Rattle.ls_write.proofs.surmise.put_surmise.Goals as goal

pub put_rows-requires : goal.put_rows-requires
put_rows-requires g c =
    record {
      items =
          subst (All (λ i. i < PLACES)) (sym c.by_name.ensures.order)
          (items-few c.args.texts.now PLACES c.by_name.ensures.domain.are_names.few);
      atoms =
          c.as_slice-atoms.ensures ∙ c.clauses.invariant ∙ ap
          (λ (ks : List Items). map (λ k. set_of (atom_items ks k)) ks)
          (sym c.as_slice-sets.ensures);
    }

pub returns : goal.returns
returns g c =
    let names = c.args.texts.now in
    let sets = c.as_slice-sets.result.now in
    let told = c.clauses.inside in
    let items : length names ≡ told.items =
    sym c.requires.items ∙ ap (λ (cs : List (List Items)). length cs) (sym c.clauses.view_is)
    ∙ length-clauses told.items told.base in
    says_as
    (ap (λ is. (codes "surmise {" ++ listed (row_text names sets) false is) ++ codes "}\n")
    c.by_name.ensures.order
    ∙ line-surmise names sets c.by_name.ensures.domain
    ∙ ap (λ (cs : List (List Items)). line_bytes (surmise_line names cs))
    (ap₂ clauses_at items c.as_slice-sets.ensures ∙ c.clauses.view_is))
    (says_then (says_then c.put.ensures.says c.put_rows.ensures) c.put-2.ensures.says)
