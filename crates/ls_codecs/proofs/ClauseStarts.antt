-- The sets of clauses that were read are of the items.
use Rattle.ls_codecs.proofs.Vocabulary.{AreOn, Data, Items, List, Some, [], all_clauses, inl, inr, is_among, or_cases, read_list, set_codec, sym, true≢false, ℕ, ◌∙◌, ◌∷◌, ◌≡◌}
use Rattle.std.specs.List.{AllByRecursion}
use Rattle.ls_set.proofs.Members.{among-append}
use Rattle.ls_codecs.proofs.Inverse.{list-some}
use Rattle.ls_codecs.proofs.Read.{on-from}

each-on : (n : ℕ) (clauses : List (List Items)) → AllByRecursion (AreOn n) clauses → AreOn n (all_clauses clauses)
each-on n [] h k c = absurd (true≢false (sym c))
each-on n (own ∷ clauses) h k c =
    elim (or_cases (is_among own k) (is_among (all_clauses clauses) k) (sym (among-append own (all_clauses clauses) k) ∙ c)) [
      | inl a ↦ h.0 k a
      | inr b ↦ each-on n clauses h.1 k b
    ]

pub lists-on : (n : ℕ) (d : Data) (clauses : List (List Items)) → read_list (read_list (set_codec n).read) d ≡ Some clauses → AreOn n (all_clauses clauses)
lists-on n d clauses e = each-on n clauses (list-some (read_list (set_codec n).read) (AreOn n) (on-from n) d clauses e)
