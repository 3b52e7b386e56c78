use Rattle.ls_write.proofs.Vocabulary.{◌++◌, ◌∙◌, ◌∷◌, ◌≡◌, ClassResult, Line, List, PupilResult, ℕ, [], ap, ap₂, decimal, length, length-map, line, line_bytes, lines_bytes, map, map-map, result_line, result_of, sym}
use Rattle.ls_meaning.specs.Heads as head
use Rattle.ls_room.proofs.Saying.{says_as, says_then}
use Rattle.ls_room.proofs.LineBytes.{lines-last}
use Rattle.ls_write.proofs.classes.put_class.Goals as goal

pub returns : goal.returns
returns g c =
    let names = c.args.texts.now in
    let list = c.as_slice-list.result.now in
    let lines = result_line names in
    let count = λ (n : ℕ). line head.Class (decimal n ∷ []) in
    let same : map result_of list ≡ c.args.results.now = c.as_slice-list.ensures in
    let texts : map (λ (r : ClassResult). lines (result_of r)) list ≡ map lines c.args.results.now = sym (map-map lines result_of list) ∙ ap (map lines) same in
    let length_is : length list ≡ length c.args.results.now = sym (length-map list result_of) ∙ ap (λ (l : List PupilResult). length l) same in
    says_as
    (ap₂ (λ (l : List Line) (n : ℕ). lines_bytes l ++ line_bytes (count n)) texts length_is ∙ lines-last (map lines c.args.results.now) (count (length c.args.results.now)))
    (says_then c.put_results.ensures c.put_numbered.ensures)
