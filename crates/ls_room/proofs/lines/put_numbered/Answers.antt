use Rattle.ls_room.proofs.Vocabulary.{◌++◌, ◌∷◌, [], ap, decimal, join-spaced, length-map, line_of, map}
use Rattle.ls_room.proofs.Saying.{says_as, says_then}
use Rattle.ls_room.proofs.lines.put_numbered.Goals as goal

pub returns : goal.returns
unfolding line_of
returns g c =
    says_as (ap (λ l. l ++ 10 ∷ []) (join-spaced (map (λ w. w.now) c.args.words.now) decimal c.args.numbers.now (simp length-map c.requires)))
    (says_then (says_then c.put_joined.ensures c.put_numbers.ensures) c.end_line.ensures)
