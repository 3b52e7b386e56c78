use Rattle.ls_write.proofs.Vocabulary.{◌++◌, ◌∷◌, [], applied, decimal, lines_bytes, map, pending}
use Rattle.ls_write.proofs.Vocabulary.{line, safe_line, safe_lines}
use Rattle.ls_meaning.specs.Heads as head
use Rattle.ls_room.proofs.Saying.{says_as, says_then}
use Rattle.ls_room.proofs.LineBytes.{lines-last}
use Rattle.ls_write.proofs.safe.put_safe_answers.Goals as goal
