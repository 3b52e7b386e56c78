-- The lines of a reply. A word of a line may hold spaces of its own, as a set does.
use Rattle.std.specs.Prelude.{ℕ, List, [], ◌∷◌, ◌++◌}
use Rattle.std.specs.List.{join_with_byte, flat_map}
use Rattle.ls_lines.specs.{Text}

-- a line: its words joined by single spaces, and a line feed
unfoldable pub line_of : List Text → List ℕ
line_of ws = join_with_byte 32 ws ++ 10 ∷ []

-- the bytes of lines
unfoldable pub bytes_of : List (List Text) → List ℕ
bytes_of lines = flat_map line_of lines
