-- The lines of a script and the words of a line. Bytes are numbers: 9 is a tab, 10 a line feed,
-- 13 a carriage return, 32 a space, 35 `#`, 44 a comma, 58 a colon and 124 a bar.
use Rattle.std.specs.Prelude.{ℕ, ◌-◌, Bool, ◌||◌, ◌==◌, nat_lt, if◌then◌else◌}
use Rattle.std.specs.Prelude.{List, [], ◌∷◌, length, take, filter, slice_index, flat_map}
use Rattle.std.specs.List.{slice_split, prefix_len, join_with_byte}

-- a text of a script, as its bytes
abbrev pub Text : Type 0
Text = List ℕ

-- the lines: what stands between line feeds (what follows the last one is a line too; where it is
-- empty it has no reply)
unfoldable pub lines : List ℕ → List (List ℕ)
lines script = slice_split (λ b. b == 10) script

-- a line of more bytes than this is not read
abbrev pub longest_line : ℕ
longest_line = 65536

abbrev pub is_long : List ℕ → Bool
is_long line = nat_lt longest_line (length line)

-- the line without the one carriage return at its end, if it has one
abbrev pub without_return : List ℕ → List ℕ
without_return line =
    if slice_index line (length line - 1) == 13 then take (length line - 1) line else line

abbrev pub is_blank : ℕ → Bool
is_blank b = b == 32 || b == 9

-- a note: its first byte after spaces and tabs is `#`
abbrev pub is_note : List ℕ → Bool
is_note line = slice_index line (prefix_len is_blank line) == 35

-- spaces, tabs and commas part words
abbrev pub parts_words : ℕ → Bool
parts_words b = is_blank b || b == 44

-- a colon and a bar are words by themselves, as if spaces stood round them
abbrev pub spaced : ℕ → List ℕ
spaced b = if b == 58 || b == 124 then 32 ∷ b ∷ 32 ∷ [] else b ∷ []

-- the runs of bytes between spaces, tabs and commas
abbrev pub runs : List ℕ → List Text
runs line = filter (λ w. nat_lt 0 (length w)) (slice_split parts_words (flat_map spaced line))

-- the words of a line; a note has none
unfoldable pub words : List ℕ → List Text
words line = let body = without_return line in if is_note body then [] else runs body

-- words, joined by single spaces
abbrev pub words_joined : List Text → List ℕ
words_joined ws = join_with_byte 32 ws
