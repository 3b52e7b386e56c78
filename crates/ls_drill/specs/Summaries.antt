-- What a drill came to, and the text of it.
--     summary_of n number      what the drill with the number on n items came to
--     summary_text s      the six lines that tell it
use Rattle.std.specs.Prelude.{ℕ, Bool, true, false, not, ◌&&◌, nat_lt, if◌then◌else◌, List, [], ◌∷◌}
use Rattle.std.specs.Prelude.{◌++◌, length, count_by, Option, Some, None, is_none, codes, decimal}
use Rattle.std.specs.Option.{option_map_or}
use Rattle.std.specs.List.{join_with_byte}
use Rattle.ls_set.specs.declared.query.Query.{Query}
use Rattle.ls_theory.specs.declared.known.Known.{Known}
use Rattle.ls_theory.specs.declared.verdict.BaseVerdict.{BaseVerdict}
use Rattle.ls_theory.specs.declared.verdict.BaseVerdict.TheVariants as base_verdict_of
use Rattle.ls_theory.specs.{Interview, base, base_verdict, compatible_sets, known, most_states}
use Rattle.ls_theory.specs.{queries, standing_number}
use Rattle.ls_drill.specs.Drills.{drilled}
use Rattle.ls_drill.specs.declared.summary.Summary.{Summary}

abbrev pub is_yes : Known → Bool
is_yes Known.Yes = true
is_yes (Known.No by) = false
is_yes Known.Unsettled = false

abbrev pub is_no : Known → Bool
is_no Known.Yes = false
is_no (Known.No by) = true
is_no Known.Unsettled = false

-- the query was not asked; and the answers force it Yes, or No
abbrev pub is_filled : Interview → Query → Bool
is_filled i r = is_none (standing_number i r)

abbrev pub is_filled_yes : Interview → Query → Bool
is_filled_yes i r = is_filled i r && is_yes (known i r)

abbrev pub is_filled_no : Interview → Query → Bool
is_filled_no i r = is_filled i r && is_no (known i r)

abbrev pub is_learning : BaseVerdict → Bool
is_learning base_verdict_of.Learning = true
is_learning (base_verdict_of.NotGraded k i j) = false

-- the number, unless it is above the most states that are counted
abbrev pub counted : ℕ → Option ℕ
counted count = if nat_lt most_states count then None else Some count

-- what an interview came to: the asked queries, the filled ones of its blocks,
-- and its compatible sets
unfoldable pub summed_up : ℕ → Interview → Summary
summed_up number i =
    let all = queries i.count i.block in
    let f = compatible_sets i in
    record {
      n = i.count;
      number = number;
      asked = length i.answers;
      asked_yes = count_by (λ a. a.yes) i.answers;
      asked_no = count_by (λ a. not a.yes) i.answers;
      filled = count_by (is_filled i) all;
      filled_yes = count_by (is_filled_yes i) all;
      filled_no = count_by (is_filled_no i) all;
      base = length (base f);
      learning = is_learning (base_verdict f);
      states = counted (length f);
    }

abbrev pub summary_of : ℕ → ℕ → Summary
summary_of n number = summed_up number (drilled n number)

-- ---- the text

-- the words, parted by single spaces, and a line feed
abbrev pub line : List (List ℕ) → List ℕ
line words = join_with_byte 32 words ++ 10 ∷ []

-- a line of a number of queries, and of their answers
abbrev pub replies_line : List ℕ → ℕ → ℕ → ℕ → List ℕ
replies_line name all yeses nos = line (
    name ∷ decimal all ∷ codes "yes" ∷ decimal yeses ∷ codes "no" ∷ decimal nos ∷ [])

-- the number of states, or that they are more than are counted
abbrev pub states_line : Option ℕ → List ℕ
states_line count =
    option_map_or (λ c. line (codes "states" ∷ decimal c ∷ [])) count
    (line (codes "states" ∷ codes "over" ∷ decimal most_states ∷ []))

abbrev pub summary_text : Summary → List ℕ
summary_text s =
    line (codes "drill" ∷ decimal s.n ∷ codes "number" ∷ decimal s.number ∷ [])
    ++ replies_line (codes "asked") s.asked s.asked_yes s.asked_no
    ++ replies_line (codes "filled") s.filled s.filled_yes s.filled_no
    ++ line (codes "base" ∷ decimal s.base ∷ [])
    ++ line (codes "learning" ∷ (if s.learning then codes "yes" else codes "no") ∷ [])
    ++ states_line s.states

abbrev pub drill_text : ℕ → ℕ → List ℕ
drill_text n number = summary_text (summary_of n number)
