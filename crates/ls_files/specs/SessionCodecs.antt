-- The codecs of the kinds of values that a saved session has: those of n items, and of a version
-- where it matters. Ratios are read by the version that is given; what is written is version 2.
use Rattle.std.specs.Prelude.{ℕ, Bool, ◌==◌, nat_lt, if◌then◌else◌, List, length, codes, bytes_eq}
use Rattle.std.specs.Prelude.{Option, Some, None, option_map}
use Rattle.std.specs.Result.{result_ok}
use Rattle.serde_json.specs.Data.{Data, string, object, no_members}
use Rattle.serde_json.specs.Find.{as_str, get}
use Rattle.ls_set.specs.{Items, cursor, read_cursor}
use Rattle.ls_set.specs.declared.query.Query.{Query}
use Rattle.ls_theory.specs.Starts.{Start, Free, Clauses, Sets}
use Rattle.ls_theory.specs.declared.answer.Answer.{Answer}
use Rattle.ls_theory.specs.declared.reply.Reply.{Reply}
use Rattle.ls_theory.specs.declared.ratio.Ratio.{Ratio}
use Rattle.ls_theory.specs.declared.ratio.Ratios.{Ratios}
use Rattle.ls_theory.specs.Settings.{Settings, odds, is_ratio, are_limits}
use Rattle.ls_cutting.specs.{Text}
use Rattle.ls_domain.specs.Domains.{names_of_words}
use Rattle.ls_files.specs.SurmiseFiles.{surmise_from}
use Rattle.ls_files.specs.declared.version.Version.{Version}
use Rattle.ls_files.specs.declared.version.Version.TheVariants as version
use Rattle.ls_files.specs.Sessions.{Pupil}
use Rattle.ls_files.specs.Standing.{is_base, are_made, is_pupil, are_pupils}
use Rattle.ls_files.specs.Codecs.{Codec, Fields, numbers, booleans, texts, pairs, fours, lists}
use Rattle.ls_files.specs.Codecs.{only_if, mapped, parsed, at_key, both, objects}

-- ---- sets, queries and answers

-- an item below n
abbrev pub item_codec : ℕ → Codec ℕ
item_codec n = only_if (λ q. nat_lt q n) numbers

-- a set among n items: its cursor
abbrev pub set_codec : ℕ → Codec Items
set_codec n = parsed (λ w. result_ok (read_cursor n w)) (cursor n) texts

-- a query: its set, and its item
abbrev pub query_codec : ℕ → Codec Query
query_codec n =
    mapped (λ p. record { a = p.0; q = p.1 }) (λ r. (r.a, r.q)) (pairs (set_codec n) (item_codec n))

-- the answer of a number, whether it is Yes, and the set and the item of its query
abbrev pub answer_from : (ℕ × Bool) × (Items × ℕ) → Answer
answer_from p = record { number = p.0.0; query = record { a = p.1.0; q = p.1.1 }; yes = p.0.1 }

-- an answer: its number, whether it is Yes, and its query
abbrev pub answer_codec : ℕ → Codec Answer
answer_codec n =
    mapped answer_from (λ a. ((a.number, a.yes), (a.query.a, a.query.q)))
    (fours numbers booleans (set_codec n) (item_codec n))

-- a reply: its item, and whether it is right
abbrev pub reply_codec : ℕ → Codec Reply
reply_codec n =
    mapped (λ p. record { q = p.0; right = p.1 }) (λ r. (r.q, r.right))
    (pairs (item_codec n) booleans)

-- ---- settings

-- the first version has odds
abbrev pub ratio_in : Version → Codec Ratio
ratio_in version.Odds = mapped odds (λ r. r.a) numbers
ratio_in version.Ratios =
    mapped (λ p. record { a = p.0; b = p.1 }) (λ r. (r.a, r.b)) (pairs numbers numbers)

-- a ratio whose numbers are in range
abbrev pub ratio_codec : Version → Codec Ratio
ratio_codec v = only_if is_ratio (ratio_in v)

-- two ratios: that of a right reply, and that of a wrong one
abbrev pub ratios_codec : Version → Codec Ratios
ratios_codec v =
    mapped (λ p. record { right = p.0; wrong = p.1 }) (λ r. (r.right, r.wrong))
    (pairs (ratio_codec v) (ratio_codec v))

-- two for each item
abbrev pub odds_codec : Version → ℕ → Codec (List Ratios)
odds_codec v n = only_if (λ rs. length rs == n) (lists (ratios_codec v))

-- the most replies, and the share
abbrev pub limits_codec : Codec (ℕ × ℕ)
limits_codec = only_if (λ p. are_limits p.0 p.1) (pairs numbers numbers)

-- settings as they are written: the ratios of the items, and the limits
abbrev pub settings_parts : Settings → List Ratios × (ℕ × ℕ)
settings_parts s = (s.ratios, (s.budget, s.share))

-- the settings of such parts
abbrev pub settings_from : List Ratios → ℕ × ℕ → Settings
settings_from ratios limits = record { ratios = ratios; budget = limits.0; share = limits.1 }

-- ---- starts

-- the sets of a base of n items, each in its place
abbrev pub base_codec : ℕ → Codec (List Items)
base_codec n = only_if (is_base n) (lists (set_codec n))

-- one list of clauses for each item: those of an item may stand in any order, and are put in order
abbrev pub surmise_codec : ℕ → Codec (List (List Items))
surmise_codec n =
    parsed (λ clauses. result_ok (surmise_from n clauses)) (λ clauses. clauses)
    (only_if (λ clauses. length clauses == n) (lists (lists (set_codec n))))

-- the sets of a start that is given by a base
abbrev pub base_field : ℕ → Fields (List Items)
base_field n = at_key (codes "base") (base_codec n)

-- the clauses of a start that is given by a surmise function
abbrev pub surmise_field : ℕ → Fields (List (List Items))
surmise_field n = at_key (codes "surmise") (surmise_codec n)

-- the text `free`, or else an object with the clauses or the sets
abbrev pub start_value : ℕ → Start → Data
start_value n Free = string (codes "free")
start_value n (Clauses clauses) = object ((surmise_field n).put_in clauses no_members)
start_value n (Sets sets) = object ((base_field n).put_in sets no_members)

-- by what stands at the keys `base` and `surmise`: where both stand, it is the base
abbrev pub start_within : ℕ → Option Data → Option Data → Option Start
start_within n (Some d) other = option_map Sets ((base_codec n).read d)
start_within n None (Some d) = option_map Clauses ((surmise_codec n).read d)
start_within n None None = None

-- by the text, where it is one
abbrev pub start_from : ℕ → Data → Option Text → Option Start
start_from n d (Some w) = if bytes_eq w (codes "free") then Some Free else None
start_from n d None = start_within n (get (codes "base") d) (get (codes "surmise") d)

-- a start on n items: free, or given by clauses or by a base
abbrev pub start_codec : ℕ → Codec Start
start_codec n = record { write = start_value n; read = λ d. start_from n d (as_str d) }

-- ---- the version, the names of the items, and blocks

-- there are versions 1 and 2
abbrev pub version_from : ℕ → Option Version
version_from n =
    if n == 1 then Some version.Odds else (if n == 2 then Some version.Ratios else None)

-- odds are those of version 1, and ratios those of version 2
abbrev pub version_number : Version → ℕ
version_number version.Odds = 1
version_number version.Ratios = 2

-- a version: its number
abbrev pub version_codec : Codec Version
version_codec = parsed version_from version_number numbers

-- names that are the items of a domain
abbrev pub names_codec : Codec (List Text)
names_codec = parsed (λ ws. result_ok (names_of_words ws)) (λ names. names) (lists texts)

-- the size up to which an interview makes blocks, where these can be made of n items
abbrev pub block_codec : ℕ → Codec ℕ
block_codec n = only_if (are_made n) numbers

-- ---- what objects have at their keys

-- which version the text is of
abbrev pub version_field : Fields Version
version_field = at_key (codes "version") version_codec

-- the items' names, in the order of the items
abbrev pub names_field : Fields (List Text)
names_field = at_key (codes "items") names_codec

-- the most replies of an assessment, and the share that ends it
abbrev pub limits_field : Fields (ℕ × ℕ)
limits_field = at_key (codes "limits") limits_codec

-- the ratios of each of the n items, in the form of the version
abbrev pub odds_field : Version → ℕ → Fields (List Ratios)
odds_field v n = at_key (codes "odds") (odds_codec v n)

-- what settings have: the ratios of the items, and the limits
abbrev pub settings_fields : Version → ℕ → Fields (List Ratios × (ℕ × ℕ))
settings_fields v n = both (odds_field v n) limits_field

-- the start of an interview, or of a pupil
abbrev pub start_field : ℕ → Fields Start
start_field n = at_key (codes "start") (start_codec n)

-- the size up to which an interview makes blocks
abbrev pub block_field : ℕ → Fields ℕ
block_field n = at_key (codes "block") (block_codec n)

-- the answers that stand in an interview
abbrev pub answers_field : ℕ → Fields (List Answer)
answers_field n = at_key (codes "answers") (lists (answer_codec n))

-- the number that the next answer of an interview gets
abbrev pub next_field : Fields ℕ
next_field = at_key (codes "next") numbers

-- what a pupil is called
abbrev pub name_field : Fields Text
name_field = at_key (codes "name") texts

-- the queries whose answer was Yes when a pupil began
abbrev pub yes_field : ℕ → Fields (List Query)
yes_field n = at_key (codes "yes") (lists (query_codec n))

-- the replies of a pupil, in the order in which they were given
abbrev pub replies_field : ℕ → Fields (List Reply)
replies_field n = at_key (codes "replies") (lists (reply_codec n))

-- ---- pupils

-- the name and the settings of a pupil, its start, its Yes queries and its replies
abbrev pub PupilParts : Type 0
PupilParts = (Text × (List Ratios × (ℕ × ℕ))) × (Start × (List Query × List Reply))

-- what the object of a pupil has: its name, settings, start, Yes queries and replies
abbrev pub pupil_fields : Version → ℕ → Fields PupilParts
pupil_fields v n =
    both (both name_field (settings_fields v n))
    (both (start_field n) (both (yes_field n) (replies_field n)))

-- the pupil of such parts
abbrev pub pupil_from : PupilParts → Pupil
pupil_from p =
    record {
      name = p.0.0;
      start = p.1.0;
      yeses = p.1.1.0;
      settings = settings_from p.0.1.0 p.0.1.1;
      replies = p.1.1.1;
    }

-- the parts of a pupil
abbrev pub pupil_parts : Pupil → PupilParts
pupil_parts p =
    ((p.name, settings_parts p.settings), (p.start, (p.yeses, p.replies)))

-- a pupil that can stand among n items
abbrev pub pupil_codec : Version → ℕ → Codec Pupil
pupil_codec v n =
    only_if (is_pupil n) (mapped pupil_from pupil_parts (objects (pupil_fields v n)))

-- such pupils, where their names differ and they are not too many
abbrev pub pupils_codec : Version → ℕ → Codec (List Pupil)
pupils_codec v n = only_if are_pupils (lists (pupil_codec v n))

-- the pupils of a session
abbrev pub pupils_field : Version → ℕ → Fields (List Pupil)
pupils_field v n = at_key (codes "pupils") (pupils_codec v n)
