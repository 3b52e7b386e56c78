-- Examples: commands and the places of faults.
use Rattle.ls_lines.proofs.Vocabulary.{◌++◌, ◌∷◌, ◌≡◌, Command, List, None, Some, ℕ, [], codes, command, command_of, cut, digits, false, fault_place, forms, is_begun, is_of, is_plain, laid_out, parts, refl, replicate, spelled, spelled_as, spelling, true, words, words_joined}
use Rattle.ls_lines.specs.declared.command.Command.TheVariants as commands
use Rattle.ls_lines.specs.declared.opening.OpeningCommand.TheVariants as openings
use Rattle.ls_lines.specs.declared.file.FileCommand.TheVariants as files
use Rattle.ls_lines.specs.declared.edit.EditCommand.TheVariants as edits
use Rattle.ls_lines.specs.declared.view.ViewCommand.TheVariants as views
use Rattle.ls_lines.specs.declared.safe.SafeCommand.TheVariants as safes
use Rattle.ls_lines.specs.declared.setting.SettingCommand.TheVariants as settings
use Rattle.ls_lines.specs.declared.pupil.PupilCommand.TheVariants as pupils

empty_line : command_of (words (codes " ,, ")) ≡ Some commands.Nothing
unfolding words command_of forms parts command cut is_of spelling
empty_line = refl

no_names : command_of (words (codes "items")) ≡ Some (commands.Opening (openings.Items []))
unfolding words command_of forms parts command cut is_of spelling
no_names = refl

none_failed : command_of (words (codes "yes : b")) ≡ Some (commands.Edit (edits.Yes [] (codes "b")))
unfolding words command_of forms parts command cut is_of spelling
none_failed = refl

all_states : command_of (words (codes "states")) ≡ Some (commands.View (views.States 65536 None))
unfolding words command_of forms parts command cut is_of spelling
all_states = refl

page_after : command_of (words (codes "states 20 after a-b#")) ≡ Some (commands.View (views.States 20 (Some (codes "a-b#"))))
unfolding words command_of forms parts command cut is_of spelling
page_after = refl

-- a path of no items to go on from, and a name that is spelled as a word of the language
first_path : command_of (words (codes "paths 3 after")) ≡ Some (commands.View (views.Paths 3 (Some [])))
unfolding words command_of forms parts command cut is_of spelling
first_path = refl

item_after : command_of (words (codes "project 3 : after")) ≡ Some (commands.View (views.Project 3 None (codes "after" ∷ [])))
unfolding words command_of forms parts command cut is_of spelling
item_after = refl

-- four numbers are for all items, and five words are an item and four numbers
ratio_of_all : command_of (words (codes "ratio 3 2 5 4")) ≡ Some (commands.Setting (settings.RatioAll 3 2 5 4))
unfolding words command_of forms parts command cut is_of spelling
ratio_of_all = refl

ratio_of_item : command_of (words (codes "ratio 7 3 2 5 4")) ≡ Some (commands.Setting (settings.RatioItem (codes "7") 3 2 5 4))
unfolding words command_of forms parts command cut is_of spelling
ratio_of_item = refl

-- two files, a count and a cursor; two fixed words; and a safe answer where no item is failed
mesh_after : command_of (words (codes "mesh u v 10 after c"))
    ≡ Some (commands.File (files.Mesh (codes "u") (codes "v") 10 (Some (codes "c"))))
unfolding words command_of forms parts command cut is_of spelling
mesh_after = refl

two_fixed_words : command_of (words (codes "skills any f 5"))
    ≡ Some (commands.File (files.SkillsAny (codes "f") 5 None))
unfolding words command_of forms parts command cut is_of spelling
two_fixed_words = refl

all_skills_after : command_of (words (codes "skills all m 1 after a"))
    ≡ Some (commands.File (files.SkillsAll (codes "m") 1 (Some (codes "a"))))
unfolding words command_of forms parts command cut is_of spelling
all_skills_after = refl

safe_answer : command_of (words (codes "safe : a"))
    ≡ Some (commands.Safe (safes.Answer [] (codes "a")))
unfolding words command_of forms parts command cut is_of spelling
safe_answer = refl

related_start : command_of (words (codes "start relation r"))
    ≡ Some (commands.File (files.StartRelation (codes "r")))
unfolding words command_of forms parts command cut is_of spelling
related_start = refl

-- a printed command
abbrev printed : Command → List ℕ
printed c = words_joined (spelled c)

printed_page : printed (commands.View (views.States 65536 None)) ≡ codes "states 65536"
unfolding spelled laid_out spelled_as parts spelling digits
printed_page = refl

printed_state : printed (commands.View (views.StateOf (codes "a" ∷ codes "b" ∷ []) [])) ≡ codes "state-of a b |"
unfolding spelled laid_out spelled_as parts spelling
printed_state = refl

printed_mesh : printed (commands.File (files.Mesh (codes "u") (codes "v") 1 (Some (codes "c"))))
    ≡ codes "mesh u v 1 after c"
unfolding spelled laid_out spelled_as parts spelling digits
printed_mesh = refl

printed_nothing : printed commands.Nothing ≡ []
unfolding spelled laid_out spelled_as parts
printed_nothing = refl

-- commands that are read back as they are printed, and some that aren't
plain_query : is_plain (commands.Edit (edits.Yes (codes "a" ∷ codes "b" ∷ []) (codes "c"))) ≡ true
unfolding is_plain spelled_as parts is_of
plain_query = refl

plain_page : is_plain (commands.View (views.Project 65536 (Some (codes "3f")) (codes "a" ∷ []))) ≡ true
unfolding is_plain spelled_as parts is_of
plain_page = refl

plain_odds : is_plain (commands.Setting (settings.OddsItem (codes "a") 999999999 0)) ≡ true
unfolding is_plain spelled_as parts is_of
plain_odds = refl

plain_ratio : is_plain (commands.Setting (settings.RatioItem (codes "a") 9 2 999999999 0)) ≡ true
unfolding is_plain spelled_as parts is_of
plain_ratio = refl

plain_reply : is_plain (commands.Pupil (pupils.Reply (codes "ann") (codes "a") false)) ≡ true
unfolding is_plain spelled_as parts is_of
plain_reply = refl

plain_file : is_plain (commands.File (files.Save (codes "f."))) ≡ true
unfolding is_plain spelled_as parts is_of
plain_file = refl

great_count : is_plain (commands.View (views.States 65537 None)) ≡ false
unfolding is_plain spelled_as parts is_of
great_count = refl

hidden_file : is_plain (commands.File (files.Save (codes ".f"))) ≡ false
unfolding is_plain spelled_as parts is_of
hidden_file = refl

-- the place of the fault in a line
abbrev place : List ℕ → ℕ
place line = fault_place (words line)

unknown_command : place (codes "foo") ≡ 1
unfolding words fault_place is_begun forms parts is_of spelling
unknown_command = refl

no_colon : place (codes "yes a b") ≡ 4
unfolding words fault_place is_begun forms parts is_of spelling
no_colon = refl

colon_twice : place (codes "known a : :") ≡ 4
unfolding words fault_place is_begun forms parts is_of spelling
colon_twice = refl

three_of_four : place (codes "ratio 3 2 3") ≡ 5
unfolding words fault_place is_begun forms parts is_of spelling
three_of_four = refl

too_many_words : place (codes "states x") ≡ 2
unfolding words fault_place is_begun forms parts is_of spelling
too_many_words = refl

no_cursor : place (codes "states 3 after") ≡ 4
unfolding words fault_place is_begun forms parts is_of spelling
no_cursor = refl

no_count : place (codes "mesh a b") ≡ 4
unfolding words fault_place is_begun forms parts is_of spelling
no_count = refl

one_file : place (codes "mesh-agree a") ≡ 3
unfolding words fault_place is_begun forms parts is_of spelling
one_file = refl

neither_any_nor_all : place (codes "skills f 5") ≡ 2
unfolding words fault_place is_begun forms parts is_of spelling
neither_any_nor_all = refl

leading_zero : place (codes "states 03") ≡ 2
unfolding words fault_place is_begun forms parts is_of spelling
leading_zero = refl

-- a name has at most 40 bytes
long_name : place (codes "items " ++ replicate 41 97) ≡ 2
unfolding words fault_place is_begun forms parts is_of spelling
long_name = refl
