-- A printed command is read back.
use Rattle.ls_lines.proofs.Vocabulary.{◌∙◌, ◌∷◌, ◌≡◌, Bool, Command, Filling, Fixed, Form, List, Many, None, Number, One, Part, Right, Some, Text, Word, Words, ℕ, [], all_stand, and_parts, ap, arith, bytes_eq, codes, command, command_of, decimal, false, forms, greatest_number, if◌then◌else◌, is_of, is_plain, is_some, laid_out, leb-true, list_all, map, most_counted, nat_le, nat_list_eq_equiv, never, number_up_to, parts, refl, spelled, spelled_as, spelling, stands_at, true, words, words_joined, words_of}
use Rattle.ls_cutting.specs.declared.kind.Kind.TheVariants as kind
use Rattle.ls_lines.specs.declared.command.Command.TheVariants as commands
use Rattle.ls_lines.specs.declared.file.FileCommand.TheVariants as files
use Rattle.ls_lines.specs.declared.view.ViewCommand.TheVariants as views
use Rattle.ls_lines.specs.declared.safe.SafeCommand.TheVariants as safes
use Rattle.ls_cutting.proofs.Numbers.{number_up_to-of_decimal}
use Rattle.ls_cutting.proofs.Rewords.{begins, words-line}
use Rattle.ls_lines.proofs.Recut.{fits_at, all_fit, flat, recut, words-fit}
use Rattle.ls_lines.proofs.Parted.{forms_end}
use Rattle.ls_lines.proofs.Exact.{line_exact}
use Rattle.ls_lines.proofs.Apart.{placed, each_passes, told_apart}
use Rattle.ls_lines.proofs.Choosing.{has_line, only_found, command_of-form}

-- numbers and counts, as they are spelled
count-read : (n : ℕ) → nat_le n most_counted ≡ true → number_up_to most_counted (decimal n) ≡ Some n
count-read n h = number_up_to-of_decimal most_counted n (omega arith) (leb-true n most_counted h)

number-read : (n : ℕ) → nat_le n greatest_number ≡ true → number_up_to greatest_number (decimal n) ≡ Some n
number-read n h = number_up_to-of_decimal greatest_number n (omega arith) (leb-true n greatest_number h)

count-fits : (n : ℕ) → nat_le n most_counted ≡ true → is_of kind.Count (decimal n) ≡ true
unfolding is_of
count-fits n h = ap is_some (count-read n h)

number-fits : (n : ℕ) → nat_le n greatest_number ≡ true → is_of kind.Number (decimal n) ≡ true
unfolding is_of
number-fits n h = ap is_some (number-read n h)

right-fits : (right : Bool) → is_of kind.Right (if right then codes "right" else codes "wrong") ≡ true
unfolding is_of
right-fits true = refl
right-fits false = refl

right-read : (right : Bool) → bytes_eq (if right then codes "right" else codes "wrong") (codes "right") ≡ right
right-read true = refl
right-read false = refl

-- what can stand at the parts of a form has words that fit them
fits-one : (part : Part) (f : Filling) → stands_at part f ≡ true → fits_at part (words_of f) ≡ true
fits-one (One k) (Word w) h = h
fits-one (Many k) (Words ws) h = h
fits-one (One kind.Count) (Number n) h = count-fits n h
fits-one (One kind.Number) (Number n) h = number-fits n h
fits-one (One kind.Right) (Right right) h = right-fits right
fits-one part f h = never h

fits-all : (ps : List Part) (fs : List Filling) → all_stand ps fs ≡ true → all_fit ps (laid_out ps (map words_of fs)) ≡ true
unfolding laid_out
fits-all [] [] h = refl
fits-all [] (f ∷ fs) h = never h
fits-all (Fixed v ∷ ps) fs h = rw (nat_list_eq_equiv.refl (spelling v)) (fits-all ps fs h)
fits-all (part ∷ ps) [] h = never h
fits-all (part ∷ ps) (f ∷ fs) h = let p = and_parts (stands_at part f) (all_stand ps fs) h in rw (fits-one part f p.0) (fits-all ps fs p.1)

-- the form of a command, what stands at its parts that are no fixed words, and its words at each part
abbrev form_of : Command → Form
form_of c = (spelled_as c).0

abbrev operands : Command → List Filling
operands c = (spelled_as c).1

abbrev given_of : Command → List (List Text)
given_of c = laid_out (parts (form_of c)) (map words_of (operands c))

fitted : (c : Command) → is_plain c ≡ true → all_fit (parts (form_of c)) (given_of c) ≡ true
unfolding is_plain
fitted c h = fits-all (parts (form_of c)) (operands c) h

rebuilt : (c : Command) → is_plain c ≡ true → command (form_of c) (given_of c) ≡ c
unfolding is_plain spelled_as parts laid_out command
rebuilt commands.Nothing h = refl
rebuilt (commands.View (views.States count None)) h = grind (arith, and_parts, count-read)
rebuilt (commands.View (views.Project count None names)) h = grind (arith, and_parts, count-read)
rebuilt (commands.View (views.Paths count None)) h = grind (arith, and_parts, count-read)
rebuilt (commands.File (files.SkillsAny file count None)) h = grind (arith, and_parts, count-read)
rebuilt (commands.File (files.SkillsAll file count None)) h = grind (arith, and_parts, count-read)
rebuilt (commands.File (files.Mesh left right count None)) h = grind (arith, and_parts, count-read)
rebuilt (commands.Safe (safes.States count None)) h = grind (arith, and_parts, count-read)
rebuilt c h = grind (arith, and_parts, count-read, number-read, right-read)

-- each form but that of nothing begins with a word of its own, which makes no note of the line
abbrev own_first : List Part → Bool
own_first [] = true
own_first (Fixed v ∷ ps) = begins (spelling v ∷ [])
own_first (part ∷ ps) = false

all_own_first : list_all (λ f. own_first (parts f)) forms ≡ true
unfolding parts spelling forms
all_own_first = refl

begins-first : (w : Text) (ws vs : List Text) → begins (w ∷ ws) ≡ begins (w ∷ vs)
begins-first [] ws vs = refl
begins-first (b ∷ w) ws vs = refl

begins-own : (ps : List Part) (given : List (List Text)) → own_first ps ≡ true → begins (flat (laid_out ps given)) ≡ true
unfolding laid_out
begins-own [] given h = refl
begins-own (Fixed v ∷ ps) given h = begins-first (spelling v) (flat (laid_out ps given)) [] ∙ h
begins-own (part ∷ ps) given h = never h

pub words_back : (c : Command) → is_plain c ≡ true → words (words_joined (spelled c)) ≡ spelled c
unfolding spelled
words_back c h = words-line (spelled c) (words-fit (parts (form_of c)) (given_of c) (fitted c h)) (begins-own (parts (form_of c)) (map words_of (operands c)) (each_passes (λ f. own_first (parts f)) all_own_first (form_of c)))

command_back : (c : Command) → is_plain c ≡ true → command_of (spelled c) ≡ Some c
unfolding spelled
command_back c h =
    let f = form_of c in
    let cut_back = recut (parts f) (given_of c) (forms_end f) (fitted c h) in
    let has : has_line (spelled c) f ≡ true = ap is_some cut_back in
    let found = only_found forms (spelled c) (placed f).0 f (placed f).1 has (λ g k. told_apart g f (spelled c) ((line_exact g (spelled c)).0 k) ((line_exact f (spelled c)).0 has)) in
    command_of-form (spelled c) f (given_of c) found cut_back ∙ ap Some (rebuilt c h)

pub read_back : (c : Command) → is_plain c ≡ true → command_of (words (words_joined (spelled c))) ≡ Some c
read_back c h = ap command_of (words_back c h) ∙ command_back c h
