-- A command keeps a session whole where it has a domain.
use Rattle.ls_reached.proofs.Vocabulary.{◌++◌, ◌∙◌, ◌∷◌, ◌≡◌, Bool, Calls, Effect, Err, IsDomain, IsKept, IsWhole, List, None, Ok, Option, Refusal, Result, Session, Some, Text, ℕ, [], ap, bytes_fetched, command, command_effect, command_of, cond, cons_option, cut, drop, false, filter_map, forms, front, has_domain, is_long, is_name, is_of, line_effect, names_of_table, names_of_words, one, opened_by, option_map, parts, refl, session_of, session_text, slice_get, slice_index_or, started, started_by, stores, subst, take, true, words, words_effect, ⊤}
use Rattle.ls_meaning.specs.{edit_of, file_effect, in_domain, opening_row, pupil_of, saved, setting_of, taken_up, unless_unnamed}
use Rattle.ls_files.specs.Sessions.{Session as SavedSession}
use Rattle.ls_lines.specs.{pupil_name}
use Rattle.std.proofs.lemmas.Option.{none-some, same_Some}
use Rattle.ls_cutting.specs.declared.kind.Kind.{Kind}
use Rattle.ls_cutting.specs.declared.kind.Kind.TheVariants.{Name}
use Rattle.ls_lines.specs.declared.keyword.Keyword.TheVariants as Keyword
use Rattle.ls_lines.specs.declared.part.Part.{Part}
use Rattle.ls_lines.specs.declared.part.Part.TheVariants.{Fixed, One}
use Rattle.ls_lines.specs.declared.form.Form.{Form}
use Rattle.ls_lines.specs.declared.form.Form.TheVariants as form
use Rattle.ls_lines.specs.declared.pupil.PupilForm.TheVariants as pupil_form
use Rattle.ls_lines.specs.declared.opening.OpeningCommand.{OpeningCommand}
use Rattle.ls_lines.specs.declared.opening.OpeningCommand.TheVariants as openings
use Rattle.ls_lines.specs.declared.file.FileCommand.{FileCommand}
use Rattle.ls_lines.specs.declared.file.FileCommand.TheVariants as files
use Rattle.ls_lines.specs.declared.pupil.PupilCommand.{PupilCommand}
use Rattle.ls_lines.specs.declared.pupil.PupilCommand.TheVariants as pupils
use Rattle.ls_lines.specs.declared.command.Command.{Command}
use Rattle.ls_lines.specs.declared.command.Command.TheVariants as command
use Rattle.ls_domain.specs.declared.domain_fault.DomainFault.{DomainFault}
use Rattle.ls_domain.proofs.Readings.{names_of_words-read, names_of_table-read}
use Rattle.ls_files.specs.declared.cause.Cause.{Cause}
use Rattle.ls_codecs.proofs.Inverse.{chosen, map-some, then-some}
use Rattle.ls_codecs.proofs.Read.{read_whole}
use Rattle.ls_meaning.specs.declared.request.StartFile.TheVariants as start_file
use Rattle.ls_meaning.specs.declared.request.PupilRequest.TheVariants as pupil
use Rattle.ls_reached.proofs.Refusals.{changed-holds, none-both}
use Rattle.ls_reached.proofs.Interviews.{started-whole, edited-whole, start-whole, set-whole}
use Rattle.ls_reached.proofs.Pupils.{pupils-whole}

-- ---- the words of a pupil's name

-- the name of a pupil that begins is a name
abbrev IsNamed : Command → Type 0
IsNamed (command.Pupil (pupils.Pupil name)) = is_name name ≡ true
IsNamed c = ⊤

-- the words at the first part, and those at the others
record IsCut (part : Part) (ps : List Part) (ws : List Text) (given : List (List Text)) : Type 0 where
  many : ℕ
  rest : List (List Text)
  first : front part ws ≡ Some many
  others : cut ps (drop many ws) ≡ Some rest
  is : take many ws ∷ rest ≡ given

cut-parts : (part : Part) (ps : List Part) (ws : List Text) (given : List (List Text)) → cut (part ∷ ps) ws ≡ Some given → IsCut part ps ws given
unfolding cut
cut-parts part ps ws given e =
    let a = then-some (λ m. option_map (λ given. take m ws ∷ given) (cut ps (drop m ws))) (front part ws) given e in
    let b = map-some (λ given. take a.0 ws ∷ given) (cut ps (drop a.0 ws)) given a.2 in
    record { many = a.0; rest = b.0; first = a.1; others = b.1; is = b.2 }

-- where one word of a kind stands, it is of the kind
one-word : (kind : Kind) (ws : List Text) (m : ℕ) → front (One kind) ws ≡ Some m → is_of kind (slice_index_or (take m ws) 0 []) ≡ true
one-word kind [] m e = absurd (cc e)
one-word kind (w ∷ ws) m e = let a = chosen (is_of kind w) 1 m e in subst (λ k. is_of kind (slice_index_or (take k (w ∷ ws)) 0 []) ≡ true) a.0 a.1

form-named : (f : Form) (ws : List Text) (given : List (List Text)) → cut (parts f) ws ≡ Some given → IsNamed (command f given)
unfolding command parts
form-named (form.Pupil pupil_form.Pupil) ws given e =
    let a = cut-parts (Fixed Keyword.Pupil) (One Name ∷ []) ws given e in
    let b = cut-parts (One Name) [] (drop a.many ws) a.rest a.others in
    subst (λ all. is_name (one all 1) ≡ true) (ap (λ rest. take a.many ws ∷ rest) b.is ∙ a.is) (one-word Name (drop a.many ws) b.many b.first)
form-named form.Nothing ws given e = tt
form-named (form.Opening f) ws given e = tt
form-named (form.File f) ws given e = tt
form-named (form.Edit f) ws given e = tt
form-named (form.View f) ws given e = tt
form-named (form.Safe f) ws given e = tt
form-named (form.Setting f) ws given e = tt
form-named (form.Pupil pupil_form.Question) ws given e = tt
form-named (form.Pupil pupil_form.Reply) ws given e = tt
form-named (form.Pupil pupil_form.Report) ws given e = tt
form-named (form.Pupil pupil_form.Close) ws given e = tt

-- the command that is read is the command of some form
read-named : (ws : List Text) (fs : List Form) (c : Command) → slice_get (filter_map (λ f. option_map (command f) (cut (parts f) ws)) fs) 0 ≡ Some c → IsNamed c
read-named ws [] c e = absurd (none-some c e)
read-named ws (f ∷ fs) c e =
    elim (cut (parts f) ws) as (λ o. cut (parts f) ws ≡ o → slice_get (cons_option (option_map (command f) o) (filter_map (λ g. option_map (command g) (cut (parts g) ws)) fs)) 0 ≡ Some c → IsNamed c) [
      | None ↦ λ none e. read-named ws fs c e
      | Some given ↦ λ made e. subst IsNamed (same_Some (command f given) c e) (form-named f ws given made)
    ] refl e

command-named : (ws : List Text) (c : Command) → command_of ws ≡ Some c → IsNamed c
unfolding command_of
command-named ws c e = read-named ws forms c e

-- ---- what needs no domain

started-kept : (s : Session) (refusals : List Refusal) (reading : Result (List Text) DomainFault) → IsKept s → ((names : List Text) → reading ≡ Ok names → IsDomain names) → IsKept (started_by s refusals reading).next
started-kept s refusals (Ok names) kept domain = changed-holds IsKept s (started names) (refusals ++ []) _ kept (λ e some. started-whole names (domain names refl))
started-kept s refusals (Err fault) kept domain = changed-holds IsKept s (started []) (refusals ++ _ ∷ []) _ kept (λ e. absurd (let no = (none-both refusals _ e).1 in cc no))

opened-kept : (s : Session) (refusals : List Refusal) (reading : Result SavedSession Cause) → IsKept s → ((read : SavedSession) → reading ≡ Ok read → IsWhole read) → IsKept (opened_by s refusals reading).next
opened-kept s refusals (Ok read) kept whole = changed-holds IsKept s (taken_up read) (refusals ++ []) _ kept (λ e some. whole read refl)
opened-kept s refusals (Err cause) kept whole = changed-holds IsKept s s (refusals ++ _ ∷ []) _ kept (λ e. kept)

opening-kept : (s : Session) (calls : Calls) (c : OpeningCommand) → IsKept s → IsKept (opening_row s calls c).next
opening-kept s calls (openings.Items names) kept = started-kept s _ (names_of_words names) kept (λ read e. (names_of_words-read names read e).0)
opening-kept s calls (openings.LoadItems file) kept =
    let bytes = bytes_fetched (calls.file file) in started-kept s _ (names_of_table bytes) kept (λ read e. (names_of_table-read bytes read e).0)
opening-kept s calls (openings.Reopen file) kept = let bytes = bytes_fetched (calls.file file) in opened-kept s _ (session_of bytes) kept (read_whole bytes)

-- ---- what needs one

stored-whole : (s : Session) (refusals : List Refusal) (name : Text) (bytes : List ℕ) → IsWhole (saved s) → IsWhole (saved (stores s refusals name bytes).session)
stored-whole s [] name bytes h = h
stored-whole s (refusal ∷ refusals) name bytes h = h

file-whole : (s : Session) (calls : Calls) (c : FileCommand) → IsWhole (saved s) → IsWhole (saved (file_effect s calls c).session)
file-whole s calls (files.StartSurmise file) h = start-whole s h start_file.Surmise (calls.file file)
file-whole s calls (files.StartBase file) h = start-whole s h start_file.Base (calls.file file)
file-whole s calls (files.StartRelation file) h = start-whole s h start_file.Relation (calls.file file)
file-whole s calls (files.Test file) h = h
file-whole s calls (files.Class file) h = h
file-whole s calls (files.Save file) h = stored-whole s _ file (session_text (saved s)) h
file-whole s calls (files.SkillsAny file count after) h = h
file-whole s calls (files.SkillsAll file count after) h = h
file-whole s calls (files.Mesh left right count after) h = h
file-whole s calls (files.MeshAgree left right) h = h

-- where a word names no item nothing changes
unless-whole : (s : Session) (places : List ℕ) (e : Effect) → IsWhole (saved s) → IsWhole (saved e.session) → IsWhole (saved (unless_unnamed s places e).session)
unless-whole s [] e h whole = whole
unless-whole s (place ∷ places) e h whole = h

begins-named : (names : List Text) (c : PupilCommand) → IsNamed (command.Pupil c) → pupil_of names c ≡ pupil.Begin → is_name (pupil_name c) ≡ true
begins-named names (pupils.Pupil name) named e = named
begins-named names (pupils.Question name) named e = absurd (cc e)
begins-named names (pupils.Reply name item right) named e = absurd (cc e)
begins-named names (pupils.Report name) named e = absurd (cc e)
begins-named names (pupils.Close name) named e = absurd (cc e)

either-kept : (b : Bool) (x y : Effect) → (b ≡ true → IsKept x.session) → IsKept y.session → IsKept (cond b x y).session
either-kept true x y first second = first refl
either-kept false x y first second = second

in_domain-kept : (s : Session) (e : Effect) → IsKept s → (IsWhole (saved s) → IsWhole (saved e.session)) → IsKept (in_domain s e).session
in_domain-kept s e kept whole = either-kept (has_domain s) e _ (λ some other. whole (kept some)) kept

-- ---- commands and lines

command-kept : (s : Session) (calls : Calls) (c : Command) → IsKept s → IsNamed c → IsKept (command_effect s calls c).session
unfolding command_effect
command-kept s calls command.Nothing kept named = kept
command-kept s calls (command.Opening c) kept named = opening-kept s calls c kept
command-kept s calls (command.File c) kept named = in_domain-kept s _ kept (file-whole s calls c)
command-kept s calls (command.Edit c) kept named = in_domain-kept s _ kept (λ h. unless-whole s _ _ h (edited-whole s h (edit_of s.names c)))
command-kept s calls (command.View c) kept named = in_domain-kept s _ kept (λ h. unless-whole s _ _ h h)
command-kept s calls (command.Setting c) kept named = in_domain-kept s _ kept (λ h. unless-whole s _ _ h (set-whole s h (setting_of s.names c)))
command-kept s calls (command.Pupil c) kept named =
    in_domain-kept s _ kept (λ h. unless-whole s _ _ h (pupils-whole s h (pupil_name c) (pupil_of s.names c) (begins-named s.names c named)))
command-kept s calls (command.Safe c) kept named = in_domain-kept s _ kept (λ h. unless-whole s _ _ h h)

words-kept : (s : Session) (calls : Calls) (ws : List Text) (o : Option Command) → IsKept s → ((c : Command) → o ≡ Some c → IsNamed c) → IsKept (words_effect s calls ws o).session
words-kept s calls ws None kept named = kept
words-kept s calls ws (Some c) kept named = command-kept s calls c kept (named c refl)

pub line-kept : (s : Session) (calls : Calls) (line : List ℕ) → IsKept s → IsKept (line_effect s calls line).session
unfolding line_effect
line-kept s calls line kept =
    either-kept (is_long line) _ _ (λ e. kept) (words-kept s calls (words line) (command_of (words line)) kept (command-named (words line)))
