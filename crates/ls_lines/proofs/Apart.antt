-- No line has two forms.
use Rattle.ls_lines.proofs.Vocabulary.{◌&&◌, ◌∙◌, ◌∷◌, ◌≡◌, Bool, Fixed, Form, IsLine, Keyword, Kind, List, Many, One, Part, Some, Text, ℕ, [], and_parts, ap, bytes_eq, cond, done, false, fixed, forms, no_more, none-some, one, one_more, parts, refl, same_Some, same_text, spelling, subst, suc, sym, true, zero}
use Rattle.std.specs.List.{filter, list_all, slice_get}
use Rattle.ls_lines.specs.declared.form.Form.TheVariants as form
use Rattle.ls_lines.specs.declared.opening.OpeningForm.TheVariants as opening
use Rattle.ls_lines.specs.declared.file.FileForm.TheVariants as file
use Rattle.ls_lines.specs.declared.edit.EditForm.TheVariants as edit
use Rattle.ls_lines.specs.declared.view.ViewForm.TheVariants as view
use Rattle.ls_lines.specs.declared.safe.SafeForm.TheVariants as safe
use Rattle.ls_lines.specs.declared.setting.SettingForm.TheVariants as setting
use Rattle.ls_lines.specs.declared.pupil.PupilForm.TheVariants as pupil

-- whether the two may have a line in common: their fixed words agree as far as no `Many` stands before, and so do their lengths
abbrev clash : List Part → List Part → Bool
clash [] (Fixed u ∷ qs) = false
clash [] (One k ∷ qs) = false
clash (Fixed v ∷ ps) [] = false
clash (One j ∷ ps) [] = false
clash (Fixed v ∷ ps) (Fixed u ∷ qs) = bytes_eq (spelling v) (spelling u) && clash ps qs
clash (One j ∷ ps) (One k ∷ qs) = clash ps qs
clash ps qs = true

same_fixed : (v u : Keyword) (w : Text) → bytes_eq (spelling v) w ≡ true → bytes_eq (spelling u) w ≡ true → bytes_eq (spelling v) (spelling u) ≡ true
same_fixed v u w e f = subst (λ x. bytes_eq (spelling v) x ≡ true) (sym (same_text (spelling u) w (sym f))) e

both_hold : (a b : Bool) → a ≡ true → b ≡ true → a && b ≡ true
both_hold a b e f = rw (e, f) refl

many_first : (k : Kind) (ps qs : List Part) → clash (Many k ∷ ps) qs ≡ true
many_first k ps [] = refl
many_first k ps (Fixed u ∷ qs) = refl
many_first k ps (q ∷ qs) = refl

many_second : (k : Kind) (ps qs : List Part) → clash ps (Many k ∷ qs) ≡ true
many_second k [] qs = refl
many_second k (Fixed v ∷ ps) qs = refl
many_second k (p ∷ ps) qs = refl

-- two lists of parts with a line in common clash
shared : {ps qs : List Part} (ws : List Text) → IsLine ps ws → IsLine qs ws → clash ps qs ≡ true
shared {qs = qs} ws (no_more {k = k} {ps = ps} g) h = many_first k ps qs
shared {qs = qs} ws (one_more {k = k} {ps = ps} e g) h = many_first k ps qs
shared {ps = ps} ws g (no_more {k = k} {ps = qs} h) = many_second k ps qs
shared {ps = ps} ws g (one_more {k = k} {ps = qs} f h) = many_second k ps qs
shared (w ∷ ws) (fixed {v = v} {ps = ps} e g) (fixed {v = u} {ps = qs} f h) = both_hold (bytes_eq (spelling v) (spelling u)) (clash ps qs) (same_fixed v u w e f) (shared ws g h)
shared (w ∷ ws) (one e g) (one f h) = shared ws g h
shared ws done done = refl
shared ws g h = refl

-- of the table, each form clashes with itself alone
alone : (f : Form) → filter (λ g. clash (parts f) (parts g)) forms ≡ f ∷ []
unfolding parts spelling forms
alone form.Nothing = refl
alone (form.Opening opening.Items) = refl
alone (form.File file.Test) = refl
alone (form.Edit edit.Blocks) = refl
alone (form.View view.States) = refl
alone (form.Safe safe.Open) = refl
alone (form.Setting setting.OddsAll) = refl
alone (form.Pupil pupil.Pupil) = refl
alone f = refl

-- what a filter keeps has a place in the list, and of a list of which it keeps one thing no other passes
kept_place : (test : Form → Bool) (fs : List Form) (f : Form) (kept : List Form) → filter test fs ≡ f ∷ kept → (i : ℕ) × (slice_get fs i ≡ Some f)
kept_place test [] f kept e = absurd (let none : [] ≡ f ∷ kept = e in cc)
kept_place test (g ∷ fs) f kept e =
    elim (test g) as (λ t. cond t (g ∷ filter test fs) (filter test fs) ≡ f ∷ kept → (i : ℕ) × (slice_get (g ∷ fs) i ≡ Some f)) [
      | true ↦ λ e. (0, ap Some (let same : g ≡ f = cc in same))
      | false ↦ λ e. let rest = kept_place test fs f kept e in (suc rest.0, rest.1)
    ] e

kept_some : (test : Form → Bool) (fs : List Form) (i : ℕ) (f : Form) → slice_get fs i ≡ Some f → test f ≡ true → filter test fs ≡ [] → ⊥
kept_some test [] i f at h e = none-some f at
kept_some test (g ∷ fs) zero f at h e = let here : test g ≡ true = subst (λ d. test d ≡ true) (sym (same_Some g f at)) h in let none : g ∷ filter test fs ≡ [] = rw here at e in cc
kept_some test (g ∷ fs) (suc i) f at h e =
    elim (test g) as (λ t. cond t (g ∷ filter test fs) (filter test fs) ≡ [] → ⊥) [
      | true ↦ λ none. cc
      | false ↦ λ none. kept_some test fs i f at h none
    ] e

kept_alone : (test : Form → Bool) (fs : List Form) (i : ℕ) (f g : Form) → slice_get fs i ≡ Some g → test g ≡ true → filter test fs ≡ f ∷ [] → f ≡ g
kept_alone test [] i f g at h e = absurd (none-some g at)
kept_alone test (d ∷ fs) zero f g at h e =
    let same = same_Some d g at in
    let here : test d ≡ true = subst (λ d. test d ≡ true) (sym same) h in
    let kept : d ∷ filter test fs ≡ f ∷ [] = rw here at e in
    let first : d ≡ f = cc in
    sym first ∙ same
kept_alone test (d ∷ fs) (suc i) f g at h e =
    elim (test d) as (λ t. cond t (d ∷ filter test fs) (filter test fs) ≡ f ∷ [] → f ≡ g) [
      | true ↦ λ kept. absurd (kept_some test fs i g at h (let rest : filter test fs ≡ [] = cc in rest))
      | false ↦ λ kept. kept_alone test fs i f g at h kept
    ] e

-- the place of each form in the table
pub placed : (f : Form) → (i : ℕ) × (slice_get forms i ≡ Some f)
placed f = kept_place (λ g. clash (parts f) (parts g)) forms f [] (alone f)

-- what is true of each form of the table is true of each form
passes_at : (test : Form → Bool) (fs : List Form) (i : ℕ) (f : Form) → list_all test fs ≡ true → slice_get fs i ≡ Some f → test f ≡ true
passes_at test [] i f all at = absurd (none-some f at)
passes_at test (g ∷ fs) zero f all at = subst (λ d. test d ≡ true) (same_Some g f at) (and_parts (test g) (list_all test fs) all).0
passes_at test (g ∷ fs) (suc i) f all at = passes_at test fs i f (and_parts (test g) (list_all test fs) all).1 at

pub each_passes : (test : Form → Bool) → list_all test forms ≡ true → (f : Form) → test f ≡ true
each_passes test all f = passes_at test forms (placed f).0 f all (placed f).1

pub told_apart : (f g : Form) (ws : List Text) → IsLine (parts f) ws → IsLine (parts g) ws → f ≡ g
told_apart f g ws of_f of_g = let at = placed g in kept_alone (λ h. clash (parts f) (parts h)) forms at.0 f g at.1 (shared ws of_f of_g) (alone f)
