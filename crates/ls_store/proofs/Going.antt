-- How the parts of a session go on one after another.
use Rattle.ls_store.proofs.Vocabulary.{◌∙◌, ◌≡◌, Cause, Data, Err, IfErr, IfOk, Interview, IsErrAnd, IsReadAs, IsSessionFault, List, None, Ok, Option, Pupil, Result, Session, Settings, Some, Start, Text, Version, ℕ, and_then, ap, block_field, interview_in, length, names_field, or_cause, pupils_field, read_interview, read_object, refl, session_from, session_of, settings_in, start_field, subst, sym, told, version_field}
use Rattle.ls_files.specs.declared.cause.Cause.TheVariants as cause
use Rattle.ls_store.specs.Stored.{held_in}
use Rattle.ls_store.specs.declared.fault.SessionFault.{SessionFault}
use Rattle.ls_store.specs.declared.fault.SessionFault.TheVariants.{BadSession, Memory}
use Rattle.ls_codecs.specs.declared.part_fault.PartFault.{PartFault}
use Rattle.ls_codecs.specs.declared.part_fault.PartFault.TheVariants as part

-- ---- one part

-- the part that is told, as the definition reads it
pub told-ok : {X Y : Type 0} (of : Y → X) (c : Cause) (answer : Option X) (read : Result Y PartFault) (y : Y) → IsReadAs of answer read → Ok y ≡ told c read → answer ≡ Some (of y)
told-ok of c answer (Ok x) y h e = let same : y ≡ x = cc e in h ∙ ap (λ x. Some (of x)) (sym same)
told-ok of c answer (Err part.Bad) y h e = absurd (cc e)
told-ok of c answer (Err (part.Memory m)) y h e = absurd (cc e)

-- the fault that is told, whatever comes after the part
pub told-err : {X Y Z : Type 0} (of : Y → X) (c : Cause) (answer : Option X) (read : Result Y PartFault) (next : X → Result Z Cause) (f : SessionFault) → IsReadAs of answer read → Err f ≡ told c read
    → IsSessionFault (or_cause c answer next) f
told-err of c answer (Ok x) next f h e = absurd (cc e)
told-err of c answer (Err part.Bad) next (BadSession d) h e = let same : d ≡ c = cc e in ap (λ o. or_cause c o next) h ∙ ap Err (sym same)
told-err of c answer (Err part.Bad) next (Memory m) h e = tt
told-err of c answer (Err (part.Memory m)) next (BadSession d) h e = absurd (cc e)
told-err of c answer (Err (part.Memory m)) next (Memory n) h e = tt

-- the last part
pub told-last : {X Y : Type 0} (of : Y → X) (c : Cause) (answer : Option X) (read : Result Y PartFault) (r : Result Y SessionFault) → IsReadAs of answer read → r ≡ told c read → IfOk r (λ y. or_cause c answer Ok ≡ Ok (of y))
told-last of c answer read (Err f) h e = tt
told-last of c answer read (Ok y) h e = ap (λ o. or_cause c o Ok) (told-ok of c answer read y h e)

pub told-fault : {X Y Z : Type 0} (of : Y → X) (c : Cause) (answer : Option X) (read : Result Y PartFault) (next : X → Result Z Cause) (r : Result Y SessionFault) → IsReadAs of answer read → r ≡ told c read
    → IfErr r (IsSessionFault (or_cause c answer next))
told-fault of c answer read next (Ok y) h e = tt
told-fault of c answer read next (Err f) h e = told-err of c answer read next f h e

-- what else holds of the part
pub told-of : {Y : Type 0} (P : Y → Type 0) (c : Cause) (read : Result Y PartFault) (y : Y) → IfOk read P → Ok y ≡ told c read → P y
told-of P c (Ok x) y h e = let same : y ≡ x = cc e in subst P (sym same) h
told-of P c (Err part.Bad) y h e = absurd (cc e)
told-of P c (Err (part.Memory m)) y h e = absurd (cc e)

pub some : {X Y : Type 0} (c : Cause) (o : Option X) (x : X) (next : X → Result Y Cause) → o ≡ Some x → or_cause c o next ≡ next x
some c o x next e = ap (λ o. or_cause c o next) e

pub gone : {X Y : Type 0} (r : Result X Cause) (x : X) (next : X → Result Y Cause) → r ≡ Ok x → and_then r next ≡ next x
gone r x next e = ap (λ r. and_then r next) e

-- a fault is that of all that comes after
pub fault-on : {X Y : Type 0} (r : Result X Cause) (next : X → Result Y Cause) (f : SessionFault) → IsSessionFault r f → IsSessionFault (and_then r next) f
fault-on r next (BadSession c) h = ap (λ r. and_then r next) h
fault-on r next (Memory e) h = tt

-- a fault that is passed on
pub passed_on : {T X : Type 0} (answer : Result X Cause) (fault : SessionFault) (r : Result T SessionFault) → IsErrAnd r (λ f. f ≡ fault) → IsSessionFault answer fault → IfErr r (IsSessionFault answer)
passed_on answer fault (Ok x) same h = tt
passed_on answer fault (Err f) same h = subst (IsSessionFault answer) (sym same) h

-- ---- the interview

pub inquired : (n : ℕ) (d : Data) (start : Start) (block : ℕ) → (start_field n).find_in d ≡ Some start → (block_field n).find_in d ≡ Some block
    → interview_in n d ≡ or_cause cause.Answers (read_interview n start block d) Ok
inquired n d start block e f = some cause.Start _ start _ e ∙ some cause.Block _ block _ f

-- ---- the session

abbrev pub after_interview : Version → ℕ → Data → List Text → Settings → Interview → Result Session Cause
after_interview v n d names s i =
    or_cause cause.Pupils ((pupils_field v n).find_in d) (λ ps. Ok (record { names = names; interview = i; settings = s; pupils = ps }))

abbrev pub after_settings : Version → ℕ → Data → List Text → Settings → Result Session Cause
after_settings v n d names s = and_then (interview_in n d) (after_interview v n d names s)

abbrev pub after_names : Version → Data → ℕ → List Text → Result Session Cause
after_names v d n names = and_then (settings_in v n d) (after_settings v n d names)

abbrev pub after_version : Data → Version → Result Session Cause
after_version d v = or_cause cause.Items (names_field.find_in d) (λ names. after_names v d (length names) names)

-- the interview and the pupils
abbrev pub after_held : Version → ℕ → Data → Interview → Result (Interview × List Pupil) Cause
after_held v n d i = or_cause cause.Pupils ((pupils_field v n).find_in d) (λ ps. Ok (i, ps))

retold : {X Y Z : Type 0} (f : SessionFault) (r : Result X Cause) (o : Option Y) (make : X → Y → Z) → IsSessionFault (and_then r (λ x. or_cause cause.Pupils o (λ y. let p : Result (X × Y) Cause = Ok (x, y) in p))) f
    → IsSessionFault (and_then r (λ x. or_cause cause.Pupils o (λ y. let z : Result Z Cause = Ok (make x y) in z))) f
retold (Memory m) r o make h = tt
retold (BadSession b) (Err c) o make h = let same : c ≡ b = cc h in ap Err same
retold (BadSession b) (Ok x) None make h = let same : cause.Pupils ≡ b = cc h in ap Err same
retold (BadSession b) (Ok x) (Some y) make h = absurd (cc h)

-- a fault of them is one of the session
pub held-fault : (v : Version) (n : ℕ) (d : Data) (names : List Text) (s : Settings) (f : SessionFault) → IsSessionFault (held_in v n d) f → IsSessionFault (after_settings v n d names s) f
held-fault v n d names s f h =
    retold f (interview_in n d) ((pupils_field v n).find_in d) (λ i ps. let made : Session = record { names = names; interview = i; settings = s; pupils = ps } in made) h

pub begun : (d : Data) → session_from d ≡ or_cause cause.Version (version_field.find_in d) (after_version d)
unfolding session_from
begun d = refl

pub named : (d : Data) (v : Version) (names : List Text) (n : ℕ) → n ≡ length names → version_field.find_in d ≡ Some v → names_field.find_in d ≡ Some names → session_from d ≡ after_names v d n names
named d v names n same e f =
    begun d ∙ some cause.Version _ v (after_version d) e ∙ some cause.Items _ names (λ names. after_names v d (length names) names) f ∙ ap (λ m. after_names v d m names) (sym same)

-- ---- the bytes

pub no_object : (bytes : List ℕ) → None ≡ read_object bytes → session_of bytes ≡ Err cause.Json
unfolding session_of
no_object bytes e = ap (λ o. or_cause cause.Json o session_from) (sym e)

pub an_object : (bytes : List ℕ) (d : Data) → Some d ≡ read_object bytes → session_of bytes ≡ session_from d
unfolding session_of
an_object bytes d e = ap (λ o. or_cause cause.Json o session_from) (sym e)
