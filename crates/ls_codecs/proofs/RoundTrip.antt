-- What is written for a whole session is read as that session.
use Rattle.ls_codecs.proofs.Vocabulary.{◌<◌, ◌^◌, ◌∙◌, ◌∷◌, ◌≡◌, ◌≤◌, AllByRecursion, Answer, Cause, Data, Interview, IsDomain, IsPupil, IsReadBack, IsStanding, IsUtf8-are_ascii, IsWhole, List, Ok, Option, Pupil, Result, Session, Some, Text, ℕ, [], and_then, answer_codec, answers_field, ap, are_pupils, arith, block_field, codes, compact_text, depth, each, eq-eqb, false, fewer, interview_from, interview_in, is_good, is_name, is_name-utf8, items_of, kept, key-back, length, limits_field, list_all-All, lists, lists-back, ltb, ltb-true, map, members_depth, most_items, names_codec, names_field, names_of_words, names_of_words-again, next_field, no_members, numbers-back, odds_field, only_if-back, option_map, or_cause, parsed-back, pupil_codec, pupils_codec, pupils_field, read_interview, read_object, read_object-compact_text, refl, result_ok, session_from, session_of, session_text, session_value, settings_fields, settings_in, settings_parts, stands, start_field, sym, texts-back, true, version_field, zipped}
use Rattle.serde_json.specs.Written.{has_float, items_have_float}
use Rattle.ls_files.specs.declared.cause.Cause.TheVariants as cause
use Rattle.ls_files.specs.declared.version.Version.TheVariants as version
use Rattle.ls_files.proofs.Texts.{IsPlain}
use Rattle.ls_codecs.proofs.WrittenSettings.{settings-from as settings-parts, odds-back, limits-back}
use Rattle.ls_codecs.proofs.WrittenStarts.{start-back}
use Rattle.ls_codecs.proofs.WrittenAnswers.{IsFineAnswer, answer-back, block-back, stands-from}
use Rattle.ls_codecs.proofs.WrittenPupils.{both_within, pupil-back, pupil-exact}

-- ---- the parts

names-back : IsReadBack (List Text) names_codec IsDomain 1
names-back =
    fewer IsDomain (λ names h. (each is_name-utf8 names (list_all-All is_name names h.are_names.named), ap result_ok (names_of_words-again names h)))
    (parsed-back (λ ws. result_ok (names_of_words ws)) (λ ws. ws) (lists-back texts-back))

answers-back : (n : ℕ) → n ≤ most_items → IsReadBack (List Answer) (lists (answer_codec n)) (AllByRecursion (IsFineAnswer n)) 2
answers-back n few = lists-back (answer-back n few)

answers-fine : (i : Interview) → IsStanding i → AllByRecursion (IsFineAnswer i.count) i.answers
answers-fine i h =
    let left = h.numbers_left in
    both-hold i.answers
    (each (λ a x. let below = ltb-true a.number i.next x in let small : a.number < 2 ^ 64 = omega arith in small) i.answers (list_all-All (λ a. ltb a.number i.next) i.answers h.numbered.below_next))
    (list_all-All (λ a. is_good i.count a.query) i.answers h.good)
  where
    both-hold : (answers : List Answer) → AllByRecursion (λ a. a.number < 2 ^ 64) answers → AllByRecursion (λ a. is_good i.count a.query ≡ true) answers → AllByRecursion (IsFineAnswer i.count) answers
    both-hold [] p q = tt
    both-hold (a ∷ answers) p q = ((p.0, q.0), both-hold answers p.1 q.1)

pupils-back : (n : ℕ) → n ≤ most_items → 0 < n → IsReadBack (List Pupil) (pupils_codec version.Ratios n) (λ ps. AllByRecursion (IsPupil n) ps × (are_pupils ps ≡ true)) 5
pupils-back n few some = only_if-back are_pupils (lists-back (pupil-back n few some))

-- ---- the chain of the parts

said : {X Y : Type 0} (c : Cause) (o : Option X) (x : X) (next : X → Result Y Cause) → o ≡ Some x → or_cause c o next ≡ next x
said c o x next e = ap (λ o. or_cause c o next) e

gone : {X Y : Type 0} (r : Result X Cause) (x : X) (next : X → Result Y Cause) → r ≡ Ok x → and_then r next ≡ next x
gone r x next e = ap (λ r. and_then r next) e

-- the parts after the names, on n items
abbrev rest : Data → List Text → ℕ → Result Session Cause
rest d names n =
    and_then (settings_in version.Ratios n d) (λ settings.
    and_then (interview_in n d) (λ interview.
    or_cause cause.Pupils ((pupils_field version.Ratios n).find_in d) (λ pupils.
    Ok (record { names = names; interview = interview; settings = settings; pupils = pupils }))))

few-items : (s : Session) → IsWhole s → s.interview.count ≤ most_items
few-items s h = omega (arith, h.count, h.domain.are_names.few)

some-item : (s : Session) → IsWhole s → 0 < s.interview.count
some-item s h = omega (arith, h.domain.some, h.count)

next-small : (i : Interview) → IsStanding i → i.next < 2 ^ 64
next-small i h = omega (arith, h.numbers_left)

settings-back : (s : Session) → IsWhole s → settings_in version.Ratios s.interview.count (session_value s) ≡ Ok s.settings
settings-back s h =
    let n = s.interview.count in
    let d = session_value s in
    let a = settings-parts n s.settings h.settings in
    let limits : limits_field.find_in d ≡ Some (s.settings.budget, s.settings.share) = key-back limits-back (codes "limits") d (s.settings.budget, s.settings.share) a.limits refl in
    let ratios : (odds_field version.Ratios n).find_in d ≡ Some s.settings.ratios = key-back (odds-back n) (codes "odds") d s.settings.ratios (a.ratios, eq-eqb (length s.settings.ratios) n a.count) refl in
    said cause.Limits _ (s.settings.budget, s.settings.share) _ limits ∙ said cause.Odds _ s.settings.ratios _ ratios

interview-back : (s : Session) → IsWhole s → interview_in s.interview.count (session_value s) ≡ Ok s.interview
interview-back s h =
    let i = s.interview in
    let n = i.count in
    let d = session_value s in
    let few = few-items s h in
    let start : (start_field n).find_in d ≡ Some i.start = key-back (start-back n) (codes "start") d i.start h.start refl in
    let block : (block_field n).find_in d ≡ Some i.block = key-back (block-back n few) (codes "block") d i.block h.blocks refl in
    let answers : (answers_field n).find_in d ≡ Some i.answers = key-back (answers-back n few) (codes "answers") d i.answers (answers-fine i h.answers) refl in
    let next : next_field.find_in d ≡ Some i.next = key-back numbers-back (codes "next") d i.next (next-small i h.answers) refl in
    let interview : read_interview n i.start i.block d ≡ Some i = kept stands _ i (ap (option_map (interview_from n i.start i.block)) (zipped _ _ i.answers i.next answers next)) (stands-from i h.answers) in
    said cause.Start _ i.start _ start ∙ said cause.Block _ i.block _ block ∙ said cause.Answers _ i _ interview

rest-back : (s : Session) → IsWhole s → rest (session_value s) s.names s.interview.count ≡ Ok s
rest-back s h =
    let n = s.interview.count in
    let d = session_value s in
    let pupils : (pupils_field version.Ratios n).find_in d ≡ Some s.pupils = key-back (pupils-back n (few-items s h) (some-item s h)) (codes "pupils") d s.pupils (h.pupils, h.apart) refl in
    gone _ s.settings _ (settings-back s h) ∙ gone _ s.interview _ (interview-back s h) ∙ said cause.Pupils _ s.pupils _ pupils

pub members-back : (s : Session) → IsWhole s → session_from (session_value s) ≡ Ok s
unfolding session_from
members-back s h =
    let d = session_value s in
    let names : names_field.find_in d ≡ Some s.names = key-back names-back (codes "items") d s.names h.domain refl in
    said cause.Items (names_field.find_in d) s.names (λ names. rest d names (length names)) names ∙ ap (rest d s.names) (sym h.count) ∙ rest-back s h

-- ---- plain

pub session-plain : (s : Session) → IsWhole s → IsPlain (session_value s)
session-plain s h =
    let i = s.interview in
    let n = i.count in
    let few = few-items s h in
    let a = settings-parts n s.settings h.settings in (
      (
        IsUtf8-are_ascii (codes "answers") refl,
        (answers-back n few).plain i.answers (answers-fine i h.answers),
        (
          IsUtf8-are_ascii (codes "block") refl,
          (block-back n few).plain i.block h.blocks,
          (
            IsUtf8-are_ascii (codes "items") refl,
            names-back.plain s.names h.domain,
            (
              IsUtf8-are_ascii (codes "limits") refl,
              limits-back.plain (s.settings.budget, s.settings.share) a.limits,
              (
                IsUtf8-are_ascii (codes "next") refl,
                next-small i h.answers,
                (
                  IsUtf8-are_ascii (codes "odds") refl,
                  (odds-back n).plain s.settings.ratios (a.ratios, eq-eqb (length s.settings.ratios) n a.count),
                  (
                    IsUtf8-are_ascii (codes "pupils") refl,
                    (pupils-back n few (some-item s h)).plain s.pupils (h.pupils, h.apart),
                    (
                      IsUtf8-are_ascii (codes "start") refl,
                      (start-back n).plain i.start h.start,
                      (IsUtf8-are_ascii (codes "version") refl, omega arith, tt),
                    ),
                  ),
                ),
              ),
            ),
          ),
        ),
      ),
      refl,
    )

pub session-depth : (s : Session) → IsWhole s → depth (session_value s) ≤ 6
session-depth s h =
    let i = s.interview in
    let n = i.count in
    let few = few-items s h in
    let answers = (answers-back n few).shallow i.answers in
    let names = names-back.shallow s.names in
    let odds = (odds-back n).shallow s.settings.ratios in
    let pupils = (pupils-back n few (some-item s h)).shallow s.pupils in
    let start = (start-back n).shallow i.start in
    let members : members_depth ((version_field.put_in version.Ratios (names_field.put_in s.names ((settings_fields version.Ratios n).put_in (settings_parts s.settings)
    ((start_field n).put_in i.start ((block_field n).put_in i.block ((answers_field n).put_in i.answers (next_field.put_in i.next ((pupils_field version.Ratios n).put_in s.pupils no_members))))))))) ≤ 5 =
    both_within 5 _ _ (omega arith) (both_within 5 _ _ (omega arith) (both_within 5 _ _ (omega arith) (both_within 5 _ _ (omega arith) (both_within 5 _ _ (omega arith) (both_within 5 _ _ (omega arith)
    (both_within 5 _ _ pupils (both_within 5 _ _ (omega arith) (omega arith)))))))) in
    omega arith

pupils-exact : (n : ℕ) → n ≤ most_items → (ps : List Pupil) → items_have_float (items_of (map (pupil_codec version.Ratios n).write ps)) ≡ false
pupils-exact n few [] = refl
pupils-exact n few (p ∷ ps) = rw (pupil-exact n few p) (pupils-exact n few ps)

-- no value of a session is a float
pub session-exact : (s : Session) → s.interview.count ≤ most_items → has_float (session_value s) ≡ false
session-exact s few =
    let i = s.interview in
    let n = i.count in
    let pupils : items_have_float (items_of (map (pupil_codec version.Ratios n).write s.pupils)) ≡ false = pupils-exact n few s.pupils in
    rw (
      (answers-back n few).exact i.answers,
      names-back.exact s.names,
      (odds-back n).exact s.settings.ratios,
      pupils,
      (start-back n).exact i.start,
    ) refl

-- ---- the whole text

pub read_back : (s : Session) → IsWhole s → session_of (session_text s) ≡ Ok s
unfolding session_of session_text
read_back s h =
    let shallow = session-depth s h in
    said cause.Json (read_object (compact_text (session_value s))) (session_value s) session_from (read_object-compact_text _ (session-plain s h) (omega arith))
    ∙ members-back s h
