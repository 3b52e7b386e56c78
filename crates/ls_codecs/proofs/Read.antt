-- What is read of a session is a whole session.
use Rattle.ls_codecs.proofs.Vocabulary.{AllByRecursion, AreOn, Clauses, Codec, Data, Each-among, Err, Free, Interview, IsDomain, IsNarrow, IsPupil, IsStart, IsWhole, List, None, Ok, Option, Pupil, Ratios, Result, Session, Sets, Some, Start, Text, Version, answers_field, ap, are_limits, are_made, are_pupils, are_ratios, as_str, at_key, base_codec, block_codec, block_field, both, bytes_eq, codes, eqb, eqb-true, get, interview_from, interview_in, is_pupil, kept_if, length, limits_codec, limits_field, list_all, name_field, names_codec, names_field, names_of_words, names_of_words-read, next_field, odds_codec, odds_field, only, option_map, option_zip, pupil_codec, pupil_fields, pupil_from, pupils_codec, pupils_field, read_interview, read_list, read_object, replies_field, result_ok, session_from, session_of, set_codec, settings_fields, settings_in, stands, start_codec, start_field, start_from, start_within, subst, surmise_codec, surmise_from, sym, true, version_field, yes_field, ℕ, ◌≡◌}
use Rattle.ls_set.specs.{IsWithin, Items, full, read_cursor}
use Rattle.ls_theory.specs.Settings.{Settings, are_settings}
use Rattle.ls_files.specs.declared.cause.Cause.TheVariants as cause
use Rattle.ls_codecs.proofs.Inverse.{and_then-ok, chosen, or_cause-ok, kept_if-some, map-some, then-some, zip-some, list-some}
use Rattle.ls_codecs.proofs.Sound.{odds-sound, limits-sound, settings-sound, base-sound, block-sound, stands-standing}
use Rattle.ls_codecs.proofs.Surmises.{narrow-read}

-- ---- sets and starts

ok-some : {X E : Type 0} (r : Result X E) (x : X) → result_ok r ≡ Some x → r ≡ Ok x
ok-some (Ok y) x e = let same : y ≡ x = cc in ap Ok same
ok-some (Err f) x e = absurd (let no : ⊥ = cc in no)

ok-same : {X E : Type 0} (x y : X) → (let r : Result X E = Ok x in r) ≡ Ok y → x ≡ y
ok-same x y e = let same : x ≡ y = cc in same

set-sound : (n : ℕ) (d : Data) (s : Items) → (set_codec n).read d ≡ Some s → IsWithin s (full n)
set-sound n d s e = let text = then-some (λ w. result_ok (read_cursor n w)) (as_str d) s e in (only n text.0 s (ok-some (read_cursor n text.0) s text.2)).0

pub on-from : (n : ℕ) (d : Data) (ss : List Items) → read_list (set_codec n).read d ≡ Some ss → AreOn n ss
on-from n d ss e k h = Each-among (λ s. IsWithin s (full n)) ss k (list-some (set_codec n).read (λ s. IsWithin s (full n)) (set-sound n) d ss e) h

surmise-sound : (n : ℕ) (d : Data) (cs : List (List Items)) → (surmise_codec n).read d ≡ Some cs → IsNarrow n cs
surmise-sound n d cs e =
    let lists = read_list (read_list (set_codec n).read) d in
    let made = then-some (λ cs. result_ok (surmise_from n cs)) (kept_if (λ cs. eqb (length cs) n) lists) cs e in
    let read = kept_if-some (λ cs. eqb (length cs) n) lists made.0 made.1 in
    narrow-read n made.0 cs (list-some (read_list (set_codec n).read) (AreOn n) (on-from n) d made.0 read.0) (eqb-true (length made.0) n read.1) made.2

within-sound : (n : ℕ) (base surmise : Option Data) (s : Start) → start_within n base surmise ≡ Some s → IsStart n s
within-sound n (Some d) surmise s e = let made = map-some Sets ((base_codec n).read d) s e in subst (IsStart n) made.2 (base-sound n d made.0 made.1)
within-sound n None (Some d) s e = let made = map-some Clauses ((surmise_codec n).read d) s e in subst (IsStart n) made.2 (surmise-sound n d made.0 made.1)
within-sound n None None s e = absurd (let no : ⊥ = cc in no)

from-sound : (n : ℕ) (d : Data) (w : Option Text) (s : Start) → start_from n d w ≡ Some s → IsStart n s
from-sound n d (Some w) s e = subst (IsStart n) (chosen (bytes_eq w (codes "free")) Free s e).0 tt
from-sound n d None s e = within-sound n (get (codes "base") d) (get (codes "surmise") d) s e

start-sound : (n : ℕ) (d : Data) (s : Start) → (start_codec n).read d ≡ Some s → IsStart n s
start-sound n d s e = from-sound n d (as_str d) s e

pub at-sound : {X : Type 0} (key : List ℕ) (c : Codec X) (d : Data) (x : X) → (at_key key c).find_in d ≡ Some x → (e : Data) × (c.read e ≡ Some x)
at-sound key c d x e = let found = then-some c.read (get key d) x e in (found.0, found.2)

pub odds-read : (v : Version) (n : ℕ) (d : Data) (rs : List Ratios) → (odds_field v n).find_in d ≡ Some rs → (length rs ≡ n) × (list_all are_ratios rs ≡ true)
odds-read v n d rs e = let at = at-sound (codes "odds") (odds_codec v n) d rs e in odds-sound v n at.0 rs at.1

pub limits-read : (d : Data) (l : ℕ × ℕ) → limits_field.find_in d ≡ Some l → are_limits l.0 l.1 ≡ true
limits-read d l e = let at = at-sound (codes "limits") limits_codec d l e in limits-sound at.0 l at.1

start-read : (n : ℕ) (d : Data) (s : Start) → (start_field n).find_in d ≡ Some s → IsStart n s
start-read n d s e = let at = at-sound (codes "start") (start_codec n) d s e in start-sound n at.0 s at.1

pub block-read : (n : ℕ) (d : Data) (k : ℕ) → (block_field n).find_in d ≡ Some k → are_made n k ≡ true
block-read n d k e = let at = at-sound (codes "block") (block_codec n) d k e in block-sound n at.0 k at.1

-- ---- names, interviews and pupils

names-read : (d : Data) (names : List Text) → names_field.find_in d ≡ Some names → IsDomain names
names-read d names e =
    let at = at-sound (codes "items") names_codec d names e in
    let words = then-some (λ ws. result_ok (names_of_words ws)) (read_list as_str at.0) names at.1 in
    (names_of_words-read words.0 names (ok-some (names_of_words words.0) names words.2)).0

pub record IsInterview (n : ℕ) (start : Start) (block : ℕ) (i : Interview) : Type 0 where
  pub count : i.count ≡ n
  pub start_is : i.start ≡ start
  pub block_is : i.block ≡ block
  pub stands_now : stands i ≡ true

pub interview-sound : (n : ℕ) (start : Start) (block : ℕ) (d : Data) (i : Interview) → read_interview n start block d ≡ Some i → IsInterview n start block i
interview-sound n start block d i e =
    let parts = (both (answers_field n) next_field).find_in d in
    let read = kept_if-some stands (option_map (interview_from n start block) parts) i e in
    let made = map-some (interview_from n start block) parts i read.0 in
    record { count = ap (λ (i : Interview). i.count) (sym made.2); start_is = ap (λ (i : Interview). i.start) (sym made.2); block_is = ap (λ (i : Interview). i.block) (sym made.2); stands_now = read.1 }

pub pupil-sound : (v : Version) (n : ℕ) (d : Data) (p : Pupil) → (pupil_codec v n).read d ≡ Some p → IsPupil n p
pupil-sound v n d p e =
    let settings = (settings_fields v n).find_in d in
    let course = (both (yes_field n) (replies_field n)).find_in d in
    let parts = (pupil_fields v n).find_in d in
    let read = kept_if-some (is_pupil n) (option_map pupil_from parts) p e in
    let made = map-some pupil_from parts p read.0 in
    let halves = zip-some (option_zip (name_field.find_in d) settings) (option_zip ((start_field n).find_in d) course) made.0 made.1 in
    let first = zip-some (name_field.find_in d) settings made.0.0 halves.0 in
    let both = zip-some ((odds_field v n).find_in d) (limits_field.find_in d) made.0.0.1 first.1 in
    let second = zip-some ((start_field n).find_in d) course made.0.1 halves.1 in
    record {
      start = subst (IsStart n) (ap (λ (p : Pupil). p.start) made.2) (start-read n d made.0.1.0 second.0);
      settings = subst (λ s. are_settings n s ≡ true) (ap (λ (p : Pupil). p.settings) made.2)
          (settings-sound n made.0.0.1.0 made.0.0.1.1 (odds-read v n d made.0.0.1.0 both.0) (limits-read d made.0.0.1.1 both.1));
      stands = read.1;
    }

pub settings-read : (v : Version) (n : ℕ) (d : Data) (s : Settings) → settings_in v n d ≡ Ok s → are_settings n s ≡ true
settings-read v n d s e =
    let limits = or_cause-ok cause.Limits (limits_field.find_in d) _ s e in
    let ratios = or_cause-ok cause.Odds ((odds_field v n).find_in d) _ s limits.2 in
    subst (λ s. are_settings n s ≡ true) (ok-same _ _ ratios.2) (settings-sound n ratios.0 limits.0 (odds-read v n d ratios.0 ratios.1) (limits-read d limits.0 limits.1))

-- an interview with the start and the blocks that were read
pub record IsBegun (n : ℕ) (i : Interview) : Type 0 where
  pub count : i.count ≡ n
  pub start : IsStart n i.start
  pub blocks : are_made n i.block ≡ true
  pub stands_now : stands i ≡ true

pub interview-read : (n : ℕ) (d : Data) (i : Interview) → interview_in n d ≡ Ok i → IsBegun n i
interview-read n d i e =
    let start = or_cause-ok cause.Start ((start_field n).find_in d) _ i e in
    let block = or_cause-ok cause.Block ((block_field n).find_in d) _ i start.2 in
    let found = or_cause-ok cause.Answers (read_interview n start.0 block.0 d) _ i block.2 in
    let j = interview-sound n start.0 block.0 d found.0 found.1 in
    subst (IsBegun n) (ok-same _ _ found.2) (record {
      count = j.count;
      start = subst (IsStart n) (sym j.start_is) (start-read n d start.0 start.1);
      blocks = subst (λ k. are_made n k ≡ true) (sym j.block_is) (block-read n d block.0 block.1);
      stands_now = j.stands_now;
    })

-- ---- the whole

from-whole : (d : Data) (s : Session) → session_from d ≡ Ok s → IsWhole s
unfolding session_from
from-whole d s e =
    let version = or_cause-ok cause.Version (version_field.find_in d) _ s e in
    let names = or_cause-ok cause.Items (names_field.find_in d) _ s version.2 in
    let n = length names.0 in
    let settings = and_then-ok (settings_in version.0 n d) _ s names.2 in
    let interview = and_then-ok (interview_in n d) _ s settings.2 in
    let pupils = or_cause-ok cause.Pupils ((pupils_field version.0 n).find_in d) _ s interview.2 in
    let at_pupils = at-sound (codes "pupils") (pupils_codec version.0 n) d pupils.0 pupils.1 in
    let listed = kept_if-some are_pupils (read_list (pupil_codec version.0 n).read at_pupils.0) pupils.0 at_pupils.1 in
    subst IsWhole (ok-same _ _ pupils.2) (whole names.0 interview.0 settings.0 pupils.0 (names-read d names.0 names.1) (interview-read n d interview.0 interview.1)
    (settings-read version.0 n d settings.0 settings.1) (list-some (pupil_codec version.0 n).read (IsPupil n) (pupil-sound version.0 n) at_pupils.0 pupils.0 listed.0) listed.1)
  where
    whole : (names : List Text) (i : Interview) (settings : Settings) (pupils : List Pupil) → IsDomain names → IsBegun (length names) i → are_settings (length names) settings ≡ true
        → AllByRecursion (IsPupil (length names)) pupils → are_pupils pupils ≡ true → IsWhole (record { names = names; interview = i; settings = settings; pupils = pupils })
    whole names i settings pupils domain j settled each apart =
        let count = sym j.count in
        record {
          domain = domain;
          count = j.count;
          settings = subst (λ n. are_settings n settings ≡ true) count settled;
          start = subst (λ n. IsStart n i.start) count j.start;
          blocks = subst (λ n. are_made n i.block ≡ true) count j.blocks;
          answers = stands-standing i j.stands_now;
          pupils = subst (λ n. AllByRecursion (IsPupil n) pupils) count each;
          apart = apart;
        }

-- the session that bytes are is whole
pub read_whole : (bytes : List ℕ) (s : Session) → session_of bytes ≡ Ok s → IsWhole s
unfolding session_of
read_whole bytes s e = let d = or_cause-ok cause.Json (read_object bytes) session_from s e in from-whole d.0 s d.2
