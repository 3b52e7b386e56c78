-- A whole session stays whole when its pupils change.
use Rattle.ls_reached.proofs.Vocabulary.{◌++◌, ◌<◌, ◌∙◌, ◌∷◌, ◌≡◌, ◌≤◌, All-append, All-filter, All-map, AllByRecursion, Bool, Interview, IsDistinct, IsPupil, IsWhole, Items, List, None, Option, Settings, Some, Text, ℕ, [], and_from, and_parts, ap, append-nil, append_assoc, ap₂, are_pupils, arith, asked, asked_of, begin_refusals, bytes_eq, compatible_sets, cond, distinct-fewer, distinct-last, each, eqb, false, filter, follow, has_name, heavy_after, is_asked, is_good, is_name, is_none, is_pupil, is_same_query, is_some, le-leb, leb, leb-false, leb-true, length, length-append, length-map, ltb, ltb-false, map, most_pupils, most_states, new_pupil, not, pupil_row, pupil_with, refl, refuse, refuse_fault, replied, reply_fault, reply_row, subst, sym, true, weighing_refusals, with_pupil, yes_queries}
use Rattle.std.proofs.lemmas.Slice.Eq.{bytes_eq-Decides}
use Rattle.ls_lists.proofs.Finds.{found-holds}
use Rattle.ls_lists.proofs.Options.{nothing}
use Rattle.ls_lists.proofs.Filters.{filter-fewer, filter_true}
use Rattle.ls_theory.specs.declared.asked.Asked.{Asked}
use Rattle.ls_theory.specs.declared.asked.Asked.TheVariants.{Item, Over}
use Rattle.ls_theory.specs.declared.reply.Reply.{Reply}
use Rattle.ls_theory.specs.declared.reply_fault.ReplyFault.{ReplyFault}
use Rattle.ls_standing.proofs.AnswerLists.{all-told}
use Rattle.ls_codecs.proofs.WrittenAnswers.{apart-from}
use Rattle.ls_codecs.proofs.Sound.{apart-distinct}
use Rattle.ls_meaning.specs.Sessions.{Session, Pupil, pupil_states, saved}
use Rattle.ls_meaning.specs.declared.response.Refusal.TheVariants as refusal_of
use Rattle.ls_meaning.specs.declared.request.PupilRequest.{PupilRequest}
use Rattle.ls_meaning.specs.declared.request.PupilRequest.TheVariants as pupil
use Rattle.ls_reached.proofs.Refusals.{changed-holds, none-both, not-refused, no-fault}

-- ---- names

abbrev name_of : Pupil → Text
name_of p = p.name

-- few pupils with names of their own
record AreOwn (ps : List Pupil) : Type 0 where
  few : length ps ≤ most_pupils
  apart : IsDistinct bytes_eq (map name_of ps)

own-parts : (ps : List Pupil) → are_pupils ps ≡ true → AreOwn ps
own-parts ps h = let a = and_parts _ _ h in record { few = leb-true (length ps) most_pupils a.0; apart = apart-distinct bytes_eq (map name_of ps) a.1 }

own-from : (ps : List Pupil) → AreOwn ps → are_pupils ps ≡ true
own-from ps h = and_from _ _ (le-leb (length ps) most_pupils h.few) (apart-from bytes_eq (map name_of ps) h.apart)

-- ---- replies

asked-taken : (x : Asked) (q : ℕ) → reply_fault x q ≡ None → is_asked x q ≡ true
asked-taken (Over reason) q e = absurd (cc e)
asked-taken (Item p) q e = taken (eqb p q) _ e
  where
    taken : (b : Bool) (fault : ReplyFault) → cond b None (Some fault) ≡ None → b ≡ true
    taken true fault e = refl
    taken false fault e = absurd (cc e)

follow-last : (s : Settings) (f : List Items) (earlier rs : List Reply) (r : Reply) → follow s f earlier rs ≡ true → is_asked (asked s f (earlier ++ rs)) r.q ≡ true → follow s f earlier (rs ++ r ∷ []) ≡ true
follow-last s f earlier [] r h e = and_from _ true (subst (λ l. is_asked (asked s f l) r.q ≡ true) (append-nil earlier) e) refl
follow-last s f earlier (x ∷ rs) r h e =
    let a = and_parts (is_asked (asked s f earlier) x.q) (follow s f (earlier ++ x ∷ []) rs) h in
    and_from _ _ a.0 (follow-last s f (earlier ++ x ∷ []) rs r a.1 (subst (λ l. is_asked (asked s f l) r.q ≡ true) (sym (append_assoc earlier (x ∷ []) rs)) e))

replied-stands : (n : ℕ) (p : Pupil) (q : ℕ) (right : Bool) → is_pupil n p ≡ true → reply_fault (asked_of n p) q ≡ None → is_pupil n (replied p q right) ≡ true
unfolding is_pupil
replied-stands n p q right h e =
    let a = and_parts _ (follow p.settings (pupil_states n p) [] p.replies) h in
    and_from _ _ a.0 (follow-last p.settings (pupil_states n p) [] p.replies (record { q = q; right = right }) a.1 (asked-taken (asked_of n p) q e))

-- ---- a pupil that begins

record CanBegin (settings : Settings) (count : ℕ) : Type 0 where
  few : leb count most_states ≡ true
  light : is_none (heavy_after settings count) ≡ true

can-begin : (settings : Settings) (count : ℕ) → weighing_refusals settings count ≡ [] → CanBegin settings count
can-begin settings count e =
    let parts = none-both (refuse refusal_of.ManyStates (ltb most_states count)) (refuse_fault refusal_of.Heavy (heavy_after settings count)) e in
    record {
      few = le-leb count most_states (ltb-false most_states count (not-refused refusal_of.ManyStates _ parts.0));
      light = ap is_none (no-fault refusal_of.Heavy (heavy_after settings count) parts.1);
    }

module _ (s : Session) (h : IsWhole (saved s)) where
  abbrev i : Interview
  i = s.interview

  begins : (name : Text) → is_name name ≡ true → CanBegin s.settings (length (compatible_sets i)) → is_pupil i.count (new_pupil name i s.settings) ≡ true
  unfolding is_pupil
  begins name named can =
      and_from _ _ (and_from _ _ (and_from _ _ (and_from _ _ (and_from _ _
      named
      (all-told (is_good i.count) (λ a. a.yes) (λ a. a.query) i.answers h.answers.good))
      (apart-from is_same_query (yes_queries i.answers) (distinct-fewer is_same_query (λ a. a.query) (λ a. a.yes) i.answers h.answers.distinct)))
      can.few)
      can.light)
      refl

  -- ---- the rows

  abbrev Holds : List Pupil → Type 0
  Holds ps = IsWhole (saved (record s { pupils = ps }))

  with-pupils : (ps : List Pupil) → AllByRecursion (IsPupil i.count) ps → AreOwn ps → Holds ps
  with-pupils ps each own =
      record { domain = h.domain; count = h.count; settings = h.settings; start = h.start; blocks = h.blocks; answers = h.answers; pupils = each; apart = own-from ps own }

  own : AreOwn s.pupils
  own = own-parts s.pupils h.apart

  pub begun-whole : (name : Text) → is_name name ≡ true → Holds (pupil_row i s.settings s.pupils name pupil.Begin).next
  begun-whole name named =
      let new = new_pupil name i s.settings in
      let states = length (compatible_sets i) in
      let stands = refuse refusal_of.PupilStands (is_some (pupil_with s.pupils name)) in
      let many = refuse refusal_of.ManyPupils (leb most_pupils (length s.pupils)) in
      changed-holds Holds s.pupils (s.pupils ++ new ∷ []) (begin_refusals i s.settings s.pupils name) _ h (λ e.
      let a = none-both (stands ++ many) (weighing_refusals s.settings states) e in
      let b = none-both stands many a.0 in
      let room : length s.pupils < most_pupils = leb-false most_pupils (length s.pupils) (not-refused refusal_of.ManyPupils _ b.1) in
      with-pupils (s.pupils ++ new ∷ [])
      (All-append (IsPupil i.count) s.pupils (new ∷ []) h.pupils (record { start = h.start; settings = h.settings; stands = begins name named (can-begin s.settings states a.1) }, tt))
      (record {
        few = rw (length-append s.pupils (new ∷ [])) (omega arith);
        apart = distinct-last bytes_eq name_of s.pupils new own.apart (nothing (pupil_with s.pupils name) (not-refused refusal_of.PupilStands _ b.0));
      }))

  -- one pupil becomes another of its name
  names-same : (p next : Pupil) → next.name ≡ p.name → (ps : List Pupil) → map name_of (with_pupil ps p.name next) ≡ map name_of ps
  names-same p next e [] = refl
  names-same p next e (q ∷ ps) = ap₂ (λ x xs. x ∷ xs) (same (has_name p.name q) refl) (names-same p next e ps)
    where
      same : (b : Bool) → has_name p.name q ≡ b → name_of (cond b next q) ≡ q.name
      same true t = e ∙ sym ((bytes_eq-Decides q.name p.name).0 t)
      same false t = refl

  pupils-with : (p next : Pupil) → IsPupil i.count next → AllByRecursion (IsPupil i.count) (with_pupil s.pupils p.name next)
  pupils-with p next is =
      All-map (IsPupil i.count) (λ q. cond (has_name p.name q) next q) s.pupils (each (λ q was. either (has_name p.name q) q was) s.pupils h.pupils)
    where
      either : (b : Bool) (q : Pupil) → IsPupil i.count q → IsPupil i.count (cond b next q)
      either true q was = is
      either false q was = was

  pub replied-whole : (item : ℕ) (right : Bool) (found : Option Pupil) → ((p : Pupil) → found ≡ Some p → IsPupil i.count p) → Holds (reply_row i.count s.pupils item right found).next
  replied-whole item right None is = h
  replied-whole item right (Some p) is =
      let next = replied p item right in
      let was = is p refl in
      changed-holds Holds s.pupils (with_pupil s.pupils p.name next) _ _ h (λ e.
      with-pupils (with_pupil s.pupils p.name next)
      (pupils-with p next (record { start = was.start; settings = was.settings; stands = replied-stands i.count p item right was.stands (no-fault refusal_of.Reply _ e) }))
      (record {
        few = rw (length-map s.pupils (λ q. cond (has_name p.name q) next q)) own.few;
        apart = subst (IsDistinct bytes_eq) (sym (names-same p next refl s.pupils)) own.apart;
      }))

  pub closed-whole : (name : Text) → Holds (pupil_row i s.settings s.pupils name pupil.Close).next
  closed-whole name =
      let other = λ (p : Pupil). not (has_name name p) in
      changed-holds Holds s.pupils (filter other s.pupils) _ _ h (λ e.
      with-pupils (filter other s.pupils)
      (All-filter (IsPupil i.count) other s.pupils h.pupils)
      (record {
        few = let fewer : length (filter other s.pupils) ≤ length s.pupils = subst (λ (ps : List Pupil). length (filter other s.pupils) ≤ length ps) (filter_true s.pupils) (filter-fewer other (λ p. true) (λ p t. refl) s.pupils) in let few = own.few in omega arith;
        apart = distinct-fewer bytes_eq name_of other s.pupils own.apart;
      }))

  pub pupils-whole : (name : Text) (what : PupilRequest) → (what ≡ pupil.Begin → is_name name ≡ true) → Holds (pupil_row i s.settings s.pupils name what).next
  pupils-whole name pupil.Begin named = begun-whole name (named refl)
  pupils-whole name pupil.Question named = h
  pupils-whole name pupil.Report named = h
  pupils-whole name (pupil.Reply item right) named = replied-whole item right (pupil_with s.pupils name) (λ p e. found-holds (IsPupil i.count) (has_name name) s.pupils p e h.pupils)
  pupils-whole name pupil.Close named = closed-whole name
