-- What is said, piece by piece.
use Rattle.ls_room.proofs.Vocabulary.{◌++◌, ◌∙◌, ◌≡◌, ◌≤◌, Ends, Err, HasSaid, List, None, Ok, Result, RoomState, Says, Sends, Some, Wrote, ℕ, [], ap, append-nil, append_assoc, arith, drop, is_some, length, length-append, no_reply, refl, subst, sym, take, take-append-drop, take-append_seam, take-length, true}
use Rattle.std.specs.declared.option.Option.{Option}
use Rattle.std.specs.Io.KnownBytes.{Appends}
use Rattle.ls_edge.specs.Causes.{Rose, AppendsFront, HasSinkCause}
use Rattle.ls_edge.specs.declared.traits.SinkFault.{SinkFault}
use Rattle.ls_edge.specs.declared.traits.SinkFault.TheVariants as sink
use Rattle.ls_edge.proofs.Known.{appends_more, appends_none}

-- ---- one after the other

pub says_then : {a b c : Option (List ℕ)} {i j k : ℕ} {p q r : RoomState} {xs ys : List ℕ} → Says a i p b j q xs → Says b j q c k r ys → Says a i p c k r (xs ++ ys)
says_then {a} {b} {c} {i} {j} {k} {p} {q} {r} {xs} {ys} h g = record {
  more = λ start first said s. subst (λ l. HasSaid start first l c k r) (append_assoc said xs ys) (g.more start first (said ++ xs) (h.more start first said s));
  lost = λ e is. let x = h.lost e is in let y = g.lost e x.2 in (y.0 ∙ x.0, y.1 ∙ x.1, y.2);
}

pub says_nothing : (a : Option (List ℕ)) (i : ℕ) (p : RoomState) → Says a i p a i p []
says_nothing a i p = record {
  more = λ start first said s. subst (λ l. HasSaid start first l a i p) (sym (append-nil said)) s;
  lost = λ e is. (refl, refl, is);
}

pub says_as : {a b : Option (List ℕ)} {i j : ℕ} {p q : RoomState} {xs ys : List ℕ} → xs ≡ ys → Says a i p b j q xs → Says a i p b j q ys
says_as {a} {b} {i} {j} {p} {q} e h = subst (Says a i p b j q) e h

-- ---- into the room

pub says_pending : (a : Option (List ℕ)) (i : ℕ) (p q : RoomState) (xs : List ℕ) → q.pending ≡ p.pending ++ xs → q.fault ≡ p.fault → Says a i p a i q xs
says_pending a i p q xs e same = record {
  more = λ start first said s. record {
    sent = s.sent;
    rest = s.rest ++ xs;
    parts = sym (append_assoc s.sent s.rest xs) ∙ ap (λ l. l ++ xs) s.parts;
    appended = s.appended;
    pending = λ none. ap (λ l. l ++ xs) (s.pending (sym same ∙ none)) ∙ sym e;
    later = s.later;
    failed = λ f. s.failed (sym same ∙ f);
  };
  lost = λ e is. (refl, refl, same ∙ is);
}

-- ---- to the sink

-- after a fault no call is made
pub says_lost : (a : Option (List ℕ)) (i : ℕ) (p q : RoomState) (xs : List ℕ) (e : SinkFault) → p.fault ≡ Some e → q.fault ≡ p.fault → Says a i p a i q xs
says_lost a i p q xs e is same = record {
  more = λ start first said s. record {
    sent = s.sent;
    rest = s.rest ++ xs;
    parts = sym (append_assoc s.sent s.rest xs) ∙ ap (λ l. l ++ xs) s.parts;
    appended = s.appended;
    pending = λ none. absurd (cc (is, same, none));
    later = s.later;
    failed = λ f. s.failed (sym same ∙ f);
  };
  lost = λ e is. (refl, refl, same ∙ is);
}

-- so whatever is said after a fault is said by saying nothing
pub says_void : {a : Option (List ℕ)} {i : ℕ} {p : RoomState} (xs : List ℕ) → is_some p.fault ≡ true → Says a i p a i p xs
says_void {a} {i} {p} xs h = elim p.fault as (λ o. p.fault ≡ o → is_some o ≡ true → Says a i p a i p xs) [ None ↦ λ _ no. absurd (cc no) | Some e ↦ λ is _. says_lost a i p p xs e is refl ] refl h

-- all that was pending and then the bytes were written
pub says_sent : (a b : Option (List ℕ)) (i j : ℕ) (p q : RoomState) (xs whole : List ℕ) → p.fault ≡ None → q.fault ≡ None → q.pending ≡ [] → p.pending ++ xs ≡ whole → Appends a b whole → i ≤ j → Says a i p b j q xs
says_sent a b i j p q xs whole fine still empty is w l = record {
  more = λ start first said s.
      let all : s.sent ++ whole ≡ said ++ xs = ap (λ t. s.sent ++ t) (sym is ∙ ap (λ t. t ++ xs) (sym (s.pending fine))) ∙ sym (append_assoc s.sent s.rest xs) ∙ ap (λ t. t ++ xs) s.parts in
      record {
        sent = s.sent ++ whole;
        rest = [];
        parts = append-nil (s.sent ++ whole) ∙ all;
        appended = appends_more start a b s.sent whole s.appended w;
        pending = λ none. sym empty;
        later = omega (arith, s.later);
        failed = λ f. absurd (cc (still, f));
      };
  lost = λ e is. absurd (cc (fine, is));
}

-- a front of them was written before a fault
pub says_failed : {T : Type 0} (a b : Option (List ℕ)) (i j : ℕ) (p q : RoomState) (xs whole : List ℕ) (r : Result T SinkFault) (e : SinkFault) → p.fault ≡ None → r ≡ Err e → q.fault ≡ Some e → p.pending ++ xs ≡ whole → AppendsFront a b whole
    → HasSinkCause i j r → Says a i p b j q xs
says_failed a b i j p q xs whole r e fine err is_fault is h cause = record {
  more = λ start first said s.
      let all : s.sent ++ whole ≡ said ++ xs = ap (λ t. s.sent ++ t) (sym is ∙ ap (λ t. t ++ xs) (sym (s.pending fine))) ∙ sym (append_assoc s.sent s.rest xs) ∙ ap (λ t. t ++ xs) s.parts in
      record {
        sent = s.sent ++ take h.0 whole;
        rest = drop h.0 whole;
        parts = append_assoc s.sent (take h.0 whole) (drop h.0 whole) ∙ ap (λ t. s.sent ++ t) (take-append-drop h.0 whole) ∙ all;
        appended = appends_more start a b s.sent (take h.0 whole) s.appended h.2;
        pending = λ none. absurd (cc (is_fault, none));
        later = omega (arith, s.later, cause.later);
        failed = λ f. let rose : Rose i j = cause.failed (let same : r ≡ Err sink.Failed = cc (err, is_fault, f) in same) in omega (arith, s.later, rose);
      };
  lost = λ e is. absurd (cc (fine, is));
}

pub sends_whole : (a b : Option (List ℕ)) (i j : ℕ) (fault : Option SinkFault) (whole : List ℕ) → fault ≡ None → Appends a b whole → i ≤ j → Sends a i fault b j None whole
sends_whole a b i j fault whole none w l = record { all = λ p q xs old new empty joined. says_sent a b i j p q xs whole (old ∙ none) new empty joined w l }

pub sends_front : {T : Type 0} (a b : Option (List ℕ)) (i j : ℕ) (fault : Option SinkFault) (whole : List ℕ) (r : Result T SinkFault) (e : SinkFault) → fault ≡ None → r ≡ Err e → AppendsFront a b whole → HasSinkCause i j r
    → Sends a i fault b j (Some e) whole
sends_front a b i j fault whole r e none err h cause = record { all = λ p q xs old new empty joined. says_failed a b i j p q xs whole r e (old ∙ none) err new joined h cause }

-- ---- the end of a reply

front_part : (a b : Option (List ℕ)) (xs ys all : List ℕ) → xs ++ ys ≡ all → Appends a b xs → AppendsFront a b all
front_part a b xs ys all e w =
    let n : length xs ≤ length all = omega (arith, length-append xs ys, ap length e) in (
      length xs,
      n,
      subst (Appends a b) (sym (ap (take (length xs)) (sym e) ∙ take-append_seam xs ys)) w,
    )

front_whole : (a b : Option (List ℕ)) (bytes : List ℕ) → Appends a b bytes → AppendsFront a b bytes
front_whole a b bytes h = (length bytes, omega arith, subst (Appends a b) (sym (take-length bytes)) h)

-- all of it was written
pub ends_fine : (a b : Option (List ℕ)) (i j : ℕ) (p q : RoomState) → Says a i p b j q [] → q.pending ≡ [] → q.fault ≡ None → Ends a i p b j (Ok tt)
ends_fine a b i j p q h empty none = record {
  all = λ start first said s.
      let t = h.more start first said s in
      let whole : t.sent ≡ said = sym (append-nil t.sent) ∙ ap (λ l. t.sent ++ l) (sym (t.pending none ∙ empty)) ∙ t.parts ∙ append-nil said in
      let w : Appends start b said = subst (Appends start b) whole t.appended in
      record {
        whole = w;
        front = front_whole start b said w;
        cause = record { later = t.later; failed = λ e. absurd (cc e) };
      };
  lost = λ e is. absurd (cc (none, (h.lost e is).2));
}

pub ends_fault : (a b : Option (List ℕ)) (i j : ℕ) (p q : RoomState) (e : SinkFault) → Says a i p b j q [] → q.fault ≡ Some e → Ends a i p b j (Err e)
ends_fault a b i j p q e h is = record {
  all = λ start first said s.
      let t = h.more start first said s in
      record {
        whole = tt;
        front = front_part start b t.sent t.rest said (t.parts ∙ append-nil said) t.appended;
        cause = record { later = t.later; failed = λ f. t.failed (let same : q.fault ≡ Some sink.Failed = cc (is, f) in same) };
      };
  lost = λ e0 is0. let x = h.lost e0 is0 in (x.0, x.1, cc (is, x.2));
}

-- ---- a whole reply

-- a room before a reply has said nothing
said_nothing : (a : Option (List ℕ)) (i : ℕ) → HasSaid a i [] a i no_reply
said_nothing a i = record { sent = []; rest = []; parts = refl; appended = appends_none a; pending = λ _. refl; later = omega arith; failed = λ e. absurd (cc e) }

-- what was said since then was written
pub wrote : {a b c : Option (List ℕ)} {i j k : ℕ} {p q : RoomState} {xs : List ℕ} {r : Result (Unit {0}) SinkFault} → p ≡ no_reply → Says a i p b j q xs → Ends b j q c k r → Wrote a i c k xs r
wrote {a} {b} {c} {i} {j} {k} {p} {q} {xs} {r} e h t = t.all a i xs (h.more a i [] (subst (HasSaid a i [] a i) (sym e) (said_nothing a i)))
