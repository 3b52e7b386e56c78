use Rattle.ls_infer.proofs.Vocabulary.{◌<◌, ◌≡◌, ◌≤◌, arith, empty, enough_for, family_sets, full, is_among, len, len-within, minus, minus-within, refl, subst, sym, true, with, without}
use Rattle.ls_infer.proofs.Kept.{with-within}
use Rattle.ls_infer.proofs.Sharing.{hit, miss, found-hit, found-miss, found-all, fewer-hit, fewer-miss, left-hit, left-miss, left-below}
use Rattle.ls_infer.proofs.Witnessing.{found-narrowed, inside-member}
use Rattle.ls_infer.proofs.enough.enough_among.Goals as goal

pub interior_without-requires-clause-within : goal.interior_without-requires-clause-within
interior_without-requires-clause-within g c = rw (c.minus-outside.ensures, c.full.ensures, c.items.ensures.count) (minus-within _ _)

pub keep_smaller-requires-clause-within : goal.keep_smaller-requires-clause-within
keep_smaller-requires-clause-within g c = rw (c.minus-outside.ensures, c.full.ensures, c.items.ensures.count) (minus-within _ _)

pub loop-r-init : goal.loop-r-init
loop-r-init g c =
    let n = g.I.Interior.item_count c.args.f.now in
    let f = g.I.Interior.members c.args.f.now in
    let outside : c.minus-outside.result ≡ minus (full n) c.args.closed = rw (c.minus-outside.ensures, c.full.ensures, c.items.ensures.count) refl in
    record {
      found = λ _ states. (states, λ known all. found-narrowed n f c.args.closed c.minus-outside.result c.args.q c.args.known c.args.rest.items c.narrow.new.rest.items outside (c.narrow.ensures.narrowed n f (g.met.I.Interior.is_family c.args.f.now) states) (record { sound = known; complete = all }));
      small = c.requires.known;
      within = c.narrow.ensures.part;
      cost = omega (arith, c.narrow.ensures.fewer);
    }

pub loop-r-smaller-in-Some-interior_without : goal.loop-r-smaller-in-Some-interior_without
loop-r-smaller-in-Some-interior_without g c =
    let fewer = fewer-miss c.loop-r.rest.items c.without-rest.result c.in-Some-interior_without.missed c.leave.new.self.items c.in-Some.r c.in-Some.ensures.value c.without-rest.ensures c.leave.ensures.items in
    let few : len c.keep_smaller.new.rest.items ≤ len c.leave.new.self.items = len-within c.keep_smaller.new.rest.items c.leave.new.self.items c.keep_smaller.ensures.part in
    omega (arith, fewer, few)

pub loop-r-preserved-in-Some-interior_without : goal.loop-r-preserved-in-Some-interior_without
loop-r-preserved-in-Some-interior_without g c =
    let n = g.I.Interior.item_count c.args.f.now in
    let f = g.I.Interior.members c.args.f.now in
    let q = c.args.q in
    let r = c.in-Some.r in
    let left = c.loop-r.rest.items in
    let found = c.loop-r.enough in
    let missed = c.in-Some-interior_without.missed in
    let next = c.leave.new.self.items in
    let outside : c.minus-outside.result ≡ minus (full n) c.args.closed = rw (c.minus-outside.ensures, c.full.ensures, c.items.ensures.count) refl in
    let keep : c.with-keep.result ≡ with empty q = rw (c.with-keep.ensures, c.empty.ensures) refl in
    let fewer = fewer-hit left c.without-rest.result r c.in-Some.ensures.value c.without-rest.ensures in
    record {
      found = λ member states.
          let told = c.in-Some-interior_without.ensures.value (subst (λ s. is_among f s ≡ true) (sym outside) member) in
          let p = miss n f c.args.closed c.minus-outside.result c.with-keep.result q r missed c.requires.item outside keep told in
          let is_state = inside-member n f (without (minus (full n) c.args.closed) r) missed (family_sets n f (g.met.I.Interior.is_family c.args.f.now)) p.1 in
          let so = c.loop-r.invariant.found member states in
          (c.keep_smaller.ensures.states is_state so.0, λ known all. found-narrowed n f c.args.closed c.minus-outside.result q found next c.keep_smaller.new.rest.items outside (c.keep_smaller.ensures.narrowed is_state) (rw (c.leave.ensures.items, c.without-rest.ensures) (found-miss n f c.args.closed q r found left missed p.0 p.1 (so.1 known all))));
      small = c.loop-r.invariant.small;
      within = λ i h. left-miss c.args.rest.items left c.without-rest.result missed next r c.loop-r.invariant.within c.without-rest.ensures c.leave.ensures.items i (c.keep_smaller.ensures.part i h);
      cost = omega (arith, fewer, c.leave.ensures.fewer, c.interior_without.ensures.cost, c.keep_smaller.ensures.cost, c.loop-r.invariant.cost);
    }

pub loop-r-smaller : goal.loop-r-smaller
loop-r-smaller g c = fewer-hit c.loop-r.rest.items c.without-rest.result c.in-Some.r c.in-Some.ensures.value c.without-rest.ensures

pub loop-r-preserved : goal.loop-r-preserved
loop-r-preserved g c =
    let n = g.I.Interior.item_count c.args.f.now in
    let f = g.I.Interior.members c.args.f.now in
    let q = c.args.q in
    let r = c.in-Some.r in
    let left = c.loop-r.rest.items in
    let found = c.loop-r.enough in
    let below : r < n = left-below n c.args.rest.items left r c.requires.rest c.loop-r.invariant.within c.in-Some.ensures.value in
    let outside : c.minus-outside.result ≡ minus (full n) c.args.closed = rw (c.minus-outside.ensures, c.full.ensures, c.items.ensures.count) refl in
    let keep : c.with-keep.result ≡ with empty q = rw (c.with-keep.ensures, c.empty.ensures) refl in
    let fewer = fewer-hit left c.without-rest.result r c.in-Some.ensures.value c.without-rest.ensures in
    record {
      found = λ member states.
          let told = c.in-None.ensures.value (subst (λ s. is_among f s ≡ true) (sym outside) member) in
          let so = c.loop-r.invariant.found member states in
          let next = hit n f c.args.closed c.minus-outside.result c.with-keep.result q r c.requires.item outside keep told in
          (so.0, λ known all. rw (c.with-enough.ensures, c.without-rest.ensures) (found-hit n f c.args.closed q r found left below next (so.1 known all)));
      small = rw c.with-enough.ensures (with-within n found r c.loop-r.invariant.small below);
      within = left-hit c.args.rest.items left c.without-rest.result r c.loop-r.invariant.within c.without-rest.ensures;
      cost = omega (arith, fewer, c.interior_without.ensures.cost, c.loop-r.invariant.cost);
    }

pub returns-clause-value : goal.returns-clause-value
returns-clause-value g c = λ member states.
    let so = c.loop-r.invariant.found member states in
    (so.0, λ known all. found-all (enough_for (g.I.Interior.item_count c.args.f.now) (g.I.Interior.members c.args.f.now) c.args.closed c.args.q) c.loop-r.enough c.loop-r.rest.items (so.1 known all) (sym c.in_default.ensures.value))

pub returns-clause-within : goal.returns-clause-within
returns-clause-within g c = c.loop-r.invariant.small
