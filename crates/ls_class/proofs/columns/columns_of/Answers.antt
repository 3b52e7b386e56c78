use Rattle.ls_class.proofs.Vocabulary.{◌+◌, ◌<◌, ◌==◌, ◌∙◌, ◌∷◌, ◌≡◌, Items, PLACES, Some, [], ap, ap₂, arith, drop, fields_of, full, is_named, item_of, items_of, length, length-drop, list_all, map, number_of, option_and_then, sym, take, take_all}
use Rattle.std.proofs.lemmas.List.Elements.{All-append, All-cons, All-nil}
use Rattle.ls_class.proofs.Headers.{is_same-digits, columns_of-good, columns_of-left_out, field-behind, next-items, next-named, next-set, unnamed, columns_of-length, columns_of-unnamed}
use Rattle.ls_class.proofs.columns.columns_of.Goals as goal

pub returns-then-len-count-clause-value : goal.returns-then-len-count-clause-value
returns-then-len-count-clause-value c =
    sym (columns_of-length c.args.domain.now (fields_of c.args.header.now) (λ e. c.if-len-count.true (omega (arith, c.len.ensures, c.count-count.ensures.value, e))))

pub returns-in_default-clause-value : goal.returns-in_default-clause-value
returns-in_default-clause-value c =
    let names = c.args.domain.now in
    let fields = fields_of c.args.header.now in
    let lt : c.loop-column.column < length (drop 1 fields) = omega (arith, length-drop 1 fields, c.len.ensures, c.if-len-count.false, c.loop-column-test.true) in
    sym (columns_of-unnamed names fields (unnamed names (drop 1 fields) c.loop-column.column lt (c.in_default.ensures.value ∙ ap (option_and_then (number_of names)) (field-behind fields c.loop-column.column))))

pub loop-column-preserved : goal.loop-column-preserved
loop-column-preserved c =
    let names = c.args.domain.now in
    let fields = fields_of c.args.header.now in
    let so_far = c.loop-column.invariant in
    let found = c.in-Some.ensures.value ∙ ap (option_and_then (number_of names)) (field-behind fields c.loop-column.column) in
    record {
      items = c.in_ok-push.ensures.ok ∙ next-items names (drop 1 fields) c.loop-column.column c.in-Some.item found c.loop-column.columns so_far.items;
      named = next-named names (drop 1 fields) c.loop-column.column c.in-Some.item found so_far.named;
      set = c.with-named.ensures ∙ next-set names (drop 1 fields) c.loop-column.column c.in-Some.item found c.loop-column.named so_far.set;
      places = rw c.in_ok-push.ensures.ok (All-append (λ i. i < PLACES) c.loop-column.columns (c.in-Some.item ∷ []) so_far.places (All-cons (λ i. i < PLACES) c.in-Some.item [] c.in-Some.ensures.places (All-nil (λ i. i < PLACES))));
    }

pub returns-then-eq-clause-value : goal.returns-then-eq-clause-value
returns-then-eq-clause-value c =
    let names = c.args.domain.now in
    let fields = fields_of c.args.header.now in
    let so_far = c.loop-column.invariant in
    let all : take c.loop-column.column (drop 1 fields) ≡ drop 1 fields = take_all c.loop-column.column (drop 1 fields) (omega (arith, length-drop 1 fields, c.len.ensures, c.if-len-count.false, c.loop-column-test.false)) in
    let long : length fields ≡ length names + 1 = omega (arith, c.len.ensures, c.if-len-count.false, c.count-count.ensures.value) in
    let same = sym (c.if-eq.ensures ∙ ap₂ (λ (s t : Items). s.digits == t.digits) (so_far.set ∙ ap (items_of names) all) (c.full.ensures ∙ ap full c.count-count.ensures.value)) in
    ap Some (so_far.items ∙ ap (map (item_of names)) all) ∙ sym (columns_of-good names fields long (sym (ap (list_all (is_named names)) all) ∙ so_far.named) (is_same-digits _ _ same))

pub returns-else-eq-clause-value : goal.returns-else-eq-clause-value
returns-else-eq-clause-value c =
    let names = c.args.domain.now in
    let fields = fields_of c.args.header.now in
    let so_far = c.loop-column.invariant in
    let all : take c.loop-column.column (drop 1 fields) ≡ drop 1 fields = take_all c.loop-column.column (drop 1 fields) (omega (arith, length-drop 1 fields, c.len.ensures, c.if-len-count.false, c.loop-column-test.false)) in
    let other = sym (c.if-eq.ensures ∙ ap₂ (λ (s t : Items). s.digits == t.digits) (so_far.set ∙ ap (items_of names) all) (c.full.ensures ∙ ap full c.count-count.ensures.value)) in
    sym (columns_of-left_out names fields (is_same-digits _ _ other))
