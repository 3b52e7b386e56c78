use Rattle.ls_domain.proofs.Vocabulary.{◌+◌, ◌∙◌, ◌∷◌, Bor, List, Reached, Some, ℕ, [], arith, common_steps, default_config, fields_of, inl, inr, length-map, map, map-append, refl, strip_bom, sym}
use Rattle.csv.specs.declared.parser.State.TheVariants as st
use Rattle.csv.proofs.ReadFacts.{rows-end, rows-more}
use Rattle.ls_domain.proofs.Records.{all_records, front_records}
use Rattle.ls_domain.proofs.table.first_records.Goals as goal

pub loop-record-init : goal.loop-record-init
unfolding Reached
loop-record-init c =
    let made = c.from_reader-reader.ensures in
    let builder = c.flexible.ensures in
    let named = c.has_headers.ensures in
    let start = c.into_iter-record-iterator.ensures.into_iter_gives ∙ refl in
    let reader = c.into_byte_records-record-items.ensures.rdr in
    let turns = c.into_byte_records-record-items.ensures.left in
    rw (start, reader, c.new-records.ensures.items) (record {
      plain = rw (builder, named) at made.trim ∙ c.new.ensures.trim;
      ready = inr (inr (rw (builder, named) at made.has_headers, made.headers));
      turns = turns;
      config = rw (builder, named) at made.config ∙ c.new.ensures.config;
      rest = strip_bom c.args.bytes.now;
      source = made.source;
      reached = (sym made.state, refl);
      few = omega arith;
    })

pub loop-record-preserved : goal.loop-record-preserved
loop-record-preserved c =
    let so_far = c.loop-record.invariant in
    let step = rw (c.in-Some.is, c.in-Ok.is) at ((c.next.ensures.steps so_far.turns so_far.plain).0 so_far.ready) in
    let items = c.in_ok-push.ensures.items in
    let more = rows-more (λ (s : Bor (List ℕ)). Some s.now) c.loop-record.record-iterator.rdr c.next.new.self.rdr (fields_of c.in-Ok.record) default_config st.StartRecord (strip_bom c.args.bytes.now) so_far.rest (map fields_of c.loop-record.records.items) so_far.config so_far.source so_far.reached step.0 in
    record {
      plain = step.0.3 ∙ so_far.plain;
      ready = inl step.1;
      turns = step.2;
      config = step.0.2 ∙ so_far.config;
      rest = more.0;
      source = more.1;
      reached = rw (items, map-append fields_of c.loop-record.records.items (c.in-Ok.record ∷ [])) more.2;
      few = grind (arith, common_steps);
    }

pub returns-then-len-most : goal.returns-then-len-most
returns-then-len-most c =
    let so_far = c.loop-record.invariant in
    let step = rw (c.in-Some.is, c.in-Ok.is) at ((c.next.ensures.steps so_far.turns so_far.plain).0 so_far.ready) in
    let items = c.in_ok-push.ensures.items in
    let more = rows-more (λ (s : Bor (List ℕ)). Some s.now) c.loop-record.record-iterator.rdr c.next.new.self.rdr (fields_of c.in-Ok.record) default_config st.StartRecord (strip_bom c.args.bytes.now) so_far.rest (map fields_of c.loop-record.records.items) so_far.config so_far.source so_far.reached step.0 in
    let reached : Reached default_config st.StartRecord (strip_bom c.args.bytes.now) (map fields_of c.push.new.self.items) c.next.new.self.rdr.state more.0 = rw (items, map-append fields_of c.loop-record.records.items (c.in-Ok.record ∷ [])) more.2 in
    front_records default_config (c.args.most + 1) (strip_bom c.args.bytes.now) (map fields_of c.push.new.self.items) c.next.new.self.rdr.state more.0 reached
    (length-map c.push.new.self.items fields_of ∙ grind (arith, common_steps))

pub returns : goal.returns
returns c =
    let so_far = c.loop-record.invariant in
    let step = rw c.in-None.is at ((c.next.ensures.steps so_far.turns so_far.plain).0 so_far.ready) in
    all_records default_config (c.args.most + 1) (strip_bom c.args.bytes.now) (map fields_of c.loop-record.records.items)
    (c.loop-record.record-iterator.rdr.state, so_far.rest, so_far.reached, rows-end (λ (s : Bor (List ℕ)). Some s.now) c.loop-record.record-iterator.rdr c.next.new.self.rdr [] default_config so_far.rest so_far.config so_far.source step)
    (omega (arith, length-map c.loop-record.records.items fields_of, so_far.few))
