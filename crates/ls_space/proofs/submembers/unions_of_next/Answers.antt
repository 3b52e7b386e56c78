use Rattle.ls_space.proofs.Vocabulary.{◌-◌, ◌<◌, ◌∙◌, ◌≡◌, ap, arith, is_union_of_next, length, map, range_with_len}
use Rattle.std.proofs.lemmas.Slice.Zip.{AllZip-map}
use Rattle.std.proofs.Crossing.{crosses, frees}
use denote.Param.Send.{sendable}
use Rattle.rayon.specs.Numbers.{nat_range}
use Rattle.rayon.proofs.ListFacts.{IfOk-then}
use Rattle.rayon.proofs.ToStd.{nat_range-All}
use Rattle.ls_space.proofs.submembers.unions_of_next.Goals as goal

-- one line for each `Send` and `Sync`, the allocator, and then the closure's `requires` at each place
pub collect-requires : goal.collect-requires
collect-requires g c κs =
    let ends = c.into_par_iter.ensures in
    let inside = nat_range-All (λ i. i < length c.args.sets.now) 0 (length c.args.sets.now) (λ i low high. high) in
    (search (sendable, crosses) depth 40, (search (sendable, crosses) depth 40, (search (sendable, crosses) depth 40, (search (sendable, crosses) depth 40, (search (sendable, crosses) depth 40, (frees, rw (c.map.ensures.base, c.map.ensures.f, c.with_min_len.ensures.base, ends.0, ends.1) (λ k d lt. (inside k d lt, λ y p. tt))))))))

pub returns : goal.returns
returns g c =
    let ends = c.into_par_iter.ensures in
    let n = length c.args.sets.now in
    let whole : n - 0 ≡ n = omega arith in
    let told = is_union_of_next c.args.sets.now in
    IfOk-then c.collect.result _ _ c.collect.ensures (λ v h.
    let chain = rw (c.map.ensures.base, c.map.ensures.f, c.with_min_len.ensures.base) at h.1 in
    let places = chain.1 ∙ (λ i. nat_range (ends.0 i) (ends.1 i)) ∙ ap (range_with_len 0) whole in
    h.2 ∙ AllZip-map told chain.0 h.0 chain.2 ∙ ap (map told) places)
