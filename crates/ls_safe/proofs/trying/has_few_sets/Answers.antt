use Rattle.std.proofs.Common.{◌≡◌, ◌≤◌, arith, length, rules, sym}
use Rattle.std.proofs.lemmas.Bool.{leb-true}
use Rattle.std.proofs.lemmas.Nat.{mul-le}
use Rattle.ls_laws.proofs.Families.{spanned-IsFamily}
use Rattle.ls_theory.specs.Bases.{most_base_sets}
use Rattle.ls_theory.specs.Queries.{breaks}
use Rattle.ls_base.specs.Bases.{family}
use Rattle.ls_safe.proofs.Witnesses.{few-within, few-of, filter-few}
use Rattle.ls_safe.proofs.trying.has_few_sets.Goals as goal

pub overflow_sub-staying : goal.overflow_sub-staying
overflow_sub-staying c =
    let e = c.count_breaking-breaking.ensures in
    let le = filter-few (λ k. breaks k c.args.r.now) c.sets-sets.result.now in
    omega (arith, e, le)

pub overflow_mul-result : goal.overflow_mul-result
overflow_mul-result c =
    let few : length c.sets-sets.result.now ≤ most_base_sets = search rules in
    let breaking = few-of (λ k. breaks k c.args.r.now) c.sets-sets.result.now few in
    let many : c.len.result ≡ length c.in-Ok.lowest.items = search rules in
    rw (c.count_breaking-breaking.ensures, many)
    (let le = mul-le _ _ 4096 4096 breaking c.in-Ok.ensures.few in omega (arith, le))

pub overflow_add-result : goal.overflow_add-result
overflow_add-result c =
    let few : length c.sets-sets.result.now ≤ most_base_sets = search rules in
    let breaking = few-of (λ k. breaks k c.args.r.now) c.sets-sets.result.now few in
    let many : c.len.result ≡ length c.in-Ok.lowest.items = search rules in
    rw (c.count_breaking-breaking.ensures, many)
    (let le = mul-le _ _ 4096 4096 breaking c.in-Ok.ensures.few in omega (arith, le))

pub returns-in-Ok : goal.returns-in-Ok
returns-in-Ok c = λ small.
    let b = c.args.b.now in
    let r = c.args.r.now in
    let many : c.len.result ≡ length c.in-Ok.lowest.items = search rules in
    few-within b.item_count (family b) b.sets r c.in-Ok.lowest.items
    (spanned-IsFamily b.item_count b.sets) c.sets-sets.ensures.base c.in-Ok.ensures.below
    (let le = leb-true _ 4096 small in
    rw (sym c.sets-sets.ensures.value, sym c.count_breaking-breaking.ensures, sym many) le)
