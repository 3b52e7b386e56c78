use Rattle.ls_columns.proofs.Vocabulary.{FallsWith, IsFalling, List, Query, arith, has, length, length-set, sym, true, ℕ, ◌<◌, ◌∙◌, ◌≡◌}
use Rattle.ls_columns.proofs.Falls.{FallsWith-read, FallsWith-same, IsFalling-put}
use Rattle.ls_columns.proofs.falling.add.Goals as goal
use Rattle.ls_columns.proofs.falling.add.Goals.{then-j-i, then-j-i-via-then-j-i, then-j-i-via-else-j-i+then-has, else-j-i+else-has}

pub loop-j-preserved : goal.loop-j-preserved
loop-j-preserved c =
    let sets = c.loop-j.falling in
    let i = c.args.i in
    let j = c.loop-j.j in
    let more = c.args.more in
    let bound : j < length sets = omega (arith, c.loop-j-test.true, c.loop-j.auto.falling) in
    elim c.if-j-i.branch [
      | then-j-i w ↦
          let y = w.index-falling-j-then-j-i.result in
          let put = λ (rs : List Query) (a : IsFalling rs sets) (h : (m : ℕ) → has more m ≡ true → FallsWith rs i m) (f : FallsWith rs j i). IsFalling-put rs sets i j y w.union.result more bound w.index-falling-j-then-j-i.is w.union.ensures a h f in
          rw w.falling-is (record {
            sound = λ rs a h.
                let now = c.loop-j.invariant.sound rs a h in
                elim w.then-j-i.branch [
                  | then-j-i-via-then-j-i v ↦ put rs now h (FallsWith-same rs i j v.if-j-i.true)
                  | then-j-i-via-else-j-i+then-has v ↦ put rs now h (FallsWith-read rs sets i j v.index-falling-j.result bound v.index-falling-j.is (sym v.has.ensures ∙ v.if-has.true) now)
                ];
            count = length-set sets j w.union.result ∙ c.loop-j.invariant.count;
          })
      | else-j-i+else-has w ↦ rw w.falling-is c.loop-j.invariant
    ]
