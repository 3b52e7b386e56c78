use Rattle.ls_write.proofs.Vocabulary.{◌++◌, ◌+◌, ◌<◌, ◌∙◌, ◌≡◌, ◌≤◌, Bool, List, ℕ, [], ap, arith}
use Rattle.ls_write.proofs.Vocabulary.{base_skills, comma_if, false, filter, get_or, has, length}
use Rattle.ls_write.proofs.Vocabulary.{listed, own_skills, quoted, sym}
use Rattle.ls_files.specs.SkillFiles.{Skill}
use Rattle.ls_room.proofs.Saying.{says_as, says_nothing, says_then}
use Rattle.ls_write.proofs.Listed.{listed-map, taken, passed, filter-end}
use Rattle.ls_write.proofs.SkillTexts.{length-numbered, named, numbered-at}
use Rattle.ls_write.proofs.skills.put_own.Goals as goal
use Rattle.ls_write.proofs.skills.put_own.Goals.{then-has, else-has}

abbrev text : Skill → List ℕ
text s = quoted s.name

abbrev is_own : ℕ → Skill → Bool
is_own item s = has s.items item

pub loop-place-init : goal.loop-place-init
loop-place-init g c = (
  [],
  record {
    said = says_nothing _ _ _;
    left =
        sym
        (listed-map quoted (λ (s : Skill). s.name) false
        (filter (is_own c.args.item) (base_skills c.args.sets.now)));
  },
)

pub loop-place-preserved : goal.loop-place-preserved
loop-place-preserved g c =
    let skills = base_skills c.args.sets.now in
    let i = c.loop-place.place in
    let set = c.index-sets-place.result in
    let skill = named (i + 1) set in
    let whole = listed quoted false (own_skills skills c.args.item) in
    let given = c.loop-place.invariant.0 in
    let before = c.loop-place.invariant.1 in
    let test : i < length c.args.sets.now = omega arith in
    let lt : i < length skills = omega (arith, length-numbered 1 c.args.sets.now) in
    let at : skill ≡ get_or skills i skill =
    ap (λ k. named k set) (let e : i + 1 ≡ 1 + i = omega arith in e) ∙ numbered-at 1 c.args.sets.now
    i set skill test c.index-sets-place.is in
    elim c.if-has.branch [
      | then-has w ↦ rw (w.out-is, w.room-is, w.later-is) (
        given ++ (comma_if c.loop-place.later ++ text skill),
        record {
          said = says_then before.said (says_then w.put_comma.ensures w.put_skill.ensures);
          left =
              taken text given whole c.loop-place.later skills i (is_own c.args.item) skill lt at
              (sym c.has.ensures ∙ w.if-has.true) before.left;
        },
      )
      | else-has w ↦ rw (w.out-is, w.room-is, w.later-is) (
        given,
        record {
          said = before.said;
          left =
              passed text given whole c.loop-place.later skills i (is_own c.args.item) skill lt at
              (sym c.has.ensures ∙ w.if-has.false) before.left;
        },
      )
    ]

pub returns : goal.returns
returns g c =
    let skills = base_skills c.args.sets.now in
    let before = c.loop-place.invariant.1 in
    let test : length skills ≤ c.loop-place.place =
    omega (arith, length-numbered 1 c.args.sets.now) in
    says_as
    (filter-end text c.loop-place.invariant.0
    (listed quoted false (own_skills skills c.args.item)) c.loop-place.later skills
    c.loop-place.place (is_own c.args.item) test before.left) before.said
