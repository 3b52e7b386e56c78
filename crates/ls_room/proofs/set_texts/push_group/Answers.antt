use Rattle.ls_room.proofs.Vocabulary.{◌%◌, ◌*◌, ◌++◌, ◌-◌, ◌/◌, ◌^◌, ◌∙◌, ◌∷◌, ◌≡◌, Global, Vec, ℕ, ap, append_assoc, ap₂, bit_at, eq-eqb, eqb, false, name_of, ne_eqb, numbers_from, spaced_names, sym, true}
use Rattle.std.proofs.lemmas.Nat.{and_mask}
use Rattle.ls_room.proofs.Groups.{spaced-taken, spaced-passed}
use Rattle.ls_room.proofs.set_texts.push_group.Goals as goal
use Rattle.ls_room.proofs.set_texts.push_group.Goals.{then-pattern-item-eq1+in_ok-push_spaced, else-pattern-item-eq1}

pub loop-item-preserved : goal.loop-item-preserved
loop-item-preserved c =
    let names = c.args.domain.now in
    let item = c.loop-item.item in
    let first = 8 * c.args.group in
    let p = λ (i : ℕ). eqb (bit_at c.args.pattern (i % 8)) 1 in
    let so_far = spaced_names names p (numbers_from first (item - first)) in
    let digit = and_mask (c.args.pattern / 2 ^ (item % 8)) 1 in
    elim c.if-pattern-item-eq1.branch [
      | then-pattern-item-eq1+in_ok-push_spaced w ↦
          let passes : p item ≡ true = eq-eqb _ _ (sym digit ∙ w.if-pattern-item-eq1.true) in
          ap (λ (v : Vec ℕ Global). v.items) w.out-is ∙ w.in_ok-push_spaced.ensures ∙ ap₂ (λ l n. l ++ (32 ∷ n)) c.loop-item.invariant w.name.ensures
          ∙ append_assoc c.args.out.now.items so_far (32 ∷ name_of names item) ∙ ap (λ l. c.args.out.now.items ++ l) (spaced-taken names p first item c.loop-item.auto.item passes)
      | else-pattern-item-eq1 w ↦
          let fails : p item ≡ false = ne_eqb _ _ (λ q. w.if-pattern-item-eq1.false (digit ∙ q)) in
          ap (λ (v : Vec ℕ Global). v.items) w.out-is ∙ c.loop-item.invariant ∙ ap (λ l. c.args.out.now.items ++ l) (spaced-passed names p first item c.loop-item.auto.item fails)
    ]
