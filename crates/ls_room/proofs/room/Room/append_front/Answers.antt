use Rattle.ls_room.proofs.Vocabulary.{◌++◌, ◌+◌, ◌∙◌, ◌≤◌, List, RoomState, ℕ, ap, arith, length}
use Rattle.ls_room.proofs.Vocabulary.{sym, take}
use Rattle.std.proofs.lemmas.List.{with_items_is}
use Rattle.ls_room.proofs.Parts.{length-with_block, take-with_block, with_block}
use Rattle.ls_room.proofs.room.Room.append_front.Goals as goal

pub returns : goal.returns
returns c =
    let room = c.deref_mut.result.now in
    let bytes = c.args.bytes.now in
    let used = c.self.inside.used in
    let count = c.args.count in
    let same = c.deref_mut.ensures.value in
    let fits : used + 32 ≤ length room = omega (arith, ap length same) in
    let full = ap length same ∙ sym c.self.inside.bytes.ok.0 in
    let long = length-with_block room bytes used fits ∙ full in
    let items = with_items_is c.self.inside.bytes (with_block room bytes used fits) long in
    let front = take-with_block room bytes used fits count (omega arith) (omega arith) in
    let pending = front ∙ ap (λ l. take used l ++ take count bytes) same in
    ap (λ (l : List ℕ). record { pending = l; fault = c.self.inside.fault })
    (ap (take (used + count)) items ∙ pending)
    ∙ ap (λ (r : RoomState). record r { pending = r.pending ++ take count bytes }) c.self.view_is
