-- Answers that were read, and whether they stand.
use Rattle.ls_store.proofs.Vocabulary.{Answer, BlockRange, Bool, Data, Err, Interview, IsStandingFault, List, None, Option, Result, Some, Start, answers_field, ap, ap₂, are_made, cond, false, false_from_ne_true, interview_from, interview_on, is_ok, kept_if, made, next_field, option_map, option_zip, read_interview, refl, stands, sym, true, true≢false, ℕ, ◌∙◌, ◌≡◌}
use Rattle.std.specs.declared.alloc.AllocError.{AllocError}
use Rattle.ls_theory.specs.declared.block_fault.BlockFault.{BlockFault}
use Rattle.ls_expert.specs.declared.standing_fault.StandingFault.{StandingFault}
use Rattle.ls_expert.specs.declared.standing_fault.StandingFault.TheVariants.{BadBlock, TooWide, BadAnswers, Memory}
use Rattle.ls_standing.specs.Standing as held
use Rattle.ls_codecs.specs.Whole as whole
use Rattle.ls_codecs.proofs.Sound.{stands-standing}
use Rattle.ls_codecs.proofs.WrittenAnswers.{stands-from}

-- ---- the parts

abbrev from_parts : ℕ → Start → ℕ → Option (List Answer) → Option ℕ → Option Interview
from_parts n start block answers next = kept_if stands (option_map (interview_from n start block) (option_zip answers next))

by-standing : (n : ℕ) (start : Start) (block : ℕ) (d : Data) (answers : List Answer) (next : ℕ) (b : Bool) → (answers_field n).find_in d ≡ Some answers → next_field.find_in d ≡ Some next
    → stands (interview_on n start block answers next) ≡ b → read_interview n start block d ≡ cond b (Some (interview_on n start block answers next)) None
by-standing n start block d answers next b a m e =
    ap₂ (from_parts n start block) a m ∙ ap (λ t. cond t (Some (interview_on n start block answers next)) None) e

-- ---- whether they stand

held-from : (i : Interview) → whole.IsStanding i → held.IsStanding i
held-from i h = record { sound = h.sound; good = h.good; distinct = h.distinct; numbered = h.numbered; few_answers = h.few_answers; some_number = h.some_number; numbers_left = h.numbers_left }

whole-from : (i : Interview) → held.IsStanding i → whole.IsStanding i
whole-from i h = record { sound = h.sound; good = h.good; distinct = h.distinct; numbered = h.numbered; few_answers = h.few_answers; some_number = h.some_number; numbers_left = h.numbers_left }

pub standing : (n : ℕ) (start : Start) (block : ℕ) (d : Data) (answers : List Answer) (next : ℕ) (i : Interview) → (answers_field n).find_in d ≡ Some answers → next_field.find_in d ≡ Some next
    → i ≡ interview_on n start block answers next → held.IsStanding i → read_interview n start block d ≡ Some i
standing n start block d answers next i a m e h =
    by-standing n start block d answers next true a m (sym (ap stands e) ∙ stands-from i (whole-from i h)) ∙ ap Some (sym e)

made-err : (r : Result BlockRange BlockFault) (fault : BlockFault) → is_ok r ≡ true → r ≡ Err fault → ⊥
made-err r fault ok e = true≢false (sym ok ∙ ap is_ok e)

pub refused : (n : ℕ) (start : Start) (block : ℕ) (d : Data) (answers : List Answer) (next : ℕ) (fault : StandingFault) → (answers_field n).find_in d ≡ Some answers → next_field.find_in d ≡ Some next
    → are_made n block ≡ true → ((e : AllocError) → fault ≡ Memory e → ⊥) → IsStandingFault (interview_on n start block answers next) fault → read_interview n start block d ≡ None
refused n start block d answers next BadBlock a m ok other h = absurd (made-err (made n block) _ ok h)
refused n start block d answers next (TooWide size) a m ok other h = absurd (made-err (made n block) _ ok h)
refused n start block d answers next BadAnswers a m ok other h =
    let i = interview_on n start block answers next in
    by-standing n start block d answers next false a m (false_from_ne_true (stands i) (λ s. h.1 (held-from i (stands-standing i s))))
refused n start block d answers next (Memory x) a m ok other h = absurd (other x refl)
