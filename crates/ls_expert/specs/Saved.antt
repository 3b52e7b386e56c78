-- Why an interview does not go on from answers.
use Rattle.std.specs.Prelude.{◌≡◌, ℕ, Bool, false, List, [], filter, Ok, Err, ⊤}
use Rattle.std.specs.List.{list_all}
use Rattle.ls_theory.specs.declared.answer.Answer.{Answer}
use Rattle.ls_theory.specs.Starts as theory
use Rattle.ls_theory.specs.{Interview, breaks_none, compat, made, no_queries, some_breaks}
use Rattle.ls_theory.specs.{yes_queries}
use Rattle.ls_theory.specs.declared.block_fault.BlockFault.{BlockFault}
use Rattle.ls_theory.specs.declared.block_fault.BlockFault.TheVariants as block
use Rattle.ls_expert.specs.declared.standing_fault.StandingFault.{StandingFault}
use Rattle.ls_expert.specs.declared.standing_fault.StandingFault.TheVariants.{BadBlock, TooWide}
use Rattle.ls_expert.specs.declared.standing_fault.StandingFault.TheVariants.{BadAnswers, Memory}
use Rattle.ls_rules.specs.Ruled.{RuledState}
use Rattle.ls_standing.specs.Starts.{StartOn}
use Rattle.ls_standing.specs.Standing.{IsStanding}
use Rattle.ls_expert.specs.Held.{blocks_of}

-- the fault of blocks that are not made
abbrev pub standing_fault : BlockFault → StandingFault
standing_fault block.BadBlock = BadBlock
standing_fault (block.TooWide size) = TooWide size
standing_fault (block.Memory e) = Memory e

-- The fault is that of the blocks; or these are made,
-- and the answers do not stand or memory ran out.
abbrev pub IsStandingFault : Interview → StandingFault → Type 0
IsStandingFault i BadBlock = made i.count i.block ≡ Err block.BadBlock
IsStandingFault i (TooWide size) = made i.count i.block ≡ Err (block.TooWide size)
IsStandingFault i BadAnswers = (made i.count i.block ≡ Ok (blocks_of i)) × (IsStanding i → ⊥)
IsStandingFault i (Memory e) = made i.count i.block ≡ Ok (blocks_of i)

-- whether each No of the answers is broken by some set that meets the start and breaks no rule
abbrev pub are_broken : RuledState StartOn → List Answer → Bool
are_broken f answers =
    list_all
    (some_breaks (filter (breaks_none f.rules) (compat f.inner.item_count f.inner.start [])))
    (no_queries answers)

-- whether each No of the answers is broken by some set that meets the start and breaks no Yes
abbrev pub can_fit : ℕ → theory.Start → List Answer → Bool
can_fit n start answers =
    list_all (some_breaks (compat n start (yes_queries answers))) (no_queries answers)

-- The fault is that some No is not broken; or memory ran out.
abbrev pub IsTableFault : Bool → StandingFault → Type 0
IsTableFault broken BadAnswers = broken ≡ false
IsTableFault broken (Memory e) = ⊤
IsTableFault broken e = ⊥
