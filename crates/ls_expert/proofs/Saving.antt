-- Why an interview does not go on from answers.
use Rattle.ls_expert.proofs.Vocabulary.{All-list_all, Answer, BlockFault, BlockRange, Bool, Decides, IfErr, Interview, IsSound, IsStandingFault, IsStart, IsTableFault, Items, List, Ok, Query, Result, RuledState, StartOn, ap, ap₂, are_broken, blocks_of, can_fit, compat, compat-IsUnionFamily, compat-in_order, compatible_fit, compatible_sets, err_from_is_err_and, full, is_good, list_all, list_all-All, made, no_queries, not, some_breaks, space-from, start-space, subst, sym, true, true≢false, yes_queries, ℕ, ◌∙◌, ◌≡◌}
use Rattle.ls_theory.specs.Starts as theory
use Rattle.std.specs.Result.{IsErrAnd}
use Rattle.std.specs.declared.alloc.AllocError.{AllocError}
use Rattle.ls_laws.proofs.Search.{fitting_some}
use Rattle.ls_standing.proofs.AnswerLists.{all-told}
use Rattle.ls_standing.proofs.Ruling.{ruled-compat}
use Rattle.ls_expert.specs.declared.standing_fault.StandingFault.{StandingFault}
use Rattle.ls_expert.specs.declared.standing_fault.StandingFault.TheVariants.{Memory, BadBlock, TooWide, BadAnswers}
use Rattle.ls_expert.proofs.Holding.{range-of}

-- blocks that are made are those that are asked for
pub made-as : (n k : ℕ) (r : Result BlockRange BlockFault) (b : BlockRange) → r ≡ made n k → r ≡ Ok b → made n k ≡ Ok (record { item_count = n; largest = k })
made-as n k r b e f = let is = sym e ∙ f in is ∙ ap Ok (range-of n k b is)

-- where memory runs out, the blocks were made
pub ran_out : {X : Type 0} (i : Interview) (r : Result X StandingFault) (e : AllocError) → made i.count i.block ≡ Ok (blocks_of i) → IsErrAnd r (λ f. f ≡ Memory e) → IfErr r (IsStandingFault i)
ran_out i r e made out = let p = err_from_is_err_and r out in rw (p.1, p.2) made

-- where there is no table, the blocks were made
pub no_table : {X : Type 0} (i : Interview) (broken : Bool) (r : Result X StandingFault) (e : StandingFault) → made i.count i.block ≡ Ok (blocks_of i) → Decides broken (IsSound i)
    → IsTableFault broken e → IsErrAnd r (λ f. f ≡ e) → IfErr r (IsStandingFault i)
no_table i broken r BadAnswers made decides h out =
    let p = err_from_is_err_and r out in rw (p.1, p.2) (made, λ stands. true≢false (sym (decides.1 stands.sound) ∙ h))
no_table i broken r (Memory e) made decides h out = let p = err_from_is_err_and r out in rw (p.1, p.2) made
no_table i broken r BadBlock made decides h out = absurd h
no_table i broken r (TooWide size) made decides h out = absurd h

-- a family with the Yes answers as rules tells whether some space can fit
pub broken-fits : (f : RuledState StartOn) (n : ℕ) (start : theory.Start) (answers : List Answer) → f.inner ≡ record { item_count = n; start = start } → f.rules ≡ yes_queries answers → are_broken f answers ≡ can_fit n start answers
broken-fits f n start answers es er =
    ap (λ (g : List Items). list_all (some_breaks g) (no_queries answers))
    (ruled-compat f.inner.item_count f.inner.start f.rules ∙ ap₂ (λ (u : StartOn) (l : List Query). compat u.item_count u.start l) es er)

-- where there is no table, as it is told of what is the same
pub table_fault : {X : Type 0} (broken fits : Bool) (r : Result X StandingFault) (e : StandingFault) → broken ≡ fits → IsTableFault broken e → IsErrAnd r (λ f. f ≡ e) → IfErr r (IsTableFault fits)
table_fault broken fits r e same h out = let p = err_from_is_err_and r out in rw (p.1, p.2) (subst (λ b. IsTableFault b e) same h)

-- some space fits good answers exactly where each No is broken by some set of the start that breaks no Yes
pub fit-decides : (i : Interview) → IsStart i.count i.start → list_all (λ a. is_good i.count a.query) i.answers ≡ true → Decides (can_fit i.count i.start i.answers) (IsSound i)
fit-decides i is_start good =
    let n = i.count in
    let yeses = yes_queries i.answers in
    let ns = no_queries i.answers in
    let f = compatible_sets i in (
      λ h. record {
        some_fits = fitting_some n i.start yeses ns f (record {
          in_order = compat-in_order n i.start yeses;
          is_family = compat-IsUnionFamily n i.start yeses;
          holds_full = (space-from (full n) f (start-space n i.start yeses is_start (all-told (is_good n) (λ a. a.yes) (λ a. a.query) i.answers good))).holds_whole;
          compatible = λ k c. c;
          broken = list_all-All (some_breaks f) ns h;
        });
        are_good = all-told (is_good n) (λ a. not a.yes) (λ a. a.query) i.answers good;
      },
      λ sound. All-list_all (some_breaks f) ns (compatible_fit i sound.some_fits).broken,
    )
