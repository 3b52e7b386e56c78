-- A whole session stays whole when its interview or its settings change.
use Rattle.ls_reached.proofs.Vocabulary.{◌++◌, ◌∙◌, ◌∷◌, ◌≡◌, BlockRange, Bool, Err, Fetched, Free, Interview, IsDomain, IsStanding, IsStart, IsWhole, List, Ok, Refusal, Result, Session, Start, StartFile, Text, ℕ, [], accepted, and_from, and_parts, ap, are_made, begun, block_refusals, bytes_fetched, edit_row, eq-eqb, eqb, eqb-true, false, file_refusals, is_ok, length, length-replicate, length-set, list_all, list_all-set, made, nil_from_length, not, not-false, refl, refusal, refuse, replicate, retracted, saved, set, setting_row, standing-back, standing-taken, start_read, start_row, started, starts_by, subst, sym, true}
use Rattle.ls_theory.specs.declared.answer.Answer.{Answer}
use Rattle.ls_theory.specs.declared.block_fault.BlockFault.{BlockFault}
use Rattle.ls_theory.specs.declared.ratio.Ratios.{Ratios}
use Rattle.ls_theory.specs.Settings.{Settings, are_ratios, are_limits, are_settings, standard, with_all, with_item}
use Rattle.ls_weight.proofs.KeptSettings.{list_all-replicate}
use Rattle.ls_standing.specs.Standing as held
use Rattle.ls_expert.proofs.Holding.{made-one, standing-begun, standing-blocks, standing-start}
use Rattle.ls_meaning.specs.declared.response.Refusal.TheVariants as refusal_of
use Rattle.ls_meaning.specs.declared.request.Edit.{Edit}
use Rattle.ls_meaning.specs.declared.request.Edit.TheVariants as edit
use Rattle.ls_meaning.specs.declared.request.Setting.{Setting}
use Rattle.ls_meaning.specs.declared.request.Setting.TheVariants as setting
use Rattle.ls_reached.proofs.Refusals.{changed-holds, none-both, not-refused, no-fault}
use Rattle.ls_reached.proofs.Starts.{start-from_file, start-laws}

-- ---- answers that stand, by either name

to-held : (i : Interview) → IsStanding i → held.IsStanding i
to-held i h = record { sound = h.sound; good = h.good; distinct = h.distinct; numbered = h.numbered; few_answers = h.few_answers; some_number = h.some_number; numbers_left = h.numbers_left }

from-held : (i : Interview) → held.IsStanding i → IsStanding i
from-held i h = record { sound = h.sound; good = h.good; distinct = h.distinct; numbered = h.numbered; few_answers = h.few_answers; some_number = h.some_number; numbers_left = h.numbers_left }

-- ---- the beginning

standard-settings : (n : ℕ) → are_settings n (standard n) ≡ true
standard-settings n =
    let own : Ratios = record { right = record { a = 8; b = 1 }; wrong = record { a = 8; b = 1 } } in
    and_from _ _ (and_from _ _ (eq-eqb _ n (length-replicate n own)) (list_all-replicate are_ratios n own refl)) refl

pub started-whole : (names : List Text) → IsDomain names → IsWhole (saved (started names))
started-whole names domain =
    let n = length names in
    record {
      domain = domain;
      count = refl;
      settings = standard-settings n;
      start = tt;
      blocks = ap is_ok (made-one n domain.some domain.are_names.few);
      answers = from-held (begun n Free) (standing-begun n Free tt);
      pupils = tt;
      apart = refl;
    }

module _ (s : Session) (h : IsWhole (saved s)) where
  abbrev i : Interview
  i = s.interview

  -- another interview on the items
  with-interview : (start : Start) (block : ℕ) (answers : List Answer) (next : ℕ) → IsStart i.count start → are_made i.count block ≡ true
      → IsStanding (record { count = i.count; start = start; block = block; answers = answers; next = next })
      → IsWhole (saved (record s { interview = record { count = i.count; start = start; block = block; answers = answers; next = next } }))
  with-interview start block answers next starts blocks stands =
      record { domain = h.domain; count = h.count; settings = h.settings; start = starts; blocks = blocks; answers = stands; pupils = h.pupils; apart = h.apart }

  -- ---- edits

  made-from : (r : Result BlockRange BlockFault) → block_refusals r ≡ [] → is_ok r ≡ true
  made-from (Ok b) e = refl
  made-from (Err fault) e = absurd (cc e)

  abbrev Holds : Interview → Type 0
  Holds j = IsWhole (saved (record s { interview = j }))

  pub edited-whole : (what : Edit) → Holds (edit_row i what).next
  edited-whole (edit.Blocks size) =
      changed-holds Holds i (record i { block = size }) (block_refusals (made i.count size)) _ h (λ e.
      with-interview i.start size i.answers i.next h.start (made-from (made i.count size) e) (from-held (record i { block = size }) (standing-blocks i size (to-held i h.answers))))
  edited-whole (edit.Answer r is_yes) =
      changed-holds Holds i (accepted i r is_yes) _ _ h (λ e.
      with-interview i.start i.block _ _ h.start h.blocks (from-held (accepted i r is_yes) (standing-taken i r is_yes (to-held i h.answers) (no-fault refusal_of.Answer (refusal i r is_yes) e))))
  edited-whole (edit.Retract number) =
      changed-holds Holds i (retracted i number) _ _ h (λ e.
      with-interview i.start i.block _ _ h.start h.blocks (from-held (retracted i number) (standing-back i number (to-held i h.answers))))

  -- ---- starts

  no-answers : not (eqb (length i.answers) 0) ≡ false → i.answers ≡ []
  no-answers e = nil_from_length i.answers (eqb-true (length i.answers) 0 (not-false _ e))

  begins-anew : (kind : StartFile) (refusals : List Refusal) (reading : Result Start Refusal) → (refusals ≡ [] → i.answers ≡ []) → ((start : Start) → reading ≡ Ok start → IsStart i.count start) → Holds (starts_by kind i refusals reading).next
  begins-anew kind refusals (Ok start) none starts =
      changed-holds Holds i (record i { start = start }) (refusals ++ []) _ h (λ e.
      let is_start = starts start refl in
      with-interview start i.block i.answers i.next is_start h.blocks
      (from-held (record i { start = start }) (standing-start i start (to-held i h.answers) (none (none-both refusals [] e).0) (start-laws i.count start is_start))))
  begins-anew kind refusals (Err why) none starts = changed-holds Holds i i (refusals ++ why ∷ []) _ h (λ e. h)

  pub start-whole : (kind : StartFile) (fetched : Fetched) → Holds (start_row kind s fetched).next
  start-whole kind fetched =
      let stand = refuse refusal_of.AnswersStand (not (eqb (length i.answers) 0)) in
      begins-anew kind (stand ++ file_refusals fetched) (start_read kind s.names (bytes_fetched fetched))
      (λ e. no-answers (not-refused refusal_of.AnswersStand _ (none-both stand (file_refusals fetched) e).0))
      (λ start e. subst (λ n. IsStart n start) (sym h.count) (start-from_file kind s.names (bytes_fetched fetched) start h.domain.are_names.few e))

  -- ---- settings

  abbrev HoldsBy : Settings → Type 0
  HoldsBy settings = IsWhole (saved (record s { settings = settings }))

  with-settings : (settings : Settings) → are_settings i.count settings ≡ true → HoldsBy settings
  with-settings settings fit =
      record { domain = h.domain; count = h.count; settings = fit; start = h.start; blocks = h.blocks; answers = h.answers; pupils = h.pupils; apart = h.apart }

  record AreFit : Type 0 where
    many : length s.settings.ratios ≡ i.count
    ratios : list_all are_ratios s.settings.ratios ≡ true
    limits : are_limits s.settings.budget s.settings.share ≡ true

  fit : AreFit
  fit =
      let a = and_parts _ _ h.settings in
      let b = and_parts (eqb (length s.settings.ratios) i.count) (list_all are_ratios s.settings.ratios) a.0 in
      record { many = eqb-true _ _ b.0; ratios = b.1; limits = a.1 }

  fit-from : (ratios : List Ratios) (budget share : ℕ) → length ratios ≡ i.count → list_all are_ratios ratios ≡ true → are_limits budget share ≡ true → are_settings i.count (record { ratios = ratios; budget = budget; share = share }) ≡ true
  fit-from ratios budget share many all limits = and_from _ _ (and_from _ _ (eq-eqb _ _ many) all) limits

  fits : (holds : Bool) → refuse refusal_of.BadSetting (not holds) ≡ [] → holds ≡ true
  fits holds e = not-false holds (not-refused refusal_of.BadSetting (not holds) e)

  pub set-whole : (what : Setting) → HoldsBy (setting_row s.settings what).next
  set-whole (setting.All ratios) =
      changed-holds HoldsBy s.settings (with_all s.settings ratios) _ _ h (λ e.
      with-settings (with_all s.settings ratios)
      (fit-from (replicate (length s.settings.ratios) ratios) s.settings.budget s.settings.share (length-replicate (length s.settings.ratios) ratios ∙ fit.many) (list_all-replicate are_ratios _ ratios (fits (are_ratios ratios) e)) fit.limits))
  set-whole (setting.Item item ratios) =
      changed-holds HoldsBy s.settings (with_item s.settings item ratios) _ _ h (λ e.
      with-settings (with_item s.settings item ratios)
      (fit-from (set s.settings.ratios item ratios) s.settings.budget s.settings.share (length-set s.settings.ratios item ratios ∙ fit.many) (list_all-set are_ratios s.settings.ratios item ratios fit.ratios (fits (are_ratios ratios) e)) fit.limits))
  set-whole (setting.Limits budget share) =
      changed-holds HoldsBy s.settings (record s.settings { budget = budget; share = share }) _ _ h (λ e.
      with-settings (record s.settings { budget = budget; share = share }) (fit-from s.settings.ratios budget share fit.many fit.ratios (fits (are_limits budget share) e)))
