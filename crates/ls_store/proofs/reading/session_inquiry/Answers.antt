use Rattle.ls_store.proofs.Vocabulary.{◌∙◌, ◌≡◌, IfErr, IfOk, IfOk-weaker, IsSessionFault, IsStartOn, Ok, block_field, interview_in, read_interview, start_field, start_of, subst, sym, view}
use Rattle.ls_files.specs.declared.cause.Cause.TheVariants as cause
use Rattle.ls_codecs.proofs.Read.{block-read, interview-read}
use Rattle.ls_store.proofs.Going.{inquired, passed_on, some, told-err, told-fault, told-last, told-of, told-ok}
use Rattle.ls_store.proofs.reading.session_inquiry.Goals as goal

pub read_inquiry-inquiry-requires-clause-start : goal.read_inquiry-inquiry-requires-clause-start
read_inquiry-inquiry-requires-clause-start g c = told-of (IsStartOn c.args.n) cause.Start c.read_start.result c.in_ok-start.start c.read_start.ensures.on c.in_ok-start.ensures

pub read_inquiry-inquiry-requires-clause-made : goal.read_inquiry-inquiry-requires-clause-made
read_inquiry-inquiry-requires-clause-made g c =
    block-read c.args.n (view c.args.object.now) c.in_ok-block.block (told-ok (λ k. k) cause.Block _ c.read_block.result c.in_ok-block.block c.read_block.ensures c.in_ok-block.ensures)

pub returns-in_err-start-clause-fault : goal.returns-in_err-start-clause-fault
returns-in_err-start-clause-fault g c =
    passed_on _ c.in_err-start.field-0.0 c.from_residual.result c.from_residual.ensures.1
    (told-err start_of cause.Start ((start_field c.args.n).find_in (view c.args.object.now)) c.read_start.result _ c.in_err-start.field-0.0 c.read_start.ensures.value c.in_err-start.ensures)

pub returns-in_err-block-clause-fault : goal.returns-in_err-block-clause-fault
returns-in_err-block-clause-fault g c =
    let n = c.args.n in
    let d = view c.args.object.now in
    let start = c.in_ok-start.start in
    let e = told-ok start_of cause.Start ((start_field n).find_in d) c.read_start.result start c.read_start.ensures.value c.in_ok-start.ensures in
    passed_on (interview_in n d) c.in_err-block.field-0.0 c.from_residual-in_err-block.result c.from_residual-in_err-block.ensures.1
    (subst (λ r. IsSessionFault r c.in_err-block.field-0.0) (sym (some cause.Start _ (start_of start) _ e))
    (told-err (λ k. k) cause.Block ((block_field n).find_in d) c.read_block.result _ c.in_err-block.field-0.0 c.read_block.ensures c.in_err-block.ensures))

pub returns-clause-interview : goal.returns-clause-interview
returns-clause-interview g c =
    let n = c.args.n in
    let d = view c.args.object.now in
    let start = c.in_ok-start.start in
    let block = c.in_ok-block.block in
    let e = told-ok start_of cause.Start ((start_field n).find_in d) c.read_start.result start c.read_start.ensures.value c.in_ok-start.ensures in
    let f = told-ok (λ k. k) cause.Block ((block_field n).find_in d) c.read_block.result block c.read_block.ensures c.in_ok-block.ensures in
    subst (λ r. IfOk c.told-3.result (λ i. r ≡ Ok i)) (sym (inquired n d (start_of start) block e f))
    (told-last (λ i. i) cause.Answers (read_interview n (start_of start) block d) c.read_inquiry-inquiry.result c.told-3.result c.read_inquiry-inquiry.ensures c.told-3.ensures)

pub returns-clause-items : goal.returns-clause-items
returns-clause-items g c =
    let n = c.args.n in
    let d = view c.args.object.now in
    let start = c.in_ok-start.start in
    let block = c.in_ok-block.block in
    let e = told-ok start_of cause.Start ((start_field n).find_in d) c.read_start.result start c.read_start.ensures.value c.in_ok-start.ensures in
    let f = told-ok (λ k. k) cause.Block ((block_field n).find_in d) c.read_block.result block c.read_block.ensures c.in_ok-block.ensures in
    IfOk-weaker c.told-3.result _ _ (λ i h. (interview-read n d i (inquired n d (start_of start) block e f ∙ h)).count)
    (told-last (λ i. i) cause.Answers (read_interview n (start_of start) block d) c.read_inquiry-inquiry.result c.told-3.result c.read_inquiry-inquiry.ensures c.told-3.ensures)

pub returns-clause-fault : goal.returns-clause-fault
returns-clause-fault g c =
    let n = c.args.n in
    let d = view c.args.object.now in
    let start = c.in_ok-start.start in
    let block = c.in_ok-block.block in
    let e = told-ok start_of cause.Start ((start_field n).find_in d) c.read_start.result start c.read_start.ensures.value c.in_ok-start.ensures in
    let f = told-ok (λ k. k) cause.Block ((block_field n).find_in d) c.read_block.result block c.read_block.ensures c.in_ok-block.ensures in
    subst (λ r. IfErr c.told-3.result (IsSessionFault r)) (sym (inquired n d (start_of start) block e f))
    (told-fault (λ i. i) cause.Answers (read_interview n (start_of start) block d) c.read_inquiry-inquiry.result Ok c.told-3.result c.read_inquiry-inquiry.ensures c.told-3.ensures)
