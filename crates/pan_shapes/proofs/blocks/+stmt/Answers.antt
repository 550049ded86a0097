use Rattle.std.proofs.Common.{◌≡◌, ℕ, List, [], ◌∷◌, ◌-◌, ◌^◌, ◌+◌, min, map, Ok, arith, refl, sym, ap, subst, ◌∙◌}
use Rattle.std.proofs.Common.{Bool, true, Result}
use Rattle.pan_shapes.specs.declared.error.CheckError.{CheckError}
use Rattle.pan_shapes.specs.declared.walking.Walk.{Walk}
use Rattle.std.specs.Option.{option_map_or}
use Rattle.std.proofs.lemmas.List.{drop_all}
use Rattle.pan_tree.specs.declared.program.Exception.{Exception}
use Rattle.pan_tree.specs.declared.shape.Shape.TheVariants as shape
use Rattle.pan_tree.specs.declared.spanned.Spanned.{Spanned}
use Rattle.pan_tree.specs.declared.syntax.StmtKind.{StmtKind}
use Rattle.pan_tree.specs.declared.syntax.ExprKind.{ExprKind}
use Rattle.pan_tree.specs.Shapes.{words_of}
use Rattle.pan_tree.specs.Check.{Context, State, Scopes, handler_unknown, do_kind, do_layer, doing, in_order, block, handle, and_block, declare, or_word, exception_of}
use Rattle.pan_tree.specs.declared.syntax.StmtKind.TheOpen as stmt
use Rattle.pan_tree.specs.declared.syntax.StmtKind.TheVariants as kind
use Rattle.pan_tree.specs.declared.syntax.CallOf.{CallOf}
use Rattle.pan_shapes.specs.Doings.{IsDone, context, state, doings, handler_doings, condition_alone, call_alone}
use Rattle.pan_shapes.proofs.DoLayers.{do_skip, do_decl, do_assign, do_store_words, do_if, do_while, do_call, do_return, do_tail_call, do_raise, do_shared_load, do_foreign, leave_is, two_words_is}
use Rattle.pan_shapes.proofs.DoSteps.{DoneAs, at_kind, done_wrong, wrong_first, wrong_then, goes_on, block_done, all_weight, value_known, handler_done}
use Rattle.pan_shapes.proofs.blocks.+stmt.Goals as goal

-- ---- statements without blocks

pub check_stmt-returns-in-Skip : goal.check_stmt-returns-in-Skip
check_stmt-returns-in-Skip t c =
    at_kind (c.args.stmt.now).kind _ (context c.args.around.now) ((c.args.stmt.now).span).start (state c.args.walk.now) c.args.walk.now (Ok 4) (ap do_kind c.in-Skip.is ∙ do_skip) (refl, (omega arith, refl))

pub check_stmt-returns-in-Decl : goal.check_stmt-returns-in-Decl
check_stmt-returns-in-Decl t c =
    at_kind (c.args.stmt.now).kind _ (context c.args.around.now) ((c.args.stmt.now).span).start (state c.args.walk.now) c.check_decl.new.walk c.check_decl.result (ap do_kind c.in-Decl.is ∙ do_decl c.in-Decl.name c.in-Decl.value) c.check_decl.ensures

pub check_stmt-returns-in-Assign : goal.check_stmt-returns-in-Assign
check_stmt-returns-in-Assign t c =
    at_kind (c.args.stmt.now).kind _ (context c.args.around.now) ((c.args.stmt.now).span).start (state c.args.walk.now) c.args.walk.now c.check_assign.result (ap do_kind c.in-Assign.is ∙ do_assign c.in-Assign.name c.in-Assign.value) c.check_assign.ensures

pub check_stmt-returns-in-StoreWords : goal.check_stmt-returns-in-StoreWords
check_stmt-returns-in-StoreWords t c =
    at_kind (c.args.stmt.now).kind _ (context c.args.around.now) ((c.args.stmt.now).span).start (state c.args.walk.now) c.args.walk.now c.check_store_words.result (ap do_kind c.in-StoreWords.is ∙ do_store_words c.in-StoreWords.address c.in-StoreWords.value) c.check_store_words.ensures

pub check_stmt-returns-in-StoreByte : goal.check_stmt-returns-in-StoreByte
check_stmt-returns-in-StoreByte t c =
    at_kind (c.args.stmt.now).kind _ (context c.args.around.now) ((c.args.stmt.now).span).start (state c.args.walk.now) c.args.walk.now c.check_two_words.result (two_words_is (c.args.stmt.now).kind c.in-StoreByte.address c.in-StoreByte.value c.in-StoreByte.is) c.check_two_words.ensures

pub check_stmt-returns-in-Break : goal.check_stmt-returns-in-Break
check_stmt-returns-in-Break t c =
    at_kind (c.args.stmt.now).kind _ (context c.args.around.now) ((c.args.stmt.now).span).start (state c.args.walk.now) c.args.walk.now c.check_leave.result (leave_is (c.args.stmt.now).kind c.in-Break.is) c.check_leave.ensures

pub check_stmt-returns-in-Return : goal.check_stmt-returns-in-Return
check_stmt-returns-in-Return t c =
    at_kind (c.args.stmt.now).kind _ (context c.args.around.now) ((c.args.stmt.now).span).start (state c.args.walk.now) c.args.walk.now c.check_return.result (ap do_kind c.in-Return.is ∙ do_return c.in-Return.value) c.check_return.ensures

pub check_stmt-returns-in-Raise : goal.check_stmt-returns-in-Raise
check_stmt-returns-in-Raise t c =
    at_kind (c.args.stmt.now).kind _ (context c.args.around.now) ((c.args.stmt.now).span).start (state c.args.walk.now) c.args.walk.now c.check_raise.result (ap do_kind c.in-Raise.is ∙ do_raise c.in-Raise.exception c.in-Raise.value) c.check_raise.ensures

pub check_stmt-returns-in-SharedLoad : goal.check_stmt-returns-in-SharedLoad
check_stmt-returns-in-SharedLoad t c =
    at_kind (c.args.stmt.now).kind _ (context c.args.around.now) ((c.args.stmt.now).span).start (state c.args.walk.now) c.args.walk.now c.check_shared_load.result (ap do_kind c.in-SharedLoad.is ∙ do_shared_load c.in-SharedLoad.size c.in-SharedLoad.name c.in-SharedLoad.address) c.check_shared_load.ensures

pub check_stmt-returns-in-Foreign : goal.check_stmt-returns-in-Foreign
check_stmt-returns-in-Foreign t c =
    at_kind (c.args.stmt.now).kind _ (context c.args.around.now) ((c.args.stmt.now).span).start (state c.args.walk.now) c.check_foreign.new.walk c.check_foreign.result (ap do_kind c.in-Foreign.is ∙ do_foreign c.in-Foreign.name c.in-Foreign.config c.in-Foreign.config_len c.in-Foreign.array c.in-Foreign.array_len) c.check_foreign.ensures

pub check_stmt-returns-in-TailCall : goal.check_stmt-returns-in-TailCall
check_stmt-returns-in-TailCall t c =
    let ctx = context c.args.around.now in
    let place = ((c.args.stmt.now).span).start in
    let s = state c.args.walk.now in
    at_kind (c.args.stmt.now).kind _ ctx place s c.args.walk.now c.check_tail_call.result (ap do_kind c.in-TailCall.is ∙ do_tail_call c.in-TailCall.name c.in-TailCall.args)
    (subst (λ (xs : List (Spanned ExprKind)). IsDone (do_layer (stmt.TailCall c.in-TailCall.name xs) ctx place s) c.args.walk.now c.check_tail_call.result) c.as_slice.ensures c.check_tail_call.ensures)

-- ---- if

pub check_if-returns-in_err-test : goal.check_if-returns-in_err-test
check_if-returns-in_err-test t c =
    let ctx = context c.args.around.now in
    let s = state c.args.walk.now in
    let test = condition_alone c.args.condition.now c.args.place s in
    let first = block [] (doings c.args.then_do.now) ctx in
    let second = block [] (doings c.args.else_do.now) ctx in
    let is = do_if c.args.condition.now c.args.then_do.now c.args.else_do.now in
    let e = c.in_err-test.field-0.0 in
    at_kind (kind.If c.args.condition.now c.args.then_do.now c.args.else_do.now) _ ctx c.args.place s c.args.walk.now c.from_residual.result is
    (done_wrong (and_block (and_block test first) second) c.args.walk.now c.from_residual.result e c.from_residual.ensures.1 (wrong_first (and_block test first) second e (wrong_first test first e c.in_err-test.ensures)))

pub check_if-returns-in_err-first : goal.check_if-returns-in_err-first
check_if-returns-in_err-first t c =
    let ctx = context c.args.around.now in
    let s = state c.args.walk.now in
    let test = condition_alone c.args.condition.now c.args.place s in
    let first = block [] (doings c.args.then_do.now) ctx in
    let second = block [] (doings c.args.else_do.now) ctx in
    let is = do_if c.args.condition.now c.args.then_do.now c.args.else_do.now in
    let e = c.in_err-first.field-0.0 in
    at_kind (kind.If c.args.condition.now c.args.then_do.now c.args.else_do.now) _ ctx c.args.place s c.check_block.new.walk c.from_residual-in_err-first.result is
    (done_wrong (and_block (and_block test first) second) c.check_block.new.walk c.from_residual-in_err-first.result e c.from_residual-in_err-first.ensures.1
    (wrong_first (and_block test first) second e (wrong_then test first c.in_ok-test.test s e c.in_ok-test.ensures c.in_err-first.ensures)))

pub check_if-returns-in_err-second : goal.check_if-returns-in_err-second
check_if-returns-in_err-second t c =
    let ctx = context c.args.around.now in
    let s = state c.args.walk.now in
    let test = condition_alone c.args.condition.now c.args.place s in
    let first = block [] (doings c.args.then_do.now) ctx in
    let second = block [] (doings c.args.else_do.now) ctx in
    let is = do_if c.args.condition.now c.args.then_do.now c.args.else_do.now in
    let e = c.in_err-second.field-0.0 in
    let n = c.in_ok-test.test in
    let m = c.in_ok-first.first in
    let front = goes_on test first n m (min (n + m) (2 ^ 64 - 1)) s (state c.check_block.new.walk) c.in_ok-test.ensures c.in_ok-first.ensures refl in
    at_kind (kind.If c.args.condition.now c.args.then_do.now c.args.else_do.now) _ ctx c.args.place s c.check_block-2.new.walk c.from_residual-in_err-second.result is
    (done_wrong (and_block (and_block test first) second) c.check_block-2.new.walk c.from_residual-in_err-second.result e c.from_residual-in_err-second.ensures.1
    (wrong_then (and_block test first) second _ (state c.check_block.new.walk) e front c.in_err-second.ensures))

pub check_if-returns : goal.check_if-returns
check_if-returns t c =
    let ctx = context c.args.around.now in
    let s = state c.args.walk.now in
    let test = condition_alone c.args.condition.now c.args.place s in
    let first = block [] (doings c.args.then_do.now) ctx in
    let second = block [] (doings c.args.else_do.now) ctx in
    let is = do_if c.args.condition.now c.args.then_do.now c.args.else_do.now in
    let front = goes_on test first c.in_ok-test.test c.in_ok-first.first c.saturating_add.result s (state c.check_block.new.walk) c.in_ok-test.ensures c.in_ok-first.ensures c.saturating_add.ensures in
    at_kind (kind.If c.args.condition.now c.args.then_do.now c.args.else_do.now) _ ctx c.args.place s c.check_block-2.new.walk (Ok c.saturating_add-2.result) is
    (goes_on (and_block test first) second c.saturating_add.result c.in_ok-second.second c.saturating_add-2.result (state c.check_block.new.walk) (state c.check_block-2.new.walk) front c.in_ok-second.ensures c.saturating_add-2.ensures)

-- ---- while

pub check_while-returns-in_err-test : goal.check_while-returns-in_err-test
check_while-returns-in_err-test t c =
    let ctx = context c.args.around.now in
    let s = state c.args.walk.now in
    let test = condition_alone c.args.condition.now c.args.place s in
    let body = block [] (doings c.args.body.now) (record ctx { in_loop = true }) in
    let e = c.in_err-test.field-0.0 in
    at_kind (kind.While c.args.condition.now c.args.body.now) _ ctx c.args.place s c.args.walk.now c.from_residual.result (do_while c.args.condition.now c.args.body.now)
    (done_wrong (and_block test body) c.args.walk.now c.from_residual.result e c.from_residual.ensures.1 (wrong_first test body e c.in_err-test.ensures))

pub check_while-returns-in_err-body : goal.check_while-returns-in_err-body
check_while-returns-in_err-body t c =
    let ctx = context c.args.around.now in
    let s = state c.args.walk.now in
    let test = condition_alone c.args.condition.now c.args.place s in
    let body = block [] (doings c.args.body.now) (record ctx { in_loop = true }) in
    let e = c.in_err-body.field-0.0 in
    at_kind (kind.While c.args.condition.now c.args.body.now) _ ctx c.args.place s c.check_block.new.walk c.from_residual-in_err-body.result (do_while c.args.condition.now c.args.body.now)
    (done_wrong (and_block test body) c.check_block.new.walk c.from_residual-in_err-body.result e c.from_residual-in_err-body.ensures.1
    (wrong_then test body c.in_ok-test.test s e c.in_ok-test.ensures c.in_err-body.ensures))

pub check_while-returns : goal.check_while-returns
check_while-returns t c =
    let ctx = context c.args.around.now in
    let s = state c.args.walk.now in
    let test = condition_alone c.args.condition.now c.args.place s in
    let body = block [] (doings c.args.body.now) (record ctx { in_loop = true }) in
    at_kind (kind.While c.args.condition.now c.args.body.now) _ ctx c.args.place s c.check_block.new.walk (Ok c.saturating_add.result) (do_while c.args.condition.now c.args.body.now)
    (goes_on test body c.in_ok-test.test c.in_ok-body.body c.saturating_add.result s (state c.check_block.new.walk) c.in_ok-test.ensures c.in_ok-body.ensures c.saturating_add.ensures)

-- ---- call

-- a call, where the code knows whether its handler's exception is known
call_done : (k : CallOf (Spanned StmtKind)) (b : Bool) (c : Context) (place : ℕ) (s : State) (w : Walk) (r : Result ℕ CheckError) → b ≡ handler_unknown (handler_doings k.handler) c.program
    → IsDone (and_block (call_alone k.into k.function k.args b c place s) (handle (handler_doings k.handler) c)) w r → IsDone (do_kind (kind.Call k) c place s) w r
call_done k b c place s w r known done =
    at_kind (kind.Call k) _ c place s w r (do_call k) (subst (λ b. IsDone (and_block (call_alone k.into k.function k.args b c place s) (handle (handler_doings k.handler) c)) w r) known done)

pub check_call-returns-in_err-alone : goal.check_call-returns-in_err-alone
check_call-returns-in_err-alone t c =
    let ctx = context c.args.around.now in
    let s = state c.args.walk.now in
    let call = c.args.call.now in
    let b = c.names_no_exception-no_exception.result in
    let alone = call_alone call.into call.function call.args b ctx c.args.place s in
    let caught = handle (handler_doings call.handler) ctx in
    let e = c.in_err-alone.field-0.0 in
    let r = c.from_residual.result in
    call_done call b ctx c.args.place s c.check_call_alone.new.walk r c.names_no_exception-no_exception.ensures
    (done_wrong (and_block alone caught) c.check_call_alone.new.walk r e c.from_residual.ensures.1 (wrong_first alone caught e c.in_err-alone.ensures))

pub check_call-returns-in_err-handler : goal.check_call-returns-in_err-handler
check_call-returns-in_err-handler t c =
    let ctx = context c.args.around.now in
    let s = state c.args.walk.now in
    let call = c.args.call.now in
    let b = c.names_no_exception-no_exception.result in
    let alone = call_alone call.into call.function call.args b ctx c.args.place s in
    let caught = handle (handler_doings call.handler) ctx in
    let e = c.in_err-handler.field-0.0 in
    let r = c.from_residual-in_err-handler.result in
    call_done call b ctx c.args.place s c.check_handler.new.walk r c.names_no_exception-no_exception.ensures
    (done_wrong (and_block alone caught) c.check_handler.new.walk r e c.from_residual-in_err-handler.ensures.1
    (wrong_then alone caught c.in_ok-alone.alone (state c.check_call_alone.new.walk) e c.in_ok-alone.ensures c.in_err-handler.ensures))

pub check_call-returns : goal.check_call-returns
check_call-returns t c =
    let ctx = context c.args.around.now in
    let s = state c.args.walk.now in
    let call = c.args.call.now in
    let b = c.names_no_exception-no_exception.result in
    let alone = call_alone call.into call.function call.args b ctx c.args.place s in
    let caught = handle (handler_doings call.handler) ctx in
    call_done call b ctx c.args.place s c.check_handler.new.walk (Ok c.saturating_add.result) c.names_no_exception-no_exception.ensures
    (goes_on alone caught c.in_ok-alone.alone c.in_ok-handler.handler c.saturating_add.result (state c.check_call_alone.new.walk) (state c.check_handler.new.walk)
    c.in_ok-alone.ensures c.in_ok-handler.ensures c.saturating_add.ensures)

-- ---- blocks

pub check_block-returns : goal.check_block-returns
check_block-returns t c =
    block_done [] (c.args.body.now).stmts c.as_slice.result.now (context c.args.around.now) (state c.args.walk.now) (state c.check_stmts.new.walk) c.enter.new.self c.leave.new.self c.in_ok-weight.weight
    c.in_ok-enter.ensures c.as_slice.ensures c.in_ok-weight.ensures c.leave.ensures

pub check_stmts-returns : goal.check_stmts-returns
check_stmts-returns t c =
    let none = drop_all c.loop-stmt.stmt-index c.args.stmts.now c.loop-stmt-test.false in
    let left = λ (xs : List (Spanned StmtKind)). in_order (map doing xs) (context c.args.around.now) (state c.loop-stmt.walk) in
    let all = in_order (map doing c.args.stmts.now) (context c.args.around.now) (state c.args.walk.now) in (
      c.loop-stmt.invariant.breaks ∙ ap (λ xs. (left xs).breaks) none,
      (all_weight all.weight c.loop-stmt.weight _ (2 ^ 64 - 1) c.loop-stmt.invariant.weight (ap (λ xs. (left xs).weight) none) c.loop-stmt.invariant.fits, sym (c.loop-stmt.invariant.state ∙ ap (λ xs. (left xs).state) none)),
    )

pub check_handler-returns-in_ok-body-in-Some : goal.check_handler-returns-in_ok-body-in-Some
check_handler-returns-in_ok-body-in-Some t c =
    let h = c.in-Some.handler in
    let ctx = context c.args.around.now in
    let s = state c.args.walk.now in
    let known = exception_of h.exception (c.args.around.now).heads.now in
    let value = option_map_or (λ (x : Exception). x.shape) known shape.Word in
    let same : c.in_ok-shape-in-Some.shape ≡ value = c.in_ok-shape-in-Some.ensures ∙ ap or_word c.shape_of_exception.ensures ∙ value_known known in
    let entered : c.declare.new.self ≡ ((h.name, value) ∷ []) ∷ s.scopes =
    c.in_ok-declare-in-Some.ensures ∙ ap (λ (v : Scopes). declare c.as_bytes.result.now c.in_ok-shape-in-Some.shape v) c.in_ok-enter-in-Some.ensures
    ∙ ap (λ x. ((x, c.in_ok-shape-in-Some.shape) ∷ []) ∷ s.scopes) c.as_bytes.ensures ∙ ap (λ z. ((h.name, z) ∷ []) ∷ s.scopes) same in
    let words : c.count_words.result ≡ min (words_of value) (2 ^ 64 - 1) = c.count_words.ensures ∙ ap (λ z. min (words_of z) (2 ^ 64 - 1)) same in
    let after : State = record { scopes = c.leave.new.self; names = (c.check_stmts.new.walk).names } in
    let body : DoneAs (block ((h.name, value) ∷ []) (doings h.body) ctx s) c.in_ok-body-in-Some.body after =
    block_done ((h.name, value) ∷ []) (h.body).stmts c.as_slice.result.now ctx s (state c.check_stmts.new.walk) c.declare.new.self c.leave.new.self c.in_ok-body-in-Some.body entered c.as_slice.ensures c.in_ok-body-in-Some.ensures c.leave.ensures in
    let weight : c.saturating_add.result ≡ min (4 + words_of value + c.in_ok-body-in-Some.body) (2 ^ 64 - 1) = omega (arith, words, c.saturating_add-weight.ensures, c.saturating_add.ensures) in
    subst (λ x. DoneAs (handle (handler_doings x) ctx s) c.saturating_add.result after) (sym c.in-Some.is) (handler_done h ctx s after c.in_ok-body-in-Some.body c.saturating_add.result body weight)
