-- What readings of sessions answer.
--     IsSessionFault answer fault      the fault is the cause why bytes are no session, or memory
--         ran out
--     told cause part      the part, or the cause that there is none
use Rattle.std.specs.Prelude.{◌≡◌, Result, Ok, Err, ⊤}
use Rattle.ls_files.specs.declared.cause.Cause.{Cause}
use Rattle.ls_codecs.specs.declared.part_fault.PartFault.{PartFault}
use Rattle.ls_codecs.specs.declared.part_fault.PartFault.TheVariants as part
use Rattle.ls_store.specs.declared.fault.SessionFault.{SessionFault}
use Rattle.ls_store.specs.declared.fault.SessionFault.TheVariants.{BadSession, Memory}

abbrev pub IsSessionFault : {X : Type 0} → Result X Cause → SessionFault → Type 0
IsSessionFault answer (BadSession c) = answer ≡ Err c
IsSessionFault answer (Memory e) = ⊤

abbrev pub told : {X : Type 0} → Cause → Result X PartFault → Result X SessionFault
told cause (Ok x) = Ok x
told cause (Err part.Bad) = Err (BadSession cause)
told cause (Err (part.Memory e)) = Err (Memory e)
