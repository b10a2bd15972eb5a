-- Where nothing outside fails, the program finishes.
use Rattle.std.proofs.Common.{inl, inr, Bool, true, false, ℕ, List, Ok, Err, refl, sym, subst}
use Rattle.std.specs.Prelude.{Some, None, MatchOption, MatchResult, Result}
use Rattle.std.specs.declared.option.Option.{Option}
use Rattle.work_lang.specs.Workload.{Workload}
use Rattle.work_lang.specs.Reading.{Fault, reading_of}
use Rattle.top_call.specs.declared.outcome.Ended.{Ended}
use Rattle.top_call.specs.declared.status.Status.{Status}
use Rattle.top_call.specs.declared.status.Status.TheVariants.{Done, Refused, Usage, ReadFault, WriteFault, NoMemory}
use Rattle.top_call.specs.declared.command.Command.{Command}
use Rattle.top_call.specs.declared.command.Command.TheVariants.{Run, Check, Convert, Plan, Targets, Many}
use Rattle.top_call.specs.Commands.{reads}
use Rattle.top_call.specs.Inputs.{WasSpelled, WasFaulty}
use Rattle.top_call.specs.Outside.{Outside}
use Rattle.top_call.specs.Status.{AllTaken, WroteOwn, Says, Finishes, Completes}

at_work : (old new : Option (List ℕ)) (w : Workload) (Q P R : Type 0) → WasSpelled old new w → Q → P → MatchOption old Q (λ bytes. MatchResult (reading_of bytes) (λ work. P) (λ fault. R))
at_work None new w Q P R read untold served = untold
at_work (Some bytes) new w Q P R read untold served = subst (λ r. MatchResult r (λ work. P) (λ fault. R)) (sym read.0) served

at_fault : (old new : Option (List ℕ)) (f : Fault) (Q P R : Type 0) → WasFaulty old new f → Q → R → MatchOption old Q (λ bytes. MatchResult (reading_of bytes) (λ work. P) (λ fault. R))
at_fault None new f Q P R read untold refused = untold
at_fault (Some bytes) new f Q P R read untold refused = subst (λ r. MatchResult r (λ work. P) (λ fault. R)) (sym read.0) refused

at_none : (old : Option (List ℕ)) (Q P R : Type 0) → Q → P → R → MatchOption old Q (λ bytes. MatchResult (reading_of bytes) (λ work. P) (λ fault. R))
at_none None Q P R untold served refused = untold
at_none (Some bytes) Q P R untold served refused = either (reading_of bytes)
  where
    either : (r : Result Workload Fault) → MatchResult r (λ work. P) (λ fault. R)
    either (Ok w) = served
    either (Err f) = refused

done_finishes : (command : Command) (before after : Outside) (ended : Option Ended) → WroteOwn AllTaken command before after ended → Finishes (reads command) before.left Done
done_finishes (Run t) before after None wrote = absurd wrote
done_finishes (Run t) before after (Some e) wrote = at_work before.left after.left wrote.read.read _ _ _ wrote.read.spelled (inl refl) (inl refl)
done_finishes Check before after ended wrote = at_work before.left after.left wrote.1.work _ _ _ wrote.1.read (inl refl) (inl refl)
done_finishes Convert before after ended wrote = at_work before.left after.left wrote.1.work _ _ _ wrote.1.read (inl refl) (inl refl)
done_finishes (Plan t) before after ended wrote = at_work before.left after.left wrote.1.work _ _ _ wrote.1.read (inl refl) (inl refl)
done_finishes Targets before after ended wrote = inl refl
done_finishes (Many seed threads calls) before after ended wrote = inl refl

memory_finishes : (r : Bool) (left : Option (List ℕ)) → Finishes r left NoMemory
memory_finishes true left = at_none left _ _ _ (inr (inr refl)) (inr refl) (inr refl)
memory_finishes false left = inr refl

-- where no count rises, the status is the text's
pub completes : (asked : Option Command) (before after : Outside) (status : Status) (ended : Option Ended) → Says asked before after status ended → Completes asked before after status
completes (Some command) before after Done ended says = λ no_read no_write. done_finishes command before after ended says
completes (Some command) before after Refused ended says =
    λ no_read no_write. subst (λ (r : Bool). Finishes r before.left Refused) (sym says.reads) (at_fault before.left after.left says.fault _ _ _ says.read (inr (inl refl)) (inl refl))
completes (Some command) before after Usage ended says = λ no_read no_write. absurd says
completes (Some command) before after ReadFault ended says = λ no_read no_write. absurd (no_read says.1)
completes (Some command) before after WriteFault ended says = λ no_read no_write. absurd (no_write says.0)
completes (Some command) before after NoMemory ended says = λ no_read no_write. memory_finishes (reads command) before.left
completes None before after status ended says = tt
