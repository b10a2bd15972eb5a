use Rattle.std.proofs.Common.{ℕ, ◌+◌, List, length, sym, subst, inl, inr, arith, length-take}
use Rattle.work_lang.proofs.KnownSteps.{Consumes-none, ReadsAll-at_end, ReadsAll-full, LosesFront-read}
use Rattle.work_lang.specs.Counts.{ReadSoFar, ReadToStop}
use Rattle.work_lang.specs.Streams.{ReadsAll}
use Rattle.work_lang.proofs.Meters.{SoFar-none, SoFar-more, Stop-after_fault, Stop-after_end}
use Rattle.work_lang.proofs.stream.read_by.Goals as goal

-- an empty read into some room is the end
pub returns-in-Ok-eq0-clause-bytes : goal.returns-in-Ok-eq0-clause-bytes
returns-in-Ok-eq0-clause-bytes g c = subst (ReadsAll (λ o. o) _ _) (sym c.reserve.ensures.items) (ReadsAll-at_end _ _ c.reads.all.items (omega arith)
    (Consumes-none _ _ _ c.reads.all.items c.read.new.buffer c.in-Ok-eq0.field-0 c.in-Ok-eq0.field-0-test c.reads.invariant.read c.in-Ok-eq0.ensures.bytes.0)
    (c.in-Ok-eq0.ensures.bytes.1 c.in-Ok-eq0.field-0-test (omega (arith, length-take {A = ℕ}))))

pub returns-in-Ok-eq0-clause-front : goal.returns-in-Ok-eq0-clause-front
returns-in-Ok-eq0-clause-front g c = LosesFront-read _ _ c.reads.all.items (omega arith)
    (Consumes-none _ _ _ c.reads.all.items c.read.new.buffer c.in-Ok-eq0.field-0 c.in-Ok-eq0.field-0-test c.reads.invariant.read c.in-Ok-eq0.ensures.bytes.0)

-- memory was wanting before a read
pub returns-then-is_err-clause-front : goal.returns-then-is_err-clause-front
returns-then-is_err-clause-front g c = LosesFront-read _ _ c.reads.all.items (omega arith) c.reads.invariant.read

pub returns-then-is_err-clause-wanting : goal.returns-then-is_err-clause-wanting
returns-then-is_err-clause-wanting g c = λ _. (length c.reads.all.items, omega arith, c.reads.invariant.far)

pub returns-clause-bytes : goal.returns-clause-bytes
returns-clause-bytes g c = ReadsAll-full _ _ c.reads.all.items (omega arith) c.reads.invariant.read

-- a read that failed, or ended the input, is the last
pub returns-in-Err-clause-stopped : goal.returns-in-Err-clause-stopped
returns-in-Err-clause-stopped g c = λ _. (length c.reads.all.items, omega arith, Stop-after_fault c.in-Err.ensures.metered c.reads.invariant.far)

pub returns-in-Err-clause-further : goal.returns-in-Err-clause-further
returns-in-Err-clause-further g c = (length c.reads.all.items, omega arith, inr (Stop-after_fault c.in-Err.ensures.metered c.reads.invariant.far))

pub returns-in-Ok-eq0-clause-ended : goal.returns-in-Ok-eq0-clause-ended
returns-in-Ok-eq0-clause-ended g c = λ _. subst (λ (read : List ℕ). ReadToStop (g.S.Source.meter c.args.source.now) (g.S.Source.meter c.read.new.self) (length read)) (sym c.reserve.ensures.items)
    (Stop-after_end c.in-Ok-eq0.field-0 (length c.read.new.buffer) c.in-Ok-eq0.field-0-test (omega (arith, length-take {A = ℕ})) c.in-Ok-eq0.ensures.metered c.reads.invariant.far)

pub returns-in-Ok-eq0-clause-further : goal.returns-in-Ok-eq0-clause-further
returns-in-Ok-eq0-clause-further g c = (length c.reads.all.items, omega arith, inr (Stop-after_end c.in-Ok-eq0.field-0 (length c.read.new.buffer) c.in-Ok-eq0.field-0-test (omega (arith, length-take {A = ℕ})) c.in-Ok-eq0.ensures.metered c.reads.invariant.far))

pub returns-then-is_err-clause-further : goal.returns-then-is_err-clause-further
returns-then-is_err-clause-further g c = (length c.reads.all.items, omega arith, inl c.reads.invariant.far)

-- as many bytes as may be read were read
pub returns-clause-full : goal.returns-clause-full
returns-clause-full g c = λ full. subst (ReadSoFar _ _) full c.reads.invariant.far

pub returns-clause-further : goal.returns-clause-further
returns-clause-further g c = (length c.reads.all.items, omega arith, inl c.reads.invariant.far)
