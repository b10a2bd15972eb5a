use Rattle.std.proofs.Common.{◌≡◌, ◌≤◌, ◌∙◌, ap, length, length-drop, arith}
use Rattle.std.proofs.lemmas.Bool.Decides.{nat_tests}
use Rattle.work_lang.proofs.KnownSteps.{TookFront-more, TookFront-stops, Keeps-twice, length-rest}
use Rattle.work_lang.proofs.Tries.{Tried-more, Tried-end, Tried-stop}
use Rattle.work_lang.proofs.stream.write_all.Goals as goal

-- there was something left to write, so that a front was taken, and not all; of a short piece nothing was taken before
pub returns-in-Err : goal.returns-in-Err
returns-in-Err g c = record {
  ok = tt;
  err = TookFront-stops _ (grind (arith, nat_tests)) c.writes.invariant.took c.in-Err.ensures.bytes;
  whole = λ is short. Keeps-twice _ _ _ (c.writes.invariant.none is short (grind (arith, nat_tests))) c.in-Err.ensures.bytes;
  once = λ is short. Tried-stop (grind (arith, nat_tests)) c.in-Err.ensures.tried (c.writes.invariant.once is short);
  kept = cc;
  cause = record { later = omega (arith, c.in-Err.ensures.cause.later); failed = omega (arith, c.in-Err.ensures.cause.failed); same = tt };
}

-- of a short piece the rest was taken at once
pub writes-preserved : goal.writes-preserved
writes-preserved g c = record {
  took = rw c.split_at.ensures.back (TookFront-more c.in-Ok.count c.writes.invariant.took c.in-Ok.ensures.bytes);
  same = omega (arith, c.in-Ok.ensures.cause.same);
  kept = cc;
  once = λ is short.
      let within : length c.writes.rest.now ≤ 256 = omega (arith, length-rest c.writes.invariant.took) in
      rw c.split_at.ensures.back (Tried-more c.writes.rest.now c.in-Ok.count (c.in-Ok.ensures.whole (c.writes.invariant.kept ∙ is) within) (grind (arith, nat_tests)) (length-rest c.writes.invariant.took) c.in-Ok.ensures.tried (c.writes.invariant.once is short));
  none = λ is short some.
      let within : length c.writes.rest.now ≤ 256 = omega (arith, length-rest c.writes.invariant.took) in
      let all : c.in-Ok.count ≡ length c.writes.rest.now = c.in-Ok.ensures.whole (c.writes.invariant.kept ∙ is) within in
      absurd (omega (arith, ap length c.split_at.ensures.back, length-drop c.in-Ok.count c.writes.rest.now));
}

-- nothing is left to try
pub returns-clause-once : goal.returns-clause-once
returns-clause-once g c = λ is short. Tried-end (grind (arith, nat_tests)) (c.writes.invariant.once is short)
