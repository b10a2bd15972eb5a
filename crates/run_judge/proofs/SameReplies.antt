-- Replies with the same numbers are the same, and lists with the same elements too.
use Rattle.std.proofs.Common.{◌≡◌, ℕ, suc, ◌==◌, Bool, true, false, ◌&&◌, if◌then◌else◌, List, [], ◌∷◌, length, Option, Some, None, refl, ap, sym, ◌∙◌, arith}
use Rattle.std.specs.Prelude.{slice_get}
use borrow.Author.Tests.{eqb-true, eq-eqb}
use Rattle.op_table.specs.declared.call.Reply.{Reply}
use Rattle.op_table.specs.declared.call.Reply.TheVariants as reply
use Rattle.run_steps.specs.Standing.{reply_tag, reply_value, reply_number}
use Rattle.run_judge.specs.Agreeing.{is_told}

abbrev reply_from : ℕ → ℕ → Reply
reply_from tag v = if tag == 1 then reply.Unit else (if tag == 2 then reply.Value v else (if tag == 3 then reply.Bit (v == 1) else (if tag == 4 then reply.Done v else reply.Failed v)))

back : (r : Reply) → reply_from (reply_tag (Some r)) (reply_value (Some r)) ≡ r
back reply.Unit = refl
back (reply.Value v) = refl
back (reply.Bit true) = refl
back (reply.Bit false) = refl
back (reply.Done v) = refl
back (reply.Failed v) = refl

same_reply : (a b : Reply) → reply_tag (Some a) ≡ reply_tag (Some b) → reply_value (Some a) ≡ reply_value (Some b) → a ≡ b
same_reply a b tag value = sym (back a) ∙ (λ i. reply_from (tag i) (value i)) ∙ back b

both_true : (a b : Bool) → (a && b) ≡ true → (a ≡ true) × (b ≡ true)
both_true true b h = (refl, h)
both_true false b h = let clash : false ≡ true = h in absurd cc

and_true : (a b : Bool) → a ≡ true → b ≡ true → (a && b) ≡ true
and_true true b e h = h
and_true false b e h = let clash : false ≡ true = e in absurd cc

pub told_is : (r : Reply) (o : Option Reply) → is_told r o ≡ true → o ≡ Some r
told_is r None h = let clash : false ≡ true = h in absurd cc
told_is r (Some w) h =
    let both = both_true (reply_number 0 (Some r) == reply_number 0 (Some w)) (reply_number 1 (Some r) == reply_number 1 (Some w)) h in
    ap Some (sym (same_reply r w (eqb-true (reply_tag (Some r)) (reply_tag (Some w)) both.0) (eqb-true (reply_value (Some r)) (reply_value (Some w)) both.1)))

pub is_told-self : (r : Reply) (o : Option Reply) → o ≡ Some r → is_told r o ≡ true
is_told-self r o e = ap (is_told r) e ∙ and_true (reply_number 0 (Some r) == reply_number 0 (Some r)) (reply_number 1 (Some r) == reply_number 1 (Some r)) (eq-eqb (reply_tag (Some r)) (reply_tag (Some r)) refl) (eq-eqb (reply_value (Some r)) (reply_value (Some r)) refl)

pub same_lists : {X : Type 0} (xs ys : List X) → length xs ≡ length ys → ((i : ℕ) (x : X) → slice_get xs i ≡ Some x → slice_get ys i ≡ Some x) → xs ≡ ys
same_lists [] [] size each = refl
same_lists [] (y ∷ ys) size each = absurd (omega arith)
same_lists (x ∷ xs) [] size each = absurd (omega arith)
same_lists (x ∷ xs) (y ∷ ys) size each =
    let first : Some y ≡ Some x = each 0 x refl in
    let head : x ≡ y = cc (first) in
    let rest : xs ≡ ys = same_lists xs ys (omega arith) (λ i z e. each (suc i) z e) in
    cc (head, rest)
