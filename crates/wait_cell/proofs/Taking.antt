-- Exchanges for one less, each from the number replied last.
use Rattle.std.proofs.Common.{◌≡◌, ℕ, ◌+◌, ◌-◌, ◌≤◌, List, [], ◌∷◌, ◌++◌, refl, ap, sym, ◌∙◌, subst, arith}
use Rattle.op_table.specs.declared.call.Call.{Call}
use Rattle.op_table.specs.declared.call.Call.TheVariants.{Load, Cas}
use Rattle.op_table.specs.declared.call.Reply.{Reply}
use Rattle.op_table.specs.declared.call.Reply.TheVariants as reply
use Rattle.place_core.specs.declared.shape.Shape.{Shape}
use Rattle.seat_views.specs.States.{PassState, IsKept}
use Rattle.seat_views.specs.Makes.{MakesCall, MakesCalls}
use Rattle.seat_views.proofs.Making.{call_is_made, calls_join}
use Rattle.wait_cell.specs.Takes.{last_of, tries_from, FromOne, failing, Tries, FindsZero, TakesOne}

last_of-more : (n : ℕ) (ms : List ℕ) (k : ℕ) → last_of n (ms ++ k ∷ []) ≡ k
last_of-more n [] k = refl
last_of-more n (m ∷ ms) k = last_of-more m ms k

tries_from-more : (o n : ℕ) (ms : List ℕ) (k : ℕ) → tries_from o n (ms ++ k ∷ []) ≡ tries_from o n ms ++ (o, Cas (last_of n ms) (last_of n ms - 1)) ∷ []
tries_from-more o n [] k = refl
tries_from-more o n (m ∷ ms) k = ap (λ (l : List (ℕ × Call)). (o, Cas n (n - 1)) ∷ l) (tries_from-more o m ms k)

failing-more : (ms : List ℕ) (k : ℕ) → failing (ms ++ k ∷ []) ≡ failing ms ++ reply.Failed k ∷ []
failing-more [] k = refl
failing-more (m ∷ ms) k = ap (λ (l : List Reply). reply.Failed m ∷ l) (failing-more ms k)

from_one-more : (n : ℕ) (ms : List ℕ) (k : ℕ) → FromOne n ms → 1 ≤ last_of n ms → FromOne n (ms ++ k ∷ [])
from_one-more n [] k all one = (one, tt)
from_one-more n (m ∷ ms) k all one = (all.0, from_one-more m ms k all.1 one)

-- the loop's invariant: tries were made, and the number replied last is this
pub record TriesSoFar (S : Shape) (o : ℕ) (p : PassState) (number : ℕ) (q : PassState) : Type 0 where
  pub loaded : ℕ
  pub failed : List ℕ
  pub tries : Tries S o p loaded failed q
  pub last : last_of loaded failed ≡ number

module _ (S : Shape) (o : ℕ) where
  pub tries_none : (p : PassState) (n : ℕ) (q : PassState) → IsKept p → MakesCall S o Load p (reply.Value n) q → TriesSoFar S o p n q
  tries_none p n q kept m = record {
    loaded = n;
    failed = [];
    tries = record { from_one = tt; made = call_is_made S o Load p (reply.Value n) q kept m };
    last = refl;
  }

  pub tries_more : (p : PassState) (n : ℕ) (q : PassState) (left k : ℕ) (z : PassState) → TriesSoFar S o p n q → n ≡ left + 1 → MakesCall S o (Cas n left) q (reply.Failed k) z → TriesSoFar S o p k z
  tries_more p n q left k z h above m =
      let tries = h.tries in let last : last_of h.loaded h.failed ≡ n = h.last in
      let less : left ≡ last_of h.loaded h.failed - 1 = omega arith in
      let call : MakesCall S o (Cas (last_of h.loaded h.failed) (last_of h.loaded h.failed - 1)) q (reply.Failed k) z =
      subst (λ (t : ℕ × ℕ). MakesCall S o (Cas t.0 t.1) q (reply.Failed k) z) (λ i. (sym last i, less i)) m in
      let one = call_is_made S o (Cas (last_of h.loaded h.failed) (last_of h.loaded h.failed - 1)) q (reply.Failed k) z tries.made.made.kept call in
      let all = calls_join S ((o, Load) ∷ tries_from o h.loaded h.failed) ((o, Cas (last_of h.loaded h.failed) (last_of h.loaded h.failed - 1)) ∷ []) p (reply.Value h.loaded ∷ failing h.failed) q (reply.Failed k ∷ []) z tries.made one in
      record {
        loaded = h.loaded;
        failed = h.failed ++ k ∷ [];
        tries = record {
          from_one = from_one-more h.loaded h.failed k tries.from_one (omega arith);
          made = subst (λ (t : List (ℕ × Call) × List Reply). MakesCalls S ((o, Load) ∷ t.0) p (reply.Value h.loaded ∷ t.1) z) (λ i. (sym (tries_from-more o h.loaded h.failed k) i, sym (failing-more h.failed k) i)) all;
        };
        last = last_of-more h.loaded h.failed k;
      }

  pub tries_end : (p : PassState) (n : ℕ) (q : PassState) (left w : ℕ) (z : PassState) → TriesSoFar S o p n q → n ≡ left + 1 → w ≡ n → MakesCall S o (Cas n left) q (reply.Done w) z → TakesOne S o p left z
  tries_end p n q left w z h above found m =
      let tries = h.tries in
      let call : MakesCall S o (Cas (left + 1) left) q (reply.Done (left + 1)) z = subst (λ (t : ℕ × ℕ). MakesCall S o (Cas t.0 left) q (reply.Done t.1) z) (λ i. (above i, (found ∙ above) i)) m in
      let one = call_is_made S o (Cas (left + 1) left) q (reply.Done (left + 1)) z tries.made.made.kept call in record {
        loaded = h.loaded;
        failed = h.failed;
        from_one = tries.from_one;
        from = h.last ∙ above;
        made = calls_join S ((o, Load) ∷ tries_from o h.loaded h.failed) ((o, Cas (left + 1) left) ∷ []) p (reply.Value h.loaded ∷ failing h.failed) q (reply.Done (left + 1) ∷ []) z tries.made one;
      }

  pub finds_zero : (p : PassState) (n : ℕ) (q : PassState) → TriesSoFar S o p n q → n ≡ 0 → FindsZero S o p q
  finds_zero p n q h none = record { loaded = h.loaded; failed = h.failed; tries = h.tries; zero = h.last ∙ none }
