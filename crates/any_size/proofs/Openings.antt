-- Blocks that were just opened keep the rule.
use Rattle.std.proofs.Common.{◌≡◌, ◌≢◌, ◌⊎◌, inl, inr, ⊎_elim, ℕ, zero, suc, ◌+◌, ◌-◌, ◌*◌, ◌/◌, ◌≤◌, ◌<◌, ◌==◌, if◌then◌else◌, List, [], ◌∷◌, ◌++◌, length, take, drop, get_or, refl, ap, sym, ◌∙◌, subst, arith, None, Some, length-append, length-drop}
use Rattle.std.specs.Prelude.{slice_index, slice_get, replicate}
use Rattle.std.proofs.Math.ListN.{get_or-append}
use Rattle.std.proofs.Math.Seq.{drop-append-le, drop-append_seam}
use Rattle.std.proofs.lemmas.List.{take_all, take-append-le}
use mathlib.Core.Logic.{dite}
use native.Mathlib.Decide.{ℕ_discrete}
use Rattle.atomic_table.specs.Table.{opening}
use Rattle.place_core.proofs.EntryLists.{Each-none, CallersWithin-none, made_by-none, value_from-none}
use Rattle.place_core.proofs.Seats.{one_view}
use Rattle.any_size.specs.declared.spot.Spot.{Spot}
use Rattle.any_size.specs.declared.view.BlockOpening.{BlockOpening}
use Rattle.any_size.specs.declared.view.BlockRole.TheVariants as role
use Rattle.any_size.specs.declared.view.BlockView.{BlockView}
use Rattle.any_size.specs.Bytes.{bytes_of, words_for, Spells}
use Rattle.any_size.specs.Histories.{start_at, size_of, object_of, left_by, caller_of, value_of, IsLawful}
use Rattle.any_size.specs.Layout.{words_in, count_of, lock_word, first_word, words_at}
use Rattle.any_size.specs.Rule.{first_view, Lock, KnowsHold, BlocksHold}
use Rattle.any_size.specs.Steps.{IsSoundView}
use Rattle.any_size.specs.Keeping.{IsSpot, AreSpots}
use Rattle.any_size.specs.Starts.{Begins, LaidSoFar, SpotsSoFar}
use Rattle.any_size.proofs.Histories.{history_opens}
use Rattle.any_size.proofs.Layouts.{ends_next, grows_in}
use Rattle.any_size.proofs.Spelling.{count_enough, front_spells}

free_lock : Lock
free_lock = record { holder = None; written = None }

pub opens : (k : BlockOpening) (words : List ℕ) → Begins k.starts.items k.locks words → BlocksHold k.starts.items k.locks (opening words [] (first_view k))
unfolding free_lock
opens k words begins = let S : List (List ℕ) = k.starts.items in record {
  log = [];
  count = 0;
  owner = λ n. if n == 0 then Some 0 else None;
  state = λ l. free_lock;
  history = history_opens k;
  words = record {
    sized = begins.sized;
    quiet = begins.zeros 0 (omega arith);
    locked = λ l lt. begins.zeros (lock_word l) (omega arith);
    clean = λ l e. refl;
    holders = λ l j e. absurd (cc (e));
    spelled = λ o inside _. subst (Spells (size_of S o) (words_at words (first_word S k.locks o) (count_of S o))) (sym (value_from-none object_of left_by o (start_at S o))) (begins.spelled o inside);
    holds = λ j v e. let t = one_view (first_view k) j v e in subst (λ (x : BlockView). KnowsHold S k.locks [] (λ l. free_lock) words j x.hold) t.1 tt;
  };
}

pub first_sound : (k : BlockOpening) → IsSoundView (first_view k)
first_sound k = record {
  role = refl;
  legal = Each-none (IsLawful k.starts.items);
  own = made_by-none caller_of 0;
  root = λ _. record { callers = CallersWithin-none caller_of 0; back = tt; once = Each-none _ };
}

-- ---- object after object

pub laid_none : (S : List (List ℕ)) (K : ℕ) (words : List ℕ) → length words ≡ 1 + K → ((i : ℕ) → slice_index words i ≡ 0) → LaidSoFar S K words 0
laid_none S K words sized zeros = record { sized = omega arith; few = omega arith; zeros = λ i lt. zeros i; spelled = λ o lt. absurd (omega arith) }

pub laid_more : (S : List (List ℕ)) (K : ℕ) (words words' eight : List ℕ) (k count : ℕ) → k < length S → LaidSoFar S K words k → length eight ≡ 8 → 1 ≤ size_of S k → size_of S k ≤ 64
    → bytes_of eight ≡ start_at S k ++ replicate (64 - size_of S k) 0 → count ≡ words_for (size_of S k) → words' ≡ words ++ take count eight → LaidSoFar S K words' (k + 1)
laid_more S K words words' eight k count inside h long some few spelled count_is are =
    let n : ℕ = size_of S k in
    let c : ℕ = words_for n in
    let new : List ℕ = take c eight in
    let front = front_spells eight (start_at S k) n long refl some few spelled in
    let new_long : length new ≡ c = front.0 in
    let is : words' ≡ words ++ new = are ∙ ap (λ (z : ℕ). words ++ take z eight) count_is in
    let one : k + 1 ≡ suc k = omega arith in
    let next : first_word S K (suc k) ≡ first_word S K k + count_of S k = ends_next S K k inside in
    let sized : length words ≡ first_word S K k = h.sized in
    let before : words_in (take k S) ≤ 8 * k = h.few in
    let low : c ≤ 8 = (count_enough n some few).1 in
    let more : length (words ++ new) ≡ length words + length new = length-append words new in record {
      sized = ap length is ∙ (let e : length (words ++ new) ≡ 1 + K + words_in (take (suc k) S) = omega arith in e ∙ ap (λ (z : ℕ). 1 + K + words_in (take z S)) (sym one));
      few = subst (λ (z : ℕ). words_in (take z S) ≤ 8 * z) (sym one) (omega arith);
      zeros = λ i lt. ap (λ (l : List ℕ). get_or l i 0) is ∙ (get_or-append words new 0 i (omega arith) ∙ h.zeros i lt);
      spelled = λ o lt. dite (ℕ_discrete o k)
          (λ e. subst (λ (z : ℕ). Spells (size_of S z) (words_at words' (first_word S K z) (count_of S z)) (start_at S z)) (sym e)
          (subst (λ (l : List ℕ). Spells n l (start_at S k)) (sym (ap (λ (l : List ℕ). words_at l (first_word S K k) c) is ∙ (ap (λ (z : ℕ). take c (drop z (words ++ new))) (sym sized)
          ∙ (ap (take c) (drop-append_seam words new) ∙ take_all c new (omega arith))))) front.1))
          (λ ne. let o_in : o < length S = omega arith in let o_next = ends_next S K o o_in in let g = grows_in S (suc o) k (omega arith) in
          let d = length-drop (first_word S K o) words in
          subst (λ (l : List ℕ). Spells (size_of S o) l (start_at S o)) (sym (ap (λ (l : List ℕ). words_at l (first_word S K o) (count_of S o)) is
          ∙ (ap (take (count_of S o)) (drop-append-le (first_word S K o) words new (omega arith)) ∙ take-append-le (count_of S o) (drop (first_word S K o) words) new (omega arith))))
          (h.spelled o (omega arith)));
    }

-- all objects
pub laid_all : (S : List (List ℕ)) (K : ℕ) (words : List ℕ) (k : ℕ) → length S ≤ k → LaidSoFar S K words k → Begins S K words
laid_all S K words k all h = record {
  sized = h.sized ∙ ap (λ (l : List (List ℕ)). 1 + K + words_in l) (take_all k S all);
  zeros = h.zeros;
  spelled = λ o lt. h.spelled o (omega arith);
}

-- ---- where they lie

pub spots_none : (S : List (List ℕ)) (K : ℕ) (spots : List Spot) → spots ≡ [] → SpotsSoFar S K spots 0
spots_none S K spots e = record { count = ap length e; each = λ o x there. let bad : slice_get [] o ≡ Some x = sym (ap (λ (l : List Spot). slice_get l o) e) ∙ there in absurd cc }

got_more : (spots : List Spot) (x y : Spot) (o : ℕ) → slice_get (spots ++ x ∷ []) o ≡ Some y → (slice_get spots o ≡ Some y) ⊎ ((o ≡ length spots) × (x ≡ y))
got_more [] x y zero e = inr (refl, cc (e))
got_more [] x y (suc o) e = absurd cc
got_more (z ∷ zs) x y zero e = inl e
got_more (z ∷ zs) x y (suc o) e = ⊎_elim (λ h. inl h) (λ (t : (o ≡ length zs) × (x ≡ y)). let h = t.0 in inr (omega arith, t.1)) (got_more zs x y o e)

pub spots_more : (S : List (List ℕ)) (K : ℕ) (spots spots' : List Spot) (x : Spot) (k : ℕ) → SpotsSoFar S K spots k → IsSpot S K k x → spots' ≡ spots ++ x ∷ [] → SpotsSoFar S K spots' (k + 1)
spots_more S K spots spots' x k h is e = record {
  count = ap length e ∙ (length-append spots (x ∷ []) ∙ ap (λ (z : ℕ). z + 1) h.count);
  each = λ o y there. ⊎_elim (λ (old : slice_get spots o ≡ Some y). h.each o y old)
      (λ (t : (o ≡ length spots) × (x ≡ y)). subst (λ (z : ℕ × Spot). IsSpot S K z.0 z.1) (λ i. (sym (t.0 ∙ h.count) i, t.1 i)) is)
      (got_more spots x y o (sym (ap (λ (l : List Spot). slice_get l o) e) ∙ there));
}

pub zeros_are : (words : List ℕ) (n : ℕ) → words ≡ replicate n 0 → (i : ℕ) → slice_index words i ≡ 0
zeros_are words n e i = ap (λ (l : List ℕ). slice_index l i) e ∙ go n i
  where
    go : (n i : ℕ) → slice_index (replicate n 0) i ≡ 0
    go zero i = refl
    go (suc n) zero = refl
    go (suc n) (suc i) = go n i

pub spots_all : (S : List (List ℕ)) (K : ℕ) (spots : List Spot) (k : ℕ) → k ≡ length S → SpotsSoFar S K spots k → AreSpots S K spots
spots_all S K spots k all h = record { count = h.count ∙ all; each = h.each }

-- the same, of a start that was looked up
pub laid_next : (S : List (List ℕ)) (K : ℕ) (words words' eight v : List ℕ) (k count size : ℕ) → k < length S → LaidSoFar S K words k → v ≡ start_at S k → size ≡ length v → (1 ≤ size) × (size ≤ 64) → length eight ≡ 8
    → bytes_of eight ≡ v ++ replicate (64 - length v) 0 → count ≡ words_for size → words' ≡ words ++ take count eight → LaidSoFar S K words' (k + 1)
laid_next S K words words' eight v k count size inside h is size_is few long spelled count_is are =
    let at : size ≡ size_of S k = size_is ∙ ap length is in
    let some : 1 ≤ size = few.0 in let top : size ≤ 64 = few.1 in
    laid_more S K words words' eight k count inside h long (omega arith) (omega arith)
    (subst (λ (l : List ℕ). bytes_of eight ≡ l ++ replicate (64 - length l) 0) is spelled) (count_is ∙ ap words_for at) are

pub at_any : {A : Type 0} (xs : List A) (i : ℕ) (d e : A) → i < length xs → get_or xs i d ≡ get_or xs i e
at_any [] i d e lt = absurd (omega arith)
at_any (x ∷ xs) zero d e lt = refl
at_any (x ∷ xs) (suc i) d e lt = at_any xs i d e (omega arith)
