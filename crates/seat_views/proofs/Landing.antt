-- From what a step tells of views to what contracts say of passes.
use Rattle.std.proofs.Common.{◌≡◌, ◌≢◌, ℕ, ◌+◌, ◌-◌, ◌/◌, ◌%◌, ◌^◌, ◌*◌, ◌<◌, true, false, [], ◌∷◌, ◌++◌, refl, ap, sym, ◌∙◌, subst, arith, Some}
use Rattle.std.proofs.lemmas.Nat.{mod_below, pow_pos}
use Rattle.atomic_table.specs.Seated.{TableId}
use Rattle.op_table.specs.declared.kind.Kind.{Kind}
use Rattle.op_table.specs.declared.call.Call.{Call}
use Rattle.op_table.specs.declared.call.Reply.{Reply}
use Rattle.op_table.specs.declared.call.Reply.TheVariants.{Failed}
use Rattle.op_table.specs.Kind.{bits_of, IsKind}
use Rattle.op_table.specs.Call.{after_of, answer_of, CallFits}
use Rattle.op_table.proofs.Rows.{after_fits}
use Rattle.place_core.specs.declared.entry.Entry.{Entry}
use Rattle.place_core.specs.declared.places.WordOp.{WordOp}
use Rattle.place_core.specs.declared.places.Place.TheVariants.{Lane}
use Rattle.place_core.specs.declared.shape.Shape.{Shape}
use Rattle.place_core.specs.Shapes.{place_of, kind_of, word_of, data_word}
use Rattle.place_core.specs.Operations.{Replaces}
use Rattle.seat_views.specs.declared.view.Opening.{Opening}
use Rattle.seat_views.specs.declared.view.Item.{Item}
use Rattle.seat_views.specs.declared.view.Flight.{Flight}
use Rattle.seat_views.specs.declared.view.Flight.TheVariants.{Idle}
use Rattle.seat_views.specs.declared.view.StepKind.TheVariants as kind
use Rattle.seat_views.specs.declared.view.View.{View}
use Rattle.seat_views.specs.Places.{value_after, data_in, shift_in, width_in, data_of_lane, word_of_lane, lane_at}
use Rattle.seat_views.specs.Deciding.{look_settles, lost_try_settles}
use Rattle.seat_views.specs.Steps.{asked, entry, item, op_item, moved, IsSoundView, Grows, GrowsAt, GrowsFrom, Sees, MakesAt}
use Rattle.seat_views.specs.Moves.{giver, newcomer}
use Rattle.seat_views.specs.Rule.{first_view}
use Rattle.seat_views.specs.States.{PassState, state_of, IsKept, Appends, AppendsAt, Looked, Moved, Gives, Opens}
use Rattle.seat_views.specs.Tries.{OpMade, LookMade, LookSaw, TryMade, TrySaw}
use Rattle.seat_views.proofs.MoveSteps.{giver_sound, newcomer_sound}
use Rattle.seat_views.proofs.Openings.{first_sound}

pub kept_of : (z : TableId) (v : View) → IsSoundView v → IsKept (state_of z v)
kept_of z v h = record { legal = h.legal; own = h.own; root = h.root }

pub moved_sound : (v : View) (i : Item) (f : Flight) → IsSoundView v → IsSoundView (moved v i f)
moved_sound v i f h = record { role = h.role; legal = h.legal; own = h.own; root = h.root }

module _ (z z' : TableId) (same : z' ≡ z) (v w : View) where
  pub appends_of : (x : Entry) (i : Item) → Grows v x i w → Appends (state_of z v) x i (state_of z' w)
  appends_of x i g = let e : w.seen ≡ (v.seen ++ g.between) ++ x ∷ [] = ap (λ (u : View). u.seen) g.now in record {
    between = g.between;
    seen = e;
    rest = (λ t. state_of (same t) (g.now t)) ∙ (λ t. record (state_of z v) { seen = sym e t; mine = v.mine ++ x ∷ []; trail = v.trail ++ i ∷ []; flight = Idle });
    kept = kept_of z' w g.sound;
  }

  pub appends_from : (x : Entry) (i : Item) (n : ℕ) → GrowsFrom v x i n w → (a : Appends (state_of z v) x i (state_of z' w)) × (value_after v.shape (v.seen ++ a.between) x.object ≡ n)
  unfolding appends_of
  appends_from x i n g = (appends_of x i record { between = g.between; now = g.now; sound = g.sound }, g.value_is)

  appends_at : (x : Entry) (i : Item) (word n : ℕ) → GrowsAt v x i word n w → AppendsAt (state_of z v) x i word n (state_of z' w)
  appends_at x i word n g = let e : w.seen ≡ (v.seen ++ g.between) ++ x ∷ [] = ap (λ (u : View). u.seen) g.now in record {
    between = g.between;
    word_is = g.word_is;
    seen = e;
    rest = (λ t. state_of (same t) (g.now t)) ∙ (λ t. record (state_of z v) { seen = sym e t; mine = v.mine ++ x ∷ []; trail = v.trail ++ i ∷ []; flight = Idle });
    kept = kept_of z' w g.sound;
  }

  looked_of : (i : Item) (word n : ℕ) → Sees v i word n w → Looked (state_of z v) i word n (state_of z' w)
  looked_of i word n g = let e : w.seen ≡ v.seen ++ g.between = ap (λ (u : View). u.seen) g.now in let s : w.shape ≡ v.shape = ap (λ (u : View). u.shape) g.now in record {
    between = g.between;
    seen = e;
    word_is = (λ t. word_of (s t) (e t) word) ∙ g.word_is;
    rest = (λ t. state_of (same t) (g.now t)) ∙ (λ t. record (state_of z v) { seen = sym e t; trail = v.trail ++ i ∷ []; flight = Idle });
    kept = kept_of z' w g.sound;
  }

  pub moved_of : (i : Item) (f : Flight) → w ≡ moved v i f → IsSoundView v → Moved (state_of z v) i f (state_of z' w)
  moved_of i f e sound = record {
    now = λ t. state_of (same t) (e t);
    kept = kept_of z' w (subst IsSoundView (sym e) (moved_sound v i f sound));
  }

-- ---- on a lane

module _ (S : Shape) (o w s d : ℕ) (k : Kind) (place : place_of S o ≡ Some (Lane w s d)) (kind_is : kind_of S o ≡ k) (z z' : TableId) (v u : View) (p : PassState) (old : state_of z v ≡ p) (same : z' ≡ z) (call : Call) where
  bits_at : (n bits : ℕ) → bits ≡ n / 2 ^ s % 2 ^ d → bits ≡ lane_at S o n
  bits_at n bits e = e ∙ (λ t. n / 2 ^ shift_in (sym place t) % 2 ^ width_in (sym place t))

  word_at : data_word w ≡ word_of_lane S o
  word_at = λ t. data_word (data_in (sym place t))

  data_at : w ≡ data_of_lane S o
  data_at = λ t. data_in (sym place t)

  grew : (i : ℕ → Item) (n : ℕ) (r r' : Reply) → r' ≡ r → GrowsAt v (entry v.number o call r') (i (data_word w)) w n u → AppendsAt p (entry p.number o call r) (i (word_of_lane S o)) (data_of_lane S o) n (state_of z' u)
  grew i n r r' r_at g =
      let g' : GrowsAt v (entry v.number o call r) (i (word_of_lane S o)) (data_of_lane S o) n u = subst (λ (x : Reply × ℕ × ℕ). GrowsAt v (entry v.number o call x.0) (i x.1) x.2 n u) (λ t. (r_at t, word_at t, data_at t)) g in
      subst (λ (q : PassState). AppendsAt q (entry q.number o call r) (i (word_of_lane S o)) (data_of_lane S o) n (state_of z' u)) old
      (appends_at z z' same v u (entry v.number o call r) (i (word_of_lane S o)) (data_of_lane S o) n g')

  saw : (i : ℕ → Item) (n : ℕ) → Sees v (i (data_word w)) w n u → Looked p (i (word_of_lane S o)) (data_of_lane S o) n (state_of z' u)
  saw i n g =
      let g' : Sees v (i (word_of_lane S o)) (data_of_lane S o) n u = subst (λ (x : ℕ × ℕ). Sees v (i x.0) x.1 n u) (λ t. (word_at t, data_at t)) g in
      subst (λ (q : PassState). Looked q (i (word_of_lane S o)) (data_of_lane S o) n (state_of z' u)) old (looked_of z z' same v u (i (word_of_lane S o)) (data_of_lane S o) n g')

  pub op_made : (done : WordOp) (n bits : ℕ) (r : Reply) → bits ≡ n / 2 ^ s % 2 ^ d → r ≡ answer_of k call bits → MakesAt (asked k s d o call done) (data_word w) v n u → OpMade S o call done p r (state_of z' u)
  op_made done n bits r bits_is r_is g =
      let r_at : answer_of k call (g.found / 2 ^ s % 2 ^ d) ≡ r = sym g.same ∙ (ap (answer_of k call) (sym bits_is) ∙ sym r_is) in record {
        found = g.found;
        reply = sym r_at ∙ (λ t. answer_of (sym kind_is t) call (bits_at g.found (g.found / 2 ^ s % 2 ^ d) refl t));
        appends = grew (λ word. op_item word done g.found) g.found r (answer_of k call (g.found / 2 ^ s % 2 ^ d)) r_at
            (let less : data_word w - 1 ≡ w = omega arith in subst (λ (x : ℕ). GrowsAt v (entry v.number o call (answer_of k call (g.found / 2 ^ s % 2 ^ d))) (op_item (data_word w) done g.found) x g.found u) less g.grows);
      }

  pub look_made : (n bits : ℕ) (r : Reply) → bits ≡ n / 2 ^ s % 2 ^ d → look_settles call bits ≡ true → r ≡ answer_of k call bits
      → (look_settles call (n / 2 ^ s % 2 ^ d) ≡ true → GrowsAt v (entry v.number o call (answer_of k call (n / 2 ^ s % 2 ^ d))) (item (data_word w) kind.Look n) w n u) → LookMade S o call p r (state_of z' u)
  look_made n bits r bits_is yes_it r_is g = record {
    found = n;
    decided = ap (look_settles call) (sym (bits_at n bits bits_is)) ∙ yes_it;
    reply = r_is ∙ (λ t. answer_of (sym kind_is t) call (bits_at n bits bits_is t));
    appends = grew (λ word. item word kind.Look n) n r (answer_of k call (n / 2 ^ s % 2 ^ d)) (ap (answer_of k call) (sym bits_is) ∙ sym r_is) (g (ap (look_settles call) (sym bits_is) ∙ yes_it));
  }

  pub look_saw : (n bits : ℕ) → bits ≡ n / 2 ^ s % 2 ^ d → look_settles call bits ≡ false → (look_settles call (n / 2 ^ s % 2 ^ d) ≡ false → Sees v (item (data_word w) kind.Look n) w n u) → LookSaw S o call p n (state_of z' u)
  look_saw n bits bits_is never g = record { undecided = ap (look_settles call) (sym (bits_at n bits bits_is)) ∙ never; looked = saw (λ word. item word kind.Look n) n (g (ap (look_settles call) (sym bits_is) ∙ never)) }

  pub try_won : (found n bits : ℕ) (r : Reply) → bits ≡ n / 2 ^ s % 2 ^ d → n ≡ found → r ≡ answer_of k call bits
      → (n ≡ found → GrowsAt v (entry v.number o call (answer_of k call (n / 2 ^ s % 2 ^ d))) (item (data_word w) kind.Try n) w n u) → TryMade S o call found p r (state_of z' u)
  try_won found n bits r bits_is hit r_is g = record {
    seen = n;
    won = λ _. r_is ∙ (λ t. answer_of (sym kind_is t) call (bits_at n bits bits_is t));
    failed = λ miss. absurd (miss hit);
    appends = grew (λ word. item word kind.Try n) n r (answer_of k call (n / 2 ^ s % 2 ^ d)) (ap (answer_of k call) (sym bits_is) ∙ sym r_is) (g hit);
  }

  pub try_failed : (found n bits : ℕ) → bits ≡ n / 2 ^ s % 2 ^ d → n ≢ found → lost_try_settles call bits ≡ true
      → (n ≢ found → lost_try_settles call (n / 2 ^ s % 2 ^ d) ≡ true → GrowsAt v (entry v.number o call (Failed (n / 2 ^ s % 2 ^ d))) (item (data_word w) kind.Try n) w n u) → TryMade S o call found p (Failed bits) (state_of z' u)
  try_failed found n bits bits_is miss yes_it g = record {
    seen = n;
    won = λ hit. absurd (miss hit);
    failed = λ _. (ap (lost_try_settles call) (sym (bits_at n bits bits_is)) ∙ yes_it, ap (λ (x : ℕ). Failed x) (bits_at n bits bits_is));
    appends = grew (λ word. item word kind.Try n) n (Failed bits) (Failed (n / 2 ^ s % 2 ^ d)) (ap (λ (x : ℕ). Failed x) (sym bits_is)) (g miss (ap (lost_try_settles call) (sym bits_is) ∙ yes_it));
  }

  pub try_saw : (found n bits : ℕ) → bits ≡ n / 2 ^ s % 2 ^ d → n ≢ found → lost_try_settles call bits ≡ false
      → (n ≢ found → lost_try_settles call (n / 2 ^ s % 2 ^ d) ≡ false → Sees v (item (data_word w) kind.Try n) w n u) → TrySaw S o call found p n (state_of z' u)
  try_saw found n bits bits_is miss never g = record { other = miss; undecided = ap (lost_try_settles call) (sym (bits_at n bits bits_is)) ∙ never; looked = saw (λ word. item word kind.Try n) n (g miss (ap (lost_try_settles call) (sym bits_is) ∙ never)) }

-- the value that a try stores is one of the kind, and its word replaces the lane
module _ (S : Shape) (o w s d : ℕ) (k : Kind) (place : place_of S o ≡ Some (Lane w s d)) (kind_is : kind_of S o ≡ k) (call : Call) where
  lane_there : (n : ℕ) → lane_at S o n ≡ n / 2 ^ s % 2 ^ d
  lane_there n = λ t. n / 2 ^ shift_in (place t) % 2 ^ width_in (place t)

  pub new_fits : (found new : ℕ) → bits_of k.width ≡ d → IsKind k → CallFits (kind_of S o) call → new ≡ after_of (kind_of S o) call (lane_at S o found) → new < 2 ^ d
  new_fits found new wide valid fits made =
      let kw : bits_of (kind_of S o).width ≡ d = ap (λ (y : Kind). bits_of y.width) kind_is ∙ wide in
      let small : lane_at S o found < 2 ^ d = subst (λ (x : ℕ). x < 2 ^ d) (sym (lane_there found)) (mod_below (found / 2 ^ s) (2 ^ d) (pow_pos d)) in
      let after : after_of (kind_of S o) call (lane_at S o found) < 2 ^ d = subst (λ (x : ℕ). after_of (kind_of S o) call (lane_at S o found) < 2 ^ x) kw
      (after_fits (kind_of S o) call (lane_at S o found) (subst IsKind (sym kind_is) valid) fits (subst (λ (x : ℕ). lane_at S o found < 2 ^ x) (sym kw) small)) in
      subst (λ (x : ℕ). x < 2 ^ d) (sym made) after

  pub new_replaces : (found new next : ℕ) → new ≡ after_of (kind_of S o) call (lane_at S o found) → next + (found / 2 ^ s % 2 ^ d) * 2 ^ s ≡ found + new * 2 ^ s
      → Replaces s (found / 2 ^ s % 2 ^ d) (after_of k call (found / 2 ^ s % 2 ^ d)) found next
  new_replaces found new next made put = put ∙ ap (λ (x : ℕ). found + x * 2 ^ s) (made ∙ (λ t. after_of (kind_is t) call (lane_there found t)))

-- ---- a number given

pub gave : (z z' y : TableId) (v w n : View) (p new : PassState) → state_of z v ≡ p → z' ≡ z → y ≡ z → w ≡ giver v → n ≡ newcomer v → new ≡ state_of y n → IsSoundView v → p.number ≡ 0 → v.given < 65535 → Gives p new (state_of z' w)
gave z z' y v w n p new old same too w_is n_is new_is sound zero_is left =
    let zero_v : v.number ≡ 0 = ap (λ (q : PassState). q.number) old ∙ zero_is in
    subst (λ (q : PassState). Gives q new (state_of z' w)) old record {
      left = left;
      root = λ t. state_of (same t) (w_is t);
      pass = new_is ∙ (λ t. state_of (too t) (n_is t));
      kept = kept_of z' w (subst IsSoundView (sym w_is) (giver_sound v sound));
      new_kept = subst IsKept (sym new_is) (kept_of y n (subst IsSoundView (sym n_is) (newcomer_sound v sound zero_v)));
    }

-- ---- an arena opened

pub opened : (k : Opening) (z y : TableId) (v : View) (p : PassState) → p ≡ state_of y v → y ≡ z → v ≡ first_view k → Opens k.shape k.first_stamp (record { id = z; shape = k.shape; first_stamp = k.first_stamp }) p
opened k z y v p p_is same v_is = record {
  shape = refl;
  first_stamp = refl;
  root = p_is ∙ (λ t. state_of (same t) (v_is t));
  kept = subst IsKept (sym p_is) (kept_of y v (subst IsSoundView (sym v_is) (first_sound k)));
}
