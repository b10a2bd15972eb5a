-- The steps on locks and parts, as the code asks for them.
use Rattle.std.proofs.Common.{◌≡◌, ℕ, ◌≤◌, ◌<◌, ◌+◌, ◌^◌, ap, sym, ◌∙◌, subst, arith, Some}
use Rattle.atomic_table.specs.Seated.{TableId}
use Rattle.atomic_table.specs.Table.{Me}
use Rattle.op_table.specs.declared.kind.Kind.{Kind}
use Rattle.op_table.specs.declared.call.Call.{Call}
use Rattle.op_table.specs.Call.{after_of, CallFits}
use Rattle.place_core.specs.declared.places.Place.TheVariants.{Parts as In}
use Rattle.place_core.specs.declared.shape.Shape.{Shape}
use Rattle.place_core.specs.PartValues.{joined, AreParts}
use Rattle.place_core.specs.Shapes.{place_of, kind_of, data_word, lock_word}
use Rattle.seat_views.specs.declared.view.Opening.{Opening}
use Rattle.seat_views.specs.declared.view.Role.TheVariants as role
use Rattle.seat_views.specs.declared.view.StepKind.TheVariants as kind
use Rattle.seat_views.specs.declared.view.Flight.TheVariants.{Idle}
use Rattle.seat_views.specs.declared.view.View.{View}
use Rattle.seat_views.specs.Places.{parts_of}
use Rattle.seat_views.specs.PartLists.{got, HasAll}
use Rattle.seat_views.specs.States.{ArenaState}
use Rattle.seat_views.specs.Steps.{Asked, asked_object, asked_part, asked_value, asked_match}
use Rattle.seat_views.specs.LockSteps.{parts_now, released, stored_by, stamp_in, value_read, HoldsClean, HoldsRead, MayRelease, GlancesAt, GlancesRead, take_tells, held_tells, read_tells, put_tells, release_tells, stamp_tells, match_tells}
use Rattle.seat_views.proofs.ShapePlaces.{parts_within, count_is}
use Rattle.seat_views.proofs.HoldSteps.{take_keeps, held_keeps, put_keeps, release_keeps}
use Rattle.seat_views.proofs.GlanceSteps.{stamp_keeps, part_keeps, match_keeps}
use Rattle.seat_views.proofs.Flying.{clean_hold, read_hold, ready_hold, any_glance, read_glance}
use Rattle.seat_views.proofs.Ties.{Tied, Asks, asks}

module _ (id : TableId) (key k : Opening) (now : ArenaState) (z : TableId) (t : Tied id key k now z) (slots seat : ℕ) (m : Me (Unit {0}) View) (o l f n b : ℕ) (place : place_of now.shape o ≡ Some (In l f n b)) where
  at : place_of k.shape o ≡ Some (In l f n b)
  at = subst (λ (S : Shape). place_of S o ≡ Some (In l f n b)) t.now_is place

  lock_in_range : lock_word k.shape l < 1 + k.shape.words + k.shape.locks
  lock_in_range = let w = parts_within k.shape t.ok o l f n b at in let lt : l < k.shape.locks = w.0 in omega arith

  part_in_range : (i : ℕ) → i < n → data_word (f + i) < 1 + k.shape.words + k.shape.locks
  part_in_range i lt = let w = parts_within k.shape t.ok o l f n b at in let top : f + n ≤ k.shape.words = w.1 in omega arith

  pub take_given : (a : Asked) → a ≡ asked_object o now.first_stamp → m.0.flight ≡ Idle → Asks id key z slots seat m (lock_word k.shape l) (λ _. 1) (take_tells a (lock_word k.shape l) m)
  take_given a ask rest = subst (λ (x : Asked). Asks id key z slots seat m (lock_word k.shape l) (λ _. 1) (take_tells x (lock_word k.shape l) m)) (sym ask)
      (asks id key k now z t slots seat m (lock_word k.shape l) (λ _. 1) (take_tells (asked_object o now.first_stamp) (lock_word k.shape l) m) lock_in_range
      (take_keeps k t.ok (asked_object o now.first_stamp) l f n b at slots seat m rest t.first_is))

  pub held_given : (a : Asked) (i : ℕ) → a ≡ asked_part i → i < n → m.0.role ≡ role.Pass → HoldsClean o m.0.flight → Asks id key z slots seat m (data_word (f + i)) (λ x. x) (held_tells a (data_word (f + i)) m)
  held_given a i ask inside pass held = let h = clean_hold o m.0.flight held in
      subst (λ (x : Asked). Asks id key z slots seat m (data_word (f + i)) (λ y. y) (held_tells x (data_word (f + i)) m)) (sym ask)
      (asks id key k now z t slots seat m (data_word (f + i)) (λ x. x) (held_tells (asked_part i) (data_word (f + i)) m) (part_in_range i inside)
      (held_keeps k t.ok (asked_part i) o l f n b at inside h.stamp h.read h.now slots seat m pass h.is))

  pub put_given : (a : Asked) (i x : ℕ) → a ≡ asked_part i → i < n → x < 2 ^ now.shape.word_bits → HoldsRead o n m.0.flight → Asks id key z slots seat m (data_word (f + i)) (λ _. x) (λ _. put_tells a (data_word (f + i)) m x)
  put_given a i x ask inside small held = let h = read_hold o n m.0.flight held in
      subst (λ (y : Asked). Asks id key z slots seat m (data_word (f + i)) (λ _. x) (λ _. put_tells y (data_word (f + i)) m x)) (sym ask)
      (asks id key k now z t slots seat m (data_word (f + i)) (λ _. x) (λ _. put_tells (asked_part i) (data_word (f + i)) m x) (part_in_range i inside)
      (put_keeps k t.ok (asked_part i) o l f n b at inside h.stamp h.read h.wrote h.now h.all x slots seat m (subst (λ (S : Shape). x < 2 ^ S.word_bits) t.now_is small) h.is))

  -- the object's parts, by the shape and by its place
  count_at : parts_of now.shape o ≡ n
  count_at = count_is now.shape o l f n b place

  bits_at : now.shape.word_bits ≡ b
  bits_at = ap (λ (S : Shape). S.word_bits) t.now_is ∙ sym (parts_within k.shape t.ok o l f n b at).2

  pub release_given : (a : Asked) (call : Call) (v stamp : ℕ) (kd : Kind) → a ≡ asked_value kd o call v → kind_of now.shape o ≡ kd → m.0.role ≡ role.Pass → CallFits (kind_of now.shape o) call → MayRelease now.shape o call m.0.flight
      → v ≡ value_read now.shape o m.0.flight → stamp ≡ stored_by m.0.flight → Asks id key z slots seat m (lock_word k.shape l) (λ _. stamp) (λ _. release_tells a (lock_word k.shape l) m stamp)
  release_given a call v stamp kd ask kind_is pass fits may v_is stamp_is =
      let h = ready_hold now.shape o call m.0.flight may in
      let v_at : v ≡ joined b (got h.read) n = v_is ∙ (ap (value_read now.shape o) h.is ∙ (λ i. joined (bits_at i) (got h.read) (count_at i))) in
      let stamp_at : stamp ≡ released h.wrote h.stamp = stamp_is ∙ ap stored_by h.is in
      let kind_at : kind_of k.shape o ≡ kd = ap (λ (S : Shape). kind_of S o) (sym t.now_is) ∙ kind_is in
      let all : HasAll n h.read = subst (λ (x : ℕ). HasAll x h.read) count_at h.all in
      let parts : AreParts b n (got (parts_now h.read h.wrote h.now)) (after_of (kind_of k.shape o) call (joined b (got h.read) n)) =
      subst (λ (x : ℕ × ℕ × Shape). AreParts x.0 x.1 (got (parts_now h.read h.wrote h.now)) (after_of (kind_of x.2 o) call (joined x.0 (got h.read) x.1))) (λ i. (bits_at i, count_at i, t.now_is i)) h.parts in
      let ask_at : asked_value (kind_of k.shape o) o call (joined b (got h.read) n) ≡ a = (λ i. asked_value (kind_at i) o call (sym v_at i)) ∙ sym ask in
      subst (λ (x : Asked × ℕ). Asks id key z slots seat m (lock_word k.shape l) (λ _. x.1) (λ _. release_tells x.0 (lock_word k.shape l) m x.1)) (λ i. (ask_at i, sym stamp_at i))
      (asks id key k now z t slots seat m (lock_word k.shape l) (λ _. released h.wrote h.stamp) (λ _. release_tells (asked_value (kind_of k.shape o) o call (joined b (got h.read) n)) (lock_word k.shape l) m (released h.wrote h.stamp)) lock_in_range
      (release_keeps k t.ok o l f n b at call h.stamp h.read h.wrote h.now all (subst (λ (S : Shape). CallFits (kind_of S o) call) t.now_is fits) parts slots seat m pass h.is))

  pub stamp_given : (a : Asked) → a ≡ asked_object o now.first_stamp → m.0.flight ≡ Idle → Asks id key z slots seat m (lock_word k.shape l) (λ x. x) (stamp_tells a (lock_word k.shape l) m)
  stamp_given a ask rest = subst (λ (x : Asked). Asks id key z slots seat m (lock_word k.shape l) (λ y. y) (stamp_tells x (lock_word k.shape l) m)) (sym ask)
      (asks id key k now z t slots seat m (lock_word k.shape l) (λ x. x) (stamp_tells (asked_object o now.first_stamp) (lock_word k.shape l) m) lock_in_range
      (stamp_keeps k t.ok (asked_object o now.first_stamp) l f n b at slots seat m rest t.first_is))

  pub part_given : (a : Asked) (i : ℕ) → a ≡ asked_part i → i < n → m.0.role ≡ role.Pass → GlancesAt o m.0.flight → Asks id key z slots seat m (data_word (f + i)) (λ x. x) (read_tells kind.Part a (data_word (f + i)) m)
  part_given a i ask inside pass held = let h = any_glance o m.0.flight held in
      subst (λ (x : Asked). Asks id key z slots seat m (data_word (f + i)) (λ y. y) (read_tells kind.Part x (data_word (f + i)) m)) (sym ask)
      (asks id key k now z t slots seat m (data_word (f + i)) (λ x. x) (read_tells kind.Part (asked_part i) (data_word (f + i)) m) (part_in_range i inside)
      (part_keeps k t.ok (asked_part i) o l f n b at inside h.stamp h.read slots seat m pass h.is))

  pub match_given : (a : Asked) (v stamp : ℕ) → a ≡ asked_match o v stamp → m.0.role ≡ role.Pass → GlancesRead o n m.0.flight → v ≡ value_read now.shape o m.0.flight → stamp ≡ stamp_in m.0.flight
      → Asks id key z slots seat m (lock_word k.shape l) (λ x. x) (match_tells a (lock_word k.shape l) m)
  match_given a v stamp ask pass held v_is stamp_is =
      let h = read_glance o n m.0.flight held in
      let v_at : v ≡ joined b (got h.read) n = v_is ∙ (ap (value_read now.shape o) h.is ∙ (λ i. joined (bits_at i) (got h.read) (count_at i))) in
      let stamp_at : stamp ≡ h.stamp = stamp_is ∙ ap stamp_in h.is in
      let ask_at : asked_match o (joined b (got h.read) n) h.stamp ≡ a = (λ i. asked_match o (sym v_at i) (sym stamp_at i)) ∙ sym ask in
      subst (λ (x : Asked). Asks id key z slots seat m (lock_word k.shape l) (λ y. y) (match_tells x (lock_word k.shape l) m)) ask_at
      (asks id key k now z t slots seat m (lock_word k.shape l) (λ x. x) (match_tells (asked_match o (joined b (got h.read) n) h.stamp) (lock_word k.shape l) m) lock_in_range
      (match_keeps k t.ok o l f n b at h.stamp h.read h.all slots seat m pass h.is))
