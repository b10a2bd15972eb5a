-- Locks, parts and glances where one lock changes.
use Rattle.std.proofs.Common.{◌≡◌, ◌≢◌, ℕ, ◌≤◌, ◌<◌, ◌+◌, ◌%◌, ◌==◌, Bool, true, false, if◌then◌else◌, List, ◌∷◌, length, set, get_or, refl, ap, sym, ◌∙◌, subst, arith, Option, Some, None, length-set, get_or-set_other, get_or-set_same, eq-eqb, ne_eqb}
use Rattle.std.specs.Prelude.{slice_index}
use mathlib.Core.Logic.{dite}
use native.Mathlib.Decide.{ℕ_discrete}
use Rattle.place_core.specs.declared.entry.Entry.{Entry}
use Rattle.place_core.specs.declared.shape.Shape.{Shape}
use Rattle.place_core.specs.declared.places.Place.TheVariants.{Parts as In}
use Rattle.place_core.specs.PartValues.{part_of, AreParts}
use Rattle.place_core.specs.Shapes.{place_of, data_word, lock_word, IsShape}
use Rattle.seat_views.specs.declared.view.Flight.{Flight}
use Rattle.seat_views.specs.declared.view.Flight.TheVariants.{Idle, Hold, Glance}
use Rattle.seat_views.specs.Places.{value_after}
use Rattle.seat_views.specs.PartLists.{look_up, or_zero, got, HasAll}
use Rattle.seat_views.specs.Rule.{Lanes, Lock, shown, held_or, part_in, Fits, KnowsHold, KnowsGlance}
use Rattle.seat_views.specs.Limits.{last_stamp}
use Rattle.seat_views.specs.LockSteps.{parts_now, released}
use Rattle.seat_views.proofs.ShapePlaces.{lane_within, parts_within, one_place}
use Rattle.seat_views.proofs.Frames.{SameInParts, lanes_frame, fits_frame}

-- ---- one lock

abbrev pub set_lock : (ℕ → Lock) → ℕ → Lock → ℕ → Lock
set_lock locks l k n = if n == l then k else locks n

pub lock_here : (locks : ℕ → Lock) (l : ℕ) (k : Lock) (n : ℕ) → n ≡ l → set_lock locks l k n ≡ k
lock_here locks l k n e = ap (λ (b : Bool). if b then k else locks n) (eq-eqb n l e)

pub lock_else : (locks : ℕ → Lock) (l : ℕ) (k : Lock) (n : ℕ) → n ≢ l → set_lock locks l k n ≡ locks n
lock_else locks l k n e = ap (λ (b : Bool). if b then k else locks n) (ne_eqb n l e)

-- where no one holds it, the lock shows its stamp
pub free_of : (k : Lock) (n : ℕ) → n ≡ shown k → n ≢ 1 → (k.holder ≡ None) × (n ≡ k.stamp)
free_of k n e ne = go k.holder refl
  where
    go : (h : Option ℕ) → k.holder ≡ h → (k.holder ≡ None) × (n ≡ k.stamp)
    go None is = (is, e ∙ ap (λ (z : Option ℕ). held_or z k.stamp) is)
    go (Some j) is = absurd (ne (e ∙ ap (λ (z : Option ℕ). held_or z k.stamp) is))

-- ---- a lock's word

-- a lock's word is none of an object's
pub lock_same_parts : (S : Shape) → IsShape S → (log : List Entry) (words : List ℕ) (l n : ℕ) → SameInParts S log log words (set words (lock_word S l) n)
lock_same_parts S ok log words l n o m f c b at = let w = parts_within S ok o m f c b at in
    ((λ i lt. let top : f + c ≤ S.words = w.1 in get_or-set_other words (lock_word S l) (data_word (f + i)) n 0 (λ e. omega arith)), refl)

pub lock_lanes : (S : Shape) → IsShape S → (log : List Entry) (words : List ℕ) (l n : ℕ) → Lanes S log words → Lanes S log (set words (lock_word S l) n)
lock_lanes S ok log words l n lanes = lanes_frame S log log words (set words (lock_word S l) n) lanes (length-set words (lock_word S l) n)
    (get_or-set_other words (lock_word S l) 0 n 0 (λ e. omega arith))
    (λ o w t d at. let inside : w < S.words = lane_within S ok o w t d at in (get_or-set_other words (lock_word S l) (data_word w) n 0 (λ e. omega arith), refl))

-- the words of locks, where one lock and its word changed
pub lock_shows : (S : Shape) (locks : ℕ → Lock) (words : List ℕ) (l n : ℕ) (k : Lock) → l < S.locks → length words ≡ 1 + S.words + S.locks → n ≡ shown k → ((i : ℕ) → i < S.locks → slice_index words (lock_word S i) ≡ shown (locks i))
    → (i : ℕ) → i < S.locks → slice_index (set words (lock_word S l) n) (lock_word S i) ≡ shown (set_lock locks l k i)
lock_shows S locks words l n k lt sized shows old i inside = dite (ℕ_discrete i l)
    (λ e. ap (λ (z : ℕ). get_or (set words (lock_word S l) n) (lock_word S z) 0) e ∙ (get_or-set_same words (lock_word S l) n 0 (omega arith) ∙ (shows ∙ ap shown (sym (lock_here locks l k i e)))))
    (λ ne. get_or-set_other words (lock_word S l) (lock_word S i) n 0 (λ e. ne (omega arith)) ∙ (old i inside ∙ ap shown (sym (lock_else locks l k i ne))))

-- what holds of one lock and of all others
pub each_lock : (P : ℕ → Lock → Type 0) (locks : ℕ → Lock) (l : ℕ) (k : Lock) → P l k → ((i : ℕ) → i ≢ l → P i (locks i)) → (i : ℕ) → P i (set_lock locks l k i)
each_lock P locks l k here others i = dite (ℕ_discrete i l)
    (λ e. subst (λ (z : ℕ × Lock). P z.0 z.1) (λ t. (sym e t, sym (lock_here locks l k i e) t)) here)
    (λ ne. subst (P i) (sym (lock_else locks l k i ne)) (others i ne))

-- ---- other views

-- a view's hold, where its own lock stays
pub hold_other : (S : Shape) (log : List Entry) (locks : ℕ → Lock) (words : List ℕ) (l : ℕ) (k : Lock) (j : ℕ) → (locks l).holder ≢ Some j → (f : Flight) → KnowsHold S log locks words j f → KnowsHold S log (set_lock locks l k) words j f
hold_other S log locks words l k j free Idle h = tt
hold_other S log locks words l k j free (Glance o stamp read) h = tt
hold_other S log locks words l k j free (Hold o stamp read wrote now) h =
    let ne : h.lock ≢ l = λ e. free (ap (λ (z : ℕ). (locks z).holder) (sym e) ∙ ap (λ (z : Lock). z.holder) h.mine) in record {
      lock = h.lock;
      first = h.first;
      count = h.count;
      bits = h.bits;
      place = h.place;
      mine = lock_else locks l k h.lock ne ∙ h.mine;
      reads = h.reads;
      writes = h.writes;
    }

-- the parts of every object but o are as they were, and so is its value
abbrev pub SameBut : Shape → ℕ → List Entry → List Entry → List ℕ → List ℕ → Type 0
SameBut S o log log' words words' = (p l f n b : ℕ) → place_of S p ≡ Some (In l f n b) → p ≢ o → ((i : ℕ) → i < n → part_in words' f i ≡ part_in words f i) × (value_after S log' p ≡ value_after S log p)

-- the hold of another seat, where an object's own seat changes its lock, its parts and its value
pub hold_but : (S : Shape) (log log' : List Entry) (locks : ℕ → Lock) (words words' : List ℕ) (o l f n b : ℕ) → place_of S o ≡ Some (In l f n b) → (k : Lock) (id j : ℕ) → (locks l).holder ≡ Some id → j ≢ id
    → SameBut S o log log' words words' → (fl : Flight) → KnowsHold S log locks words j fl → KnowsHold S log' (set_lock locks l k) words' j fl
hold_but S log log' locks words words' o l f n b place k id j held apart same Idle h = tt
hold_but S log log' locks words words' o l f n b place k id j held apart same (Glance p stamp read) h = tt
hold_but S log log' locks words words' o l f n b place k id j held apart same (Hold p stamp read wrote now) h =
    let ne : h.lock ≢ l = λ e. let bad : Some j ≡ Some id = sym (ap (λ (z : Lock). z.holder) h.mine) ∙ (ap (λ (z : ℕ). (locks z).holder) e ∙ held) in apart (cc (bad)) in
    let far : p ≢ o = λ e. let q = one_place S o l f n b h.lock h.first h.count h.bits place (subst (λ (z : ℕ). place_of S z ≡ Some (In h.lock h.first h.count h.bits)) e h.place) in ne (sym q.lock) in
    let q = same p h.lock h.first h.count h.bits h.place far in record {
      lock = h.lock;
      first = h.first;
      count = h.count;
      bits = h.bits;
      place = h.place;
      mine = lock_else locks l k h.lock ne ∙ h.mine;
      reads = λ t. fits_frame words words' h.first h.count read q.0 (h.reads t);
      writes = λ t. let w = h.writes t in (fits_frame words words' h.first h.count now q.0 w.0, w.1, λ i lt. w.2 i lt ∙ ap (part_of h.bits i) (sym q.1));
    }

-- a glance, where stamps do not fall, and a lock that is clean at the same stamp was clean
pub glance_step : (S : Shape) (log : List Entry) (locks locks' : ℕ → Lock) (words : List ℕ)
    → ((l : ℕ) → ((locks l).stamp ≤ (locks' l).stamp) × ((locks' l).stamp ≡ (locks l).stamp → (locks l).stamp < last_stamp → (locks' l).dirty ≡ false → (locks l).dirty ≡ false))
    → (f : Flight) → KnowsGlance S log locks words f → KnowsGlance S log locks' words f
glance_step S log locks locks' words rise Idle h = tt
glance_step S log locks locks' words rise (Hold o stamp read wrote now) h = tt
glance_step S log locks locks' words rise (Glance o stamp read) h =
    let l : ℕ = h.lock in let up = rise l in
    let a : (locks l).stamp ≤ (locks' l).stamp = up.0 in let b : stamp ≤ (locks l).stamp = h.upto in let below : stamp < last_stamp = h.below in record {
      lock = h.lock;
      first = h.first;
      count = h.count;
      bits = h.bits;
      place = h.place;
      even = h.even;
      below = h.below;
      upto = omega arith;
      reads = λ e clean. let e' : stamp ≡ (locks' l).stamp = e in let same : (locks' l).stamp ≡ (locks l).stamp = omega arith in
          h.reads (omega arith) (up.1 same (omega arith) clean);
    }

-- a glance, where an object's lock becomes dirty and its parts change
pub glance_put : (S : Shape) (log : List Entry) (locks : ℕ → Lock) (words words' : List ℕ) (o l f n b : ℕ) → place_of S o ≡ Some (In l f n b) → (k : Lock) → k.dirty ≡ true
    → ((p q g c e : ℕ) → place_of S p ≡ Some (In q g c e) → p ≢ o → (i : ℕ) → i < c → part_in words' g i ≡ part_in words g i) → ((j : ℕ) → (set_lock locks l k j).stamp ≡ (locks j).stamp)
    → (fl : Flight) → KnowsGlance S log locks words fl → KnowsGlance S log (set_lock locks l k) words' fl
glance_put S log locks words words' o l f n b place k dirty same stamps Idle h = tt
glance_put S log locks words words' o l f n b place k dirty same stamps (Hold p stamp read wrote now) h = tt
glance_put S log locks words words' o l f n b place k dirty same stamps (Glance p stamp read) h = record {
  lock = h.lock;
  first = h.first;
  count = h.count;
  bits = h.bits;
  place = h.place;
  even = h.even;
  below = h.below;
  upto = subst (λ (z : ℕ). stamp ≤ z) (sym (stamps h.lock)) h.upto;
  reads = λ e clean. dite (ℕ_discrete h.lock l)
      (λ here. let bad : true ≡ false = sym dirty ∙ (sym (ap (λ (z : Lock). z.dirty) (lock_here locks l k h.lock here)) ∙ clean) in absurd cc)
      (λ ne. let far : p ≢ o = λ is. let u = one_place S o l f n b h.lock h.first h.count h.bits place (subst (λ (z : ℕ). place_of S z ≡ Some (In h.lock h.first h.count h.bits)) is h.place) in ne (sym u.lock) in
      fits_frame words words' h.first h.count read (same p h.lock h.first h.count h.bits h.place far) (h.reads (e ∙ stamps h.lock) (sym (ap (λ (z : Lock). z.dirty) (lock_else locks l k h.lock ne)) ∙ clean)));
}

-- no glance speaks of the history
pub glance_log : (S : Shape) (log log' : List Entry) (locks : ℕ → Lock) (words : List ℕ) (fl : Flight) → KnowsGlance S log locks words fl → KnowsGlance S log' locks words fl
glance_log S log log' locks words Idle h = tt
glance_log S log log' locks words (Hold o stamp read wrote now) h = tt
glance_log S log log' locks words (Glance o stamp read) h = record { lock = h.lock; first = h.first; count = h.count; bits = h.bits; place = h.place; even = h.even; below = h.below; upto = h.upto; reads = h.reads }

-- ---- lists of parts

pub fits_more : (words : List ℕ) (f n : ℕ) (parts : List (ℕ × ℕ)) (i m : ℕ) → Fits words f n parts → part_in words f i ≡ m → Fits words f n ((i, m) ∷ parts)
fits_more words f n parts i m h e k z lt look = dite (ℕ_discrete k i)
    (λ is. let a : Some m ≡ Some z = sym (ap (λ (b : Bool). if b then Some m else look_up k parts) (eq-eqb k i is)) ∙ look in ap (part_in words f) is ∙ (e ∙ cc (a)))
    (λ ne. h k z lt (sym (ap (λ (b : Bool). if b then Some m else look_up k parts) (ne_eqb k i ne)) ∙ look))

pub has_more : (n : ℕ) (parts : List (ℕ × ℕ)) (i m : ℕ) → HasAll n parts → HasAll n ((i, m) ∷ parts)
has_more n parts i m h k lt = go (k == i) (h k lt)
  where
    go : (b : Bool) → look_up k parts ≡ Some (got parts k) → (if b then Some m else look_up k parts) ≡ Some (or_zero (if b then Some m else look_up k parts))
    go true e = refl
    go false e = e

-- parts that are all known are those of the words
pub fits_parts : (words : List ℕ) (f n : ℕ) (parts : List (ℕ × ℕ)) → Fits words f n parts → HasAll n parts → (i : ℕ) → i < n → part_in words f i ≡ got parts i
fits_parts words f n parts h all i lt = h i (got parts i) lt (all i lt)

pub fits_are : (bits : ℕ) (words : List ℕ) (f n v : ℕ) (parts : List (ℕ × ℕ)) → Fits words f n parts → HasAll n parts → AreParts bits n (part_in words f) v → AreParts bits n (got parts) v
fits_are bits words f n v parts h all are i lt = sym (fits_parts words f n parts h all i lt) ∙ are i lt

-- what a hold knows of the parts as they are
pub base_of : (S : Shape) (log : List Entry) (words : List ℕ) (o f n b : ℕ) (read now : List (ℕ × ℕ)) (wrote : Bool)
    → (wrote ≡ true → Fits words f n now × HasAll n now × AreParts b n (got read) (value_after S log o)) → (wrote ≡ false → Fits words f n read) → (wrote ≡ false → AreParts b n (got read) (value_after S log o)) → HasAll n read
    → Fits words f n (parts_now read wrote now) × HasAll n (parts_now read wrote now) × AreParts b n (got read) (value_after S log o)
base_of S log words o f n b read now true w r v all = w refl
base_of S log words o f n b read now false w r v all = (r refl, all, v refl)

pub put_fits : (words : List ℕ) (f n i m : ℕ) (parts : List (ℕ × ℕ)) → data_word (f + i) < length words → Fits words f n parts → Fits (set words (data_word (f + i)) m) f n ((i, m) ∷ parts)
put_fits words f n i m parts lt h k z within look = dite (ℕ_discrete k i)
    (λ is. let a : Some m ≡ Some z = sym (ap (λ (b : Bool). if b then Some m else look_up k parts) (eq-eqb k i is)) ∙ look in
    ap (part_in (set words (data_word (f + i)) m) f) is ∙ (get_or-set_same words (data_word (f + i)) m 0 lt ∙ cc (a)))
    (λ ne. get_or-set_other words (data_word (f + i)) (data_word (f + k)) m 0 (λ e. ne (omega arith)) ∙ h k z within (sym (ap (λ (b : Bool). if b then Some m else look_up k parts) (ne_eqb k i ne)) ∙ look))

-- ---- the stamp that a release stores

pub released_even : (wrote : Bool) (st : ℕ) → st % 2 ≡ 0 → released wrote st % 2 ≡ 0
released_even false st e = e
released_even true st e = go (st == last_stamp)
  where
    go : (b : Bool) → (if b then st else st + 2) % 2 ≡ 0
    go true = e
    go false = omega arith

pub released_up : (wrote : Bool) (st : ℕ) → (st ≤ released wrote st) × (released wrote st ≡ st → st < last_stamp → wrote ≡ false)
released_up false st = (omega arith, λ _ _. refl)
released_up true st = dite (ℕ_discrete st last_stamp)
    (λ e. let same : released true st ≡ st = ap (λ (b : Bool). if b then st else st + 2) (eq-eqb st last_stamp e) in (omega arith, λ _ lt. absurd (omega arith)))
    (λ ne. let more : released true st ≡ st + 2 = ap (λ (b : Bool). if b then st else st + 2) (ne_eqb st last_stamp ne) in (omega arith, λ same _. absurd (omega arith)))

pub released_near : (wrote : Bool) (st : ℕ) → released wrote st ≤ st + 2
released_near false st = omega arith
released_near true st = go (st == last_stamp)
  where
    go : (b : Bool) → (if b then st else st + 2) ≤ st + 2
    go true = omega arith
    go false = omega arith
