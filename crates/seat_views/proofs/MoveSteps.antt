-- Giving a pass, taking one back, notes, and the end of a glance keep the rule.
use Rattle.std.proofs.Common.{◌≡◌, ℕ, ◌+◌, List, [], ◌∷◌, ◌++◌, length, set, refl, sym, ◌∙◌, subst, arith, Option}
use Rattle.std.proofs.lemmas.List.{set-get_or}
use mathlib.Core.Option.{some}
use lib.ListN.{get_elem?}
use Rattle.atomic_table.specs.Table.{State, Me, keeps, Allows, Splits, Joins}
use Rattle.place_core.specs.declared.entry.Entry.{Entry}
use Rattle.place_core.specs.declared.shape.Shape.{Shape}
use Rattle.place_core.specs.Passes.{owner_given, owner_gone}
use Rattle.place_core.proofs.EntryLists.{CallersWithin-weaken, made_by-new, all_map}
use Rattle.place_core.proofs.Seats.{set_other}
use Rattle.seat_views.specs.declared.view.Opening.{Opening}
use Rattle.seat_views.specs.declared.view.Role.TheVariants as role
use Rattle.seat_views.specs.declared.view.Beside.{Beside}
use Rattle.seat_views.specs.declared.view.Beside.TheVariants as beside
use Rattle.seat_views.specs.declared.view.Flight.{Flight}
use Rattle.seat_views.specs.declared.view.Flight.TheVariants.{Idle, Hold, Glance}
use Rattle.seat_views.specs.declared.view.Item.{Item}
use Rattle.seat_views.specs.declared.view.View.{View}
use Rattle.seat_views.specs.Rule.{spent_view, caller_of, History, HoldsUnder, ArenaHolds}
use Rattle.seat_views.specs.Steps.{IsSoundView}
use Rattle.seat_views.specs.LockSteps.{IsGlance}
use Rattle.seat_views.specs.Moves.{giver, newcomer, joining, taken_back, TakesFrom, back_tells, noting, note_view, meeting, met, HearsFrom, meet_tells, dropped}
use Rattle.seat_views.proofs.Frames.{Flights, all_same, flights_of, flights_set, flights_same, flights_split, flights_join, parts_frame, glances_frame}
use Rattle.seat_views.proofs.StampFacts.{under_same}
use Rattle.seat_views.proofs.Histories.{history_same, history_gives, history_notes, history_joins, history_meets, history_learns, history_hears, sound_set}

-- the rule where no word changed and no entry was made
rests : (k : Opening) (s : State (Unit {0}) View) (r : ArenaHolds k s) (count : ℕ) (owner : ℕ → Option ℕ) (views : List View) → History k.shape r.log count owner views → Flights k.shape r.log r.locks s.words views
    → ArenaHolds k record { words = s.words; homes = s.homes; views = views }
rests k s r count owner views h f = record {
  log = r.log;
  count = count;
  owner = owner;
  locks = r.locks;
  history = h;
  lanes = r.lanes;
  parts = parts_frame k.shape k.first_stamp r.log r.locks s.words s.views r.parts r.glances r.log s.words (all_same k.shape r.log s.words) views f (λ l lt. refl) (under_same k.shape r.log);
  glances = glances_frame k.shape k.first_stamp r.log r.locks s.words s.views r.parts r.glances r.log s.words (all_same k.shape r.log s.words) views f;
}

old_flights : (k : Opening) (s : State (Unit {0}) View) (r : ArenaHolds k s) → Flights k.shape r.log r.locks s.words s.views
old_flights k s r = flights_of k.shape k.first_stamp r.log r.locks s.words s.views r.parts r.glances

-- the root gives a number
pub gives : (k : Opening) (id : ℕ) (v : View) → v.role ≡ role.Pass → v.number ≡ 0 → Splits (ArenaHolds k) id v (giver v) (newcomer v)
gives k id v is zero_is s r at = rests k s r (r.count + 1) (owner_given r.owner (r.count + 1) (length (set s.views id (giver v)))) (set s.views id (giver v) ++ newcomer v ∷ [])
    (history_gives k.shape r.log r.count r.owner s.views r.history id v at is zero_is)
    (flights_split k.shape r.log r.locks s.words s.views (old_flights k s r) id v at (giver v) refl (newcomer v) refl)

-- a pass is kept beside the root's view, and its own view is spent
pub joins : (k : Opening) (id : ℕ) (v : View) (other : ℕ) (e : View) → v.role ≡ role.Pass → v.number ≡ 0 → v.beside ≡ beside.Nobody → e.role ≡ role.Pass → e.beside ≡ beside.Nobody → e.flight ≡ Idle
    → Joins (ArenaHolds k) id v other e (joining v e) spent_view
joins k id v other e is zero_is alone too empty idle s r at apart there =
    let there' : get_elem? s.views other ≡ some e = sym (set_other s.views id other (joining v e) apart) ∙ there in
    rests k s r r.count (owner_gone r.owner e.number) (set (set s.views id (joining v e)) other spent_view)
    (history_joins k.shape r.log r.count r.owner s.views r.history id v at is other e apart there' alone too empty zero_is)
    (flights_join k.shape r.log r.locks s.words s.views (old_flights k s r) id v at (joining v e) refl other e spent_view apart there' idle refl)

-- the load that follows compares the two histories
pub learns : (k : Opening) (slots id : ℕ) (m : Me (Unit {0}) View) (n : ℕ) (seen mine : List Entry) (trail : List Item) (aside : ℕ) → m.0.role ≡ role.Pass → m.0.beside ≡ beside.Pass n seen mine trail aside
    → Allows (ArenaHolds k) slots id m 0 (λ x. x) (λ _ w. back_tells m w)
learns k slots id m n seen mine trail aside is held s r _ at _ =
    let v : View = m.0 in
    let w : View = taken_back v n seen mine trail aside in
    let h = history_learns k.shape r.log r.count r.owner s.views r.history id v at is n seen mine trail aside held in (
      w,
      keeps,
      tt,
      subst (λ (ws : List ℕ). ArenaHolds k record { words = ws; homes = s.homes; views = set s.views id w }) (sym (set-get_or s.words 0 0))
          (rests k s r r.count r.owner (set s.views id w) h.0 (flights_same k.shape r.log r.locks s.words s.views (old_flights k s r) id v at w refl)),
      (
        refl,
        subst (λ (z : Beside). TakesFrom z v w) (sym held) record { now = refl; old = h.1; other = h.2; sound = sound_set k.shape r.log r.count r.owner s.views id v w at h.0 is },
      ),
    )

-- a note of all that was seen
pub notes : (k : Opening) (id : ℕ) (v : View) → v.role ≡ role.Pass → Splits (ArenaHolds k) id v (noting v) (note_view v)
notes k id v is s r at = rests k s r r.count r.owner (set s.views id (noting v) ++ note_view v ∷ [])
    (history_notes k.shape r.log r.count r.owner s.views r.history id v at is)
    (flights_split k.shape r.log r.locks s.words s.views (old_flights k s r) id v at (noting v) refl (note_view v) refl)

-- a note is kept beside the pass's view, and its own view is spent
pub meets : (k : Opening) (id : ℕ) (v : View) (other : ℕ) (e : View) → v.role ≡ role.Pass → v.beside ≡ beside.Nobody → e.role ≡ role.Note → e.flight ≡ Idle → Joins (ArenaHolds k) id v other e (meeting v e) spent_view
meets k id v other e is alone too idle s r at apart there =
    let there' : get_elem? s.views other ≡ some e = sym (set_other s.views id other (meeting v e) apart) ∙ there in
    rests k s r r.count r.owner (set (set s.views id (meeting v e)) other spent_view)
    (history_meets k.shape r.log r.count r.owner s.views r.history id v at is other e apart there' alone too)
    (flights_join k.shape r.log r.locks s.words s.views (old_flights k s r) id v at (meeting v e) refl other e spent_view apart there' idle refl)

pub hears : (k : Opening) (slots id : ℕ) (m : Me (Unit {0}) View) (seen : List Entry) → m.0.role ≡ role.Pass → m.0.beside ≡ beside.Note seen → Allows (ArenaHolds k) slots id m 0 (λ x. x) (λ _ w. meet_tells m w)
hears k slots id m seen is held s r _ at _ =
    let v : View = m.0 in
    let w : View = met v seen in
    let h = history_hears k.shape r.log r.count r.owner s.views r.history id v at is seen held in (
      w,
      keeps,
      tt,
      subst (λ (ws : List ℕ). ArenaHolds k record { words = ws; homes = s.homes; views = set s.views id w }) (sym (set-get_or s.words 0 0))
          (rests k s r r.count r.owner (set s.views id w) h.0 (flights_same k.shape r.log r.locks s.words s.views (old_flights k s r) id v at w refl)),
      (
        refl,
        subst (λ (z : Beside). HearsFrom z v w) (sym held) record { now = refl; old = h.1; other = h.2; sound = sound_set k.shape r.log r.count r.owner s.views id v w at h.0 is },
      ),
    )

-- a glance holds nothing
glance_holds_none : (S : Shape) (f : Flight) → IsGlance f → (l : ℕ) → HoldsUnder S l f → HoldsUnder S l Idle
glance_holds_none S Idle g l h = absurd g
glance_holds_none S (Glance o stamp read) g l h = absurd h
glance_holds_none S (Hold o stamp read wrote now) g l h = absurd g

-- a glance is dropped
pub drops : (k : Opening) (slots id : ℕ) (m : Me (Unit {0}) View) → IsGlance m.0.flight → Allows (ArenaHolds k) slots id m 0 (λ x. x) (λ _ w. (w.1 ≡ m.1) × (w.0 ≡ dropped m.0))
drops k slots id m glance s r _ at _ =
    let v : View = m.0 in
    let w : View = dropped v in
    let h = r.history in (
      w,
      keeps,
      tt,
      subst (λ (ws : List ℕ). ArenaHolds k record { words = ws; homes = s.homes; views = set s.views id w }) (sym (set-get_or s.words 0 0))
          (rests k s r r.count r.owner (set s.views id w) (history_same k.shape r.log r.count r.owner s.views h id v at w refl (h.shapes id v at))
          (flights_set k.shape r.log r.locks s.words s.views (old_flights k s r) id v at w tt tt (glance_holds_none k.shape v.flight glance))),
      (refl, refl),
    )

-- ---- sound views

pub giver_sound : (v : View) → IsSoundView v → IsSoundView (giver v)
giver_sound v h = record {
  role = h.role;
  legal = h.legal;
  own = h.own;
  root = λ z. let r = h.root z in record {
    callers = CallersWithin-weaken caller_of v.given (v.given + 1) v.seen (omega arith) r.callers;
    back = all_map _ _ v.ended (λ e f. let within = f.within in record { from_one = f.from_one; within = omega arith; own = f.own }) r.back;
    once = r.once;
  };
}

pub newcomer_sound : (v : View) → IsSoundView v → v.number ≡ 0 → IsSoundView (newcomer v)
newcomer_sound v h z = let r = h.root z in record {
  role = refl;
  legal = h.legal;
  own = made_by-new caller_of v.given (v.given + 1) v.seen r.callers (omega arith);
  root = λ bad. absurd (omega arith);
}
