-- What is awaited: which item may come, and the state after it.
use Rattle.std.proofs.Common.{◌≡◌, ℕ, ◌+◌, ◌≤◌, eqb, Bool, true, false, ◌&&◌, List, [], ◌∷◌, length, Option, Some, None, Ok, refl, sym, ap, subst, ◌∙◌, arith, ◌⊎◌, inl, inr}
use Rattle.std.specs.Prelude.{codes, slice_get, IsSomeAnd}
use Rattle.std.specs.List.{list_all}
use Rattle.std.specs.Str.{bytes_eq}
use Rattle.std.proofs.lemmas.Bool.{not-true, not-false, and_parts, eqb-true}
use Rattle.line_words.specs.Text.{words_of}
use Rattle.line_words.specs.Cursor.{Cursor}
use Rattle.target_desc.specs.Spelling.{IsTargetText}
use Rattle.place_core.specs.declared.name.Declared.{Declared}
use Rattle.place_core.specs.declared.script.Line.{Line}
use Rattle.place_core.specs.Name.{is_name}
use Rattle.work_lang.specs.declared.fault.Cause.TheVariants as causes
use Rattle.work_lang.specs.declared.item.Item.{Item}
use Rattle.work_lang.specs.declared.item.Item.TheVariants as items
use Rattle.work_lang.specs.declared.item.Awaits.{Awaits}
use Rattle.work_lang.specs.declared.item.Awaits.TheVariants as awaits
use Rattle.work_lang.specs.Slips.{slip, end_at}
use Rattle.place_core.specs.DeclaredObjects.{IsDeclared}
use Rattle.work_lang.specs.Workload.{HasLine, LineFits}
use Rattle.work_lang.specs.Limits.{limits_of}
use Rattle.work_lang.specs.Reading.{State, is_repeat, next, next_if, awaited_at, item_at, first_thread_at, next_thread_at, in_thread_at, call_at, said_by, content_at, after_line, is_comment, is_printable, thread_at}
use Rattle.work_lang.specs.Spelling.{IsSaid, speaks}
use Rattle.work_lang.specs.Kept.{Allowed, IsKept}
use Rattle.work_lang.proofs.Names.{named_again, declared_is_name, name_is_not_end, name_is_not_repeat}
use Rattle.work_lang.proofs.Steps.{end_then, bind_then, chosen, good, ok_is, err_ok, some_is, is_word}
use Rattle.work_lang.proofs.Lines.{version_takes, version_again, target_takes, target_again, object_takes, object_again, thread_takes, thread_again, repeat_takes, repeat_again}
use Rattle.work_lang.proofs.Calls.{call_takes, call_again}
use Rattle.work_lang.proofs.Keeping.{AreObjects, step_kept, next_pieces}
use Rattle.work_lang.proofs.Lists.{all_at}

-- the item that a line with these words was read as
pub record Takes (s : State) (i : Item) (ws : List (List ℕ)) : Type 0 where
  pub allowed : Allowed s i
  pub said : IsSaid s.objects i ws

one_word : (w v : List ℕ) (ws : List (List ℕ)) → w ≡ v → ws ≡ [] → w ∷ ws ≡ v ∷ []
one_word w v ws e f = cc

two_words : (w v u : List ℕ) (ws : List (List ℕ)) → w ≡ v → ws ≡ u ∷ [] → w ∷ ws ≡ v ∷ u ∷ []
two_words w v u ws e f = cc

thread_takes_of : (s : State) (w : List ℕ) (c : Cursor) (i : Item) → ((s.awaits ≡ awaits.Object) ⊎ (s.awaits ≡ awaits.Thread)) → w ≡ codes "thread" → thread_at (length s.scripts) c ≡ Ok i → Takes s i (w ∷ c.left)
thread_takes_of s w c i waits w-is e =
    let t = thread_takes (length s.scripts) c i e in
    let words : w ∷ c.left ≡ codes "thread" ∷ [] = one_word w (codes "thread") c.left w-is t.2 in
    subst (λ (x : Item). Takes s x (w ∷ c.left)) t.0 (record { allowed = (waits, t.1); said = words })

by_awaits : (a : Awaits) (s : State) (w : List ℕ) (c : Cursor) (i : Item) → IsKept s → s.awaits ≡ a → awaited_at a s w c ≡ Ok i → Takes s i (w ∷ c.left)
unfolding first_thread_at next_thread_at in_thread_at
by_awaits awaits.Version s w c i k a e =
    let t = version_takes s.objects w c i e in
    subst (λ (x : Item). Takes s x (w ∷ c.left)) t.1 (record { allowed = (a, t.2); said = t.3 })
by_awaits awaits.Target s w c i k a e =
    let t = target_takes s.version w c i e in
    subst (λ (x : Item). Takes s x (w ∷ c.left)) t.1 (record { allowed = (a, t.3.target, t.3.of_version); said = (c.left, t.3.said, ap (λ (v : List ℕ). v ∷ c.left) t.2) })
by_awaits awaits.Object s w c i k a e =
    elim (chosen (bytes_eq w (codes "object")) _ _ (Ok i) e) [
      | inl p ↦
          let t = object_takes (limits_of s.version).objects s.objects c i p.1 in
          let w-is : codes "object" ≡ w = sym (is_word _ _ p.0) in
          subst (λ (x : Item). Takes s x (w ∷ c.left)) t.1 (record { allowed = (a, t.2.few, t.2.is_name, t.2.new, t.2.object); said = subst (λ (v : List ℕ). IsSaid s.objects (items.Object t.0) (v ∷ c.left)) w-is t.2.said })
      | inr p ↦ elim (chosen (bytes_eq w (codes "thread")) _ _ (Ok i) p.1) [
        | inl q ↦ thread_takes_of s w c i (inl a) (is_word _ _ q.0) q.1
        | inr q ↦ absurd (err_ok q.1)
      ]
    ]
by_awaits awaits.Thread s w c i k a e =
    elim (chosen (bytes_eq w (codes "thread")) _ _ (Ok i) e) [
      | inl q ↦ thread_takes_of s w c i (inr a) (is_word _ _ q.0) q.1
      | inr q ↦ absurd (err_ok q.1)
    ]
by_awaits awaits.Call s w c i k a e =
    elim (chosen (bytes_eq w (codes "end")) _ _ (Ok i) e) [
      | inl q ↦
          let f = end_then c _ i q.1 in
          let words : w ∷ c.left ≡ codes "end" ∷ [] = one_word w (codes "end") c.left (is_word _ _ q.0) f.0 in
          subst (λ (x : Item). Takes s x (w ∷ c.left)) (ok_is _ _ f.1) (record { allowed = a; said = words })
      | inr q ↦ elim (chosen (is_repeat s.version w) _ _ (Ok i) q.1) [
        | inl p ↦
            let t = repeat_takes s.block c i p.1 in
            let both = and_parts (eqb s.version 2) (bytes_eq w (codes "repeat:")) p.0 in
            subst (λ (x : Item). Takes s x (w ∷ c.left)) t.1 (record { allowed = (a, eqb-true _ _ both.0, t.2.none, t.2.some, t.2.few); said = (t.2.said.0, t.2.said.1, two_words w (codes "repeat:") t.2.said.0 c.left (is_word _ _ both.1) t.2.said.2) })
        | inr p ↦
            let t = call_takes s w c i k.objects p.1 in
            subst (λ (x : Item). Takes s x (w ∷ c.left)) t.1 (record { allowed = (a, t.2.room, t.2.stands); said = t.2.said })
      ]
    ]

pub item_takes : (s : State) (w : List ℕ) (c : Cursor) (i : Item) → IsKept s → item_at s w c ≡ Ok i → Takes s i (w ∷ c.left)
unfolding item_at
item_takes s w c i k e = by_awaits s.awaits s w c i k refl e

-- ---- and back

line_has : (objects : List Declared) (l : Line) (d : Declared) → slice_get objects l.object ≡ Some d → LineFits objects l → HasLine l d
line_has objects l d e h = subst (λ (o : Option Declared). IsSomeAnd o (HasLine l)) e h

never : (a b : Bool) → b ≡ false → (a && b) ≡ false
never true b e = e
never false b e = refl

pub item_again : (s : State) (w : List ℕ) (ws : List (List ℕ)) (i : Item) → AreObjects s.objects → Takes s i (w ∷ ws) → item_at s w (record { taken = 1; left = ws }) ≡ Ok i
unfolding item_at first_thread_at next_thread_at in_thread_at end_at call_at
item_again s w ws (items.Version version) ok t =
    let e = t.said.2 in
    let w-is : w ≡ codes "work" = cc in
    let ws-is : ws ≡ t.said.0 ∷ [] = cc in
    rw (t.allowed.0, w-is) (version_again (record { taken = 1; left = ws }) t.said.0 version t.said.1 ws-is)
item_again s w ws (items.Target x) ok t =
    let e = t.said.2 in
    let w-is : w ≡ codes "target" = cc in
    let ws-is : t.said.0 ≡ ws = cc in
    rw (t.allowed.0, w-is) (target_again s.version (record { taken = 1; left = ws }) x t.allowed.2 (subst (λ (v : List (List ℕ)). IsTargetText 2 v x) ws-is t.said.1))
item_again s w ws (items.Object d) ok t =
    let e = t.said.4 in
    let w-is : w ≡ codes "object" = cc in
    let ws-is : ws ≡ d.name ∷ t.said.0 ∷ t.said.1 ∷ [] = cc in
    rw (t.allowed.0, w-is, ws-is) (object_again (limits_of s.version).objects s.objects d t.said.0 t.said.1 1 t.allowed.1 t.allowed.2 t.allowed.3 t.said.2 t.said.3)
item_again s w ws items.Thread ok t =
    let e = t.said in
    let w-is : w ≡ codes "thread" = cc in
    let ws-is : ws ≡ [] = cc in
    rw (w-is, ws-is) (thread_by t.allowed.0)
  where
    thread_by : ((s.awaits ≡ awaits.Object) ⊎ (s.awaits ≡ awaits.Thread)) → item_at s (codes "thread") (record { taken = 1; left = [] }) ≡ Ok items.Thread
    thread_by (inl a) = rw a (thread_again (length s.scripts) 1 t.allowed.1)
    thread_by (inr a) = rw a (thread_again (length s.scripts) 1 t.allowed.1)
item_again s w ws (items.Repeat times) ok t =
    let e = t.said.2 in
    let w-is : w ≡ codes "repeat:" = cc in
    let ws-is : ws ≡ t.said.0 ∷ [] = cc in
    rw (t.allowed.0, t.allowed.1, w-is, ws-is) (repeat_again s.block times 1 t.said.0 t.allowed.2 t.allowed.3 t.said.1)
item_again s w ws (items.Call l) ok t =
    let d = t.said.0 in
    let e = t.said.6 in
    let w-is : w ≡ d.name = cc in
    let name : is_name d.name ≡ true = declared_is_name [] s.objects ok.names l.object d t.said.1 in
    let not_end : bytes_eq w (codes "end") ≡ false = rw w-is (name_is_not_end d.name name) in
    let not_repeat : is_repeat s.version w ≡ false = rw w-is (never (eqb s.version 2) _ (name_is_not_repeat d.name name)) in
    rw (t.allowed.0, not_end, not_repeat) (call_again s l d 1 w ws t.allowed.1 (all_at IsDeclared s.objects l.object d ok.each t.said.1).0 (line_has s.objects l d t.said.1 t.allowed.2.0) t.allowed.2.1 t.said.1 (named_again [] s.objects ok.names l.object d t.said.1 ∙ ap (λ (n : ℕ). Some n) (omega arith)) t.said.2 t.said.3 t.said.4 t.said.5 e)
item_again s w ws items.End ok t =
    let e = t.said in
    let w-is : w ≡ codes "end" = cc in
    let ws-is : ws ≡ [] = cc in
    rw (t.allowed, w-is, ws-is) refl

-- ---- lines

pub record LineTakes (s : State) (line : List ℕ) (t : State) : Type 0 where
  pub printable : list_all is_printable line ≡ true
  pub said : ((speaks (words_of line) ≡ false) × (s ≡ t)) ⊎ ((i : Item) × (speaks (words_of line) ≡ true) × Takes s i (words_of line) × (next s i ≡ t))

said_takes : (s : State) (ws : List (List ℕ)) (o : Option Item) → IsKept s → said_by s ws ≡ Ok o → ((speaks ws ≡ false) × (s ≡ next_if s o)) ⊎ ((i : Item) × (speaks ws ≡ true) × Takes s i ws × (next s i ≡ next_if s o))
said_takes s [] o k e = inl (refl, ap (next_if s) (ok_is None o e))
said_takes s (w ∷ ws) o k e =
    elim (chosen (is_comment w) _ _ (Ok o) e) [
      | inl p ↦ inl (rw p.0 refl, ap (next_if s) (ok_is None o p.1))
      | inr p ↦
          let i = bind_then (item_at s w (record { taken = 1; left = ws })) _ o p.1 in
          inr (i.0, rw p.0 refl, item_takes s w (record { taken = 1; left = ws }) i.0 k i.1, ap (next_if s) (ok_is (Some i.0) o i.2))
    ]

pub line_takes : (s : State) (line : List ℕ) (t : State) → IsKept s → after_line s line ≡ Ok t → LineTakes s line t
unfolding after_line content_at
line_takes s line t k e =
    let o = bind_then (content_at s line) _ t e in
    elim (chosen (list_all is_printable line) (said_by s (words_of line)) (slip 0 causes.NotAscii) (Ok o.0) o.1) [
      | inl p ↦
          let t-is : next_if s o.0 ≡ t = ok_is _ _ o.2 in
          record { printable = p.0; said = subst (λ (x : State). ((speaks (words_of line) ≡ false) × (s ≡ x)) ⊎ ((i : Item) × (speaks (words_of line) ≡ true) × Takes s i (words_of line) × (next s i ≡ x))) t-is (said_takes s (words_of line) o.0 k p.1) }
      | inr p ↦ absurd (err_ok p.1)
    ]

said_again : (s : State) (ws : List (List ℕ)) (i : Item) → AreObjects s.objects → speaks ws ≡ true → Takes s i ws → said_by s ws ≡ Ok (Some i)
said_again s [] i ok speaking t = absurd cc
said_again s (w ∷ ws) i ok speaking t = rw (not-true (is_comment w) speaking, item_again s w ws i ok t) refl

said_nothing : (s : State) (ws : List (List ℕ)) → speaks ws ≡ false → said_by s ws ≡ Ok None
said_nothing s [] silent = refl
said_nothing s (w ∷ ws) silent = rw (not-false (is_comment w) silent) refl

pub line_again : (s : State) (line : List ℕ) (i : Item) → AreObjects s.objects → list_all is_printable line ≡ true → speaks (words_of line) ≡ true → Takes s i (words_of line) → after_line s line ≡ Ok (next s i)
unfolding after_line content_at
line_again s line i ok printable speaking t = rw (printable, said_again s (words_of line) i ok speaking t) refl

pub line_passed : (s : State) (line : List ℕ) → list_all is_printable line ≡ true → speaks (words_of line) ≡ false → after_line s line ≡ Ok s
unfolding after_line content_at
line_passed s line printable silent = rw (printable, said_nothing s (words_of line) silent) refl

-- what a line says may come
pub content_allowed : (s : State) (line : List ℕ) (i : Item) → IsKept s → content_at s line ≡ Ok (Some i) → Allowed s i
unfolding content_at
content_allowed s line i k e =
    elim (chosen (list_all is_printable line) (said_by s (words_of line)) (slip 0 causes.NotAscii) (Ok (Some i)) e) [
      | inl p ↦ by_said (words_of line) p.1
      | inr p ↦ absurd (err_ok p.1)
    ]
  where
    none_some : good None ≡ good (Some i) → ⊥
    none_some e = cc

    by_said : (ws : List (List ℕ)) → said_by s ws ≡ Ok (Some i) → Allowed s i
    by_said [] e = absurd cc
    by_said (w ∷ ws) e =
        elim (chosen (is_comment w) _ _ (Ok (Some i)) e) [
          | inl q ↦ absurd (none_some q.1)
          | inr q ↦
              let x = bind_then (item_at s w (record { taken = 1; left = ws })) _ (Some i) q.1 in
              subst (λ (y : Item). Allowed s y) (some_is x.0 i (ok_is (Some x.0) (Some i) x.2)) (item_takes s w (record { taken = 1; left = ws }) x.0 k x.1).allowed
        ]

pub said_ok : {o p : Option Item} → o ≡ p → good o ≡ good p
said_ok e = ap good e

-- a line keeps what is kept
pub line_kept : (s : State) (line : List ℕ) (t : State) → IsKept s → after_line s line ≡ Ok t → IsKept t
line_kept s line t k e = by (line_takes s line t k e).said
  where
    by : ((speaks (words_of line) ≡ false) × (s ≡ t)) ⊎ ((i : Item) × (speaks (words_of line) ≡ true) × Takes s i (words_of line) × (next s i ≡ t)) → IsKept t
    by (inl h) = subst IsKept h.1 k
    by (inr h) = subst IsKept h.3 (step_kept s h.0 k h.2.allowed)

-- a line adds one piece at most
pub line_pieces : (s : State) (line : List ℕ) (t : State) → IsKept s → after_line s line ≡ Ok t → length t.pieces ≤ length s.pieces + 1
line_pieces s line t k e = by (line_takes s line t k e).said
  where
    by : ((speaks (words_of line) ≡ false) × (s ≡ t)) ⊎ ((i : Item) × (speaks (words_of line) ≡ true) × Takes s i (words_of line) × (next s i ≡ t)) → length t.pieces ≤ length s.pieces + 1
    by (inl h) = omega (arith, ap (λ (x : State). length x.pieces) h.1)
    by (inr h) = omega (arith, next_pieces s h.0, ap (λ (x : State). length x.pieces) h.3)
