-- The items from the start to the end of a text are those of the workload.
use Rattle.std.proofs.Common.{◌≡◌, ℕ, List, [], ◌∷◌, ◌++◌, map, Option, Some, None, Result, Ok, refl, sym, ap, subst, ◌∙◌, ◌⊎◌, inl, inr, append_assoc}
use Rattle.std.specs.List.{flat_map}
use Rattle.std.proofs.lemmas.List.{append-nil, map_push}
use Rattle.std.proofs.lemmas.List.Concat.{flat_map-append}
use Rattle.place_core.specs.declared.name.Declared.{Declared}
use Rattle.place_core.specs.declared.script.Line.{Line}
use Rattle.place_core.specs.declared.script.Piece.{Piece}
use Rattle.place_core.specs.declared.script.Piece.TheVariants.{One, Block}
use Rattle.work_lang.specs.declared.item.OpenBlock.{OpenBlock}
use Rattle.work_lang.specs.declared.item.Item.{Item}
use Rattle.work_lang.specs.declared.item.Item.TheVariants as items
use Rattle.work_lang.specs.declared.item.Awaits.{Awaits}
use Rattle.work_lang.specs.declared.item.Awaits.TheVariants as awaits
use Rattle.work_lang.specs.Workload.{Workload, IsWork}
use Rattle.work_lang.specs.Reading.{State, Fault, with_line, closed, next, work_of, ended}
use Rattle.work_lang.specs.Spelling.{IsSaid, Pairs, piece_items, thread_items, items_of}
use Rattle.work_lang.specs.Kept.{Allowed, IsKept}
use Rattle.work_lang.proofs.Scripts.{pieces_with, block_with}
use Rattle.work_lang.proofs.Keeping.{line_state, thread_closed, block_closed, block_is, at_awaits, step_kept, work_kept}
use Rattle.work_lang.proofs.Walks.{Walk}

-- the items of whole threads
abbrev pub head_items : State → List Item
head_items s = items.Version s.version ∷ items.Target s.target ∷ (map items.Object s.objects ++ flat_map thread_items s.scripts)

-- the items of a block that is open
abbrev pub block_items : Option OpenBlock → List Item
block_items None = []
block_items (Some block) = items.Repeat block.times ∷ map items.Call block.lines

-- the items of a thread that is open
abbrev pub open_items : List Piece → Option OpenBlock → List Item
open_items pieces block = items.Thread ∷ (flat_map piece_items pieces ++ block_items block)

-- what the lines so far said
abbrev pub said_by_then : Awaits → State → List Item
said_by_then awaits.Version s = []
said_by_then awaits.Target s = items.Version s.version ∷ []
said_by_then awaits.Object s = head_items s
said_by_then awaits.Thread s = head_items s
said_by_then awaits.Call s = head_items s ++ open_items s.pieces s.block

-- a piece more
items_push : (pieces : List Piece) (p : Piece) → flat_map piece_items (pieces ++ p ∷ []) ≡ flat_map piece_items pieces ++ piece_items p
items_push pieces p = flat_map-append piece_items pieces (p ∷ []) ∙ ap (λ (is : List Item). flat_map piece_items pieces ++ is) (append-nil (piece_items p))

line_said : (pieces : List Piece) (l : Line) (b : Option OpenBlock) → open_items (pieces_with pieces l b) (block_with l b) ≡ open_items pieces b ++ items.Call l ∷ []
line_said pieces l None =
    ap (λ (is : List Item). items.Thread ∷ is) (append-nil (flat_map piece_items (pieces ++ One l ∷ [])) ∙ items_push pieces (One l) ∙ ap (λ (is : List Item). is ++ items.Call l ∷ []) (sym (append-nil (flat_map piece_items pieces))))
line_said pieces l (Some b) =
    ap (λ (is : List Item). items.Thread ∷ (flat_map piece_items pieces ++ items.Repeat b.times ∷ is)) (map_push items.Call b.lines l)
    ∙ ap (λ (is : List Item). items.Thread ∷ is) (sym (append_assoc (flat_map piece_items pieces) (items.Repeat b.times ∷ map items.Call b.lines) (items.Call l ∷ [])))

-- a block that is closed
block_said : (pieces : List Piece) (b : OpenBlock) → open_items (pieces ++ Block b.times b.lines ∷ []) None ≡ open_items pieces (Some b) ++ items.End ∷ []
block_said pieces b =
    ap (λ (is : List Item). items.Thread ∷ is) (append-nil (flat_map piece_items (pieces ++ Block b.times b.lines ∷ [])) ∙ items_push pieces (Block b.times b.lines) ∙ sym (append_assoc (flat_map piece_items pieces) (items.Repeat b.times ∷ map items.Call b.lines) (items.End ∷ [])))

-- a thread that is closed
thread_said : (s : State) → head_items (record s { awaits = awaits.Thread; scripts = s.scripts ++ s.pieces ∷ []; pieces = []; block = None }) ≡ (head_items s ++ open_items s.pieces None) ++ items.End ∷ []
thread_said s = simp (flat_map-append, append_assoc, append-nil)

end_said : (s : State) → (s.block ≡ None) ⊎ ((b : OpenBlock) × (s.block ≡ Some b)) → s.awaits ≡ awaits.Call → said_by_then (closed s s.block).awaits (closed s s.block) ≡ said_by_then s.awaits s ++ items.End ∷ []
end_said s (inl none) a =
    ap (λ (x : State). said_by_then x.awaits x) (thread_closed s none) ∙ thread_said s ∙ ap (λ (b : Option OpenBlock). (head_items s ++ open_items s.pieces b) ++ items.End ∷ []) (sym none) ∙ ap (λ (x : Awaits). said_by_then x s ++ items.End ∷ []) (sym a)
end_said s (inr b) a =
    ap (λ (x : State). said_by_then x.awaits x) (block_closed s b.0 b.1)
    ∙ ap (λ (x : Awaits). said_by_then x (record s { pieces = s.pieces ++ Block b.0.times b.0.lines ∷ []; block = None })) a
    ∙ ap (λ (is : List Item). head_items s ++ is) (block_said s.pieces b.0)
    ∙ sym (append_assoc (head_items s) (open_items s.pieces (Some b.0)) (items.End ∷ []))
    ∙ ap (λ (x : Option OpenBlock). (head_items s ++ open_items s.pieces x) ++ items.End ∷ []) (sym b.1)
    ∙ ap (λ (x : Awaits). said_by_then x s ++ items.End ∷ []) (sym a)

repeat_said : (s : State) (times : ℕ) → s.awaits ≡ awaits.Call → s.block ≡ None → said_by_then s.awaits (next s (items.Repeat times)) ≡ said_by_then s.awaits s ++ items.Repeat times ∷ []
repeat_said s times a none =
    ap (λ (x : Awaits). said_by_then x (next s (items.Repeat times))) a
    ∙ ap (λ (is : List Item). head_items s ++ items.Thread ∷ (is ++ items.Repeat times ∷ [])) (sym (append-nil (flat_map piece_items s.pieces)))
    ∙ sym (append_assoc (head_items s) (open_items s.pieces None) (items.Repeat times ∷ []))
    ∙ ap (λ (x : Option OpenBlock). (head_items s ++ open_items s.pieces x) ++ items.Repeat times ∷ []) (sym none)
    ∙ ap (λ (x : Awaits). said_by_then x s ++ items.Repeat times ∷ []) (sym a)

call_said : (s : State) (l : Line) → s.awaits ≡ awaits.Call → said_by_then (with_line s l s.block).awaits (with_line s l s.block) ≡ said_by_then s.awaits s ++ items.Call l ∷ []
call_said s l a =
    ap (λ (x : State). said_by_then x.awaits x) (line_state s l s.block refl)
    ∙ ap (λ (x : Awaits). said_by_then x (record s { pieces = pieces_with s.pieces l s.block; block = block_with l s.block })) a
    ∙ ap (λ (is : List Item). head_items s ++ is) (line_said s.pieces l s.block)
    ∙ sym (append_assoc (head_items s) (open_items s.pieces s.block) (items.Call l ∷ []))
    ∙ ap (λ (x : Awaits). said_by_then x s ++ items.Call l ∷ []) (sym a)

step_said : (s : State) (i : Item) → IsKept s → Allowed s i → said_by_then (next s i).awaits (next s i) ≡ said_by_then s.awaits s ++ i ∷ []
step_said s (items.Version version) k a = rw a.0 refl
step_said s (items.Target t) k a =
    let h = at_awaits s awaits.Target a.0 k in
    rw (a.0, h.0, h.1) refl
step_said s (items.Object d) k a =
    let h = at_awaits s awaits.Object a.0 k in
    rw (a.0, h.0) (ap (λ (is : List Item). items.Version s.version ∷ items.Target s.target ∷ is) (append-nil (map items.Object (s.objects ++ d ∷ [])) ∙ map_push items.Object s.objects d ∙ ap (λ (is : List Item). is ++ items.Object d ∷ []) (sym (append-nil (map items.Object s.objects)))))
step_said s items.Thread k a = by a.0
  where
    by : ((s.awaits ≡ awaits.Object) ⊎ (s.awaits ≡ awaits.Thread)) → said_by_then awaits.Call s ≡ said_by_then s.awaits s ++ items.Thread ∷ []
    by (inl e) = rw (e, (at_awaits s awaits.Object e k).1.0, (at_awaits s awaits.Object e k).1.1) refl
    by (inr e) = rw (e, (at_awaits s awaits.Thread e k).0, (at_awaits s awaits.Thread e k).1) refl
step_said s (items.Repeat times) k a = repeat_said s times a.0 a.2
step_said s (items.Call l) k a = call_said s l a.0
step_said s items.End k a = end_said s (block_is s.block) a

-- ---- whole walks

pub walk_kept : (s : State) (is : List Item) (wss : List (List (List ℕ))) (t : State) → IsKept s → Walk s is wss t → IsKept t × (said_by_then t.awaits t ≡ said_by_then s.awaits s ++ is)
walk_kept s [] [] t k walk = subst (λ (x : State). IsKept x × (said_by_then x.awaits x ≡ said_by_then s.awaits s ++ [])) walk (k, sym (append-nil (said_by_then s.awaits s)))
walk_kept s [] (ws ∷ wss) t k walk = absurd walk
walk_kept s (i ∷ is) [] t k walk = absurd walk
walk_kept s (i ∷ is) (ws ∷ wss) t k walk =
    let rest = walk_kept (next s i) is wss t (step_kept s i k walk.0.allowed) walk.1 in
    (rest.0, rest.1 ∙ ap (λ (x : List Item). x ++ is) (step_said s i k walk.0.allowed) ∙ append_assoc (said_by_then s.awaits s) (i ∷ []) is)

-- the objects stand before the first call
abbrev IsPast : Awaits → Type 0
IsPast awaits.Version = ⊥
IsPast awaits.Target = ⊥
IsPast awaits.Object = ⊥
IsPast awaits.Thread = Unit {0}
IsPast awaits.Call = Unit {0}

line_past : (s : State) (l : Line) → s.awaits ≡ awaits.Call → IsPast (with_line s l s.block).awaits × ((with_line s l s.block).objects ≡ s.objects)
line_past s l a = rw (line_state s l s.block refl, a) (tt, refl)

end_past : (s : State) → (s.block ≡ None) ⊎ ((b : OpenBlock) × (s.block ≡ Some b)) → s.awaits ≡ awaits.Call → IsPast (closed s s.block).awaits × ((closed s s.block).objects ≡ s.objects)
end_past s (inl none) a = rw (thread_closed s none) (tt, refl)
end_past s (inr b) a = rw (block_closed s b.0 b.1, a) (tt, refl)

past_same : (s : State) (is : List Item) (wss : List (List (List ℕ))) (t : State) → IsPast s.awaits → Walk s is wss t → s.objects ≡ t.objects
past_same s [] [] t past walk = ap (λ (x : State). x.objects) walk
past_same s [] (ws ∷ wss) t past walk = absurd walk
past_same s (i ∷ is) [] t past walk = absurd walk
past_same s (items.Version version ∷ is) (ws ∷ wss) t past walk = absurd (subst IsPast walk.0.allowed.0 past)
past_same s (items.Target x ∷ is) (ws ∷ wss) t past walk = absurd (subst IsPast walk.0.allowed.0 past)
past_same s (items.Object d ∷ is) (ws ∷ wss) t past walk = absurd (subst IsPast walk.0.allowed.0 past)
past_same s (items.Thread ∷ is) (ws ∷ wss) t past walk = past_same (next s items.Thread) is wss t tt walk.1
past_same s (items.Repeat times ∷ is) (ws ∷ wss) t past walk = past_same (next s (items.Repeat times)) is wss t past walk.1
past_same s (items.Call l ∷ is) (ws ∷ wss) t past walk =
    let on = line_past s l walk.0.allowed.0 in
    sym on.1 ∙ past_same (next s (items.Call l)) is wss t on.0 walk.1
past_same s (items.End ∷ is) (ws ∷ wss) t past walk =
    let on = end_past s (block_is s.block) walk.0.allowed in
    sym on.1 ∙ past_same (next s items.End) is wss t on.0 walk.1

pub walk_pairs : (s : State) (is : List Item) (wss : List (List (List ℕ))) (t : State) → Walk s is wss t → Pairs (IsSaid t.objects) is wss
walk_pairs s [] [] t walk = tt
walk_pairs s [] (ws ∷ wss) t walk = absurd walk
walk_pairs s (i ∷ is) [] t walk = absurd walk
walk_pairs s (items.Version version ∷ is) (ws ∷ wss) t walk = (walk.0.said, walk_pairs (next s (items.Version version)) is wss t walk.1)
walk_pairs s (items.Target x ∷ is) (ws ∷ wss) t walk = (walk.0.said, walk_pairs (next s (items.Target x)) is wss t walk.1)
walk_pairs s (items.Object d ∷ is) (ws ∷ wss) t walk = (walk.0.said, walk_pairs (next s (items.Object d)) is wss t walk.1)
walk_pairs s (items.Thread ∷ is) (ws ∷ wss) t walk = (walk.0.said, walk_pairs (next s items.Thread) is wss t walk.1)
walk_pairs s (items.Repeat times ∷ is) (ws ∷ wss) t walk = (walk.0.said, walk_pairs (next s (items.Repeat times)) is wss t walk.1)
walk_pairs s (items.Call l ∷ is) (ws ∷ wss) t walk =
    let on = line_past s l walk.0.allowed.0 in
    let same : s.objects ≡ t.objects = sym on.1 ∙ past_same (next s (items.Call l)) is wss t on.0 walk.1 in
    (subst (λ (objects : List Declared). IsSaid objects (items.Call l) ws) same walk.0.said, walk_pairs (next s (items.Call l)) is wss t walk.1)
walk_pairs s (items.End ∷ is) (ws ∷ wss) t walk = (walk.0.said, walk_pairs (next s items.End) is wss t walk.1)

-- ---- the end

pub record IsFound (t : State) (w : Workload) : Type 0 where
  pub work : IsWork w
  pub items : said_by_then t.awaits t ≡ items_of w
  pub objects : t.objects ≡ w.objects

abbrev read : Workload → Result Workload Fault
read w = Ok w

read_is : (v w : Workload) → read v ≡ read w → v ≡ w
read_is v w e = cc

found : (t : State) (w : Workload) → IsKept t → said_by_then t.awaits t ≡ head_items t → work_of t ≡ w → IsFound t w
found t w k e w-is = subst (IsFound t) w-is (record { work = work_kept t k; items = e; objects = refl })

pub end_found : (a : Awaits) (t : State) (n : ℕ) (w : Workload) → t.awaits ≡ a → IsKept t → ended a t n ≡ Ok w → IsFound t w
end_found awaits.Version t n w a k e = absurd cc
end_found awaits.Target t n w a k e = absurd cc
end_found awaits.Call t n w a k e = absurd cc
end_found awaits.Object t n w a k e = found t w k (rw a refl) (read_is _ _ e)
end_found awaits.Thread t n w a k e = found t w k (rw a refl) (read_is _ _ e)
